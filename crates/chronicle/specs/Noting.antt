-- What a call that succeeds adds to a chronicle.
use Rattle.std.specs.Prelude.{◌≡◌, ◌≤◌, ◌+◌, ℕ, IsTrue, List, [], ◌∷◌, ◌++◌, length, Some}
use Rattle.plane.specs.declared.point.Point.{Point}
use Rattle.features.specs.declared.actors.Subject.{Subject}
use Rattle.features.specs.declared.rows.Change.{Change}
use Rattle.features.specs.Subjects.{subject_named}
use Rattle.decision.specs.Deciders.{DeciderData}
use Rattle.audit_trail.specs.Legal.{IsSeated}
use Rattle.audit_trail.specs.Records.{DeedData, governed}
use Rattle.judging.specs.declared.causes.Judgement.TheVariants as judgements
use Rattle.judging.specs.Judging.{Judged}
use Rattle.judging.specs.Listing.{Listed}
use Rattle.judging.specs.States.{PlainState}
use Rattle.plain_world.specs.Answers.{AnswerData, answer_deed}
use Rattle.plain_world.specs.Laws.{GoesWith, asked, deed_of}
use Rattle.plain_world.specs.declared.outcomes.Outcome.{Outcome}
use Rattle.plain_world.specs.declared.outcomes.Outcome.TheVariants as outcomes
use Rattle.plain_world.specs.declared.settings.TheConstants.{SEAT_LIMIT}
use Rattle.chronicle.specs.Chronicles.{ChronicleData, noted}

-- the record of an answer
abbrev pub told_answer : AnswerData → DeedData
told_answer answer = answer_deed answer

-- a seat was given to the subject of this name, with the next number
pub record IsSeatGiven (name : List ℕ) (number : ℕ) (old new : ChronicleData) : Type 0 where
  pub next : number ≡ length old.seats + 1
  pub few : number ≤ SEAT_LIMIT
  pub subject : Subject
  pub named : subject_named name old.opening.subjects ≡ Some subject
  pub given : new ≡ record old { seats = old.seats ++ subject ∷ [] }

-- the answer is for the seat's subject and this window, by the decider in force, with just the rows
-- that are listed at the present state; its record is added
pub record IsAnswered (seat : ℕ) (sought : List Point) (answer : AnswerData)
    (old new : ChronicleData) : Type 0 where
  pub seated : IsSeated seat old.seats answer.subject
  pub window : answer.window ≡ sought
  pub decider : answer.decider ≡ old.state.decider
  pub listed : Listed old.state answer.subject answer.window answer.rows
  pub told : new ≡ noted seat (told_answer answer) old

-- the answer is for the seat's subject and this window, by the decider in force, with just the rows
-- that are listed at the present state
pub record IsAnswerAt (seat : ℕ) (sought : List Point) (answer : AnswerData) (c : ChronicleData)
    : Type 0 where
  pub seated : IsSeated seat c.seats answer.subject
  pub window : answer.window ≡ sought
  pub decider : answer.decider ≡ c.state.decider
  pub listed : Listed c.state answer.subject answer.window answer.rows

-- the outcome is the judgement on a subject's list at a state; a denial goes with the refusal
abbrev pub IsJudged : Subject → List Change → PlainState → Outcome → Type 0
IsJudged subject changes state (outcomes.Applied version) =
    Judged state subject changes judgements.Accepted × (version ≡ state.version + 1)
IsJudged subject changes state (outcomes.Refused refusal denial) =
    Judged state subject changes (judgements.Refused refusal (asked denial))
    × GoesWith state.decider refusal.cause denial

-- the seat's subject committed these changes with this outcome, as they are judged at the present
-- state; the record of that is added
pub record IsEndedBy (seat : ℕ) (changes : List Change) (outcome : Outcome)
    (old new : ChronicleData) : Type 0 where
  pub subject : Subject
  pub seated : IsSeated seat old.seats subject
  pub judged : IsJudged subject changes old.state outcome
  pub told : new ≡ noted seat (deed_of subject changes outcome) old

-- the seat's subject, a steward, put a decider in force as the next edition; the record of that is
-- added
pub record IsGovernedBy (seat : ℕ) (decider : DeciderData) (edition : ℕ)
    (old new : ChronicleData) : Type 0 where
  pub subject : Subject
  pub seated : IsSeated seat old.seats subject
  pub steward : IsTrue subject.steward
  pub edition_told : edition ≡ decider.edition
  pub next : edition ≡ old.state.decider.edition + 1
  pub told : new ≡ noted seat (governed decider.edition decider) old
