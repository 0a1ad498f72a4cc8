-- The result of a seat's call, and the receipt that it adds.
use Rattle.std.specs.Prelude.{◌≡◌, ◌+◌, List, None, Some}
use Rattle.std.specs.List.{last_or}
use Rattle.plane.specs.declared.point.Point.{Point}
use Rattle.features.specs.declared.actors.Subject.{Subject}
use Rattle.features.specs.declared.rows.Change.{Change}
use Rattle.policy_documents.specs.Documents.{DocumentData}
use Rattle.decision.specs.Deciders.{DeciderData}
use Rattle.audit_trail.specs.Records.{governed}
use Rattle.judging.specs.States.{PlainState}
use Rattle.plain_world.specs.Answers.{AnswerData, IsAnswer}
use Rattle.plain_world.specs.Laws.{deed_of}
use Rattle.plain_world.specs.declared.outcomes.Outcome.{Outcome}
use Rattle.chronicle.specs.Chronicles.{ChronicleData}
use Rattle.chronicle.specs.Noting.{IsJudged, told_answer}
use Rattle.published_policies.specs.Lists.{last_edition}
use Rattle.hall.specs.Seats.{SeatData, receipted}

-- The answer is for the seat's subject and this window; each row meets the window, and the subject
-- may read it. The receipt records the window, and the ids and versions of the rows.
pub record IsSearched (asked : List Point) (answer : AnswerData) (old new : SeatData) : Type 0 where
  pub subject : answer.subject ≡ old.subject
  pub window : answer.window ≡ asked
  pub shown : IsAnswer answer
  pub receipt : new ≡ receipted (told_answer answer) old

-- The outcome is the judgement on a subject's list at a state. If it is a denial, the rule that it
-- names is that of the refusal.
pub record IsOutcome (subject : Subject) (changes : List Change) (outcome : Outcome) : Type 0 where
  pub state : PlainState
  pub judged : IsJudged subject changes state outcome

-- the seat's subject committed these changes with this outcome, as they were judged, and the receipt
-- records it
pub record IsCommitted (changes : List Change) (outcome : Outcome) (old new : SeatData) : Type 0
  where
    pub judged : IsOutcome old.subject changes outcome
    pub receipt : new ≡ receipted (deed_of old.subject changes outcome) old

-- the decider of a document, under the last edition of a list of policies
abbrev pub put_in_force : DocumentData → List DeciderData → DeciderData
put_in_force document list = record { document = document; edition = last_edition list }

-- the seat's subject put this document in force: the published list ends with it, and the receipt
-- records it
pub record IsGoverned (document : DocumentData) (list : List DeciderData)
    (old new : SeatData) : Type 0 where
  pub last : last_or None list ≡ Some (put_in_force document list)
  pub receipt : new ≡ receipted (governed (last_edition list) (put_in_force document list)) old

-- the decider of a document for the next edition
pub record IsNext (asked : DocumentData) (c : ChronicleData) (decider : DeciderData) : Type 0 where
  pub document : decider.document ≡ asked
  pub edition : decider.edition ≡ c.state.decider.edition + 1
