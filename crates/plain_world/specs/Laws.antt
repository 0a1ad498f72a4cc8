-- What the laws over runs say of an event.
use Rattle.std.specs.Prelude.{◌≡◌, ◌⊎◌, ℕ, ◌+◌, ◌<◌, ◌≤◌, IsTrue, List, [], ◌∷◌, ◌++◌, length, map, Option, None, Some}
use Rattle.plane.specs.declared.point.Point.{Point}
use Rattle.features.specs.declared.actors.Subject.{Subject}
use Rattle.features.specs.declared.rows.Change.{Change}
use Rattle.features.specs.Changes.{after}
use Rattle.features.specs.Rows.{IsSortedById}
use Rattle.features.specs.Subjects.{subject_named}
use Rattle.policy_documents.specs.Documents.{DocumentData}
use Rattle.decision.specs.Deciders.{DeciderData}
use Rattle.judging.specs.declared.causes.Cause.{Cause}
use Rattle.judging.specs.declared.causes.Cause.TheVariants.{Denied, Exists, Absent, Stale}
use Rattle.judging.specs.declared.causes.Judgement.{Judgement}
use Rattle.judging.specs.declared.causes.Judgement.TheVariants as judgements
use Rattle.judging.specs.Judging.{Judged, AreDistinct}
use Rattle.audit_trail.specs.Legal.{IsSeated, after_deed, IsLegal, replay}
use Rattle.judging.specs.Listing.{Listed}
use Rattle.audit_trail.specs.Records.{DeedData, applied, turned_away, governed, RecordData}
use Rattle.judging.specs.States.{PlainState}
use Rattle.combining.specs.declared.questions.Question.{Question}
use Rattle.plain_world.specs.declared.faults.Fault.{Fault}
use Rattle.plain_world.specs.declared.faults.Fault.TheVariants as faults
use Rattle.tree_answers.specs.declared.fault.TreeFault.TheVariants as tree
use Rattle.plain_world.specs.declared.outcomes.Outcome.{Outcome}
use Rattle.plain_world.specs.declared.outcomes.Outcome.TheVariants as outcomes
use Rattle.plain_world.specs.declared.open_searches.Search.{Search}
use Rattle.plain_world.specs.declared.settings.TheConstants.{CHANGE_LIMIT}
use Rattle.plain_world.specs.Admitting.{search_with}
use Rattle.plain_world.specs.Answers.{AnswerData, answer_deed, DenialData, IsDenial, denial_of}
use Rattle.plain_world.specs.Events.{Event, TakeSeat, OpenSearch, VisitNext, Finish, Answer, Begin, Stage, AdvanceWalk, Commit, Govern, Roll, Reply, Number, Done, Rows, Ended, TakenOut, without_search, without_transaction}
use Rattle.plain_world.specs.Rolls.{RolledData}
use Rattle.plain_world.specs.Staging.{TransactionData, transaction_with, staged_in, placements}
use Rattle.plain_world.specs.States.{WorldData}

-- An exact answer to a seat's search: the search was open, ready and the seat's own. The answer has
-- the seat's subject, the search's window and the decider in force, and exactly the listed rows.
pub record IsExact (seat number : ℕ) (w : WorldData) (answer : AnswerData) : Type 0 where
  pub search : Search
  pub running : search_with number w.searches ≡ Some search
  pub own : search.seat ≡ seat
  pub ready : IsTrue search.ready
  pub seated : IsSeated seat w.seats answer.subject
  pub window : answer.window ≡ search.window
  pub decider : answer.decider ≡ w.state.decider
  pub listed : Listed w.state answer.subject answer.window answer.rows

-- An exact answer to a seat's whole search of a window: it has the seat's subject, the window and the
-- decider in force, and exactly the listed rows.
pub record IsAnswerTo (seat : ℕ) (window : List Point) (w : WorldData) (answer : AnswerData) : Type 0 where
  pub seated : IsSeated seat w.seats answer.subject
  pub sought : answer.window ≡ window
  pub decider : answer.decider ≡ w.state.decider
  pub listed : Listed w.state answer.subject answer.window answer.rows

-- the trail is legal from its base, and its replay is the state
abbrev pub Accounts : WorldData → Type 0
Accounts w = IsLegal w.seats w.base w.trail × (replay w.base w.trail ≡ w.state)

-- an accepted list makes the new state from the old one, under the next version
abbrev pub IsApplied : ℕ → Subject → TransactionData → PlainState → PlainState → Type 0
IsApplied version subject t old new =
    Judged old subject t.changes judgements.Accepted × (version ≡ old.version + 1)
    × (new.features ≡ after version subject.office t.changes old.features) × (new.version ≡ version)
    × (new.decider ≡ old.decider)

-- a denial goes with a denied change alone: it has this decider, which denies its question, and the
-- rule of the cause
abbrev pub GoesWith : DeciderData → Cause → Option DenialData → Type 0
GoesWith decider (Denied rule) None = ⊥
GoesWith decider (Denied rule) (Some denial) =
    (denial.decider ≡ decider) × (denial.rule ≡ rule) × IsDenial denial
GoesWith decider Exists denial = denial ≡ None
GoesWith decider Absent denial = denial ≡ None
GoesWith decider (Stale current) denial = denial ≡ None

-- the question that was denied
abbrev pub asked : Option DenialData → Option Question
asked None = None
asked (Some denial) = Some denial.question

-- the outcome of a subject's transaction is its judgement at the old state
abbrev pub IsJudgement : Subject → TransactionData → PlainState → PlainState → Outcome → Type 0
IsJudgement subject t old new (outcomes.Applied version) = IsApplied version subject t old new
IsJudgement subject t old new (outcomes.Refused refusal denial) =
    Judged old subject t.changes (judgements.Refused refusal (asked denial))
    × GoesWith old.decider refusal.cause denial × (new ≡ old)

-- the seat's own transaction of this number ends with this outcome
abbrev pub EndsAs : ℕ → ℕ → WorldData → WorldData → Outcome → Type 0
EndsAs seat number old new outcome =
    (subject : Subject) × (t : TransactionData) × IsSeated seat old.seats subject
    × (transaction_with number old.transactions ≡ Some t)
    × (t.seat ≡ seat) × IsJudgement subject t old.state new.state outcome

-- the seat's subject is a steward and put the document in force, under the next edition; features
-- and version are unchanged
abbrev pub IsStewards : ℕ → DocumentData → ℕ → WorldData → WorldData → Type 0
IsStewards seat document edition old new =
    ((subject : Subject) × IsSeated seat old.seats subject × IsTrue subject.steward)
    × (edition ≡ old.state.decider.edition + 1) × (new.state.decider.document ≡ document)
    × (new.state.decider.edition ≡ edition)
    × (new.state.features ≡ old.state.features) × (new.state.version ≡ old.state.version)

-- a piece is the old base and trail; it is legal from its base, and its replay and its numbers lead
-- on to the new base and first number
abbrev pub LeadsOn : WorldData → WorldData → RolledData → Type 0
LeadsOn old new piece =
    IsLegal old.seats piece.base piece.records × (replay piece.base piece.records ≡ new.base)
    × (piece.first + length piece.records ≡ new.first)
    × (piece.base ≡ old.base) × (piece.first ≡ old.first) × (piece.records ≡ old.trail)
    × (new.trail ≡ [])

-- the trail has one more record, of this deed, and the state is what the deed makes of the old one
abbrev pub HasOneMore : ℕ → DeedData → WorldData → WorldData → Type 0
HasOneMore seat deed old new =
    (new.trail ≡ old.trail ++ record { seat = seat; deed = deed } ∷ [])
    × (new.state ≡ after_deed deed old.state)
    × (new.base ≡ old.base) × (new.first ≡ old.first)

-- state, base and trail are unchanged
abbrev pub StandsAs : WorldData → WorldData → Type 0
StandsAs old new = (new.trail ≡ old.trail) × (new.state ≡ old.state) × (new.base ≡ old.base)
    × (new.first ≡ old.first)

-- the deed of an outcome
abbrev pub deed_of : Subject → List Change → Outcome → DeedData
deed_of subject changes (outcomes.Applied version) = applied subject version changes
deed_of subject changes (outcomes.Refused refusal denial) = turned_away subject changes refusal

-- An answer, an outcome and a governed edition each add their own record, and change the state as
-- that record says. A roll takes the trail out, and the state stays. All else leaves trail and
-- state unchanged.
abbrev pub AddsAlone : Event → WorldData → WorldData → Reply → Type 0
AddsAlone (Finish seat search) old new (Rows answer) = HasOneMore seat (answer_deed answer) old new
AddsAlone (Answer seat window) old new (Rows answer) = HasOneMore seat (answer_deed answer) old new
AddsAlone (Commit seat number) old new (Ended outcome) =
    (subject : Subject) × IsSeated seat old.seats subject
    × HasOneMore seat (deed_of subject (staged_in number old.transactions) outcome) old new
AddsAlone (Govern seat document) old new (Number edition) =
    HasOneMore seat (governed edition (record { document = document; edition = edition })) old new
AddsAlone (Roll seat) old new (TakenOut piece) =
    (new.trail ≡ []) × (new.state ≡ old.state) × (new.base ≡ old.state)
    × (new.first ≡ old.first + length old.trail)
AddsAlone event old new reply = StandsAs old new

-- what a refusal leaves: the world unchanged, except that an overrun ends its search or transaction
abbrev pub Leaves : Event → WorldData → WorldData → Fault → Type 0
Leaves (VisitNext seat number) old new (faults.Tree tree.Overrun) = new ≡ without_search number old
Leaves (AdvanceWalk seat number) old new (faults.Tree tree.Overrun) =
    new ≡ without_transaction number old
Leaves event old new fault = new ≡ old

-- no list that is staged names a feature twice
abbrev pub AreApart : List TransactionData → Type 0
AreApart [] = Unit {0}
AreApart (t ∷ ts) = AreDistinct t.changes × AreApart ts

-- the features are sorted by id, and no staged list names a feature twice
pub record IsOrdered (w : WorldData) : Type 0 where
  pub sorted : IsSortedById w.state.features
  pub apart : AreApart w.transactions

-- the records that were rolled out of a world, piece after piece
abbrev pub records_out : List (Event × Reply) → List RecordData
records_out [] = []
records_out ((event, TakenOut piece) ∷ steps) = piece.records ++ records_out steps
records_out ((event, _) ∷ steps) = records_out steps

-- the decider in force after these events: the last one put in force, or else the one before them
abbrev pub in_force : DeciderData → List (Event × Reply) → DeciderData
in_force decider [] = decider
in_force decider ((Govern seat document, Number edition) ∷ steps) =
    in_force (record { document = document; edition = edition }) steps
in_force decider (step ∷ steps) = in_force decider steps

abbrev pub IsBelowEach : ℕ → List ℕ → Type 0
IsBelowEach n [] = Unit {0}
IsBelowEach n (m ∷ ms) = (n < m) × IsBelowEach n ms

-- numbers that rise, and lie below the next one
abbrev pub AreGiven : ℕ → List ℕ → Type 0
AreGiven next [] = Unit {0}
AreGiven next (n ∷ ns) = (n < next) × IsBelowEach n ns × AreGiven next ns

-- a staged list is within its limit, and at most all that it brings is placed
abbrev pub IsWithin : TransactionData → Type 0
IsWithin t = (length t.changes ≤ CHANGE_LIMIT) × (t.placed ≤ length (placements t.changes))

abbrev pub AreWithin : List TransactionData → Type 0
AreWithin [] = Unit {0}
AreWithin (t ∷ ts) = IsWithin t × AreWithin ts

-- the open searches and transactions are in order: their numbers rise below the next ones, so no
-- number occurs twice, and each staged list is within its limits
pub record IsUnderWay (w : WorldData) : Type 0 where
  pub searches : AreGiven w.next_search (map (λ s. s.number) w.searches)
  pub transactions : AreGiven w.next_transaction (map (λ t. t.number) w.transactions)
  pub within : AreWithin w.transactions

-- the outcome that a judgement asks for at a state
abbrev pub outcome_of : PlainState → Judgement → Outcome
outcome_of state judgements.Accepted = outcomes.Applied (state.version + 1)
outcome_of state (judgements.Refused refusal question) =
    outcomes.Refused refusal (denial_of state.decider refusal.cause question)

-- A search that is open after an event was open before it, for the same seat and window; or the
-- event opened it, for the seat and window that the event names.
abbrev pub IsAskedSearch : Event → WorldData → Reply → ℕ → Search → Type 0
IsAskedSearch event old reply number s =
    ((before : Search) × (search_with number old.searches ≡ Some before) × (s.seat ≡ before.seat)
    × (s.window ≡ before.window))
    ⊎ ((event ≡ OpenSearch s.seat s.window) × (reply ≡ Number number))

-- a staged list is unchanged, or has one more change, which the event stages for this seat and
-- transaction
abbrev pub IsAskedStaging : Event → Reply → ℕ → TransactionData → TransactionData → Type 0
IsAskedStaging event reply number before t =
    (t.changes ≡ before.changes)
    ⊎ ((change : Change) × (event ≡ Stage t.seat number change) × (reply ≡ Done)
    × (t.changes ≡ before.changes ++ change ∷ []))

-- A transaction that is open after an event was open before it, for the same seat; or the event
-- opened it, for the seat that the event names, and nothing is staged.
abbrev pub IsAskedTransaction : Event → WorldData → Reply → ℕ → TransactionData → Type 0
IsAskedTransaction event old reply number t =
    ((before : TransactionData) × (transaction_with number old.transactions ≡ Some before)
    × (t.seat ≡ before.seat) × IsAskedStaging event reply number before t)
    ⊎ ((event ≡ Begin t.seat) × (reply ≡ Number number) × (t.changes ≡ []))

-- the seats are unchanged, or one more is given, to the subject that the event names
abbrev pub AreAskedSeats : Event → WorldData → WorldData → Reply → Type 0
AreAskedSeats event old new reply =
    (new.seats ≡ old.seats)
    ⊎ ((name : List ℕ) × (subject : Subject) × (event ≡ TakeSeat name)
    × (subject_named name old.subjects ≡ Some subject)
    × (reply ≡ Number (length old.seats + 1)) × (new.seats ≡ old.seats ++ subject ∷ []))

-- what is open after an event was open before it, or the event asked for it
pub record IsAsked (event : Event) (old new : WorldData) (reply : Reply) : Type 0 where
  pub searches : (number : ℕ) (s : Search) → search_with number new.searches ≡ Some s
      → IsAskedSearch event old reply number s
  pub transactions : (number : ℕ) (t : TransactionData)
      → transaction_with number new.transactions ≡ Some t
      → IsAskedTransaction event old reply number t
  pub seats : AreAskedSeats event old new reply
