-- What an event makes of a world, and its reply.
use Rattle.std.specs.Prelude.{◌≡◌, ℕ, ◌+◌, ◌==◌, Bool, true, false, not, List, [], ◌∷◌, ◌++◌, map, filter, length, nat_lt, Some, MatchOption, Result, Ok, Err, if◌then◌else◌}
use Rattle.std.specs.Bool.{MatchBool}
use Rattle.plane.specs.declared.point.Point.{Point}
use Rattle.plane.specs.Rows.{Meet}
use Rattle.features.specs.declared.actors.Subject.{Subject}
use Rattle.features.specs.declared.rows.Change.{Change}
use Rattle.features.specs.declared.rows.Feature.{Feature}
use Rattle.features.specs.Changes.{after}
use Rattle.policy_documents.specs.Documents.{DocumentData}
use Rattle.decision.specs.Deciders.{DeciderData}
use Rattle.judging.specs.declared.causes.Judgement.{Judgement}
use Rattle.judging.specs.declared.causes.Judgement.TheVariants as judgements
use Rattle.judging.specs.Judging.{Judged}
use Rattle.audit_trail.specs.Legal.{after_deed}
use Rattle.judging.specs.Listing.{Listed}
use Rattle.audit_trail.specs.Records.{DeedData, answered, applied, turned_away, governed}
use Rattle.plain_world.specs.declared.faults.Fault.{Fault}
use Rattle.plain_world.specs.declared.faults.Fault.TheVariants as faults
use Rattle.tree_answers.specs.declared.fault.TreeFault.TheVariants as tree
use Rattle.plain_world.specs.declared.outcomes.Outcome.{Outcome}
use Rattle.plain_world.specs.declared.outcomes.Outcome.TheVariants as outcomes
use Rattle.plain_world.specs.declared.open_searches.Search.{Search}
use Rattle.plain_world.specs.declared.advances.Advance.{Advance}
use Rattle.plain_world.specs.declared.advances.Advance.TheVariants as advances
use Rattle.tree_answers.specs.declared.answers.Step.TheVariants as steps
use Rattle.tree_answers.specs.declared.answers.Tending.{Tending}
use Rattle.tree_answers.specs.declared.answers.Visit.{Visit}
use Rattle.tree_answers.specs.declared.answers.Visit.TheVariants as visits
use Rattle.plain_world.specs.Admitting.{LAST, search_with, may_sit, may_open, may_go_on, may_finish, may_answer, may_begin, may_step, may_stage, may_commit, may_govern, may_roll}
use Rattle.plain_world.specs.Answers.{AnswerData, denial_of}
use Rattle.plain_world.specs.Rolls.{RolledData}
use Rattle.plain_world.specs.Staging.{TransactionData, next_placement, staged_in, with_step, staged, one_placed, ended}
use Rattle.plain_world.specs.States.{WorldData, most_features}

pub data Event : Type 0 where
  TakeSeat : (name : List ℕ) → Event
  OpenSearch : (seat : ℕ) → (window : List Point) → Event
  VisitNext : (seat search : ℕ) → Event
  Finish : (seat search : ℕ) → Event
  DropSearch : (seat search : ℕ) → Event
  Answer : (seat : ℕ) → (window : List Point) → Event
  Begin : (seat : ℕ) → Event
  Stage : (seat transaction : ℕ) → (change : Change) → Event
  AdvanceWalk : (seat transaction : ℕ) → Event
  Commit : (seat transaction : ℕ) → Event
  Abort : (seat transaction : ℕ) → Event
  Govern : (seat : ℕ) → (document : DocumentData) → Event
  Tend : (slot : ℕ) → Event
  Roll : (seat : ℕ) → Event

pub data Reply : Type 0 where
  Number : ℕ → Reply
  Done : Reply
  Visited : Visit → Reply
  Advanced : Advance → Reply
  Tended : Tending → Reply
  Rows : AnswerData → Reply
  Ended : Outcome → Reply
  TakenOut : RolledData → Reply
  Failed : Fault → Reply

abbrev pub reply_of : {T : Type 0} → (T → Reply) → Result T Fault → Reply
reply_of make (Ok x) = make x
reply_of make (Err fault) = Failed fault

-- as `reply_of`, for a call that returns its argument with the fault
abbrev pub reply_handing : {T D : Type 0} → (T → Reply) → Result T (D × Fault) → Reply
reply_handing make (Ok x) = make x
reply_handing make (Err (back, fault)) = Failed fault

abbrev pub is_want : Fault → Bool
is_want (faults.Memory refused) = true
is_want _ = false

abbrev pub is_memory : Reply → Bool
is_memory (Failed fault) = is_want fault
is_memory _ = false

-- An event that is refused, or is admitted and does something. A refusal changes nothing.
abbrev pub If : {T : Type 0} → Result T Fault → WorldData → WorldData → Reply → (T → Type 0)
    → Type 0
If (Err fault) old new reply Does = (new ≡ old) × (reply ≡ Failed fault)
If (Ok x) old new reply Does = Does x

-- An event may end with X12, which changes nothing, or else does something.
abbrev pub UnlessMemory : WorldData → WorldData → Reply → Type 0 → Type 0
UnlessMemory old new reply Does = MatchBool (is_memory reply) (new ≡ old) Does

-- a world with one more record, and with the state that the record's deed makes
abbrev pub recorded : ℕ → DeedData → WorldData → WorldData
recorded seat deed w = record w {
  state = after_deed deed w.state;
  trail = w.trail ++ record { seat = seat; deed = deed } ∷ [];
}

-- Searches.

-- a world without the search of a number
abbrev pub without_search : ℕ → WorldData → WorldData
without_search number w = record w { searches = filter (λ s. not (s.number == number)) w.searches }

-- the list in which the search of a number has answered Ready
abbrev pub with_ready : ℕ → List Search → List Search
with_ready number [] = []
with_ready number (s ∷ rest) =
    if s.number == number then record s { ready = true } ∷ rest else s ∷ with_ready number rest

-- What the index may answer to a visit. Which answer comes, only the index knows. After S7 the
-- search is gone.
abbrev pub Sees : ℕ → WorldData → WorldData → Reply → Type 0
Sees number old new (Visited visits.More) = new ≡ old
Sees number old new (Visited visits.Ready) =
    new ≡ record old { searches = with_ready number old.searches }
Sees number old new (Failed (faults.Tree tree.Overrun)) = new ≡ without_search number old
Sees number old new _ = ⊥

-- a ready search stays ready, and its visit changes nothing
abbrev pub Visits : Search → WorldData → WorldData → Reply → Type 0
Visits s old new reply =
    MatchBool s.ready ((new ≡ old) × (reply ≡ Visited visits.Ready))
    (UnlessMemory old new reply (Sees s.number old new reply))

abbrev pub Finishes : ℕ → Subject × Search → WorldData → WorldData → Reply → Type 0
Finishes seat who old new reply =
    (rows : List Feature) × Listed old.state who.0 who.1.window rows
    × (reply ≡ Rows (record {
      subject = who.0;
      window = who.1.window;
      decider = old.state.decider;
      rows = rows;
    }))
    × (new ≡ without_search who.1.number
    (recorded seat (answered who.0 who.1.window (map (λ row. row.id) rows)
    (map (λ row. row.version) rows)) old))

-- A whole search in one event: the rows that are listed at the state, and their record.
abbrev pub Answers : ℕ → Subject → List Point → WorldData → WorldData → Reply → Type 0
Answers seat subject window old new reply =
    (rows : List Feature) × Listed old.state subject window rows
    × (reply ≡ Rows (record {
      subject = subject;
      window = window;
      decider = old.state.decider;
      rows = rows;
    }))
    × (new ≡ recorded seat (answered subject window (map (λ row. row.id) rows)
    (map (λ row. row.version) rows)) old)

-- Transactions.

-- a world without the transaction of a number
abbrev pub without_transaction : ℕ → WorldData → WorldData
without_transaction number w = record w { transactions = ended number w.transactions }

-- the search is open, and its window meets the shape
abbrev pub HoldsBack : ℕ → List Point → WorldData → Type 0
HoldsBack search shape w = (s : Search) × (search_with search w.searches ≡ Some s)
    × Meet shape s.window

-- no ready search has a window that meets the shape
abbrev pub NoReadySeeks : List Point → WorldData → Type 0
NoReadySeeks shape w = (number : ℕ) (s : Search) → search_with number w.searches ≡ Some s
    → s.ready ≡ true → Meet shape s.window → ⊥

-- What the index may answer to a step of the walk that places a shape. Which answer comes, only the
-- index knows. It never places a shape that a ready search looks for. After S7 the transaction is
-- gone.
abbrev pub Walks : ℕ → List Point → WorldData → WorldData → Reply → Type 0
Walks number shape old new (Advanced (advances.Walked steps.Moved)) = new ≡ old
Walks number shape old new (Advanced (advances.Walked steps.Split)) = new ≡ old
Walks number shape old new (Advanced (advances.Walked steps.Installed)) = new ≡ old
Walks number shape old new (Advanced (advances.Walked steps.Restarted)) = new ≡ old
Walks number shape old new (Advanced (advances.Walked steps.Placed)) =
    NoReadySeeks shape old × (new
    ≡ record old { transactions = with_step one_placed number old.transactions })
Walks number shape old new (Failed (faults.Tree (tree.Held search))) =
    HoldsBack search shape old × (new ≡ old)
Walks number shape old new (Failed (faults.Tree tree.Full)) = new ≡ old
Walks number shape old new (Failed (faults.Tree tree.TooHigh)) = new ≡ old
Walks number shape old new (Failed (faults.Tree tree.Spent)) = new ≡ old
Walks number shape old new (Failed (faults.Tree tree.Overrun)) =
    new ≡ without_transaction number old
Walks number shape old new _ = ⊥

-- the walk of the next shape makes a step, if a shape is left
abbrev pub Advances : ℕ → TransactionData → WorldData → WorldData → Reply → Type 0
Advances number t old new reply =
    MatchOption (next_placement t)
    ((new ≡ old) × (reply ≡ Advanced advances.AllPlaced))
    (λ placement. UnlessMemory old new reply (Walks number placement.1 old new reply))

-- a failing list: it is rejected and recorded, and its transaction ends
abbrev pub TurnsAway : ℕ → ℕ → Subject → List Change → Judgement → WorldData → WorldData → Reply
    → Type 0
TurnsAway seat number subject changes judgements.Accepted old new reply = ⊥
TurnsAway seat number subject changes (judgements.Refused refusal question) old new reply =
    (reply ≡ Ended (outcomes.Refused refusal (denial_of old.state.decider refusal.cause question)))
    × (new ≡ without_transaction number (recorded seat (turned_away subject changes refusal) old))

-- an accepted list: X8 if there is no next version, X11 if there would be more features than may
-- be; else it is applied under the next version and recorded, and its transaction ends
abbrev pub Applies : ℕ → ℕ → Subject → List Change → WorldData → WorldData → Reply → Type 0
Applies seat number subject changes old new reply =
    let version = old.state.version + 1 in
    MatchBool (old.state.version == LAST) ((new ≡ old) × (reply ≡ Failed faults.Spent))
    (MatchBool (nat_lt (most_features old)
    (length (after version subject.office changes old.state.features))) ((new ≡ old)
    × (reply ≡ Failed faults.StoreFull))
    ((reply ≡ Ended (outcomes.Applied version))
    × (new ≡ without_transaction number (recorded seat (applied subject version changes) old))))

abbrev pub CommitsAs : Judgement → ℕ → ℕ → Subject → List Change → WorldData → WorldData → Reply
    → Type 0
CommitsAs judgements.Accepted seat number subject changes old new reply =
    Applies seat number subject changes old new reply
CommitsAs (judgements.Refused refusal question) seat number subject changes old new reply =
    TurnsAway seat number subject changes (judgements.Refused refusal question) old new reply

-- the staged list is judged, and applied as a whole or not at all
abbrev pub Commits : ℕ → ℕ → Subject → WorldData → WorldData → Reply → Type 0
Commits seat number subject old new reply =
    let changes = staged_in number old.transactions in
    (judgement : Judgement) × Judged old.state subject changes judgement
    × CommitsAs judgement seat number subject changes old new reply

-- Policies and the trail.

abbrev pub Governs : ℕ → DocumentData → WorldData → WorldData → Reply → Type 0
Governs seat document old new reply =
    let decider : DeciderData =
    record { document = document; edition = old.state.decider.edition + 1 } in
    (reply ≡ Number decider.edition) × (new ≡ recorded seat (governed decider.edition decider) old)

abbrev pub Rolls : WorldData → WorldData → Reply → Type 0
Rolls old new reply =
    (reply ≡ TakenOut (record { base = old.base; first = old.first; records = old.trail }))
    × (new ≡ record old { base = old.state; first = old.first + length old.trail; trail = [] })

-- What the index may answer to a tending. The world is unchanged.
abbrev pub Tends : WorldData → WorldData → Reply → Type 0
Tends old new (Tended tending) = new ≡ old
Tends old new (Failed (faults.Tree tree.Spent)) = new ≡ old
Tends old new _ = ⊥

-- What an event does. Which answer the index gives to a visit, a step of a walk or a tending, only
-- the index knows.
abbrev pub Happens : Event → WorldData → WorldData → Reply → Type 0
Happens (TakeSeat name) old new reply =
    If (may_sit name old) old new reply (λ subject. UnlessMemory old new reply (
    (new ≡ record old { seats = old.seats ++ subject ∷ [] })
    × (reply ≡ Number (length old.seats + 1))))
Happens (OpenSearch seat window) old new reply =
    If (may_open seat old) old new reply (λ number. UnlessMemory old new reply (
    (new ≡ record old {
      searches = old.searches ++ record {
        number = number;
        seat = seat;
        window = window;
        ready = false;
      } ∷ [];
      next_search = number + 1;
    })
    × (reply ≡ Number number)))
Happens (VisitNext seat search) old new reply =
    If (may_go_on seat search old) old new reply (λ s. Visits s old new reply)
Happens (Finish seat search) old new reply =
    If (may_finish seat search old) old new reply
    (λ who. UnlessMemory old new reply (Finishes seat who old new reply))
Happens (DropSearch seat search) old new reply =
    If (may_go_on seat search old) old new reply (λ _. (new ≡ without_search search old)
    × (reply ≡ Done))
Happens (Answer seat window) old new reply =
    If (may_answer seat old) old new reply
    (λ subject. UnlessMemory old new reply (Answers seat subject window old new reply))
Happens (Begin seat) old new reply =
    If (may_begin seat old) old new reply (λ number. UnlessMemory old new reply (
    (new ≡ record old {
      transactions = old.transactions ++ record {
        number = number;
        seat = seat;
        changes = [];
        placed = 0;
      } ∷ [];
      next_transaction = number + 1;
    })
    × (reply ≡ Number number)))
Happens (Stage seat number change) old new reply =
    If (may_stage seat number change old) old new reply (λ _.
    (new ≡ record old { transactions = with_step (staged change) number old.transactions })
    × (reply ≡ Done))
Happens (AdvanceWalk seat number) old new reply =
    If (may_step seat number old) old new reply (λ t. Advances number t old new reply)
Happens (Commit seat number) old new reply =
    If (may_commit seat number old) old new reply
    (λ subject. UnlessMemory old new reply (Commits seat number subject old new reply))
Happens (Abort seat number) old new reply =
    If (may_step seat number old) old new reply (λ _. (new ≡ without_transaction number old)
    × (reply ≡ Done))
Happens (Govern seat document) old new reply =
    If (may_govern seat old) old new reply
    (λ _. UnlessMemory old new reply (Governs seat document old new reply))
Happens (Tend slot) old new reply = Tends old new reply
Happens (Roll seat) old new reply =
    If (may_roll seat old) old new reply (λ _. UnlessMemory old new reply (Rolls old new reply))

-- a run: events one after another, each with its reply
abbrev pub Run : WorldData → List (Event × Reply) → WorldData → Type 0
Run old [] new = new ≡ old
Run old (step ∷ steps) new = (mid : WorldData) × Happens step.0 old mid step.1 × Run mid steps new
