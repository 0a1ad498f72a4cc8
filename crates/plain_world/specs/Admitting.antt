-- Whether an event is admitted: its refusals, in the order in which they are tested.
use Rattle.std.specs.Prelude.{ℕ, ◌+◌, ◌==◌, nat_le, nat_lt, Bool, List, [], ◌∷◌, length, Option, None, Some, Result, Ok, Err, if◌then◌else◌}
use Rattle.features.specs.declared.actors.Subject.{Subject}
use Rattle.features.specs.declared.rows.Change.{Change}
use Rattle.features.specs.Changes.{change_id}
use Rattle.features.specs.Subjects.{subject_named}
use Rattle.audit_trail.specs.Legal.{subject_of}
use Rattle.audit_trail.specs.declared.trails.TheConstants.{FIRST_LIMIT}
use Rattle.plain_world.specs.declared.faults.Fault.{Fault}
use Rattle.plain_world.specs.declared.faults.Fault.TheVariants.{NoSuch, NotYours, NotReady, NotPlaced, NamedTwice, TooManyChanges, NotSteward, Spent, Tree, TrailFull, NoSubject, NoPlace, TooMany}
use Rattle.tree_answers.specs.declared.fault.TreeFault.TheVariants as tree
use Rattle.plain_world.specs.declared.open_searches.Search.{Search}
use Rattle.plain_world.specs.declared.settings.TheConstants.{SEAT_LIMIT, SEARCH_LIMIT, TRANSACTION_LIMIT, CHANGE_LIMIT}
use Rattle.plain_world.specs.Staging.{TransactionData, transaction_with, placements, names}
use Rattle.plain_world.specs.States.{WorldData}

-- one test after another: the first that refuses decides
abbrev pub and_then : {A B : Type 0} → Result A Fault → (A → Result B Fault) → Result B Fault
and_then (Ok x) next = next x
and_then (Err fault) next = Err fault

abbrev pub map_ok : {A B : Type 0} → (A → B) → Result A Fault → Result B Fault
map_ok f (Ok x) = Ok (f x)
map_ok f (Err fault) = Err fault

abbrev pub given : {T : Type 0} → Option T → Result T Fault
given (Some x) = Ok x
given None = Err NoSuch

abbrev pub refused_if : Bool → Fault → Result (Unit {0}) Fault
refused_if test fault = if test then Err fault else Ok tt

-- the greatest number of 64 bits
abbrev pub LAST : ℕ
LAST = 18446744073709551615

-- Seats.

-- the subject of a name, if a seat is left
abbrev pub placed : ℕ → Option Subject → Result Subject Fault
placed seats None = Err NoSubject
placed seats (Some subject) = if nat_le SEAT_LIMIT seats then Err NoPlace else Ok subject

abbrev pub may_sit : List ℕ → WorldData → Result Subject Fault
may_sit name w = placed (length w.seats) (subject_named name w.subjects)

-- the subject of a seat that was given
abbrev pub subject_at : ℕ → WorldData → Result Subject Fault
subject_at seat w = given (subject_of seat w.seats)

abbrev pub stewarded : Subject → Result (Unit {0}) Fault
stewarded subject = if subject.steward then Ok tt else Err NotSteward

-- Searches.

abbrev pub search_with : ℕ → List Search → Option Search
search_with number [] = None
search_with number (s ∷ rest) = if s.number == number then Some s else search_with number rest

abbrev pub owned : ℕ → Search → Result Search Fault
owned seat s = if s.seat == seat then Ok s else Err NotYours

-- the seat's own search of a number
abbrev pub own_search : ℕ → ℕ → WorldData → Result Search Fault
own_search seat number w = and_then (given (search_with number w.searches)) (owned seat)

-- the number of the search that is opened next
abbrev pub next_search : WorldData → Result ℕ Fault
next_search w =
    if nat_le SEARCH_LIMIT (length w.searches) then Err (Tree tree.TooMany)
    else if w.next_search == LAST then Err (Tree tree.Spent)
    else Ok w.next_search

abbrev pub may_open : ℕ → WorldData → Result ℕ Fault
may_open seat w = and_then (subject_at seat w) (λ _. next_search w)

-- for a visit, and to drop a search
abbrev pub may_go_on : ℕ → ℕ → WorldData → Result Search Fault
may_go_on seat number w = and_then (subject_at seat w) (λ _. own_search seat number w)

abbrev pub has_answered_ready : Search → Result (Unit {0}) Fault
has_answered_ready s = if s.ready then Ok tt else Err NotReady

-- the trail takes one more record
abbrev pub may_record : WorldData → Result (Unit {0}) Fault
may_record w = refused_if (nat_le w.limits.records (length w.trail)) TrailFull

-- the subject and the search that are finished
abbrev pub may_finish : ℕ → ℕ → WorldData → Result (Subject × Search) Fault
may_finish seat number w =
    and_then (subject_at seat w) (λ subject.
    and_then (own_search seat number w) (λ s.
    and_then (has_answered_ready s) (λ _.
    and_then (may_record w) (λ _. Ok (subject, s)))))

-- the subject to whom a whole search is answered
abbrev pub may_answer : ℕ → WorldData → Result Subject Fault
may_answer seat w =
    and_then (subject_at seat w) (λ subject. and_then (may_record w) (λ _. Ok subject))

-- Transactions.

-- the number of the transaction that is opened next
abbrev pub next_transaction : WorldData → Result ℕ Fault
next_transaction w =
    if nat_le TRANSACTION_LIMIT (length w.transactions) then Err TooMany
    else if w.next_transaction == LAST then Err Spent
    else Ok w.next_transaction

abbrev pub may_begin : ℕ → WorldData → Result ℕ Fault
may_begin seat w = and_then (subject_at seat w) (λ _. next_transaction w)

abbrev pub transaction_owned : ℕ → TransactionData → Result TransactionData Fault
transaction_owned seat t = if t.seat == seat then Ok t else Err NotYours

-- the seat's own transaction of a number
abbrev pub own_transaction : ℕ → ℕ → WorldData → Result TransactionData Fault
own_transaction seat number w =
    and_then (given (transaction_with number w.transactions)) (transaction_owned seat)

-- to advance or to abort a transaction
abbrev pub may_step : ℕ → ℕ → WorldData → Result TransactionData Fault
may_step seat number w = and_then (subject_at seat w) (λ _. own_transaction seat number w)

-- a list takes one more change
abbrev pub may_add : Change → List Change → Result (Unit {0}) Fault
may_add change changes =
    if nat_le CHANGE_LIMIT (length changes) then Err TooManyChanges
    else if names (change_id change) changes then Err NamedTwice
    else Ok tt

abbrev pub may_stage : ℕ → ℕ → Change → WorldData → Result (Unit {0}) Fault
may_stage seat number change w = and_then (may_step seat number w) (λ t. may_add change t.changes)

-- each shape that the list brings is placed
abbrev pub all_placed : TransactionData → Result (Unit {0}) Fault
all_placed t = refused_if (nat_lt t.placed (length (placements t.changes))) NotPlaced

-- the subject that commits
abbrev pub may_commit : ℕ → ℕ → WorldData → Result Subject Fault
may_commit seat number w =
    and_then (subject_at seat w) (λ subject.
    and_then (own_transaction seat number w) (λ t.
    and_then (all_placed t) (λ _.
    and_then (may_record w) (λ _. Ok subject))))

-- Policies and the trail.

abbrev pub edition_left : WorldData → Result (Unit {0}) Fault
edition_left w = refused_if (w.state.decider.edition == LAST) Spent

-- the steward who puts a document in force
abbrev pub may_govern : ℕ → WorldData → Result Subject Fault
may_govern seat w =
    and_then (subject_at seat w) (λ subject.
    and_then (stewarded subject) (λ _.
    and_then (edition_left w) (λ _.
    and_then (may_record w) (λ _. Ok subject))))

-- the number that the first record of the next trail would have
abbrev pub next_first : WorldData → ℕ
next_first w = w.first + length w.trail

abbrev pub may_roll : ℕ → WorldData → Result (Unit {0}) Fault
may_roll seat w =
    and_then (subject_at seat w) (λ subject.
    and_then (stewarded subject) (λ _. refused_if (nat_lt FIRST_LIMIT (next_first w)) Spent))
