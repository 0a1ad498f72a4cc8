-- A search and a commit between two of their events.
use Rattle.std.specs.Prelude.{◌≡◌, ◌⊎◌, ◌<◌, ℕ, Bool, List, [], ◌∷◌, ◌++◌, slice_get, None, Some, Result, Ok, Err}
use Rattle.plane.specs.declared.point.Point.{Point}
use Rattle.features.specs.declared.actors.Subject.{Subject}
use Rattle.features.specs.declared.rows.Change.{Change}
use Rattle.plain_world.specs.declared.faults.Fault.{Fault}
use Rattle.plain_world.specs.declared.faults.Fault.TheVariants as faults
use Rattle.tree_answers.specs.declared.fault.TreeFault.TheVariants as tree
use Rattle.plain_world.specs.Admitting.{subject_at}
use Rattle.plain_world.specs.Events.{Commit, Reply, Failed, Happens, NoReadySeeks}
use Rattle.plain_world.specs.Staging.{placements}
use Rattle.plain_world.specs.States.{WorldData}
use Rattle.scripts.specs.Services.{Brings, HoldsList, NoReadySeeksAny}

-- a world without open transactions
abbrev pub closed : WorldData → WorldData
closed w = record w { transactions = [] }

-- a world with one more open search
abbrev pub searching : ℕ → ℕ → List Point → Bool → WorldData → WorldData
searching number seat window ready w =
    record w {
      searches = w.searches ++ record {
        number = number;
        seat = seat;
        window = window;
        ready = ready;
      } ∷ [];
    }

-- a world whose only open transaction is this one
abbrev pub under : ℕ → ℕ → List Change → ℕ → WorldData → WorldData
under number seat changes placed w =
    record w {
      transactions = record {
        number = number;
        seat = seat;
        changes = changes;
        placed = placed;
      } ∷ [];
    }

-- all the changes are staged in a transaction that has staged none
abbrev pub Stages : ℕ → ℕ → List Change → WorldData → WorldData → Result (Unit {0}) Fault → Type 0
Stages seat number changes old new result =
    (w : WorldData) (subject : Subject) → subject_at seat w ≡ Ok subject
    → old ≡ under number seat [] 0 w
    → (result ≡ Ok tt) × (new ≡ under number seat changes 0 w)

-- why a list is not placed: out of memory, the index refuses a step of a walk, or an open search
-- holds the list back
abbrev pub IsStuck : List Change → WorldData → Fault → Type 0
IsStuck changes w (faults.Memory refused) = Unit {0}
IsStuck changes w (faults.Tree (tree.Held search)) = HoldsList search changes w
IsStuck changes w (faults.Tree tree.Full) = Brings changes
IsStuck changes w (faults.Tree tree.TooHigh) = Brings changes
IsStuck changes w (faults.Tree tree.Spent) = Brings changes
IsStuck changes w (faults.Tree tree.Overrun) = Brings changes
IsStuck changes w _ = ⊥

-- the transaction is open with `placed` shapes placed, or is gone
abbrev pub Stands : ℕ → ℕ → List Change → WorldData → WorldData → Type 0
Stands seat number changes w new = ((placed : ℕ) × (new ≡ under number seat changes placed w))
    ⊎ (new ≡ closed w)

-- no search that has answered Ready looks for one of the first `count` shapes that the list brings
abbrev pub NoReadySeeksFirst : ℕ → List Change → WorldData → Type 0
NoReadySeeksFirst count changes w =
    (at : ℕ) (placement : ℕ × List Point) → at < count
    → slice_get (placements changes) at ≡ Some placement → NoReadySeeks placement.1 w

abbrev pub PlacesAll : ℕ → ℕ → List Change → WorldData → WorldData → Result (Unit {0}) Fault
    → Type 0
PlacesAll seat number changes w new (Ok u) =
    (placed : ℕ) × (new ≡ under number seat changes placed w)
    × (slice_get (placements changes) placed ≡ None) × NoReadySeeksAny changes w
PlacesAll seat number changes w new (Err fault) =
    IsStuck changes w fault × Stands seat number changes w new

-- all shapes that the transaction's changes bring are placed, or a step is refused
abbrev pub Places : ℕ → ℕ → WorldData → WorldData → Result (Unit {0}) Fault → Type 0
Places seat number old new result =
    (w : WorldData) (subject : Subject) (changes : List Change) → subject_at seat w ≡ Ok subject
    → old ≡ under number seat changes 0 w
    → PlacesAll seat number changes w new result

-- the shapes are not all placed, and the reply is the fault; or they are, and the transaction is
-- committed
abbrev pub ConcludesAll : ℕ → ℕ → List Change → WorldData → WorldData → Reply → Type 0
ConcludesAll seat number changes w new reply =
    ((fault : Fault) × IsStuck changes w fault × Stands seat number changes w new
    × (reply ≡ Failed fault))
    ⊎ ((placed : ℕ) × (slice_get (placements changes) placed ≡ None) × NoReadySeeksAny changes w
    × Happens (Commit seat number) (under number seat changes placed w) new reply)

abbrev pub Concludes : ℕ → ℕ → List Change → WorldData → WorldData → Reply → Type 0
Concludes seat number changes old new reply =
    (w : WorldData) (subject : Subject) → subject_at seat w ≡ Ok subject
    → old ≡ under number seat [] 0 w → ConcludesAll seat number changes w new reply
