-- What the index's counts show when it refuses.
use Rattle.std.specs.Prelude.{◌≡◌, ◌⊎◌, ℕ, Bool, true, false, Option, None, Some, Result, Ok, Err}
use Rattle.features.specs.declared.actors.Subject.{Subject}
use Rattle.memory.specs.NoMemory.{out_of_memory}
use Rattle.memory.specs.declared.no_memory.NoMemory.{NoMemory}
use Rattle.predicate_locks.specs.Searches.{last_number}
use Rattle.plain_world.specs.declared.faults.Fault.{Fault}
use Rattle.plain_world.specs.declared.faults.Fault.TheVariants as faults
use Rattle.search_tree.specs.Advances.{LacksSlots}
use Rattle.search_tree.specs.Calls.{IsOverrun}
use Rattle.search_tree.specs.Trees.{root_level}
use Rattle.tree_answers.specs.declared.fault.TreeFault.{TreeFault}
use Rattle.tree_answers.specs.declared.fault.TreeFault.TheVariants as tree
use Rattle.tree_theory.specs.declared.TheConstants.{TOP_LEVEL}
use Rattle.world.specs.Index.{Index, frames}

-- what a refusal of a walk's step or of a tending shows: S4 that fewer slots are free than needed,
-- S5 that the root is as high as it may be, S6 that the counter is at its end
abbrev pub RefusesGrowth : Index → Fault → Type 0
RefusesGrowth index (faults.Tree tree.Full) = LacksSlots frames index
RefusesGrowth index (faults.Tree tree.TooHigh) = root_level index ≡ TOP_LEVEL
RefusesGrowth index (faults.Tree tree.Spent) = index.counter ≡ last_number
RefusesGrowth index fault = Unit {0}

-- a step of a search: at S7 it has made all its steps
abbrev pub GivesUp : Index → ℕ → Fault → Type 0
GivesUp index number (faults.Tree tree.Overrun) = IsOverrun index number
GivesUp index number fault = Unit {0}

-- The fault of a whole search of a seat: X1 where the seat was not given. Otherwise S7, where there
-- are more nodes to see than a search may make steps, or that an allocation was refused.
abbrev pub FailsToAnswer : Result Subject Fault → Fault → Type 0
FailsToAnswer (Err first) fault = fault ≡ first
FailsToAnswer (Ok subject) fault =
    (fault ≡ faults.Tree tree.Overrun) ⊎ (fault ≡ faults.Memory out_of_memory)

-- the world's fault for a refusal of the index: X12 for out of memory, X9 for all others
abbrev pub world_fault : TreeFault → Fault
world_fault (tree.Memory refusal) = faults.Memory refusal
world_fault fault = faults.Tree fault

-- the refused allocation, if the fault is S8
abbrev pub refusal_of : TreeFault → Option NoMemory
refusal_of (tree.Memory refusal) = Some refusal
refusal_of fault = None

-- the fault is S7: all steps were made
abbrev pub is_overrun_fault : TreeFault → Bool
is_overrun_fault tree.Overrun = true
is_overrun_fault fault = false
