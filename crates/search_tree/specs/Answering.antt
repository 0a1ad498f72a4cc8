-- When two steps return the same.
use Rattle.std.specs.Prelude.{◌≡◌, ◌⊎◌, ◌≤◌, Result, Err}
use Rattle.node_arena.specs.Slots.{taken_count}
use Rattle.node_arena.specs.declared.TheConstants.{MAX_SLOTS}
use Rattle.predicate_locks.specs.Searches.{last_number}
use Rattle.search_tree.specs.Trees.{PlainTree}
use Rattle.tree_answers.specs.declared.answers.Step.{Step}
use Rattle.tree_answers.specs.declared.fault.TreeFault.{TreeFault}
use Rattle.tree_answers.specs.declared.fault.TreeFault.TheVariants.{Memory}

-- a tree whose counter fits 64 bits and whose taken slots are at most `MAX_SLOTS`, as in each tree
-- in hand
pub record HasEnds {Key Query Item : Type 0} (t : PlainTree Key Query Item) : Type 0 where
  pub counter : t.counter ≤ last_number
  pub slots : taken_count t.nodes ≤ MAX_SLOTS

-- an allocation was refused
abbrev pub IsWant : Result Step TreeFault → Type 0
IsWant (Err (Memory refusal)) = Unit {0}
IsWant _ = ⊥

-- both results are the same, or an allocation was refused in one of them
abbrev pub AnswersAlike : Result Step TreeFault → Result Step TreeFault → Type 0
AnswersAlike a b = IsWant a ⊎ IsWant b ⊎ (a ≡ b)
