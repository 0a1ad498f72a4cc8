-- Slots of the index that hold only pairs that the world keeps.
use Rattle.std.specs.Prelude.{◌≡◌, ℕ, Bool, true, false, ◌&&◌, ◌||◌, nat_le, nat_lt, List, Contains, IsSome, IfOk, OnErr, Result, Ok}
use Rattle.node_arena.specs.Slots.{value_at}
use Rattle.node_arena.specs.declared.handle.Handle.{Handle}
use Rattle.plane.specs.declared.point.Point.{Point}
use Rattle.plain_world.specs.States.{WorldData}
use Rattle.search_tree.specs.Dues.{AnswersFirst}
use Rattle.search_tree.specs.Tends.{ContentsTended, HasTended, StepsAt}
use Rattle.tree_answers.specs.declared.answers.Tending.{Tending}
use Rattle.tree_answers.specs.declared.answers.Tending.TheVariants.{Idle}
use Rattle.tree_answers.specs.declared.fault.TreeFault.{TreeFault}
use Rattle.tree_theory.specs.Contents.{pairs_at}
use Rattle.world.specs.Index.{Index, IndexedWorld, IsWorld, frames}
use Rattle.world.specs.Stepping.{KeepsPair}
use Rattle.world.specs.declared.kept_slots.KeptSlots.{KeptSlots}

-- the slot is noted: below the first run's end, or in the second run
abbrev pub is_noted : KeptSlots → ℕ → Bool
is_noted notes slot = nat_lt slot notes.low || nat_le notes.first slot && nat_lt slot notes.end

-- nothing was found to do
abbrev pub is_idle : Result Tending TreeFault → Bool
is_idle (Ok Idle) = true
is_idle answer = false

-- the world keeps each pair in a noted slot
abbrev pub AreKept : WorldData → Index → KeptSlots → Type 0
AreKept w index notes =
    (at : Handle) → is_noted notes at.slot ≡ true → (pair : ℕ × List Point)
    → Contains (pairs_at (value_at index.nodes at)) pair → KeepsPair w pair

-- what every world keeps, beside what callers see of it
pub record IsTended (w : IndexedWorld) (notes : KeptSlots) : Type 0 where
  pub world : IsWorld w
  pub kept : AreKept w.plain w.index notes

-- The index does what is first due at the node of the slot, where the pairs in Kept are to stay, or
-- nothing if there is no node. If it refuses, it is unchanged.
pub record TendsBy (Kept : ℕ × List Point → Type 0) (slot : ℕ) (old new : Index)
    (answer : Result Tending TreeFault) : Type 0 where
  pub tended : IfOk answer (HasTended frames old new)
  pub contents : IfOk answer (ContentsTended frames old Kept new)
  pub first : (at : Handle) → at.slot ≡ slot → IsSome (value_at old.nodes at)
      → AnswersFirst frames old Kept at answer
  pub step : (at : Handle) → at.slot ≡ slot → IsSome (value_at old.nodes at)
      → IfOk answer (StepsAt frames old Kept at new)
  pub refused : OnErr answer (new ≡ old)
  pub nobody : ((at : Handle) → at.slot ≡ slot → IsSome (value_at old.nodes at) → ⊥)
      → answer ≡ Ok Idle
  pub untouched : ((at : Handle) → at.slot ≡ slot → IsSome (value_at old.nodes at) → ⊥) → new ≡ old
