-- What the index of a world does when a search is opened, visited or ended, and when a slot is
-- tended.
use Rattle.std.specs.Prelude.{◌≡◌, ℕ, List, IsTrue, IsSome, IfOk, OnErr, Result, Ok, Err}
use Rattle.node_arena.specs.Slots.{value_at}
use Rattle.node_arena.specs.declared.handle.Handle.{Handle}
use Rattle.plane.specs.declared.point.Point.{Point}
use Rattle.plain_world.specs.declared.faults.Fault.{Fault}
use Rattle.plain_world.specs.declared.open_searches.Search.{Search}
use Rattle.plain_world.specs.Keeping.{is_kept}
use Rattle.plain_world.specs.States.{WorldData}
use Rattle.search_tree.specs.Calls.{IsOpen, IsShut, IsVisit}
use Rattle.search_tree.specs.Dues.{AnswersFirst}
use Rattle.search_tree.specs.Tends.{ContentsTended, HasTended, StepsAt}
use Rattle.tree_answers.specs.declared.answers.Tending.{Tending}
use Rattle.tree_answers.specs.declared.answers.Tending.TheVariants.{Idle}
use Rattle.tree_answers.specs.declared.answers.Visit.{Visit}
use Rattle.tree_answers.specs.declared.fault.TreeFault.{TreeFault}
use Rattle.world.specs.Index.{Index, frames}
use Rattle.world.specs.Refusing.{world_fault}

-- the index's answer, as the world's
abbrev pub in_world_faults : {T : Type 0} → Result T TreeFault → Result T Fault
in_world_faults (Ok answer) = Ok answer
in_world_faults (Err fault) = Err (world_fault fault)

-- A search for the window is opened in the index, under the number in the result. If it is refused,
-- the index is unchanged.
abbrev pub OpensInIndex : List Point → Index → Index → Result ℕ Fault → Type 0
OpensInIndex window old new (Ok number) = IsOpen frames old new window number
OpensInIndex window old new (Err fault) = new ≡ old

-- The search of this number ends in the index. If that is refused, the index is unchanged.
abbrev pub EndsInIndex : {T : Type 0} → ℕ → Index → Index → Result T Fault → Type 0
EndsInIndex number old new (Ok x) = IsShut frames old new number
EndsInIndex number old new (Err fault) = new ≡ old

-- If the search may go on, the index makes one visit, and its answer is the result. Otherwise the
-- index is not called.
abbrev pub VisitsIndex : Result Search Fault → ℕ → Index → Index → Result Visit Fault → Type 0
VisitsIndex (Ok search) number old new result =
    (answer : Result Visit TreeFault) × IsVisit frames old new number answer
    × (result ≡ in_world_faults answer)
VisitsIndex (Err fault) number old new result = new ≡ old

-- the feature of this id has this shape, or an open transaction has staged that it will
abbrev pub KeepsPair : WorldData → ℕ × List Point → Type 0
KeepsPair w pair = IsTrue (is_kept pair.0 pair.1 w)

-- The index does what is first due at the node of the slot, or nothing if there is no node, and its
-- answer is the result. The pairs that the world keeps stay. If it refuses, it is unchanged.
pub record TendsIndex (w : WorldData) (slot : ℕ) (old new : Index)
    (result : Result Tending Fault) : Type 0 where
  pub answer : Result Tending TreeFault
  pub is : result ≡ in_world_faults answer
  pub tended : IfOk answer (HasTended frames old new)
  pub contents : IfOk answer (ContentsTended frames old (KeepsPair w) new)
  pub first : (at : Handle) → at.slot ≡ slot → IsSome (value_at old.nodes at)
      → AnswersFirst frames old (KeepsPair w) at answer
  pub step : (at : Handle) → at.slot ≡ slot → IsSome (value_at old.nodes at)
      → IfOk answer (StepsAt frames old (KeepsPair w) at new)
  pub refused : OnErr answer (new ≡ old)
  pub nobody : ((at : Handle) → at.slot ≡ slot → IsSome (value_at old.nodes at) → ⊥)
      → answer ≡ Ok Idle
  pub untouched : ((at : Handle) → at.slot ≡ slot → IsSome (value_at old.nodes at) → ⊥) → new ≡ old
