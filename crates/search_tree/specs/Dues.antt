-- What is due at a node, and which of it tending does: the first case that holds.
use Rattle.std.specs.Prelude.{◌≡◌, ◌⊎◌, ◌<◌, ℕ, true, false, [], Contains, Some, Result, Ok, Err}
use Rattle.node_arena.specs.Slots.{value_at}
use Rattle.node_arena.specs.declared.handle.Handle.{Handle}
use Rattle.search_tree.specs.Tends.{MayFree}
use Rattle.search_tree.specs.Trees.{PlainTree}
use Rattle.tree_answers.specs.declared.answers.Tending.{Tending}
use Rattle.tree_answers.specs.declared.answers.Tending.TheVariants.{Idle, Freed, Installed, Cleaned, Retired}
use Rattle.tree_answers.specs.declared.fault.TreeFault.{TreeFault}
use Rattle.search_tree.specs.declared.needs.Due.{Due}
use Rattle.search_tree.specs.declared.needs.Due.TheVariants.{Nothing, Free, Install, Clean, Retire}
use Rattle.tree_theory.specs.KeyClasses.{Class}
use Rattle.tree_theory.specs.Nodes.{Node, pairs_of, size_of}
use Rattle.tree_theory.specs.Nodes.PlainBody.{Leaf}
use Rattle.tree_theory.specs.declared.TheConstants.{NODE_SIZE}
use Rattle.tree_theory.specs.declared.position.Position.TheVariants.{Linked}

module _ {Key Query Item : Type 0} (C : Class Key Query Item) (t : PlainTree Key Query Item) where
  -- a marked node whose parent has room: its right node can have an entry
  pub record LacksEntry (at : Handle) : Type 0 where
    pub node : Node C
    pub is : value_at t.nodes at ≡ Some node
    pub parent : Handle
    pub place : node.place ≡ Linked parent true
    pub above : Node C
    pub above_is : value_at t.nodes parent ≡ Some above
    pub room : size_of above.body < NODE_SIZE

  -- an empty unmarked leaf whose parent has other entries too
  pub record IsUnneeded (at : Handle) : Type 0 where
    pub leaf : Node C
    pub is : value_at t.nodes at ≡ Some leaf
    pub empty : leaf.body ≡ Leaf []
    pub parent : Handle
    pub place : leaf.place ≡ Linked parent false
    pub above : Node C
    pub above_is : value_at t.nodes parent ≡ Some above
    pub others : 1 < size_of above.body

  module _ (Kept : ℕ × Item → Type 0) where
    -- a leaf with a pair that is not in Kept
    pub record HasUnkept (at : Handle) : Type 0 where
      pub node : Node C
      pub is : value_at t.nodes at ≡ Some node
      pub pair : ℕ × Item
      pub holds : Contains (pairs_of node.body) pair
      pub unkept : Kept pair → ⊥

    -- nothing is due at a node
    pub record NothingDue (at : Handle) : Type 0 where
      pub stays : MayFree C t at → ⊥
      pub linked : LacksEntry at → ⊥
      pub clean : HasUnkept at → ⊥
      pub needed : IsUnneeded at → ⊥

    -- this is due at a node, and what comes before it is not
    abbrev pub IsFirstDue : Handle → Due Key → Type 0
    IsFirstDue at Nothing = NothingDue at
    IsFirstDue at Free = MayFree C t at
    IsFirstDue at (Install entry) = LacksEntry at
    IsFirstDue at Clean = HasUnkept at × (LacksEntry at → ⊥)
    IsFirstDue at (Retire parent place) = IsUnneeded at

    -- tending a node returns the first that is due there; it is refused only where the counter
    -- would rise
    abbrev pub AnswersFirst : Handle → Result Tending TreeFault → Type 0
    AnswersFirst at (Ok Idle) = NothingDue at
    AnswersFirst at (Ok Freed) = MayFree C t at
    AnswersFirst at (Ok Installed) = LacksEntry at
    AnswersFirst at (Ok Cleaned) = HasUnkept at × (LacksEntry at → ⊥)
    AnswersFirst at (Ok Retired) = IsUnneeded at
    AnswersFirst at (Err fault) = LacksEntry at ⊎ IsUnneeded at
