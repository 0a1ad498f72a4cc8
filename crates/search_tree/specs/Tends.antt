-- What a step of tending needs, and what it leaves.
use Rattle.std.specs.Prelude.{◌≡◌, ◌==◌, ◌+◌, ◌<◌, ◌≤◌, ℕ, true, false, List, [], Some, length, slice_get, if◌then◌else◌}
use Rattle.node_arena.specs.Slots.{value_at, slot_count, taken_count, last_generation}
use Rattle.node_arena.specs.declared.handle.Handle.{Handle}
use Rattle.predicate_locks.specs.Searches.{AllBegunSince}
use Rattle.search_tree.specs.Calls.{SameContents}
use Rattle.search_tree.specs.Trees.{PlainTree, search_in, steps_in, root_level, tree_of}
use Rattle.tree_answers.specs.declared.answers.Tending.{Tending}
use Rattle.tree_answers.specs.declared.answers.Tending.TheVariants.{Idle, Freed, Installed, Cleaned, Retired}
use Rattle.search_tree.specs.declared.installing.NewEntry.{NewEntry}
use Rattle.tree_theory.specs.Changes.{IsKeyFor, IsFreed, IsInstalled, IsCleaned, IsRetired}
use Rattle.tree_theory.specs.Contents.{IsContents, LosesPairs}
use Rattle.tree_theory.specs.KeyClasses.{Class}
use Rattle.tree_theory.specs.Nodes.{Node}
use Rattle.tree_theory.specs.Nodes.PlainBody.{Leaf, Inner}
use Rattle.tree_theory.specs.declared.TheConstants.{NODE_SIZE}
use Rattle.tree_theory.specs.declared.position.Position.TheVariants.{Linked, Retired as AtRest}

-- by how much the counter rises
abbrev pub ticks : Tending → ℕ
ticks Idle = 0
ticks Freed = 0
ticks Installed = 1
ticks Cleaned = 0
ticks Retired = 1

-- how many slots are taken afterwards; where a node is removed, its slot is free or worn out
abbrev pub TakenAfter : Tending → ℕ → ℕ → Type 0
TakenAfter Idle before after = after ≡ before
TakenAfter Freed before after = (after ≤ before) × (before ≤ after + 1)
TakenAfter Installed before after = after ≡ before
TakenAfter Cleaned before after = after ≡ before
TakenAfter Retired before after = after ≡ before

-- how many slots are free again where the node at this handle is removed: its own, or none if it is
-- worn out
abbrev pub slots_freed : Handle → ℕ
slots_freed at = if at.generation == last_generation then 0 else 1

module _ {Key Query Item : Type 0} (C : Class Key Query Item) (t : PlainTree Key Query Item) where
  -- tending changes no search, and of the counts only the counter and the taken slots
  pub record HasTended (u : PlainTree Key Query Item) (tending : Tending) : Type 0 where
    pub searches : (search : ℕ) → search_in u search ≡ search_in t search
    pub steps : (search : ℕ) → steps_in u search ≡ steps_in t search
    pub running : u.running ≡ t.running
    pub limit : u.limit ≡ t.limit
    pub level : root_level u ≡ root_level t
    pub slots : slot_count u.nodes ≡ slot_count t.nodes
    pub counter : u.counter ≡ t.counter + ticks tending
    pub taken : TakenAfter tending (taken_count t.nodes) (taken_count u.nodes)

  -- the contents without some pairs, all outside of Kept
  abbrev pub ContentsLess : PlainTree Key Query Item → (ℕ × Item → Type 0) → Type 0
  ContentsLess u Kept = (xs : List (ℕ × Item)) → IsContents (tree_of C t) xs
      → (ys : List (ℕ × Item)) × IsContents (tree_of C u) ys × LosesPairs Kept xs ys

  -- the contents lose pairs only where a leaf is cleaned
  abbrev pub ContentsTended : (ℕ × Item → Type 0) → PlainTree Key Query Item → Tending → Type 0
  ContentsTended Kept u Idle = SameContents C t u
  ContentsTended Kept u Freed = SameContents C t u
  ContentsTended Kept u Installed = SameContents C t u
  ContentsTended Kept u Cleaned = ContentsLess u Kept
  ContentsTended Kept u Retired = SameContents C t u

  -- What tending does at a node: nothing, or the one step that it returns. Where a node is removed,
  -- its slot is free again or worn out. A cleaned leaf keeps exactly its pairs in Kept.
  abbrev pub StepsAt : (ℕ × Item → Type 0) → Handle → PlainTree Key Query Item → Tending → Type 0
  StepsAt Kept at u Idle = u ≡ t
  StepsAt Kept at u Freed = IsFreed (tree_of C t) (tree_of C u) at
      × (taken_count u.nodes + slots_freed at ≡ taken_count t.nodes)
  StepsAt Kept at u Installed =
      (parent : Handle) × (right : Handle) × IsInstalled (tree_of C t) (tree_of C u) parent at right
  StepsAt Kept at u Cleaned = IsCleaned (tree_of C t) (tree_of C u) Kept at
  StepsAt Kept at u Retired = (parent : Handle) × IsRetired (tree_of C t) (tree_of C u) at parent

  -- a leaf
  pub record MayClean (at : Handle) : Type 0 where
    pub node : Node C
    pub is : value_at t.nodes at ≡ Some node
    pub pairs : List (ℕ × Item)
    pub body : node.body ≡ Leaf pairs

  -- a retired node, and every running search began at its stamp or later
  pub record MayFree (at : Handle) : Type 0 where
    pub node : Node C
    pub is : value_at t.nodes at ≡ Some node
    pub stamp : ℕ
    pub place : node.place ≡ AtRest stamp
    pub all_later : AllBegunSince t.running stamp

  -- an empty leaf whose parent has another entry too; the leaf's entry is at index `place`
  pub record MayRetire (at parent : Handle) (place : ℕ) : Type 0 where
    pub leaf : Node C
    pub leaf_is : value_at t.nodes at ≡ Some leaf
    pub empty : leaf.body ≡ Leaf []
    pub linked : leaf.place ≡ Linked parent false
    pub node : Node C
    pub is : value_at t.nodes parent ≡ Some node
    pub entries : List (Key × Handle)
    pub body : node.body ≡ Inner entries
    pub more : 1 < length entries
    pub key : Key
    pub entry : slice_get entries place ≡ Some (key, at)

  -- a marked node and its right node under a parent with room, where the left one's entry is at
  -- index `place`, and the new keys of both entries
  pub record MayInstall (e : NewEntry Key) : Type 0 where
    pub node : Node C
    pub is : value_at t.nodes e.parent ≡ Some node
    pub entries : List (Key × Handle)
    pub body : node.body ≡ Inner entries
    pub room : length entries < NODE_SIZE
    pub old : Key
    pub entry : slice_get entries e.place ≡ Some (old, e.left)
    pub left : Node C
    pub left_is : value_at t.nodes e.left ≡ Some left
    pub linked : left.place ≡ Linked e.parent true
    pub is_right : left.right ≡ Some e.right
    pub right : Node C
    pub right_is : value_at t.nodes e.right ≡ Some right
    pub for_left : IsKeyFor C left.body old e.left_key
    pub for_right : IsKeyFor C right.body old e.right_key
