-- The cases of a walk: what its step returns and where the walk is afterwards, by the first case
-- that holds.
use Rattle.std.specs.Prelude.{◌≡◌, ◌≢◌, ◌⊎◌, ◌+◌, ◌<◌, ◌≤◌, ℕ, true, false, List, map, Some, Result, Ok, Err, slice_get}
use Rattle.memory.specs.declared.no_memory.NoMemory.{NoMemory}
use Rattle.node_arena.specs.Slots.{value_at, taken_count}
use Rattle.node_arena.specs.declared.TheConstants.{MAX_SLOTS}
use Rattle.node_arena.specs.declared.handle.Handle.{Handle}
use Rattle.predicate_locks.specs.Searches.{last_number}
use Rattle.search_tree.specs.Calls.{IsUntouched}
use Rattle.search_tree.specs.Dues.{LacksEntry}
use Rattle.tree_nodes.specs.Penalties.{IsBest}
use Rattle.search_tree.specs.Splitting.{HasGrown, HasSplit}
use Rattle.tree_nodes.specs.Standings.{IsAside, IsHere, IsNowhere, IsUnlinked}
use Rattle.search_tree.specs.Trees.{PlainTree, root_level, tree_of}
use Rattle.tree_nodes.specs.Bodies.{IsLeaf}
use Rattle.search_tree.specs.Walks.{HasDescended, IsHolder, NoneHolds}
use Rattle.tree_answers.specs.declared.answers.Step.{Step}
use Rattle.tree_answers.specs.declared.answers.Step.TheVariants.{Moved, Split, Installed, Restarted, Placed}
use Rattle.tree_answers.specs.declared.fault.TreeFault.{TreeFault}
use Rattle.tree_answers.specs.declared.fault.TreeFault.TheVariants.{Held, Full, TooHigh, Spent, Memory}
use Rattle.tree_theory.specs.Changes.{IsInstalled, IsPlaced}
use Rattle.tree_theory.specs.KeyClasses.{Class}
use Rattle.tree_theory.specs.Nodes.{Node, size_of}
use Rattle.tree_theory.specs.Nodes.PlainBody.{Inner}
use Rattle.tree_theory.specs.declared.TheConstants.{NODE_SIZE, TOP_LEVEL}
use Rattle.tree_theory.specs.declared.position.Position.{Position}
use Rattle.tree_theory.specs.declared.position.Position.TheVariants.{Root, Linked, Unlinked, Retired}

-- A change that makes room for a walk's pair, or that has to come first: the right node of this
-- marked node gets its entry; this full node splits; the full root grows.
pub data Change : Type 0 where
  Linking : Handle → Change
  Parting : Handle → Change
  Growing : Change

module _ {Key Query Item : Type 0} (C : Class Key Query Item) (t : PlainTree Key Query Item) where
  -- a marked node under this full parent, which has this place
  pub record IsUnderFull (at parent : Handle) (place : Position) : Type 0 where
    pub node : Node C
    pub is : value_at t.nodes at ≡ Some node
    pub linked : node.place ≡ Linked parent true
    pub above : Node C
    pub above_is : value_at t.nodes parent ≡ Some above
    pub full : size_of above.body ≡ NODE_SIZE
    pub stands : above.place ≡ place

  -- The first change to make so that the right node of this marked node gets its entry. Where their
  -- parent has room, it is the install itself. A full parent splits, or the root grows. But where
  -- the parent is marked or unlinked itself, a right node has to get its entry there first.
  pub data BeginsWith (change : Change) : Handle → Type 0 where
    has_room : {at : Handle} → LacksEntry C t at → change ≡ Linking at → BeginsWith change at
    under_linked : {at parent other : Handle} → IsUnderFull at parent (Linked other false)
        → change ≡ Parting parent → BeginsWith change at
    under_root : {at parent : Handle} → IsUnderFull at parent Root → change ≡ Growing
        → BeginsWith change at
    under_marked : {at parent other : Handle} → IsUnderFull at parent (Linked other true)
        → BeginsWith change parent → BeginsWith change at
    under_unlinked : {at parent left : Handle} → IsUnderFull at parent (Unlinked left)
        → BeginsWith change left → BeginsWith change at

  -- the first change to make for room in a full node, by its place
  abbrev pub MakesRoom : Handle → Position → Change → Type 0
  MakesRoom at Root change = change ≡ Growing
  MakesRoom at (Linked parent false) change = change ≡ Parting at
  MakesRoom at (Linked parent true) change = BeginsWith change at
  MakesRoom at (Unlinked left) change = BeginsWith change left
  MakesRoom at (Retired stamp) change = ⊥

  -- an inner node that may take the key, and the child and key of an entry of least penalties
  pub record IsWayDown (growth second_growth : Key → Key → ℕ) (at : Handle) (key : Key)
      (child : Handle) (old : Key) : Type 0 where
    pub here : IsHere C t.nodes at key
    pub node : Node C
    pub is : value_at t.nodes at ≡ Some node
    pub entries : List (Key × Handle)
    pub body : node.body ≡ Inner entries
    pub place : ℕ
    pub entry : slice_get entries place ≡ Some (old, child)
    pub best : IsBest growth second_growth (map (λ entry. entry.0) entries) key place

  module _ (at : Handle) (item : Item) where
    -- a leaf that is the root, or whose entry covers the item
    pub record IsAtLeaf (leaf : Node C) : Type 0 where
      pub here : IsHere C t.nodes at (C.key_of item)
      pub is : value_at t.nodes at ≡ Some leaf
      pub body : IsLeaf leaf.body

    -- such a leaf, where no search that is done with it looks for the item
    pub record IsFree (leaf : Node C) : Type 0 where
      pub at_leaf : IsAtLeaf leaf
      pub free : NoneHolds C t.running leaf.attached item

    -- the first change to make: for a right node without an entry, or for a full leaf
    abbrev pub Wants : Change → Type 0
    Wants change =
        ((left : Handle) × IsUnlinked t.nodes at left × BeginsWith change left)
        ⊎ ((leaf : Node C) × IsFree leaf × (size_of leaf.body ≡ NODE_SIZE)
        × MakesRoom at leaf.place change)

module _ {Key Query Item : Type 0} (C : Class Key Query Item) (t u : PlainTree Key Query Item)
    (at now : Handle) where
  -- What a change returns, what it leaves, and where the walk is now: after a split, at the new
  -- right node. A change is refused where the counter is at its end, or too few slots are left,
  -- else where the root is at the highest level, else where an allocation is refused. A refused
  -- change leaves the tree unchanged; where an allocation is refused, only spare capacity may
  -- differ.
  pub data Answers (picks : List Key → ℕ → Type 0) : Change → Result Step TreeFault → Type 0 where
    links : {parent left right : Handle} → IsInstalled (tree_of C t) (tree_of C u) parent left right
        → now ≡ at → Answers picks (Linking left) (Ok Installed)
    counter_ends : {left : Handle} → t.counter ≡ last_number → u ≡ t
        → Answers picks (Linking left) (Err Spent)
    parts : {full : Handle} → HasSplit C.key_of picks t.nodes u.nodes full now
        → Answers picks (Parting full) (Ok Split)
    no_slot : {full : Handle} → MAX_SLOTS < taken_count t.nodes + 1 → u ≡ t
        → Answers picks (Parting full) (Err Full)
    no_memory : {full : Handle} {refusal : NoMemory} → taken_count t.nodes + 1 ≤ MAX_SLOTS
        → IsUntouched C t u → Answers picks (Parting full) (Err (Memory refusal))
    grows : HasGrown C picks t.nodes u.nodes t.root t.counter → now ≡ at
        → Answers picks Growing (Ok Split)
    no_slots : MAX_SLOTS < taken_count t.nodes + 2 → u ≡ t → Answers picks Growing (Err Full)
    top_level : taken_count t.nodes + 2 ≤ MAX_SLOTS → root_level t ≡ TOP_LEVEL → u ≡ t
        → Answers picks Growing (Err TooHigh)
    no_memory_to_grow : {refusal : NoMemory} → taken_count t.nodes + 2 ≤ MAX_SLOTS
        → root_level t ≢ TOP_LEVEL → IsUntouched C t u
        → Answers picks Growing (Err (Memory refusal))

  -- What a step of a walk of this pair returns at this node, by the first case that holds, what it
  -- leaves, and where the walk is now. At most one case holds for a tree, a node and an item,
  -- except that a descent either is made or fails because an allocation is refused.
  pub data TakesStep (growth second_growth : Key → Key → ℕ) (picks : List Key → ℕ
      → Type 0) (pair : ℕ × Item) : Result Step TreeFault → Type 0 where
    begins_anew : IsNowhere t.nodes at → u ≡ t → now ≡ t.root
        → TakesStep growth second_growth picks pair (Ok Restarted)
    climbs : IsAside C t.nodes at now (C.key_of pair.1) → u ≡ t
        → TakesStep growth second_growth picks pair (Ok Moved)
    descends : {old : Key} → IsWayDown C t growth second_growth at (C.key_of pair.1) now old
        → HasDescended C t u at now old (C.key_of pair.1)
        → TakesStep growth second_growth picks pair (Ok Moved)
    wants_memory : {child : Handle} {old : Key} {refusal : NoMemory}
        → IsWayDown C t growth second_growth at (C.key_of pair.1) child old → IsUntouched C t u
        → TakesStep growth second_growth picks pair (Err (Memory refusal))
    is_held : {leaf : Node C} {search : ℕ} → IsAtLeaf C t at pair.1 leaf
        → IsHolder C t.running leaf.attached pair.1 search → u ≡ t
        → TakesStep growth second_growth picks pair (Err (Held search))
    places : {leaf : Node C} → IsFree C t at pair.1 leaf → size_of leaf.body < NODE_SIZE
        → IsPlaced (tree_of C t) (tree_of C u) at pair → now ≡ at
        → TakesStep growth second_growth picks pair (Ok Placed)
    makes : {change : Change} {answer : Result Step TreeFault} → Wants C t at pair.1 change
        → Answers picks change answer → TakesStep growth second_growth picks pair answer
