-- The invariant of every tree, clause by clause.
use Rattle.std.specs.Prelude.{◌≡◌, ◌≢◌, ℕ, ◌+◌, ◌<◌, ◌≤◌, Bool, true, [], Contains, AllPairs, Some, IsTrue}
use Rattle.node_arena.specs.declared.handle.Handle.{Handle}
use Rattle.tree_theory.specs.KeyClasses.{Class}
use Rattle.tree_theory.specs.Nodes.{Body, Node, Search, Tree, is_marked, entries_of, pairs_of, size_of}
use Rattle.tree_theory.specs.Nodes.PlainBody.{Leaf, Inner}
use Rattle.tree_theory.specs.Walks.{Owed}
use Rattle.tree_theory.specs.declared.TheConstants.{NODE_SIZE, TOP_LEVEL}
use Rattle.tree_theory.specs.declared.position.Position.TheVariants.{Root, Linked, Unlinked, Retired}

-- the key covers whatever the body has
pub record CoversBody {Key Query Item : Type 0} (C : Class Key Query Item) (key : Key)
    (body : Body C) : Type 0 where
  pub pairs : (pair : ℕ × Item) → Contains (pairs_of body) pair → C.Covers key (C.key_of pair.1)
  pub entries : (entry : Key × Handle) → Contains (entries_of body) entry → C.Covers key entry.0

module _ {Key Query Item : Type 0} {C : Class Key Query Item} where
  -- there is a root, and its place is `Root`
  pub record RootStands (t : Tree C) : Type 0 where
    pub node : Node C
    pub is : t.look t.root ≡ Some node
    pub place : node.place ≡ Root

  -- the child c of p, where p is the node `parent`, is linked under p
  pub record Child (t : Tree C) (p : Handle) (parent : Node C) (c : Handle) : Type 0 where
    pub node : Node C
    pub is : t.look c ≡ Some node
    pub marked : Bool
    pub place : node.place ≡ Linked p marked
    pub level : parent.level ≡ node.level + 1

  -- the parent p of h, where h is the node `child`, has an entry for h
  pub record Parent (t : Tree C) (h : Handle) (child : Node C) (p : Handle) : Type 0 where
    pub node : Node C
    pub is : t.look p ≡ Some node
    pub key : Key
    pub entry : Contains (entries_of node.body) (key, h)
    pub level : node.level ≡ child.level + 1

  -- the right node of the marked node h, where h is the node `marked`, is unlinked to the right of
  -- h
  pub record Right (t : Tree C) (h : Handle) (marked : Node C) : Type 0 where
    pub right : Handle
    pub is_right : marked.right ≡ Some right
    pub node : Node C
    pub is : t.look right ≡ Some node
    pub place : node.place ≡ Unlinked h
    pub level : marked.level ≡ node.level

  -- the left node l of the unlinked node h, where h is the node `unlinked`, is marked, and its
  -- rightlink leads to h
  pub record Left (t : Tree C) (h : Handle) (unlinked : Node C) (l : Handle) : Type 0 where
    pub node : Node C
    pub is : t.look l ≡ Some node
    pub parent : Handle
    pub place : node.place ≡ Linked parent true
    pub right : node.right ≡ Some h
    pub level : node.level ≡ unlinked.level

  -- places, sizes, levels and keys
  pub record Shape (t : Tree C) : Type 0 where
    -- there is a root, and no other node has its place
    pub root_place : RootStands t
    pub root_only : (h : Handle) (node : Node C) → t.look h ≡ Some node → node.place ≡ Root
        → h ≡ t.root
    -- an entry's child is linked under the entry's node, and a linked node has just one entry, in
    -- its parent
    pub entry_down : (p : Handle) (node : Node C) → t.look p ≡ Some node → (key : Key) (c : Handle)
        → Contains (entries_of node.body) (key, c) → Child t p node c
    pub entry_up : (h : Handle) (node : Node C) → t.look h ≡ Some node
        → (p : Handle) (marked : Bool) → node.place ≡ Linked p marked → Parent t h node p
    pub children_differ : (p : Handle) (node : Node C) → t.look p ≡ Some node
        → AllPairs (λ one other. one.1 ≢ other.1) (entries_of node.body)
    -- a marked node has an unlinked right node, and an unlinked node has a marked left node
    pub mark_right : (h : Handle) (node : Node C) → t.look h ≡ Some node
        → IsTrue (is_marked node.place) → Right t h node
    pub unlinked_left : (h : Handle) (node : Node C) → t.look h ≡ Some node → (l : Handle)
        → node.place ≡ Unlinked l → Left t h node l
    -- an inner node has an entry
    pub inner_filled : (h : Handle) (node : Node C) → t.look h ≡ Some node → node.body ≡ Inner []
        → ⊥
    pub size : (h : Handle) (node : Node C) → t.look h ≡ Some node → size_of node.body ≤ NODE_SIZE
    -- every other node is below the root's level, which is at most `TOP_LEVEL`
    pub below_root : (h : Handle) (node top : Node C) → t.look h ≡ Some node
        → t.look t.root ≡ Some top → h ≢ t.root → node.level < top.level
    pub top_level : (top : Node C) → t.look t.root ≡ Some top → top.level ≤ TOP_LEVEL
    -- a retired node is an empty leaf
    pub retired_empty : (h : Handle) (node : Node C) → t.look h ≡ Some node → (stamp : ℕ)
        → node.place ≡ Retired stamp → node.body ≡ Leaf []
    -- an entry's key covers its child and, while the child is marked, the child's right node
    pub cover : (p : Handle) (parent : Node C) → t.look p ≡ Some parent → (key : Key) (c : Handle)
        → Contains (entries_of parent.body) (key, c) → (node : Node C) → t.look c ≡ Some node
        → CoversBody C key node.body
    pub cover_marked : (p : Handle) (parent : Node C) → t.look p ≡ Some parent
        → (key : Key) (c : Handle) → Contains (entries_of parent.body) (key, c) → (node : Node C)
        → t.look c ≡ Some node → IsTrue (is_marked node.place) → (r : Handle) (right : Node C)
        → node.right ≡ Some r → t.look r ≡ Some right → CoversBody C key right.body

  -- what a running search is done with or will come to, and the counter
  pub record Searches (t : Tree C) : Type 0 where
    pub search_root : (s : ℕ) (search : Search C) → t.searches s ≡ Some search
        → Owed t s search t.root
    -- where a search is done with a node, the children of consistent entries are owed to it, and so
    -- is the right node of a marked one; it has found the matching pairs
    pub search_child : (s : ℕ) (search : Search C) → t.searches s ≡ Some search
        → (p : Handle) (node : Node C) → t.look p ≡ Some node → Contains node.attached s
        → (key : Key) (c : Handle) → Contains (entries_of node.body) (key, c)
        → C.Consistent key search.query → Owed t s search c
    pub search_mark : (s : ℕ) (search : Search C) → t.searches s ≡ Some search
        → (l : Handle) (node : Node C) → t.look l ≡ Some node → Contains node.attached s
        → IsTrue (is_marked node.place) → (r : Handle) → node.right ≡ Some r → Owed t s search r
    pub search_found : (s : ℕ) (search : Search C) → t.searches s ≡ Some search
        → (h : Handle) (node : Node C) → t.look h ≡ Some node → Contains node.attached s
        → (pair : ℕ × Item) → Contains (pairs_of node.body) pair → C.Matches pair.1 search.query
        → Contains search.found pair
    -- numbers that are attached or run were given out
    pub attached_given : (h : Handle) (node : Node C) → t.look h ≡ Some node → (s : ℕ)
        → Contains node.attached s → s < t.next
    pub running_given : (s : ℕ) (search : Search C) → t.searches s ≡ Some search → s < t.next
    -- a memo is between the counter at the search's beginning and the counter now; a node's number
    -- is at most the counter, and a retired node's is below its stamp
    pub memo_counter : (s : ℕ) (search : Search C) → t.searches s ≡ Some search
        → (h : Handle) (memo : ℕ) → Contains search.stack (h, memo) → memo ≤ t.counter
    pub memo_begun : (s : ℕ) (search : Search C) → t.searches s ≡ Some search
        → (h : Handle) (memo : ℕ) → Contains search.stack (h, memo) → search.begun ≤ memo
    pub seq_counter : (h : Handle) (node : Node C) → t.look h ≡ Some node → node.seq ≤ t.counter
    pub retired_seq : (h : Handle) (node : Node C) → t.look h ≡ Some node → (stamp : ℕ)
        → node.place ≡ Retired stamp → node.seq < stamp

  pub record Invariant (t : Tree C) : Type 0 where
    pub shape : Shape t
    pub searches : Searches t
