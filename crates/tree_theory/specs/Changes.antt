-- What each step of the tree changes: relations between the tree before it, t, and after it, u.
use Rattle.std.specs.Prelude.{◌≡◌, ◌≢◌, ◌⊎◌, ℕ, ◌+◌, ◌<◌, ◌≤◌, Bool, true, false, List, [], ◌∷◌, ◌++◌, length, Contains, Some, None, IsTrue, slice_get, slice_set, remove}
use Rattle.std.specs.Option.{option_map}
use Rattle.node_arena.specs.declared.handle.Handle.{Handle}
use Rattle.tree_theory.specs.Invariant.{CoversBody}
use Rattle.tree_theory.specs.KeyClasses.{Class}
use Rattle.tree_theory.specs.Lists.{Parted, Picked}
use Rattle.tree_theory.specs.Nodes.{PlainBody, Body, Node, Search, Tree, is_marked, entries_of, pairs_of, children_of, size_of, under, opened, visited}
use Rattle.tree_theory.specs.Nodes.PlainBody.{Leaf, Inner}
use Rattle.tree_theory.specs.Walks.{Done}
use Rattle.tree_theory.specs.declared.TheConstants.{NODE_SIZE, TOP_LEVEL}
use Rattle.tree_theory.specs.declared.position.Position.TheVariants.{Root, Linked, Unlinked, Retired}

-- two bodies share out the contents of one, and neither is empty
pub record IsHalved {Key Item : Type 0} (whole one other : PlainBody Key Item) : Type 0 where
  pub pairs : Parted (pairs_of whole) (pairs_of one) (pairs_of other)
  pub entries : Parted (entries_of whole) (entries_of one) (entries_of other)
  pub one_filled : 0 < size_of one
  pub other_filled : 0 < size_of other

-- the key is the union of all keys of the body: the least that covers them
pub record IsUnion {Key Query Item : Type 0} (C : Class Key Query Item) (body : Body C)
    (key : Key) : Type 0 where
  pub covers : CoversBody C key body
  pub least : (cover : Key) → CoversBody C cover body → C.Covers cover key

-- the key of a node's entry: the union of its keys, or the old key where the node is empty
abbrev pub IsKeyFor : {Key Query Item : Type 0} (C : Class Key Query Item) → Body C → Key → Key
    → Type 0
IsKeyFor C body old key = ((0 < size_of body) × IsUnion C body key)
    ⊎ ((size_of body ≡ 0) × (key ≡ old))

module _ {Key Query Item : Type 0} {C : Class Key Query Item} where
  -- What stays.

  -- the same root, counter and next number
  pub record SameClock (t u : Tree C) : Type 0 where
    pub root : u.root ≡ t.root
    pub counter : u.counter ≡ t.counter
    pub next : u.next ≡ t.next

  -- the counter rises by one; root and next number are the same
  pub record Ticked (t u : Tree C) : Type 0 where
    pub root : u.root ≡ t.root
    pub counter : u.counter ≡ t.counter + 1
    pub next : u.next ≡ t.next

  pub record SameNodes (t u : Tree C) : Type 0 where
    pub look : (h : Handle) → u.look h ≡ t.look h

  pub record SameSearches (t u : Tree C) : Type 0 where
    pub search : (s : ℕ) → u.searches s ≡ t.searches s

  -- one node is replaced
  pub record OneNode (t u : Tree C) (h : Handle) (old new : Node C) : Type 0 where
    pub before : t.look h ≡ Some old
    pub after : u.look h ≡ Some new
    pub others : (x : Handle) → x ≢ h → u.look x ≡ t.look x

  -- one search is replaced
  pub record OneSearch (t u : Tree C) (s : ℕ) (old new : Search C) : Type 0 where
    pub before : t.searches s ≡ Some old
    pub after : u.searches s ≡ Some new
    pub others : (x : ℕ) → x ≢ s → u.searches x ≡ t.searches x

  -- Attached numbers. Those under which no search runs any more may be left out at any time.

  -- a new list of attached numbers: it has each running number of the old list, and besides the old
  -- ones only numbers of Also
  pub record Numbers (t : Tree C) (Also : ℕ → Type 0) (old new : List ℕ) : Type 0 where
    pub keeps : (s : ℕ) (search : Search C) → t.searches s ≡ Some search → Contains old s
        → Contains new s
    pub only : (s : ℕ) → Contains new s → Contains old s ⊎ Also s

  abbrev pub Copied : Tree C → List ℕ → List ℕ → Type 0
  Copied t old new = Numbers t (λ s. ⊥) old new

  -- Searches.

  -- a search opens under the next number, with the root on its stack
  pub record IsOpened (t u : Tree C) (query : Query) : Type 0 where
    pub nodes : SameNodes t u
    pub root : u.root ≡ t.root
    pub counter : u.counter ≡ t.counter
    pub next : u.next ≡ t.next + 1
    pub search : u.searches t.next ≡ Some (opened t query)
    pub others : (x : ℕ) → x ≢ t.next → u.searches x ≡ t.searches x

  -- no search runs under this number any more
  pub record IsClosed (t u : Tree C) (s : ℕ) : Type 0 where
    pub nodes : SameNodes t u
    pub clock : SameClock t u
    pub search : u.searches s ≡ None
    pub others : (x : ℕ) → x ≢ s → u.searches x ≡ t.searches x

  -- the search s takes (x, memo) from its stack and sees the node x
  pub record IsVisited (t u : Tree C) (s : ℕ) (x : Handle) (memo : ℕ) : Type 0 where
    pub search : Search C
    pub rest : List (Handle × ℕ)
    pub popped : search.stack ≡ rest ++ (x, memo) ∷ []
    pub node : Node C
    pub attached : List ℕ
    pub numbers : Numbers t (λ other. other ≡ s) node.attached attached
    pub joins : Contains attached s
    pub entries : List (Key × Handle)
    pub consistent : Picked (λ entry. C.Consistent entry.0 search.query) (entries_of node.body)
        entries
    pub pairs : List (ℕ × Item)
    pub matching : Picked (λ pair. C.Matches pair.1 search.query) (pairs_of node.body) pairs
    pub nodes : OneNode t u x node (record node { attached = attached })
    pub searches : OneSearch t u s search (visited t.counter memo node rest entries pairs search)
    pub clock : SameClock t u

  -- the search s takes (x, memo) from its stack, and x is gone
  pub record IsVisitedGone (t u : Tree C) (s : ℕ) (x : Handle) (memo : ℕ) : Type 0 where
    pub search : Search C
    pub rest : List (Handle × ℕ)
    pub popped : search.stack ≡ rest ++ (x, memo) ∷ []
    pub gone : t.look x ≡ None
    pub nodes : SameNodes t u
    pub searches : OneSearch t u s search (record search { stack = rest })
    pub clock : SameClock t u

  -- Pairs and entries.

  -- an entry names the node, and its key covers this one
  pub record CoveringEntry (t : Tree C) (h : Handle) (node : Node C) (key : Key) : Type 0 where
    pub parent : Handle
    pub marked : Bool
    pub place : node.place ≡ Linked parent marked
    pub parent_node : Node C
    pub is : t.look parent ≡ Some parent_node
    pub entry_key : Key
    pub entry : Contains (entries_of parent_node.body) (entry_key, h)
    pub covers : C.Covers entry_key key

  -- the node may take this key: it is the root, or its entry covers the key already
  abbrev pub MayTake : Tree C → Handle → Node C → Key → Type 0
  MayTake t h node key = (node.place ≡ Root) ⊎ CoveringEntry t h node key

  -- a leaf with room gets a pair that no attached running search looks for
  pub record IsPlaced (t u : Tree C) (h : Handle) (pair : ℕ × Item) : Type 0 where
    pub node : Node C
    pub pairs : List (ℕ × Item)
    pub body : node.body ≡ Leaf pairs
    pub room : length pairs < NODE_SIZE
    pub may_take : MayTake t h node (C.key_of pair.1)
    pub none_matches : (s : ℕ) (search : Search C) → t.searches s ≡ Some search
        → Contains node.attached s → C.Matches pair.1 search.query → ⊥
    pub nodes : OneNode t u h node (record node { body = Leaf (pairs ++ pair ∷ []) })
    pub searches : SameSearches t u
    pub clock : SameClock t u

  -- the node h is behind an entry with this key: the entry names h, or names the marked node whose
  -- right node is h
  pub record StandsBehind (t : Tree C) (h : Handle) (key : Key) : Type 0 where
    pub parent : Handle
    pub node : Node C
    pub is : t.look parent ≡ Some node
    pub child : Handle
    pub entry : Contains (entries_of node.body) (key, child)
    pub behind : (child ≡ h) ⊎ ((left : Node C) × (t.look child ≡ Some left)
        × IsTrue (is_marked left.place) × (left.right ≡ Some h))

  -- the running search s has nothing to look for in h, where h is the node `node`; if h is marked,
  -- s is done with its right node
  pub record MayJoin (t : Tree C) (h : Handle) (node : Node C) (s : ℕ) : Type 0 where
    pub search : Search C
    pub running : t.searches s ≡ Some search
    pub key : Key
    pub stands : StandsBehind t h key
    pub inconsistent : C.Consistent key search.query → ⊥
    pub right_done : IsTrue (is_marked node.place) → (r : Handle) → node.right ≡ Some r → Done t s r

  -- searches that have nothing to look for in a node are attached to it
  pub record IsJoined (t u : Tree C) (h : Handle) : Type 0 where
    pub node : Node C
    pub attached : List ℕ
    pub numbers : Numbers t (MayJoin t h node) node.attached attached
    pub nodes : OneNode t u h node (record node { attached = attached })
    pub searches : SameSearches t u
    pub clock : SameClock t u

  -- The key of an entry of p becomes its union with another key. Each search that is done with p
  -- and consistent with the union was consistent with the old key, or is done with the child.
  pub record IsEnlarged (t u : Tree C) (p : Handle) (key : Key) : Type 0 where
    pub node : Node C
    pub entries : List (Key × Handle)
    pub body : node.body ≡ Inner entries
    pub index : ℕ
    pub old : Key
    pub child : Handle
    pub entry : slice_get entries index ≡ Some (old, child)
    pub may_take : MayTake t p node key
    pub seen : (s : ℕ) (search : Search C) → t.searches s ≡ Some search → Contains node.attached s
        → C.Consistent (C.united old key) search.query → C.Consistent old search.query
        ⊎ Done t s child
    pub nodes : OneNode t u p node
        (record node { body = Inner (slice_set entries index (C.united old key, child)) })
    pub searches : SameSearches t u
    pub clock : SameClock t u

  -- Splits.

  -- A linked node h splits and is marked. Its new right node r gets a part of its contents, and its
  -- number, rightlink and attached searches; it has no entry yet. The children that moved are under
  -- r.
  pub record IsSplit (t u : Tree C) (h r : Handle) : Type 0 where
    pub node : Node C
    pub parent : Handle
    pub place : node.place ≡ Linked parent false
    pub kept : Body C
    pub moved : Body C
    pub halves : IsHalved node.body kept moved
    pub attached : List ℕ
    pub numbers : Copied t node.attached attached
    pub before : t.look h ≡ Some node
    pub fresh : t.look r ≡ None
    pub left_now : u.look h ≡ Some (record node {
      body = kept;
      right = Some r;
      place = Linked parent true;
    })
    pub right_now : u.look r ≡ Some (record node {
      body = moved;
      place = Unlinked h;
      attached = attached;
    })
    pub children : (x : Handle) → x ≢ h → x ≢ r → Contains (children_of moved) x
        → u.look x ≡ option_map (under r) (t.look x)
    pub others : (x : Handle) → x ≢ h → x ≢ r → (Contains (children_of moved) x → ⊥)
        → u.look x ≡ t.look x
    pub searches : SameSearches t u
    pub clock : SameClock t u

  -- a new node under the root, with a part of the root's contents
  abbrev pub grown : Tree C → Node C → Body C → List ℕ → Node C
  grown t root body attached =
      record {
        level = root.level;
        body = body;
        seq = t.counter;
        right = None;
        place = Linked t.root false;
        attached = attached;
      }

  -- the root grows: two new nodes a and b share its contents, and it has their entries, one level
  -- higher
  pub record IsGrown (t u : Tree C) (a b : Handle) : Type 0 where
    pub node : Node C
    pub place : node.place ≡ Root
    pub below_top : node.level < TOP_LEVEL
    pub one : Body C
    pub two : Body C
    pub halves : IsHalved node.body one two
    pub one_key : Key
    pub one_union : IsUnion C one one_key
    pub two_key : Key
    pub two_union : IsUnion C two two_key
    pub one_attached : List ℕ
    pub one_numbers : Copied t node.attached one_attached
    pub two_attached : List ℕ
    pub two_numbers : Copied t node.attached two_attached
    pub differ : a ≢ b
    pub before : t.look t.root ≡ Some node
    pub fresh_one : t.look a ≡ None
    pub fresh_two : t.look b ≡ None
    pub root_now : u.look t.root
        ≡ Some (record node {
          level = node.level + 1;
          body = Inner ((one_key, a) ∷ (two_key, b) ∷ []);
        })
    pub one_now : u.look a ≡ Some (grown t node one one_attached)
    pub two_now : u.look b ≡ Some (grown t node two two_attached)
    pub one_children : (x : Handle) → x ≢ t.root → x ≢ a → x ≢ b → Contains (children_of one) x
        → u.look x ≡ option_map (under a) (t.look x)
    pub two_children : (x : Handle) → x ≢ t.root → x ≢ a → x ≢ b → Contains (children_of two) x
        → u.look x ≡ option_map (under b) (t.look x)
    pub others : (x : Handle) → x ≢ t.root → x ≢ a → x ≢ b → (Contains (children_of one) x → ⊥)
        → (Contains (children_of two) x → ⊥) → u.look x ≡ t.look x
    pub searches : SameSearches t u
    pub clock : SameClock t u

  -- the right node r of the marked node l gets an entry in their parent p, which has room
  pub record IsInstalled (t u : Tree C) (p l r : Handle) : Type 0 where
    pub node : Node C
    pub left : Node C
    pub right : Node C
    pub entries : List (Key × Handle)
    pub body : node.body ≡ Inner entries
    pub room : length entries < NODE_SIZE
    pub index : ℕ
    pub old : Key
    pub entry : slice_get entries index ≡ Some (old, l)
    pub place : left.place ≡ Linked p true
    pub is_right : left.right ≡ Some r
    pub left_key : Key
    pub for_left : IsKeyFor C left.body old left_key
    pub right_key : Key
    pub for_right : IsKeyFor C right.body old right_key
    pub parent_before : t.look p ≡ Some node
    pub left_before : t.look l ≡ Some left
    pub right_before : t.look r ≡ Some right
    pub parent_now : u.look p ≡ Some
        (record node {
          body = Inner
              (slice_set entries index (left_key, l) ++ (right_key, r) ∷ []);
        })
    pub left_now : u.look l ≡ Some (record left { place = Linked p false; seq = t.counter + 1 })
    pub right_now : u.look r ≡ Some (record right { place = Linked p false })
    pub others : (x : Handle) → x ≢ p → x ≢ l → x ≢ r → u.look x ≡ t.look x
    pub searches : SameSearches t u
    pub clock : Ticked t u

  -- Cleaning.

  -- a leaf keeps the pairs that are in Kept, and no others
  pub record IsCleaned (t u : Tree C) (Kept : ℕ × Item → Type 0) (h : Handle) : Type 0 where
    pub node : Node C
    pub pairs : List (ℕ × Item)
    pub body : node.body ≡ Leaf pairs
    pub left : List (ℕ × Item)
    pub kept : Picked Kept pairs left
    pub nodes : OneNode t u h node (record node { body = Leaf left })
    pub searches : SameSearches t u
    pub clock : SameClock t u

  -- an empty unmarked leaf l that is not the only child of its parent p is retired: p loses its
  -- entry
  pub record IsRetired (t u : Tree C) (l p : Handle) : Type 0 where
    pub leaf : Node C
    pub empty : leaf.body ≡ Leaf []
    pub place : leaf.place ≡ Linked p false
    pub node : Node C
    pub entries : List (Key × Handle)
    pub body : node.body ≡ Inner entries
    pub more : 1 < length entries
    pub index : ℕ
    pub key : Key
    pub entry : slice_get entries index ≡ Some (key, l)
    pub leaf_before : t.look l ≡ Some leaf
    pub parent_before : t.look p ≡ Some node
    pub leaf_now : u.look l ≡ Some (record leaf { place = Retired (t.counter + 1) })
    pub parent_now : u.look p ≡ Some (record node { body = Inner (remove entries index) })
    pub others : (x : Handle) → x ≢ l → x ≢ p → u.look x ≡ t.look x
    pub searches : SameSearches t u
    pub clock : Ticked t u

  -- a retired node h is removed; every running search began at its stamp or later
  pub record IsFreed (t u : Tree C) (h : Handle) : Type 0 where
    pub node : Node C
    pub stamp : ℕ
    pub place : node.place ≡ Retired stamp
    pub all_later : (s : ℕ) (search : Search C) → t.searches s ≡ Some search → stamp ≤ search.begun
    pub before : t.look h ≡ Some node
    pub gone : u.look h ≡ None
    pub others : (x : Handle) → x ≢ h → u.look x ≡ t.look x
    pub searches : SameSearches t u
    pub clock : SameClock t u

  -- The first tree.

  -- one empty leaf, the root, and no search
  pub record IsStarted (u : Tree C) : Type 0 where
    pub root_now : u.look u.root
        ≡ Some (record {
          level = 0;
          body = Leaf [];
          seq = u.counter;
          right = None;
          place = Root;
          attached = [];
        })
    pub others : (x : Handle) → x ≢ u.root → u.look x ≡ None
    pub searches : (s : ℕ) → u.searches s ≡ None
