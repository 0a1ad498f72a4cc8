-- The search tree as plain data: nodes, searches, and the map from handles to nodes.
use Rattle.std.specs.Prelude.{ℕ, Bool, false, ◌||◌, nat_lt, List, [], ◌∷◌, ◌++◌, map, length, Option, Some, None, if◌then◌else◌}
use Rattle.node_arena.specs.declared.handle.Handle.{Handle}
use Rattle.tree_theory.specs.KeyClasses.{Class}
use Rattle.tree_theory.specs.declared.position.Position.{Position}
use Rattle.tree_theory.specs.declared.position.Position.TheVariants.{Root, Linked, Unlinked, Retired}

-- a marked node has a right node that no entry names yet
abbrev pub is_marked : Position → Bool
is_marked Root = false
is_marked (Linked parent marked) = marked
is_marked (Unlinked left) = false
is_marked (Retired stamp) = false

-- A search with this memo follows the rightlink of a node at this place with this number: what it
-- looks for may have moved to the right since.
abbrev pub is_followed : Position → ℕ → ℕ → Bool
is_followed place seq memo = is_marked place || nat_lt memo seq

-- the place with this parent if it is linked; any other place is the same
abbrev pub place_under : Handle → Position → Position
place_under parent Root = Root
place_under parent (Linked other marked) = Linked parent marked
place_under parent (Unlinked left) = Unlinked left
place_under parent (Retired stamp) = Retired stamp

-- the right node with this memo, if there is one
abbrev pub onward : Option Handle → ℕ → List (Handle × ℕ)
onward None memo = []
onward (Some right) memo = (right, memo) ∷ []

-- the children of these entries, with the counter as memo
abbrev pub pushed : {Key : Type 0} → ℕ → List (Key × Handle) → List (Handle × ℕ)
pushed counter entries = map (λ entry. (entry.1, counter)) entries

module _ (Key Item : Type 0) where
  -- a leaf has pairs of a number and an item, an inner node entries of a key and a child
  pub data PlainBody : Type 0 where
    Leaf : List (ℕ × Item) → PlainBody
    Inner : List (Key × Handle) → PlainBody

  -- `seq` is the node's sequence number and `right` its rightlink; `attached` has, in any order,
  -- the numbers of the searches that are done with the node, since they have seen it or have passed
  -- it over
  pub record PlainNode : Type 0 where
    pub level : ℕ
    pub body : PlainBody
    pub seq : ℕ
    pub right : Option Handle
    pub place : Position
    pub attached : List ℕ

-- a search: its query, the counter when it began, its stack of nodes to visit, each with a memo of
-- the counter, and the pairs that it has found
pub record PlainSearch (Query Item : Type 0) : Type 0 where
  pub query : Query
  pub begun : ℕ
  pub stack : List (Handle × ℕ)
  pub found : List (ℕ × Item)

-- Bodies, nodes and searches have the types of their class as parameters, not the class, so that
-- code can have them as values.
abbrev pub Body : {Key Query Item : Type 0} → Class Key Query Item → Type 0
Body {Key} {Query} {Item} C = PlainBody Key Item

abbrev pub Node : {Key Query Item : Type 0} → Class Key Query Item → Type 0
Node {Key} {Query} {Item} C = PlainNode Key Item

abbrev pub Search : {Key Query Item : Type 0} → Class Key Query Item → Type 0
Search {Key} {Query} {Item} C = PlainSearch Query Item

-- `next` is the number of the next search. A search runs under each number for which `searches` has
-- one.
pub record Tree {Key Query Item : Type 0} (C : Class Key Query Item) : Type 0 where
  pub look : Handle → Option (Node C)
  pub root : Handle
  pub counter : ℕ
  pub next : ℕ
  pub searches : ℕ → Option (Search C)

module _ {Key Item : Type 0} where
  abbrev pub entries_of : PlainBody Key Item → List (Key × Handle)
  entries_of (Leaf pairs) = []
  entries_of (Inner entries) = entries

  abbrev pub pairs_of : PlainBody Key Item → List (ℕ × Item)
  pairs_of (Leaf pairs) = pairs
  pairs_of (Inner entries) = []

  -- the children of an inner node
  abbrev pub children_of : PlainBody Key Item → List Handle
  children_of body = map (λ entry. entry.1) (entries_of body)

  -- how many pairs or entries there are
  abbrev pub size_of : PlainBody Key Item → ℕ
  size_of (Leaf pairs) = length pairs
  size_of (Inner entries) = length entries

  -- the node under another parent
  abbrev pub under : Handle → PlainNode Key Item → PlainNode Key Item
  under parent node = record node { place = place_under parent node.place }

  -- the right node that a visit with this memo follows to, if it does
  abbrev pub followed : PlainNode Key Item → ℕ → List (Handle × ℕ)
  followed node memo = if is_followed node.place node.seq memo then onward node.right memo else []

-- a new search: the root is on its stack
abbrev pub opened : {Key Query Item : Type 0} {C : Class Key Query Item} → Tree C → Query → Search C
opened t query = record {
  query = query;
  begun = t.counter;
  stack = (t.root, t.counter) ∷ [];
  found = [];
}

-- the search after a visit of this node: `rest` is left of its stack, these entries are consistent
-- and these pairs match
abbrev pub visited : {Key Query Item : Type 0} → ℕ → ℕ → PlainNode Key Item → List (Handle × ℕ)
    → List (Key × Handle) → List (ℕ × Item) → PlainSearch Query Item → PlainSearch Query Item
visited counter memo node rest entries pairs search =
    record search {
      stack = rest ++ followed node memo ++ pushed counter entries;
      found = search.found ++ pairs;
    }
