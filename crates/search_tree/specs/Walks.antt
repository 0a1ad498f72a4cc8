-- What a step of a walk needs, and what it leaves.
use Rattle.std.specs.Prelude.{◌≡◌, ◌≢◌, ◌⊎◌, ◌++◌, ◌∷◌, ◌<◌, ℕ, List, [], Contains, Some, filter, length, slice_get}
use Rattle.node_arena.specs.Slots.{Slots, value_at}
use Rattle.node_arena.specs.declared.handle.Handle.{Handle}
use Rattle.predicate_locks.specs.Numbers.{with_numbers}
use Rattle.predicate_locks.specs.Searches.{Searches, does_run, search_at}
use Rattle.predicate_locks.specs.declared.running.RunningSearch.{RunningSearch}
use Rattle.tree_theory.specs.Changes.{IsEnlarged, MayTake, MayJoin, Numbers}
use Rattle.tree_theory.specs.Contents.{IsContents}
use Rattle.tree_theory.specs.KeyClasses.{Class}
use Rattle.tree_theory.specs.Nodes.{Node, entries_of}
use Rattle.tree_theory.specs.Nodes.PlainBody.{Leaf, Inner}
use Rattle.tree_theory.specs.Walks.{Done}
use Rattle.tree_theory.specs.declared.TheConstants.{NODE_SIZE}
use Rattle.tree_nodes.specs.Arenas.{IsChanged}
use Rattle.search_tree.specs.Calls.{IsAlike, SameCounts}
use Rattle.search_tree.specs.Trees.{PlainTree, search_in, steps_in, tree_of}
use Rattle.search_tree.specs.declared.descents.WayDown.{WayDown}
use Rattle.tree_nodes.specs.Descents.{IsNotLed, AreLed, marked_right}

module _ {Key Query Item : Type 0} (C : Class Key Query Item) (s : Searches Query)
    (attached : List ℕ) (item : Item) where
  -- the running search of the least number that is attached and looks for the item
  pub record IsHolder (number : ℕ) : Type 0 where
    pub search : RunningSearch Query
    pub runs : search_at s number ≡ Some search
    pub is_attached : Contains attached number
    pub matches : C.Matches item search.query
    pub least : (other : ℕ) (smaller : RunningSearch Query) → other < number
        → search_at s other ≡ Some smaller → Contains attached other → C.Matches item smaller.query
        → ⊥

  -- no running search that is attached looks for the item
  abbrev pub NoneHolds : Type 0
  NoneHolds = (number : ℕ) (search : RunningSearch Query) → search_at s number ≡ Some search
      → Contains attached number → C.Matches item search.query → ⊥

module _ {Key Query Item : Type 0} (C : Class Key Query Item) (t : PlainTree Key Query Item) where
  -- a leaf with room that may take the pair: it is the root, or its entry covers the item, and no
  -- search that is done with the leaf looks for the item
  pub record MayPlace (at : Handle) (pair : ℕ × Item) : Type 0 where
    pub node : Node C
    pub is : value_at t.nodes at ≡ Some node
    pub pairs : List (ℕ × Item)
    pub body : node.body ≡ Leaf pairs
    pub room : length pairs < NODE_SIZE
    pub may_take : MayTake (tree_of C t) at node (C.key_of pair.1)
    pub none_matches : (s : ℕ) (run : RunningSearch Query) → search_at t.running s ≡ Some run
        → Contains node.attached s → C.Matches pair.1 run.query → ⊥

  -- the contents have the pair once more; nothing else changes
  pub record HasPlaced (u : PlainTree Key Query Item) (pair : ℕ × Item) : Type 0 where
    pub contents : (xs : List (ℕ × Item)) → IsContents (tree_of C t) xs
        → IsContents (tree_of C u) (xs ++ pair ∷ [])
    pub searches : (search : ℕ) → search_in u search ≡ search_in t search
    pub steps : (search : ℕ) → steps_in u search ≡ steps_in t search
    pub running : u.running ≡ t.running
    pub counts : SameCounts C t u

  -- searches that have nothing to look for in a node may be attached to it
  pub record MayJoinAll (at : Handle) (searches : List ℕ) : Type 0 where
    pub node : Node C
    pub is : value_at t.nodes at ≡ Some node
    pub each : (s : ℕ) → Contains searches s → MayJoin (tree_of C t) at node s

  -- these searches are attached to the node too, and those that do not run are removed; no other
  -- node changes
  pub record HasJoined (u : PlainTree Key Query Item) (at : Handle) (searches : List ℕ) : Type 0
    where
      pub only_nodes : u ≡ record t { nodes = u.nodes }
      pub changed : IsChanged t.nodes u.nodes at
          (λ n. record n {
            attached = filter (does_run t.running)
                (with_numbers searches n.attached);
          })
      pub alike : IsAlike C t u

  -- Some of these searches are attached to a node, and each running search that was attached still
  -- is. Nothing else of the node changes.
  pub record HasMore (searches : List ℕ) (old new : Node C) : Type 0 where
    pub same : new ≡ record old { attached = new.attached }
    pub numbers : Numbers (tree_of C t) (λ s. Contains searches s) old.attached new.attached

  -- in each node, some of these searches are attached
  pub record MoreAttached (searches : List ℕ) (new : Slots (Node C)) : Type 0 where
    pub forth : (h : Handle) (node : Node C) → value_at t.nodes h ≡ Some node → (now : Node C)
        × (value_at new h ≡ Some now) × HasMore searches node now

  -- an entry of p may take a key: it becomes the union
  pub record MayEnlarge (p : Handle) (place : ℕ) (old key : Key) (child : Handle) : Type 0 where
    pub node : Node C
    pub is : value_at t.nodes p ≡ Some node
    pub entries : List (Key × Handle)
    pub body : node.body ≡ Inner entries
    pub entry : slice_get entries place ≡ Some (old, child)
    pub may_take : MayTake (tree_of C t) p node key
    pub seen : (s : ℕ) (run : RunningSearch Query) → search_at t.running s ≡ Some run
        → Contains node.attached s → C.Consistent (C.united old key) run.query
        → C.Consistent old run.query
        ⊎ ((below : Node C) × (value_at t.nodes child ≡ Some below) × Contains below.attached s)

  -- an entry of an inner node, which may take in the item's key
  pub record MayDescend (way : WayDown Key) (key : Key) : Type 0 where
    pub node : Node C
    pub is : value_at t.nodes way.parent ≡ Some node
    pub entries : List (Key × Handle)
    pub body : node.body ≡ Inner entries
    pub entry : slice_get entries way.place ≡ Some (way.key, way.child)
    pub may_take : MayTake (tree_of C t) way.parent node key

  -- the key of the child's entry leads none of these searches on
  pub record MayJoinBelow (child : Handle) (searches : List ℕ) : Type 0 where
    pub parent : Handle
    pub node : Node C
    pub is : value_at t.nodes parent ≡ Some node
    pub key : Key
    pub entry : Contains (entries_of node.body) (key, child)
    pub each : (s : ℕ) → Contains searches s → IsNotLed C t.running key s

  -- The searches are attached to the child, and to its right node where the child is marked.
  -- Nothing else of these two nodes changes, and no other node.
  pub record HasJoinedBelow (u : PlainTree Key Query Item) (child : Handle)
      (searches : List ℕ) : Type 0 where
    pub only_nodes : u ≡ record t { nodes = u.nodes }
    pub more : MoreAttached searches u.nodes
    pub done : (s : ℕ) → Contains searches s → Done (tree_of C u) s child
    pub alike : IsAlike C t u
    pub beside : (right : Handle) → marked_right (value_at t.nodes child) ≡ Some right → (s : ℕ)
        → Contains searches s → Done (tree_of C u) s right
    pub others : (h : Handle) → h ≢ child → marked_right (value_at t.nodes child) ≢ Some h
        → value_at u.nodes h ≡ value_at t.nodes h

  -- the entry of p with this key and child has the union of its key with another one
  pub record HasEnlarged (u : PlainTree Key Query Item) (p : Handle) (old key : Key)
      (child : Handle) : Type 0 where
    pub step : IsEnlarged (tree_of C t) (tree_of C u) p key
    pub old_is : step.old ≡ old
    pub child_is : step.child ≡ child

-- The searches that are done with the node and that only the entry's wider key leads on are
-- attached to the child, and to its right node where the child is marked. Then the entry has the
-- union of its key with the item's.
pub record HasDescended {Key Query Item : Type 0} (C : Class Key Query Item)
    (t u : PlainTree Key Query Item) (at child : Handle) (old key : Key) : Type 0 where
  pub node : Node C
  pub is : value_at t.nodes at ≡ Some node
  pub led : List ℕ
  pub are_led : AreLed C t.running old (C.united old key) node.attached led
  pub mid : PlainTree Key Query Item
  pub joined : HasJoinedBelow C t mid child led
  pub enlarged : HasEnlarged C mid u at old key child
