-- What a split and the growth of the root need, and what they leave.
use Rattle.std.specs.Prelude.{◌≡◌, ◌≢◌, ℕ, ◌+◌, ◌<◌, ◌≤◌, false, List, [], ◌∷◌, Contains, None, Some, IsSome}
use Rattle.std.specs.Option.{option_map}
use Rattle.node_arena.specs.Slots.{Slots, value_at}
use Rattle.node_arena.specs.declared.handle.Handle.{Handle}
use Rattle.tree_nodes.specs.Arenas.{IsChanged}
use Rattle.search_tree.specs.Calls.{SameContents}
use Rattle.tree_nodes.specs.Halvings.{IsPickedOut}
use Rattle.search_tree.specs.Trees.{PlainTree, search_in, steps_in, root_level}
use Rattle.tree_theory.specs.Changes.{IsHalved, IsUnion}
use Rattle.tree_theory.specs.KeyClasses.{Class}
use Rattle.tree_theory.specs.Nodes.{PlainBody, PlainNode, Body, Node, children_of, size_of, under}
use Rattle.tree_theory.specs.Nodes.PlainBody.{Inner}
use Rattle.tree_theory.specs.declared.TheConstants.{NODE_SIZE, TOP_LEVEL}
use Rattle.tree_theory.specs.declared.position.Position.TheVariants.{Root, Linked}
use Rattle.tree_nodes.specs.NewNodes.{right_of, left_of, below, IsPutOver, MoreTaken}

module _ {Key Item : Type 0} where
  -- a full node that is linked and not marked
  pub record IsFullLinked (nodes : Slots (PlainNode Key Item)) (at : Handle) : Type 0 where
    pub node : PlainNode Key Item
    pub is : value_at nodes at ≡ Some node
    pub parent : Handle
    pub linked : node.place ≡ Linked parent false
    pub full : size_of node.body ≡ NODE_SIZE

  -- a full root, whose children are all in the arena
  pub record IsFullRoot (nodes : Slots (PlainNode Key Item)) (root : Handle) : Type 0 where
    pub node : PlainNode Key Item
    pub is : value_at nodes root ≡ Some node
    pub place : node.place ≡ Root
    pub full : size_of node.body ≡ NODE_SIZE
    pub low : node.level ≤ TOP_LEVEL
    pub children : (child : Handle) → Contains (children_of node.body) child
        → IsSome (value_at nodes child)

  -- a node below the highest level
  pub record MayRise (nodes : Slots (PlainNode Key Item)) (at : Handle) : Type 0 where
    pub node : PlainNode Key Item
    pub is : value_at nodes at ≡ Some node
    pub below_top : node.level < TOP_LEVEL

  -- A full node has split. It is marked. Its new right node has the part that the class picks, and
  -- the node has the other part.
  pub record HasSplit (key_of : Item → Key) (picks : List Key → ℕ
      → Type 0) (old new : Slots (PlainNode Key Item)) (at right : Handle) : Type 0 where
    pub node : PlainNode Key Item
    pub is : value_at old at ≡ Some node
    pub parent : Handle
    pub linked : node.place ≡ Linked parent false
    pub kept : PlainBody Key Item
    pub moved : PlainBody Key Item
    pub halves : IsHalved node.body kept moved
    pub picked : IsPickedOut key_of picks node.body kept moved
    pub fresh : value_at old right ≡ None
    pub left_now : value_at new at ≡ Some (left_of node parent right kept)
    pub right_now : value_at new right ≡ Some (right_of node at moved)
    pub children : (h : Handle) → h ≢ at → h ≢ right → Contains (children_of moved) h
        → value_at new h ≡ option_map (under right) (value_at old h)
    pub others : (h : Handle) → h ≢ at → h ≢ right → (Contains (children_of moved) h → ⊥)
        → value_at new h ≡ value_at old h
    pub more : MoreTaken old new 1

-- a node over these children, with this key for its entry
pub record IsLower {Key Query Item : Type 0} (C : Class Key Query Item) (made : Node C)
    (node : Node C) (children : List Handle) (key : Key) : Type 0 where
  pub is : node ≡ made
  pub children_are : children ≡ children_of made.body
  pub union : IsUnion C made.body key

-- two new nodes are over their children, and the node at the root has entries for them, one level
-- higher
pub record HasPutBelow {Key Item : Type 0} (old new : Slots (PlainNode Key Item)) (root : Handle)
    (one : PlainNode Key Item) (one_children : List Handle) (one_key : Key)
    (two : PlainNode Key Item) (two_children : List Handle) (two_key : Key) : Type 0 where
  pub a : Handle
  pub b : Handle
  pub mid : Slots (PlainNode Key Item)
  pub last : Slots (PlainNode Key Item)
  pub put_one : IsPutOver old mid one one_children a
  pub put_two : IsPutOver mid last two two_children b
  pub risen : IsChanged last new root (λ node. record node {
    level = node.level + 1;
    body = Inner ((one_key, a) ∷ (two_key, b) ∷ []);
  })
  pub more : MoreTaken old new 2

-- The root has grown: two new nodes have its contents, the second one the part that the class
-- picks. The root has their entries, in this order, and is one level higher.
pub record HasGrown {Key Query Item : Type 0} (C : Class Key Query Item) (picks : List Key → ℕ
    → Type 0) (old new : Slots (Node C)) (root : Handle) (seq : ℕ) : Type 0 where
  pub node : Node C
  pub is : value_at old root ≡ Some node
  pub place : node.place ≡ Root
  pub low : node.level < TOP_LEVEL
  pub a : Handle
  pub b : Handle
  pub one : Body C
  pub two : Body C
  pub halves : IsHalved node.body one two
  pub picked : IsPickedOut C.key_of picks node.body one two
  pub one_key : Key
  pub one_union : IsUnion C one one_key
  pub two_key : Key
  pub two_union : IsUnion C two two_key
  pub differ : a ≢ b
  pub fresh_one : value_at old a ≡ None
  pub fresh_two : value_at old b ≡ None
  pub root_now : value_at new root
      ≡ Some (record node {
        level = node.level + 1;
        body = Inner ((one_key, a) ∷ (two_key, b) ∷ []);
      })
  pub one_now : value_at new a ≡ Some (below node root seq one)
  pub two_now : value_at new b ≡ Some (below node root seq two)
  pub one_children : (h : Handle) → h ≢ root → h ≢ a → h ≢ b → Contains (children_of one) h
      → (Contains (children_of two) h → ⊥) → value_at new h ≡ option_map (under a) (value_at old h)
  pub two_children : (h : Handle) → h ≢ root → h ≢ a → h ≢ b → Contains (children_of two) h
      → (Contains (children_of one) h → ⊥) → value_at new h ≡ option_map (under b) (value_at old h)
  pub others : (h : Handle) → h ≢ root → h ≢ a → h ≢ b → (Contains (children_of one) h → ⊥)
      → (Contains (children_of two) h → ⊥) → value_at new h ≡ value_at old h
  pub more : MoreTaken old new 2

module _ {Key Query Item : Type 0} (C : Class Key Query Item) (t : PlainTree Key Query Item) where
  -- a full node that is linked and not marked may split
  abbrev pub MaySplit : Handle → Type 0
  MaySplit at = IsFullLinked t.nodes at

  -- the full root may grow
  pub record MayGrow : Type 0 where
    pub node : Node C
    pub is : value_at t.nodes t.root ≡ Some node
    pub full : size_of node.body ≡ NODE_SIZE

  -- `nodes` more slots are taken, and the root is `levels` higher. Contents, searches and the other
  -- counts are unchanged, and only the nodes differ.
  pub record HasMoreNodes (u : PlainTree Key Query Item) (nodes levels : ℕ) : Type 0 where
    pub nodes_alone : u ≡ record t { nodes = u.nodes }
    pub contents : SameContents C t u
    pub searches : (search : ℕ) → search_in u search ≡ search_in t search
    pub steps : (search : ℕ) → steps_in u search ≡ steps_in t search
    pub running : u.running ≡ t.running
    pub limit : u.limit ≡ t.limit
    pub counter : u.counter ≡ t.counter
    pub level : root_level u ≡ root_level t + levels
    pub more : MoreTaken t.nodes u.nodes nodes
