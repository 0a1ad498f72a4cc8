-- What is next for a walk may be done.
use Rattle.std.proofs.Common.{◌≡◌, ◌∙◌, ℕ, ◌<◌, List, length, map, slice_get, slice_index_or, Some, sym, ap, subst, inl, inr, arith}
use Rattle.std.proofs.lemmas.List.{length-map}
use Rattle.std.proofs.lemmas.Option.{get_or_from_slice_get}
use Rattle.std.specs.Option.{option_map}
use Rattle.node_arena.specs.Slots.{value_at}
use Rattle.node_arena.specs.declared.handle.Handle.{Handle}
use Rattle.tree_theory.specs.Changes.{MayTake}
use Rattle.tree_theory.specs.KeyClasses.{Class}
use Rattle.tree_theory.specs.Nodes.{Body, Node, children_of, entries_of, size_of}
use Rattle.tree_theory.specs.Nodes.PlainBody.{Inner}
use Rattle.tree_theory.specs.declared.TheConstants.{NODE_SIZE}
use Rattle.tree_theory.specs.declared.position.Position.TheVariants.{Linked, Root}
use Rattle.search_tree.specs.Advances.{IsHeldBy}
use Rattle.search_tree.specs.Cases.{Change, IsAtLeaf, IsFree, IsWayDown, MakesRoom, Wants}
use Rattle.search_tree.specs.Nexts.{ComesTo, IsChange, LooksFrom}
use Rattle.tree_nodes.specs.Penalties.{IsBest}
use Rattle.tree_nodes.specs.Standings.{IsHere, IsUnlinked}
use Rattle.search_tree.specs.Trees.{PlainTree, IsSound, seen, tree_of}
use Rattle.tree_nodes.specs.Bodies.{IsInner, IsLeaf}
use Rattle.search_tree.specs.Walks.{IsHolder, MayDescend, MayPlace, NoneHolds}
use Rattle.search_tree.specs.declared.rooms.Room.{Room}
use Rattle.search_tree.specs.declared.rooms.Room.TheVariants.{Behind}
use Rattle.search_tree.proofs.CaseLemmas.{looks_left, looks_lower}
use Rattle.search_tree.proofs.DescentLemmas.{known}
use Rattle.tree_nodes.proofs.ListEnds.{both_at, filled, get_some, some_one}

module _ {Key Query Item : Type 0} (C : Class Key Query Item) (t : PlainTree Key Query Item) (sound : IsSound C t) where
  -- a node may take the item's key if it is the root or its entry covers the key
  pub here_takes : (at : Handle) (key : Key) → IsHere C t.nodes at key → (node : Node C) → value_at t.nodes at ≡ Some node → MayTake (tree_of C t) at node key
  here_takes at key here node is =
      let same : here.node ≡ node = some_one here.is is in
      elim here.stands [
        | inl root ↦ inl (subst (λ (n : Node C). n.place ≡ Root) same root)
        | inr above ↦
            inr
            (record {
              parent = above.0;
              marked = above.1;
              place = subst (λ (n : Node C). n.place ≡ Linked above.0 above.1) same above.2;
              parent_node = above.3.node;
              is = above.3.is;
              entry_key = above.3.entry_key;
              entry = above.3.entry;
              covers = above.3.covers;
            })
      ]

  pub may_descend : (at : Handle) (key : Key) → IsHere C t.nodes at key → (node : Node C) → value_at t.nodes at ≡ Some node → IsInner node.body → (place : ℕ) (child : Handle) → slice_get (children_of node.body) place ≡ Some child → (keys : List Key) (old : Key) → keys ≡ map (λ (entry : Key × Handle). entry.0) (entries_of node.body) → old ≡ slice_index_or keys place old → MayDescend C t (record { parent = at; place = place; key = old; child = child }) key
  may_descend at key here node is inner place child named keys old keys_are read =
      let both = both_at inner.0 place child (subst (λ (b : Body C). slice_get (children_of b) place ≡ Some child) inner.1 named) in
      let listed : keys ≡ map (λ (entry : Key × Handle). entry.0) inner.0 = keys_are ∙ ap (λ (b : Body C). map (λ (entry : Key × Handle). entry.0) (entries_of b)) inner.1 in
      let first : both.first ≡ old = sym (get_or_from_slice_get (map (λ (entry : Key × Handle). entry.0) inner.0) place both.first old both.first_is) ∙ sym (subst (λ (ks : List Key). old ≡ slice_index_or ks place old) listed read) in
      record {
        node = node;
        is = is;
        entries = inner.0;
        body = inner.1;
        entry = subst (λ (k : Key). slice_get inner.0 place ≡ Some (k, child)) first both.is;
        may_take = here_takes at key here node is;
      }

  -- the entry at a key's index
  pub may_go_down : (at : Handle) (key : Key) → IsHere C t.nodes at key → (node : Node C) → value_at t.nodes at ≡ Some node → IsInner node.body → (keys : List Key) (children : List Handle) (place : ℕ) (old : Key) (none : Handle) → keys ≡ map (λ (entry : Key × Handle). entry.0) (entries_of node.body) → children ≡ children_of node.body → place < length keys → old ≡ slice_index_or keys place old → MayDescend C t (record { parent = at; place = place; key = old; child = slice_index_or children place none }) key
  may_go_down at key here node is inner keys children place old none keys_are children_are within read =
      let first : length keys ≡ length (entries_of node.body) = ap length keys_are ∙ length-map (entries_of node.body) (λ (entry : Key × Handle). entry.0) in
      let second : length children ≡ length (entries_of node.body) = ap length children_are ∙ length-map (entries_of node.body) (λ (entry : Key × Handle). entry.1) in
      let inside : place < length children = omega (arith, first, second, within) in
      may_descend at key here node is inner place (slice_index_or children place none) (subst (λ (l : List Handle). slice_get l place ≡ Some (slice_index_or children place none)) children_are (get_some children place none inside)) keys old keys_are read

  -- callers see the search that holds a pair back
  pub held_by : (attached : List ℕ) (item : Item) (number : ℕ) → IsHolder C t.running attached item number → IsHeldBy C t item number
  held_by attached item number holder =
      let there = known C t sound number holder.search holder.runs in
      record {
        seen = seen there.search;
        runs = ap (option_map seen) there.is;
        matches = subst (λ q. C.Matches item q) (sym there.query) holder.matches;
      }

  -- an inner node has a key
  pub has_keys : (at : Handle) (node : Node C) → value_at t.nodes at ≡ Some node → IsInner node.body → (keys : List Key) → keys ≡ map (λ (entry : Key × Handle). entry.0) (entries_of node.body) → 0 < length keys
  has_keys at node is inner keys keys_are =
      let listed : keys ≡ map (λ (entry : Key × Handle). entry.0) inner.0 = keys_are ∙ ap (λ (b : Body C). map (λ (entry : Key × Handle). entry.0) (entries_of b)) inner.1 in
      let same : length keys ≡ length inner.0 = ap length listed ∙ length-map inner.0 (λ (entry : Key × Handle). entry.0) in
      let some : 0 < length inner.0 = filled inner.0 (λ e. sound.invariant.shape.inner_filled at node is (inner.1 ∙ ap (λ (es : List (Key × Handle)). Inner es) e)) in
      omega (arith, same, some)

  pub inner_at : (at : Handle) (node : Node C) → value_at t.nodes at ≡ Some node → (n : Node C) × (value_at t.nodes at ≡ Some n) × IsInner n.body → IsInner node.body
  inner_at at node is known_inner = subst (λ (n : Node C). IsInner n.body) (some_one known_inner.1 is) known_inner.2

  -- the entry of least penalties
  pub is_way_down : (growth second_growth : Key → Key → ℕ) (at : Handle) (key : Key) → IsHere C t.nodes at key → (node : Node C) → value_at t.nodes at ≡ Some node → (place : ℕ) (old : Key) (child : Handle) → MayDescend C t (record { parent = at; place = place; key = old; child = child }) key → (keys : List Key) → keys ≡ map (λ (entry : Key × Handle). entry.0) (entries_of node.body) → IsBest growth second_growth keys key place → IsWayDown C t growth second_growth at key child old
  is_way_down growth second_growth at key here node is place old child may keys keys_are best =
      let body : node.body ≡ Inner may.entries = ap (λ (n : Node C). n.body) (some_one is may.is) ∙ may.body in
      record {
        here = here;
        node = may.node;
        is = may.is;
        entries = may.entries;
        body = may.body;
        place = place;
        entry = may.entry;
        best = subst (λ (ks : List Key). IsBest growth second_growth ks key place) (keys_are ∙ ap (λ (b : Body C). map (λ (entry : Key × Handle). entry.0) (entries_of b)) body) best;
      }

  -- the leaf where the walk is
  pub at_leaf : (at : Handle) (item : Item) (node : Node C) → value_at t.nodes at ≡ Some node → (leaf : Node C) × IsAtLeaf C t at item leaf → IsAtLeaf C t at item node
  at_leaf at item node is there = subst (λ (n : Node C). IsAtLeaf C t at item n) (some_one there.1.is is) there.1

  pub leaf_here : (at : Handle) (item : Item) (node : Node C) → value_at t.nodes at ≡ Some node → IsHere C t.nodes at (C.key_of item) → IsLeaf node.body → (leaf : Node C) × IsAtLeaf C t at item leaf
  leaf_here at item node is here body = (node, record { here = here; is = is; body = body })

  pub held_here : (at : Handle) (item : Item) (node : Node C) → value_at t.nodes at ≡ Some node → (leaf : Node C) × IsAtLeaf C t at item leaf → (numbers : List ℕ) → numbers ≡ node.attached → (number : ℕ) → IsHolder C t.running numbers item number → (leaf : Node C) × IsAtLeaf C t at item leaf × IsHolder C t.running leaf.attached item number
  held_here at item node is there numbers are number holder = (node, at_leaf at item node is there, subst (λ ns. IsHolder C t.running ns item number) are holder)

  pub free_here : (at : Handle) (item : Item) (node : Node C) → value_at t.nodes at ≡ Some node → (leaf : Node C) × IsAtLeaf C t at item leaf → (numbers : List ℕ) → numbers ≡ node.attached → NoneHolds C t.running numbers item → IsFree C t at item node
  free_here at item node is there numbers are none = record { at_leaf = at_leaf at item node is there; free = subst (λ ns. NoneHolds C t.running ns item) are none }

  -- a leaf that may take the pair
  pub may_place : (at : Handle) (item : Item) (leaf : Node C) → IsFree C t at item leaf → size_of leaf.body < NODE_SIZE → (key : ℕ) → MayPlace C t at (key, item)
  may_place at item leaf free room key =
      record {
        node = leaf;
        is = free.at_leaf.is;
        pairs = free.at_leaf.body.0;
        body = free.at_leaf.body.1;
        room = subst (λ (b : Body C). size_of b < NODE_SIZE) free.at_leaf.body.1 room;
        may_take = here_takes at (C.key_of item) free.at_leaf.here leaf free.at_leaf.is;
        none_matches = free.free;
      }

  -- the change for a right node without an entry
  pub waits_behind : (at left : Handle) (item : Item) (room : Room Key) → IsUnlinked t.nodes at left → ((change : Change) → ComesTo C t room change → ComesTo C t (Behind left) change) → (LooksFrom C t 0 (Behind left) → IsChange room) → IsChange room × ((change : Change) → ComesTo C t room change → Wants C t at item change)
  waits_behind at left item room unlinked first last =
      (last (looks_lower C t 0 unlinked.node.level (Behind left) (omega arith) (looks_left C t sound at left unlinked.node unlinked.is unlinked.place)), λ change comes. inl (left, unlinked, first change comes))

  -- the change for a full leaf
  pub waits_at : (at : Handle) (item : Item) (leaf : Node C) (wanted room : Room Key) → IsFree C t at item leaf → size_of leaf.body ≡ NODE_SIZE
      → ((change : Change) → ComesTo C t wanted change → (n : Node C) × (value_at t.nodes at ≡ Some n) × (size_of n.body ≡ NODE_SIZE) × MakesRoom C t at n.place change)
      → ((n : Node C) → value_at t.nodes at ≡ Some n → size_of n.body ≡ NODE_SIZE → LooksFrom C t n.level wanted)
      → ((change : Change) → ComesTo C t room change → ComesTo C t wanted change) → (LooksFrom C t 0 wanted → IsChange room)
      → IsChange room × ((change : Change) → ComesTo C t room change → Wants C t at item change)
  waits_at at item leaf wanted room free full found looks first last =
      (last (looks_lower C t 0 leaf.level wanted (omega arith) (looks leaf free.at_leaf.is full)), wants)
    where
      wants : (change : Change) → ComesTo C t room change → Wants C t at item change
      wants change comes =
          let here = found change (first change comes) in
          inr (leaf, free, full, subst (λ (n : Node C). MakesRoom C t at n.place change) (some_one here.1 free.at_leaf.is) here.3)

  -- what is next at a leaf where no search holds the item back
  module _ (at : Handle) (item : Item) (node : Node C) (is : value_at t.nodes at ≡ Some node) (there : (leaf : Node C) × IsFree C t at item leaf) where
    here_free : IsFree C t at item node
    here_free = subst (λ (n : Node C). IsFree C t at item n) (some_one there.1.at_leaf.is is) there.1

    pub place_may : size_of node.body < NODE_SIZE → (key : ℕ) → MayPlace C t at (key, item)
    place_may room key = may_place at item node here_free room key

    pub place_next : size_of node.body < NODE_SIZE → (leaf : Node C) × IsFree C t at item leaf × (size_of leaf.body < NODE_SIZE)
    place_next room = (node, here_free, room)

    pub wait_next : (wanted room : Room Key) → size_of node.body ≡ NODE_SIZE
        → ((change : Change) → ComesTo C t wanted change → (n : Node C) × (value_at t.nodes at ≡ Some n) × (size_of n.body ≡ NODE_SIZE) × MakesRoom C t at n.place change)
        → ((n : Node C) → value_at t.nodes at ≡ Some n → size_of n.body ≡ NODE_SIZE → LooksFrom C t n.level wanted)
        → ((change : Change) → ComesTo C t room change → ComesTo C t wanted change) → (LooksFrom C t 0 wanted → IsChange room)
        → IsChange room × ((change : Change) → ComesTo C t room change → Wants C t at item change)
    wait_next wanted room full found looks first last = waits_at at item node wanted room here_free full found looks first last
