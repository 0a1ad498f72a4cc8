-- What tending finds at nodes is what its steps need.
use Rattle.std.proofs.Common.{◌≡◌, ℕ, ◌<◌, true, false, List, [], ◌∷◌, length, map, slice_get, slice_index_or, Option, None, Some, refl, sym, subst, ◌∙◌}
use Rattle.std.proofs.lemmas.Option.{get_or_from_slice_get}
use Rattle.node_arena.specs.Slots.{value_at}
use Rattle.node_arena.specs.declared.handle.Handle.{Handle}
use Rattle.predicate_locks.specs.Searches.{AllBegunSince}
use Rattle.tree_nodes.proofs.ListEnds.{both_at}
use Rattle.search_tree.specs.Needs.{stamp_at, stamp_in}
use Rattle.search_tree.specs.Tends.{MayClean, MayFree, MayInstall, MayRetire}
use Rattle.search_tree.specs.Trees.{PlainTree, IsSound}
use Rattle.tree_nodes.specs.Bodies.{IsInner, IsLeaf}
use Rattle.tree_theory.specs.Changes.{IsKeyFor}
use Rattle.tree_theory.specs.KeyClasses.{Class}
use Rattle.tree_theory.specs.Nodes.{Body, Node, PlainNode, children_of, entries_of, size_of}
use Rattle.tree_theory.specs.Nodes.PlainBody.{Leaf}
use Rattle.tree_theory.specs.declared.TheConstants.{NODE_SIZE}
use Rattle.tree_theory.specs.declared.position.Position.{Position}
use Rattle.tree_theory.specs.declared.position.Position.TheVariants.{Root, Linked, Unlinked, Retired}

retired_place : (place : Position) (stamp : ℕ) → stamp_in place ≡ Some stamp → place ≡ Retired stamp
retired_place Root stamp e = absurd (cc (e))
retired_place (Linked parent marked) stamp e = absurd (cc (e))
retired_place (Unlinked left) stamp e = absurd (cc (e))
retired_place (Retired s) stamp e = cc (e)

pub at_rest : {Key Item : Type 0} (o : Option (PlainNode Key Item)) (stamp : ℕ) → stamp_at o ≡ Some stamp → (node : PlainNode Key Item) × (o ≡ Some node) × (node.place ≡ Retired stamp)
at_rest None stamp e = absurd (cc (e))
at_rest (Some node) stamp e = (node, refl, retired_place node.place stamp e)

module _ {Key Query Item : Type 0} (C : Class Key Query Item) (t : PlainTree Key Query Item) (sound : IsSound C t) where
  pub may_free : (at : Handle) (stamp : ℕ) → stamp_at (value_at t.nodes at) ≡ Some stamp → AllBegunSince t.running stamp → MayFree C t at
  may_free at stamp is all_later = let rest = at_rest (value_at t.nodes at) stamp is in record { node = rest.0; is = rest.1; stamp = stamp; place = rest.2; all_later = all_later }

  pub may_clean : (at : Handle) (node : Node C) → value_at t.nodes at ≡ Some node → IsLeaf node.body → MayClean C t at
  may_clean at node is leaf = record { node = node; is = is; pairs = leaf.0; body = leaf.1 }

  pub no_pairs : (body : Body C) → IsLeaf body → size_of body ≡ 0 → body ≡ Leaf []
  no_pairs body leaf none = leaf.1 ∙ empty leaf.0 (subst (λ (b : Body C). size_of b ≡ 0) leaf.1 none)
    where
      empty : (pairs : List (ℕ × Item)) → length pairs ≡ 0 → ◌≡◌ {A = Body C} (Leaf pairs) (Leaf [])
      empty [] e = refl
      empty (p ∷ ps) e = absurd (cc (e))

  pub may_retire : (at parent : Handle) (place : ℕ) (leaf node : Node C) → value_at t.nodes at ≡ Some leaf → IsLeaf leaf.body → size_of leaf.body ≡ 0 → leaf.place ≡ Linked parent false → value_at t.nodes parent ≡ Some node → IsInner node.body → 1 < size_of node.body → slice_get (children_of node.body) place ≡ Some at → MayRetire C t at parent place
  may_retire at parent place leaf node leaf_is is_leaf none linked is inner more child =
      let both = both_at inner.0 place at (subst (λ (b : Body C). slice_get (children_of b) place ≡ Some at) inner.1 child) in
      record {
        leaf = leaf;
        leaf_is = leaf_is;
        empty = no_pairs leaf.body is_leaf none;
        linked = linked;
        node = node;
        is = is;
        entries = inner.0;
        body = inner.1;
        more = subst (λ (b : Body C). 1 < size_of b) inner.1 more;
        key = both.first;
        entry = both.is;
      }

  pub may_install : (at parent beside : Handle) (place : ℕ) (left node right : Node C) → value_at t.nodes at ≡ Some left → left.place ≡ Linked parent true → value_at t.nodes parent ≡ Some node → IsInner node.body → size_of node.body < NODE_SIZE → slice_get (children_of node.body) place ≡ Some at → left.right ≡ Some beside → value_at t.nodes beside ≡ Some right → (keys : List Key) (old left_key right_key : Key) → keys ≡ map (λ (entry : Key × Handle). entry.0) (entries_of node.body) → old ≡ slice_index_or keys place old → IsKeyFor C left.body old left_key → IsKeyFor C right.body old right_key → MayInstall C t (record { parent = parent; place = place; left = at; left_key = left_key; right = beside; right_key = right_key })
  may_install at parent beside place left node right left_is linked is inner room child is_right right_is keys old left_key right_key keys_are read for_left for_right =
      let both = both_at inner.0 place at (subst (λ (b : Body C). slice_get (children_of b) place ≡ Some at) inner.1 child) in
      let listed : keys ≡ map (λ (entry : Key × Handle). entry.0) inner.0 = keys_are ∙ subst (λ (b : Body C). map (λ (entry : Key × Handle). entry.0) (entries_of node.body) ≡ map (λ (entry : Key × Handle). entry.0) (entries_of b)) inner.1 refl in
      let first : both.first ≡ old = sym (get_or_from_slice_get (map (λ (entry : Key × Handle). entry.0) inner.0) place both.first old both.first_is) ∙ sym (subst (λ (ks : List Key). old ≡ slice_index_or ks place old) listed read) in
      record {
        node = node;
        is = is;
        entries = inner.0;
        body = inner.1;
        room = subst (λ (b : Body C). size_of b < NODE_SIZE) inner.1 room;
        old = old;
        entry = subst (λ (k : Key). slice_get inner.0 place ≡ Some (k, at)) first both.is;
        left = left;
        left_is = left_is;
        linked = linked;
        is_right = is_right;
        right = right;
        right_is = right_is;
        for_left = for_left;
        for_right = for_right;
      }
