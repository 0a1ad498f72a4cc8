-- What a walk reads of the nodes is what its steps need.
use Rattle.std.proofs.Common.{◌≡◌, ℕ, List, Contains, slice_get, slice_index_or, map, Some, sym, subst, ap, ◌∙◌}
use Rattle.std.proofs.lemmas.Option.{get_or_from_slice_get}
use Rattle.node_arena.specs.Slots.{Slots, value_at}
use Rattle.node_arena.specs.declared.handle.Handle.{Handle}
use Rattle.tree_theory.proofs.ListLemmas.{got_in, map_in}
use Rattle.tree_theory.proofs.ShapeLists.{one_key}
use Rattle.tree_theory.specs.KeyClasses.{Class}
use Rattle.tree_theory.specs.Nodes.{Node, children_of, entries_of}
use Rattle.tree_nodes.proofs.ListEnds.{place_in, both_at, some_one}
use Rattle.tree_nodes.specs.Standings.{ChildrenDiffer, IsCoveredBy}

module _ {Key : Type 0} where
  -- a child and the key read at its index are an entry
  pub named_with : (entries : List (Key × Handle)) (keys : List Key) (children : List Handle) (place : ℕ) (key : Key) (child : Handle)
      → keys ≡ map (λ (entry : Key × Handle). entry.0) entries → children ≡ map (λ (entry : Key × Handle). entry.1) entries
      → slice_get children place ≡ Some child → key ≡ slice_index_or keys place key
      → Contains entries (key, child)
  named_with entries keys children place key child are_keys are_children at read =
      let both = both_at entries place child (subst (λ l. slice_get l place ≡ Some child) are_children at) in
      let same : key ≡ both.first = read ∙ (ap (λ l. slice_index_or l place key) are_keys ∙ get_or_from_slice_get (map (λ (entry : Key × Handle). entry.0) entries) place both.first key both.first_is) in
      subst (λ k. Contains entries (k, child)) (sym same) (got_in entries place (both.first, child) both.is)

module _ {Key Query Item : Type 0} (C : Class Key Query Item) (nodes : Slots (Node C)) (parent child : Handle) (key : Key) (node : Node C) (is : value_at nodes parent ≡ Some node) where
  -- a parent that does not name a node has no entry for it
  pub unnamed : ((place : ℕ) → slice_get (children_of node.body) place ≡ Some child → ⊥) → IsCoveredBy C nodes parent child key → ⊥
  unnamed nowhere covered =
      let same : covered.node ≡ node = some_one covered.is is in
      let entry : Contains (entries_of node.body) (covered.entry_key, child) = subst (λ (n : Node C). Contains (entries_of n.body) (covered.entry_key, child)) same covered.entry in
      let found = place_in (children_of node.body) child (map_in (λ (e : Key × Handle). e.1) (entries_of node.body) (covered.entry_key, child) entry) in
      nowhere found.0 found.1

  -- where an entry names the node, that entry's key covers
  pub one_covers : ChildrenDiffer nodes → (old : Key) → Contains (entries_of node.body) (old, child) → IsCoveredBy C nodes parent child key → C.Covers old key
  one_covers differ old named covered =
      let same : covered.node ≡ node = some_one covered.is is in
      let entry : Contains (entries_of node.body) (covered.entry_key, child) = subst (λ (n : Node C). Contains (entries_of n.body) (covered.entry_key, child)) same covered.entry in
      subst (λ k. C.Covers k key) (one_key (entries_of node.body) covered.entry_key old child (differ parent node is) entry named) covered.covers
