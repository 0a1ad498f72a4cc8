-- A search whose stack is empty has seen whatever may match.
use Rattle.std.proofs.Common.{◌≡◌, ℕ, zero, suc, ◌+◌, ◌≤◌, true, [], Contains, Some, IsTrue, refl, sym, subst, inl, inr, arith}
use Rattle.node_arena.specs.declared.handle.Handle.{Handle}
use Rattle.tree_theory.specs.Changes.{MayTake, IsPlaced}
use Rattle.tree_theory.specs.Invariant.{Parent, Shape, Searches, Invariant}
use Rattle.tree_theory.specs.KeyClasses.{Class, Laws}
use Rattle.tree_theory.specs.Nodes.{PlainBody, Node, Search, Tree, is_marked, entries_of, pairs_of}
use Rattle.tree_theory.specs.Nodes.PlainBody.{Leaf}
use Rattle.tree_theory.specs.Promises.{MissesNothing, PlacesBehindNone}
use Rattle.tree_theory.specs.Walks.{Done}
use Rattle.tree_theory.specs.declared.position.Position.{Position}
use Rattle.tree_theory.specs.declared.position.Position.TheVariants.{Root, Linked, Unlinked, Retired}
use Rattle.tree_theory.proofs.ListLemmas.{handle_cases, nothing_in}
use Rattle.tree_theory.proofs.Leads.{owed_is_done}

pub marked_at : (place : Position) (parent : Handle) → place ≡ Linked parent true → IsTrue (is_marked place)
marked_at place parent is = rw is refl

-- a node with an empty body has no entry and no pair
pub no_entry : {Key Item : Type 0} (body : PlainBody Key Item) (entry : Key × Handle) → body ≡ Leaf [] → Contains (entries_of body) entry → ⊥
no_entry body entry empty h = nothing_in entry (subst (λ b. Contains (entries_of b) entry) empty h)

pub no_pair : {Key Item : Type 0} (body : PlainBody Key Item) (pair : ℕ × Item) → body ≡ Leaf [] → Contains (pairs_of body) pair → ⊥
no_pair body pair empty h = nothing_in pair (subst (λ b. Contains (pairs_of b) pair) empty h)

module _ {Key Query Item : Type 0} {C : Class Key Query Item} where
  -- a node that a search is done with has the search attached
  pub attached_of : {t : Tree C} {s : ℕ} {h : Handle} → Done t s h → (node : Node C) → t.look h ≡ Some node → Contains node.attached s
  attached_of {t = t} {s = s} done node is = let same : done.node ≡ node = cc (done.is, is) in subst (λ n. Contains n.attached s) same done.attached

  module _ (laws : Laws C) {t : Tree C} (shape : Shape t) (searches : Searches t) (s : ℕ) (runs : Search C) (running : t.searches s ≡ Some runs) (empty : runs.stack ≡ []) where
    pub root_done : (h : Handle) (node : Node C) → t.look h ≡ Some node → node.place ≡ Root → Done t s h
    root_done h node is place =
        let done = owed_is_done s runs t.root empty (searches.search_root s runs running) in
        subst (Done t s) (sym (shape.root_only h node is place)) done

    -- the search is done with the right node of a marked node that it is done with
    right_done : (l : Handle) (left : Node C) → t.look l ≡ Some left → (parent : Handle) → left.place ≡ Linked parent true → (r : Handle) → left.right ≡ Some r → Done t s l → Done t s r
    right_done l left is parent place r right done =
        owed_is_done s runs r empty (searches.search_mark s runs running l left is (attached_of done left is) (marked_at left.place parent place) r right)

    -- the search is done with a node whose entry is consistent
    pub ready_done : (d : ℕ) (h : Handle) (node : Node C) (p : Handle) (above : Parent t h node p) (top : Node C) → t.look h ≡ Some node → t.look t.root ≡ Some top → top.level ≤ node.level + d → C.Consistent above.key runs.query → Done t s h
    ready_done zero h node p above top is is_top high consistent = elim (handle_cases p t.root) [
      | inl at_root ↦
          let same : above.node ≡ top = cc (above.is, is_top, at_root) in
          let level : above.node.level ≡ node.level + 1 = above.level in
          let top_level : top.level ≡ node.level + 1 = subst (λ n. n.level ≡ node.level + 1) same level in
          absurd (omega arith)
      | inr below ↦
          let lower = shape.below_root p above.node top above.is is_top below in
          let level = above.level in
          absurd (omega arith)
    ]
    ready_done (suc d) h node p above top is is_top high consistent = owed_is_done s runs h empty (searches.search_child s runs running p above.node above.is (attached_of (parent_done (λ g m q up at high consistent. ready_done d g m q up top at is_top high consistent) above.node.place refl) above.node above.is) above.key h above.entry consistent)
      where
        parent_done : ((g : Handle) (m : Node C) (q : Handle) (up : Parent t g m q) → t.look g ≡ Some m → top.level ≤ m.level + d → C.Consistent up.key runs.query → Done t s g) → (place : Position) → above.node.place ≡ place → Done t s p
        parent_done higher Root place = root_done p above.node above.is place
        parent_done higher (Linked q marked) place =
            let next = shape.entry_up p above.node above.is q marked place in
            let covers = (shape.cover q next.node next.is next.key p next.entry above.node above.is).entries (above.key, h) above.entry in
            let level = above.level in
            higher p above.node q next above.is (omega arith) (laws.monotone next.key above.key runs.query covers consistent)
        parent_done higher (Unlinked l) place =
            let left = shape.unlinked_left p above.node above.is l place in
            let next = shape.entry_up l left.node left.is left.parent true left.place in
            let covers = (shape.cover_marked left.parent next.node next.is next.key l next.entry left.node left.is (marked_at left.node.place left.parent left.place) p above.node left.right above.is).entries (above.key, h) above.entry in
            let level = above.level in
            let same_level = left.level in
            right_done l left.node left.is left.parent left.place p left.right (higher l left.node left.parent next left.is (omega arith) (laws.monotone next.key above.key runs.query covers consistent))
        parent_done higher (Retired stamp) place = absurd (no_entry above.node.body (above.key, h) (shape.retired_empty p above.node above.is stamp place) above.entry)

    -- the same, without counting levels
    pub entry_done : (h : Handle) (node : Node C) (p : Handle) (above : Parent t h node p) → t.look h ≡ Some node → C.Consistent above.key runs.query → Done t s h
    entry_done h node p above is consistent = ready_done shape.root_place.node.level h node p above shape.root_place.node is shape.root_place.is (omega arith) consistent

    -- the search is done with a leaf that has a match
    pub ready_leaf : (h : Handle) (node : Node C) → t.look h ≡ Some node → (pair : ℕ × Item) → Contains (pairs_of node.body) pair → C.Matches pair.1 runs.query → Done t s h
    ready_leaf h node is pair has matches = go node.place refl
      where
        go : (place : Position) → node.place ≡ place → Done t s h
        go Root place = root_done h node is place
        go (Linked p marked) place =
            let next = shape.entry_up h node is p marked place in
            let covers = (shape.cover p next.node next.is next.key h next.entry node is).pairs pair has in
            entry_done h node p next is (laws.monotone next.key (C.key_of pair.1) runs.query covers (laws.sound pair.1 runs.query matches))
        go (Unlinked l) place =
            let left = shape.unlinked_left h node is l place in
            let next = shape.entry_up l left.node left.is left.parent true left.place in
            let covers = (shape.cover_marked left.parent next.node next.is next.key l next.entry left.node left.is (marked_at left.node.place left.parent left.place) h node left.right is).pairs pair has in
            right_done l left.node left.is left.parent left.place h left.right (entry_done l left.node left.parent next left.is (laws.monotone next.key (C.key_of pair.1) runs.query covers (laws.sound pair.1 runs.query matches)))
        go (Retired stamp) place = absurd (no_pair node.body pair (shape.retired_empty h node is stamp place) has)

    -- so it has found every match
    pub ready_complete : (h : Handle) (node : Node C) → t.look h ≡ Some node → (pair : ℕ × Item) → Contains (pairs_of node.body) pair → C.Matches pair.1 runs.query → Contains runs.found pair
    ready_complete h node is pair has matches = searches.search_found s runs running h node is (attached_of (ready_leaf h node is pair has matches) node is) pair has matches

    -- the search is done with a leaf that may take a matching item
    pub taker_done : (h : Handle) (node : Node C) → t.look h ≡ Some node → (item : Item) → MayTake t h node (C.key_of item) → C.Matches item runs.query → Done t s h
    taker_done h node is item (inl place) matches = root_done h node is place
    taker_done h node is item (inr entry) matches =
        let child = shape.entry_down entry.parent entry.parent_node entry.is entry.entry_key h entry.entry in
        let same : child.node ≡ node = cc (child.is, is) in
        let level : entry.parent_node.level ≡ node.level + 1 = subst (λ n. entry.parent_node.level ≡ n.level + 1) same child.level in
        let above : Parent t h node entry.parent = record { node = entry.parent_node; is = entry.is; key = entry.entry_key; entry = entry.entry; level = level } in
        entry_done h node entry.parent above is (laws.monotone entry.entry_key (C.key_of item) runs.query entry.covers (laws.sound item runs.query matches))

    -- so no step places a pair that it looks for
    pub none_placed : {u : Tree C} (h : Handle) (pair : ℕ × Item) → IsPlaced t u h pair → C.Matches pair.1 runs.query → ⊥
    none_placed h pair placed matches =
        placed.none_matches s runs running (attached_of (taker_done h placed.node placed.nodes.before pair.1 placed.may_take matches) placed.node placed.nodes.before) matches

  -- the promises of the invariant
  pub misses_nothing : (laws : Laws C) (t : Tree C) → Invariant t → MissesNothing t
  misses_nothing laws t inv s runs ready pair found matches =
      ready_complete laws inv.shape inv.searches s runs ready.running ready.stack found.handle found.node found.is pair found.pair_in matches

  pub places_behind_none : (laws : Laws C) (t : Tree C) → Invariant t → PlacesBehindNone t
  places_behind_none laws t inv u h pair placed s runs ready matches =
      none_placed laws inv.shape inv.searches s runs ready.running ready.stack h pair placed matches
