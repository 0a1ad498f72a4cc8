-- Retiring an empty leaf keeps the shape.
use Rattle.std.proofs.Common.{◌≡◌, ◌≢◌, ◌⊎◌, ℕ, ◌+◌, ◌<◌, ◌≤◌, Bool, true, false, [], length, Contains, Some, IsTrue, remove, refl, sym, ap, subst, ◌∙◌, inl, inr, arith}
use Rattle.std.proofs.lemmas.List.Edits.{length-remove}
use Rattle.std.proofs.lemmas.List.Quantifiers.{all_pairs_remove}
use Rattle.std.proofs.lemmas.Option.{slice_get_within}
use Rattle.node_arena.specs.declared.handle.Handle.{Handle}
use Rattle.tree_theory.specs.Changes.{IsRetired}
use Rattle.tree_theory.specs.Invariant.{CoversBody, RootStands, Child, Parent, Right, Left, Shape}
use Rattle.tree_theory.specs.KeyClasses.{Class}
use Rattle.tree_theory.specs.Nodes.{Node, Tree, is_marked, entries_of, size_of}
use Rattle.tree_theory.specs.Nodes.PlainBody.{Leaf, Inner}
use Rattle.tree_theory.specs.declared.TheConstants.{NODE_SIZE, TOP_LEVEL}
use Rattle.tree_theory.specs.declared.position.Position.TheVariants.{Root, Linked, Unlinked, Retired}
use Rattle.tree_theory.proofs.ListLemmas.{handle_cases, nothing_in, remove_from}
use Rattle.tree_theory.proofs.ShapeKept.{mark_at, entry_at, covers_at}
use Rattle.tree_theory.proofs.ShapeLists.{Differ, removed_not_in, removed_to}
use Rattle.tree_theory.proofs.ShapePlace.{leaf_entry}

module _ {Key Query Item : Type 0} {C : Class Key Query Item} where
  module _ {t u : Tree C} {l p : Handle} (change : IsRetired t u l p) (shape : Shape t) where
    retired_apart : l ≢ p
    retired_apart e =
        let one : change.leaf ≡ change.node = cc (change.leaf_before, change.parent_before, e) in
        let same : change.leaf.body ≡ change.node.body = ap (λ node. node.body) one in
        let empty = change.empty in
        let body = change.body in
        absurd (cc)

    entries_differ : Differ change.entries
    entries_differ = subst (λ body. Differ (entries_of body)) change.body (shape.children_differ p change.node change.parent_before)

    -- the old node of a new one
    record Was (x : Handle) (now : Node C) : Type 0 where
      node : Node C
      is : t.look x ≡ Some node
      level : node.level ≡ now.level
      right : node.right ≡ now.right
      place : ((node.place ≡ now.place) × (x ≢ l)) ⊎ ((now.place ≡ Retired (t.counter + 1)) × (now.body ≡ Leaf []))
      entries : (key : Key) (c : Handle) → Contains (entries_of now.body) (key, c) → Contains (entries_of node.body) (key, c) × (c ≢ l)
      covers : (key : Key) → CoversBody C key node.body → CoversBody C key now.body
      differ : Differ (entries_of now.body)
      filled : now.body ≡ Inner [] → ⊥
      size : size_of now.body ≤ NODE_SIZE
      empty : node.body ≡ Leaf [] → now.body ≡ Leaf []

    -- the new node of an old one
    record Stays (x : Handle) (was : Node C) : Type 0 where
      node : Node C
      is : u.look x ≡ Some node
      level : node.level ≡ was.level
      right : node.right ≡ was.right
      place : node.place ≡ was.place
      entries : (key : Key) (c : Handle) → c ≢ l → Contains (entries_of was.body) (key, c) → Contains (entries_of node.body) (key, c)

    -- only p has an entry for l
    only_parent : (x : Handle) (n : Node C) → t.look x ≡ Some n → (key : Key) → Contains (entries_of n.body) (key, l) → x ≡ p
    only_parent x n is key has =
        let child = shape.entry_down x n is key l has in
        let one : child.node ≡ change.leaf = cc (child.is, change.leaf_before) in
        cc (child.place, change.place, one)

    was_leaf : (n : Node C) → record change.leaf { place = Retired (t.counter + 1) } ≡ n → Was l n
    was_leaf n e =
        let body : n.body ≡ change.leaf.body = ap (λ node. node.body) (sym e) in
        let empty : n.body ≡ Leaf [] = body ∙ change.empty in
        record {
          node = change.leaf;
          is = change.leaf_before;
          level = ap (λ node. node.level) e;
          right = ap (λ node. node.right) e;
          place = inr (ap (λ node. node.place) (sym e), empty);
          entries = λ key c has. absurd (leaf_entry n.body [] (key, c) empty has);
          covers = λ key covers. covers_at change.leaf.body n.body key (sym body) covers;
          differ = subst (λ body. Differ (entries_of body)) (sym body) (shape.children_differ l change.leaf change.leaf_before);
          filled = λ none. absurd (cc (empty, none));
          size = subst (λ body. size_of body ≤ NODE_SIZE) (sym body) (shape.size l change.leaf change.leaf_before);
          empty = λ was. empty;
        }

    was_parent : (n : Node C) → record change.node { body = Inner (remove change.entries change.index) } ≡ n → Was p n
    was_parent n e =
        let body : n.body ≡ Inner (remove change.entries change.index) = ap (λ node. node.body) (sym e) in
        let within = slice_get_within change.entries change.index (change.key, l) change.entry in
        let size = length-remove change.entries change.index within in
        let more = change.more in
        record {
          node = change.node;
          is = change.parent_before;
          level = ap (λ node. node.level) e;
          right = ap (λ node. node.right) e;
          place = inl (ap (λ node. node.place) e, λ same. retired_apart (sym same));
          entries = λ key c has.
              let left : Contains (remove change.entries change.index) (key, c) = entry_at n.body (Inner (remove change.entries change.index)) (key, c) body has in (
                entry_at (Inner change.entries) change.node.body (key, c) (sym change.body) (remove_from change.entries change.index (key, c) left),
                λ same. removed_not_in change.entries change.index change.key key l change.entry entries_differ (subst (λ child. Contains (remove change.entries change.index) (key, child)) same left),
              );
          covers = λ key covers. covers_at (Inner (remove change.entries change.index)) n.body key (sym body) (record {
            pairs = λ pair has. absurd (nothing_in pair has);
            entries = λ entry has. covers.entries entry (entry_at (Inner change.entries) change.node.body entry (sym change.body) (remove_from change.entries change.index entry has));
          });
          differ = subst (λ body. Differ (entries_of body)) (sym body) (all_pairs_remove (λ one other. one.1 ≢ other.1) change.entries change.index within entries_differ);
          filled = λ none.
              let nothing : remove change.entries change.index ≡ [] = ap entries_of (sym body ∙ none) in
              let zero_left : length (remove change.entries change.index) ≡ 0 = ap length nothing in
              absurd (omega arith);
          size =
              let whole : length change.entries ≤ NODE_SIZE = subst (λ body. size_of body ≤ NODE_SIZE) change.body (shape.size p change.node change.parent_before) in
              subst (λ body. size_of body ≤ NODE_SIZE) (sym body) (omega arith);
          empty = λ none. let inner = change.body in absurd (cc (inner, none));
        }

    was_at : (x : Handle) (n : Node C) → u.look x ≡ Some n → Was x n
    was_at x n is = elim (handle_cases x l) [
      | inl at_leaf ↦
          let one : record change.leaf { place = Retired (t.counter + 1) } ≡ n = cc (change.leaf_now, is, at_leaf) in
          subst (λ x. Was x n) (sym at_leaf) (was_leaf n one)
      | inr apart ↦ elim (handle_cases x p) [
        | inl at_parent ↦
            let one : record change.node { body = Inner (remove change.entries change.index) } ≡ n = cc (change.parent_now, is, at_parent) in
            subst (λ x. Was x n) (sym at_parent) (was_parent n one)
        | inr other ↦
            let was : t.look x ≡ Some n = cc (change.others x apart other, is) in
            record {
              node = n;
              is = was;
              level = refl;
              right = refl;
              place = inl (refl, apart);
              entries = λ key c has. (has, λ same. other (only_parent x n was key (subst (λ child. Contains (entries_of n.body) (key, child)) same has)));
              covers = λ key covers. covers;
              differ = shape.children_differ x n was;
              filled = shape.inner_filled x n was;
              size = shape.size x n was;
              empty = λ none. none;
            }
      ]
    ]

    stays_parent : (n : Node C) → change.node ≡ n → Stays p n
    stays_parent n e =
        record {
          node = record change.node { body = Inner (remove change.entries change.index) };
          is = change.parent_now;
          level = ap (λ node. node.level) e;
          right = ap (λ node. node.right) e;
          place = ap (λ node. node.place) e;
          entries = λ key c apart has.
              let body : n.body ≡ Inner change.entries = ap (λ node. node.body) (sym e) ∙ change.body in
              removed_to change.entries change.index change.key key l c change.entry apart (entry_at n.body (Inner change.entries) (key, c) body has);
        }

    stays_at : (x : Handle) (n : Node C) → x ≢ l → t.look x ≡ Some n → Stays x n
    stays_at x n apart is = elim (handle_cases x p) [
      | inl at_parent ↦
          let one : change.node ≡ n = cc (change.parent_before, is, at_parent) in
          subst (λ x. Stays x n) (sym at_parent) (stays_parent n one)
      | inr other ↦ record { node = n; is = cc (change.others x apart other, is); level = refl; right = refl; place = refl; entries = λ key c apart has. has }
    ]

    -- a node with a place other than the leaf's is not the leaf
    not_leaf : (x : Handle) (n : Node C) → t.look x ≡ Some n → (n.place ≡ Linked p false → ⊥) → x ≢ l
    not_leaf x n is apart at =
        let one : change.leaf ≡ n = cc (change.leaf_before, is, at) in
        apart (ap (λ node. node.place) (sym one) ∙ change.place)

    root_not_leaf : t.root ≢ l
    root_not_leaf = let root = shape.root_place in not_leaf t.root root.node root.is (λ linked. let place = root.place in absurd (cc))

    retired_root_place : RootStands u
    retired_root_place =
        let was = shape.root_place in
        let now = stays_at t.root was.node root_not_leaf was.is in
        record { node = now.node; is = cc (change.clock.root, now.is); place = now.place ∙ was.place }

    retired_root_only : (x : Handle) (node : Node C) → u.look x ≡ Some node → node.place ≡ Root → x ≡ u.root
    retired_root_only x node is place =
        let was = was_at x node is in
        elim was.place [
          | inl same ↦ shape.root_only x was.node was.is (same.0 ∙ place) ∙ sym change.clock.root
          | inr retired ↦ absurd (cc (retired.0, place))
        ]

    retired_entry_down : (x : Handle) (node : Node C) → u.look x ≡ Some node → (key : Key) (c : Handle) → Contains (entries_of node.body) (key, c) → Child u x node c
    retired_entry_down x node is key c has =
        let was = was_at x node is in
        let had = was.entries key c has in
        let child = shape.entry_down x was.node was.is key c had.0 in
        let now = stays_at c child.node had.1 child.is in
        record { node = now.node; is = now.is; marked = child.marked; place = now.place ∙ child.place; level = cc (was.level, child.level, now.level) }

    retired_entry_up : (x : Handle) (node : Node C) → u.look x ≡ Some node → (q : Handle) (marked : Bool) → node.place ≡ Linked q marked → Parent u x node q
    retired_entry_up x node is q marked place =
        let was = was_at x node is in
        elim was.place [
          | inl same ↦
              let parent = shape.entry_up x was.node was.is q marked (same.0 ∙ place) in
              let inner : q ≢ l = λ at.
              let one : change.leaf ≡ parent.node = cc (change.leaf_before, parent.is, at) in
              leaf_entry parent.node.body [] (parent.key, x) (ap (λ node. node.body) (sym one) ∙ change.empty) parent.entry in
              let now = stays_at q parent.node inner parent.is in
              record { node = now.node; is = now.is; key = parent.key; entry = now.entries parent.key x same.1 parent.entry; level = cc (was.level, parent.level, now.level) }
          | inr retired ↦ absurd (cc (retired.0, place))
        ]

    retired_mark_right : (x : Handle) (node : Node C) → u.look x ≡ Some node → IsTrue (is_marked node.place) → Right u x node
    retired_mark_right x node is marked =
        let was = was_at x node is in
        elim was.place [
          | inl same ↦
              let right = shape.mark_right x was.node was.is (mark_at node.place was.node.place (sym same.0) marked) in
              let now = stays_at right.right right.node (not_leaf right.right right.node right.is (λ linked. let place = right.place in absurd (cc))) right.is in
              record { right = right.right; is_right = cc (was.right, right.is_right); node = now.node; is = now.is; place = now.place ∙ right.place; level = cc (was.level, right.level, now.level) }
          | inr retired ↦ let no : false ≡ true = mark_at node.place (Retired (t.counter + 1)) retired.0 marked in absurd (cc)
        ]

    retired_unlinked_left : (x : Handle) (node : Node C) → u.look x ≡ Some node → (left : Handle) → node.place ≡ Unlinked left → Left u x node left
    retired_unlinked_left x node is at place =
        let was = was_at x node is in
        elim was.place [
          | inl same ↦
              let left = shape.unlinked_left x was.node was.is at (same.0 ∙ place) in
              let now = stays_at at left.node (not_leaf at left.node left.is (λ unmarked. let marked = left.place in absurd (cc))) left.is in
              record { node = now.node; is = now.is; parent = left.parent; place = now.place ∙ left.place; right = now.right ∙ left.right; level = cc (was.level, left.level, now.level) }
          | inr retired ↦ absurd (cc (retired.0, place))
        ]

    retired_below_root : (x : Handle) (node top : Node C) → u.look x ≡ Some node → u.look u.root ≡ Some top → x ≢ u.root → node.level < top.level
    retired_below_root x node top is is_top apart =
        let was = was_at x node is in
        let above = was_at u.root top is_top in
        let level = was.level in
        let top_level = above.level in
        let below = shape.below_root x was.node above.node was.is (cc (change.clock.root, above.is)) (λ e. apart (e ∙ sym change.clock.root)) in
        omega arith

    retired_top_level : (top : Node C) → u.look u.root ≡ Some top → top.level ≤ TOP_LEVEL
    retired_top_level top is_top =
        let above = was_at u.root top is_top in
        let level = above.level in
        let high = shape.top_level above.node (cc (change.clock.root, above.is)) in
        omega arith

    retired_retired_empty : (x : Handle) (node : Node C) → u.look x ≡ Some node → (stamp : ℕ) → node.place ≡ Retired stamp → node.body ≡ Leaf []
    retired_retired_empty x node is stamp place =
        let was = was_at x node is in
        elim was.place [
          | inl same ↦ was.empty (shape.retired_empty x was.node was.is stamp (same.0 ∙ place))
          | inr retired ↦ retired.1
        ]

    retired_cover : (x : Handle) (parent : Node C) → u.look x ≡ Some parent → (key : Key) (c : Handle) → Contains (entries_of parent.body) (key, c) → (node : Node C) → u.look c ≡ Some node → CoversBody C key node.body
    retired_cover x parent is key c has node is_child =
        let was = was_at x parent is in
        let child = was_at c node is_child in
        let had = was.entries key c has in
        child.covers key (shape.cover x was.node was.is key c had.0 child.node child.is)

    retired_cover_marked : (x : Handle) (parent : Node C) → u.look x ≡ Some parent → (key : Key) (c : Handle) → Contains (entries_of parent.body) (key, c) → (node : Node C) → u.look c ≡ Some node → IsTrue (is_marked node.place) → (r : Handle) (right : Node C) → node.right ≡ Some r → u.look r ≡ Some right → CoversBody C key right.body
    retired_cover_marked x parent is key c has node is_child marked r right to_right is_right =
        let was = was_at x parent is in
        let child = was_at c node is_child in
        let beside = was_at r right is_right in
        let had = was.entries key c has in
        elim child.place [
          | inl same ↦ beside.covers key (shape.cover_marked x was.node was.is key c had.0 child.node child.is (mark_at node.place child.node.place (sym same.0) marked) r beside.node (child.right ∙ to_right) beside.is)
          | inr retired ↦ let no : false ≡ true = mark_at node.place (Retired (t.counter + 1)) retired.0 marked in absurd (cc)
        ]

    pub shape_retired : Shape u
    shape_retired =
        record {
          root_place = retired_root_place;
          root_only = retired_root_only;
          entry_down = retired_entry_down;
          entry_up = retired_entry_up;
          children_differ = λ x node is. (was_at x node is).differ;
          mark_right = retired_mark_right;
          unlinked_left = retired_unlinked_left;
          inner_filled = λ x node is. (was_at x node is).filled;
          size = λ x node is. (was_at x node is).size;
          below_root = retired_below_root;
          top_level = retired_top_level;
          retired_empty = retired_retired_empty;
          cover = retired_cover;
          cover_marked = retired_cover_marked;
        }
