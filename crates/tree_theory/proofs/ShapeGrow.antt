-- Growth of the root keeps the shape, and the first tree has it.
use Rattle.std.proofs.Common.{◌≡◌, ◌≢◌, ◌⊎◌, ℕ, ◌+◌, ◌<◌, ◌≤◌, Bool, true, false, [], ◌∷◌, Contains, Some, None, IsTrue, refl, sym, ap, subst, ◌∙◌, inl, inr, arith}
use Rattle.std.specs.Option.{option_map}
use Rattle.node_arena.specs.declared.handle.Handle.{Handle}
use Rattle.tree_theory.specs.Changes.{IsGrown, IsStarted, grown}
use Rattle.tree_theory.specs.Invariant.{CoversBody, RootStands, Child, Parent, Right, Left, Shape}
use Rattle.tree_theory.specs.KeyClasses.{Class}
use Rattle.tree_theory.specs.Nodes.{Node, Tree, is_marked, entries_of, children_of, size_of, under, place_under}
use Rattle.tree_theory.specs.Nodes.PlainBody.{Leaf, Inner}
use Rattle.tree_theory.specs.declared.TheConstants.{NODE_SIZE, TOP_LEVEL}
use Rattle.tree_theory.specs.declared.position.Position.{Position}
use Rattle.tree_theory.specs.declared.position.Position.TheVariants.{Root, Linked, Unlinked, Retired}
use Rattle.tree_theory.proofs.ListLemmas.{handle_cases, child_cases, first_in, later_in, nothing_in, in_cases, in_one, one_in, other_in, parted_cases}
use Rattle.tree_theory.proofs.ShapeKept.{mark_at, entry_at, covers_at}
use Rattle.tree_theory.proofs.ShapeLists.{Differ, pairs_with, one_pairs, turned, parts_differ}
use Rattle.tree_theory.proofs.ShapeSplit.{Hangs, hangs_mark, root_was, unlinked_stays, unlinked_was, retired_was, linked_stays, mark_stays, moved_goes, kept_stays, halved_sizes, not_empty, child_in, entry_of_child}
use Rattle.tree_theory.proofs.ShapeSplit.Hangs.{hangs_same, hangs_moved}

module _ {Key Query Item : Type 0} {C : Class Key Query Item} where
  module _ {t u : Tree C} {a b : Handle} (change : IsGrown t u a b) (shape : Shape t) where
    abbrev top : Node C
    top = record change.node { level = change.node.level + 1; body = Inner ((change.one_key, a) ∷ (change.two_key, b) ∷ []) }

    abbrev first : Node C
    first = grown t change.node change.one change.one_attached

    abbrev second : Node C
    second = grown t change.node change.two change.two_attached

    abbrev One : Handle → Type 0
    One x = Contains (children_of change.one) x

    abbrev Two : Handle → Type 0
    Two x = Contains (children_of change.two) x

    -- a node that is neither the root nor new, before and after: its parent is now a or b, or its
    -- place stays
    record Twin (x : Handle) (old now : Node C) : Type 0 where
      was : t.look x ≡ Some old
      is : u.look x ≡ Some now
      level : old.level ≡ now.level
      right : old.right ≡ now.right
      body : old.body ≡ now.body
      middle : Position
      to_a : Hangs t.root a (One x) old.place middle
      to_b : Hangs t.root b (Two x) middle now.place

    not_first : (x : Handle) (n : Node C) → t.look x ≡ Some n → x ≢ a
    not_first x n is e = let fresh = change.fresh_one in absurd (cc)

    not_second : (x : Handle) (n : Node C) → t.look x ≡ Some n → x ≢ b
    not_second x n is e = let fresh = change.fresh_two in absurd (cc)

    had_one : (key : Key) (c : Handle) → Contains (entries_of change.one) (key, c) → Contains (entries_of change.node.body) (key, c)
    had_one key c has = one_in (key, c) change.halves.entries has

    had_two : (key : Key) (c : Handle) → Contains (entries_of change.two) (key, c) → Contains (entries_of change.node.body) (key, c)
    had_two key c has = other_in (key, c) change.halves.entries has

    one_not_two : (x : Handle) → One x → Two x → ⊥
    one_not_two x one two =
        let mine = entry_of_child change.one x one in
        let other = entry_of_child change.two x two in
        parts_differ change.halves.entries (shape.children_differ t.root change.node change.before) mine.0 other.0 x mine.1 other.1

    -- an entry's child is not the root
    named_not_root : (p : Handle) (n : Node C) → t.look p ≡ Some n → (key : Key) (c : Handle) → Contains (entries_of n.body) (key, c) → c ≢ t.root
    named_not_root p n is key c has same =
        let child = shape.entry_down p n is key c has in
        let one : child.node ≡ change.node = cc (child.is, change.before, same) in
        let place : child.node.place ≡ change.node.place = ap (λ node. node.place) one in
        absurd (cc (place, child.place, change.place))

    linked_under_root : (key : Key) (x : Handle) → Contains (entries_of change.node.body) (key, x) → (old : Node C) → t.look x ≡ Some old → (marked : Bool) × (old.place ≡ Linked t.root marked)
    linked_under_root key x has old was =
        let child = shape.entry_down t.root change.node change.before key x has in
        let one : child.node ≡ old = cc (child.is, was) in
        (child.marked, ap (λ node. node.place) (sym one) ∙ child.place)

    one_twin : (x : Handle) → One x → (old : Node C) → t.look x ≡ Some old → x ≢ t.root → Twin x old (under a old)
    one_twin x one old was apart =
        let entry = entry_of_child change.one x one in
        let linked = linked_under_root entry.0 x (had_one entry.0 x entry.1) old was in
        record {
          was = was;
          is = change.one_children x apart (not_first x old was) (not_second x old was) one ∙ ap (option_map (under a)) was;
          level = refl;
          right = refl;
          body = refl;
          middle = place_under a old.place;
          to_a = hangs_moved linked.0 one linked.1 (ap (place_under a) linked.1);
          to_b = hangs_same (one_not_two x one) refl;
        }

    two_twin : (x : Handle) → Two x → (old : Node C) → t.look x ≡ Some old → x ≢ t.root → Twin x old (under b old)
    two_twin x two old was apart =
        let entry = entry_of_child change.two x two in
        let linked = linked_under_root entry.0 x (had_two entry.0 x entry.1) old was in
        record {
          was = was;
          is = change.two_children x apart (not_first x old was) (not_second x old was) two ∙ ap (option_map (under b)) was;
          level = refl;
          right = refl;
          body = refl;
          middle = old.place;
          to_a = hangs_same (λ one. one_not_two x one two) refl;
          to_b = hangs_moved linked.0 two linked.1 (ap (place_under b) linked.1);
        }

    same_twin : (x : Handle) → (One x → ⊥) → (Two x → ⊥) → (n : Node C) → t.look x ≡ Some n → u.look x ≡ Some n → Twin x n n
    same_twin x not_one not_two n was is = record { was = was; is = is; level = refl; right = refl; body = refl; middle = n.place; to_a = hangs_same not_one refl; to_b = hangs_same not_two refl }

    twin_to : (x : Handle) (old : Node C) → x ≢ t.root → t.look x ≡ Some old → (now : Node C) × Twin x old now
    twin_to x old apart was = elim (child_cases (children_of change.one) x) [
      | inl one ↦ (under a old, one_twin x one old was apart)
      | inr not_one ↦ elim (child_cases (children_of change.two) x) [
        | inl two ↦ (under b old, two_twin x two old was apart)
        | inr not_two ↦ (old, same_twin x not_one not_two old was (change.others x apart (not_first x old was) (not_second x old was) not_one not_two ∙ was))
      ]
    ]

    twin_from : (x : Handle) (now : Node C) → x ≢ t.root → x ≢ a → x ≢ b → u.look x ≡ Some now → (old : Node C) × Twin x old now
    twin_from x now not_root not_a not_b is = elim (child_cases (children_of change.one) x) [
      | inl one ↦
          let entry = entry_of_child change.one x one in
          let child = shape.entry_down t.root change.node change.before entry.0 x (had_one entry.0 x entry.1) in
          let twin = one_twin x one child.node child.is not_root in
          let same : under a child.node ≡ now = cc (twin.is, is) in
          (child.node, subst (Twin x child.node) same twin)
      | inr not_one ↦ elim (child_cases (children_of change.two) x) [
        | inl two ↦
            let entry = entry_of_child change.two x two in
            let child = shape.entry_down t.root change.node change.before entry.0 x (had_two entry.0 x entry.1) in
            let twin = two_twin x two child.node child.is not_root in
            let same : under b child.node ≡ now = cc (twin.is, is) in
            (child.node, subst (Twin x child.node) same twin)
        | inr not_two ↦ (now, same_twin x not_one not_two now (sym (change.others x not_root not_a not_b not_one not_two) ∙ is) is)
      ]
    ]

    -- what holds of the root, of a and b, and of each other node holds of all
    each_node : (P : Handle → Node C → Type 0) → P t.root top → P a first → P b second → ((x : Handle) (old now : Node C) → x ≢ t.root → Twin x old now → P x now) → (x : Handle) (n : Node C) → u.look x ≡ Some n → P x n
    each_node P at_root at_a at_b other x n is = elim (handle_cases x t.root) [
      | inl at ↦
          let one : top ≡ n = cc (change.root_now, is, at) in
          subst (λ x. P x n) (sym at) (subst (P t.root) one at_root)
      | inr not_root ↦ elim (handle_cases x a) [
        | inl at ↦
            let one : first ≡ n = cc (change.one_now, is, at) in
            subst (λ x. P x n) (sym at) (subst (P a) one at_a)
        | inr not_a ↦ elim (handle_cases x b) [
          | inl at ↦
              let one : second ≡ n = cc (change.two_now, is, at) in
              subst (λ x. P x n) (sym at) (subst (P b) one at_b)
          | inr not_b ↦
              let twin = twin_from x n not_root not_a not_b is in
              other x twin.0 n not_root twin.1
        ]
      ]
    ]

    grown_root_place : RootStands u
    grown_root_place = record { node = top; is = cc (change.clock.root, change.root_now); place = change.place }

    grown_root_only : (x : Handle) (node : Node C) → u.look x ≡ Some node → node.place ≡ Root → x ≡ u.root
    grown_root_only =
        each_node (λ x n. n.place ≡ Root → x ≡ u.root) (λ e. sym change.clock.root) (λ e. absurd (cc)) (λ e. absurd (cc)) (λ x old now apart twin place. shape.root_only x old twin.was (root_was twin.to_a (root_was twin.to_b place)) ∙ sym change.clock.root)

    -- the root has the entries of a and b
    top_entries : (key : Key) (c : Handle) → Contains (entries_of top.body) (key, c) → ((key ≡ change.one_key) × (c ≡ a)) ⊎ ((key ≡ change.two_key) × (c ≡ b))
    top_entries key c has = elim (in_cases (change.one_key, a) ((change.two_key, b) ∷ []) (key, c) has) [
      | inl e ↦ inl (sym (ap (λ entry. entry.0) e), sym (ap (λ entry. entry.1) e))
      | inr later ↦
          let e = in_one (change.two_key, b) (key, c) later in
          inr (sym (ap (λ entry. entry.0) e), sym (ap (λ entry. entry.1) e))
    ]

    root_down : (key : Key) (c : Handle) → Contains (entries_of top.body) (key, c) → Child u t.root top c
    root_down key c has = elim (top_entries key c has) [
      | inl e ↦ subst (Child u t.root top) (sym e.1) (record { node = first; is = change.one_now; marked = false; place = refl; level = refl })
      | inr e ↦ subst (Child u t.root top) (sym e.1) (record { node = second; is = change.two_now; marked = false; place = refl; level = refl })
    ]

    first_down : (key : Key) (c : Handle) → Contains (entries_of change.one) (key, c) → Child u a first c
    first_down key c has =
        let had = had_one key c has in
        let child = shape.entry_down t.root change.node change.before key c had in
        let now = twin_to c child.node (named_not_root t.root change.node change.before key c had) child.is in
        let one = child_in change.one key c has in
        let middle = moved_goes now.1.to_a one child.marked child.place in
        record { node = now.0; is = now.1.is; marked = child.marked; place = sym (kept_stays now.1.to_b (one_not_two c one)) ∙ middle; level = child.level ∙ ap (λ level. level + 1) now.1.level }

    second_down : (key : Key) (c : Handle) → Contains (entries_of change.two) (key, c) → Child u b second c
    second_down key c has =
        let had = had_two key c has in
        let child = shape.entry_down t.root change.node change.before key c had in
        let now = twin_to c child.node (named_not_root t.root change.node change.before key c had) child.is in
        let two = child_in change.two key c has in
        let middle = sym (kept_stays now.1.to_a (λ one. one_not_two c one two)) ∙ child.place in
        record { node = now.0; is = now.1.is; marked = child.marked; place = moved_goes now.1.to_b two child.marked middle; level = child.level ∙ ap (λ level. level + 1) now.1.level }

    other_down : (x : Handle) (old now : Node C) → x ≢ t.root → Twin x old now → (key : Key) (c : Handle) → Contains (entries_of now.body) (key, c) → Child u x now c
    other_down x old now apart twin key c has =
        let had = entry_at now.body old.body (key, c) (sym twin.body) has in
        let child = shape.entry_down x old twin.was key c had in
        let below = twin_to c child.node (named_not_root x old twin.was key c had) child.is in
        record { node = below.0; is = below.1.is; marked = child.marked; place = linked_stays below.1.to_b x child.marked apart (linked_stays below.1.to_a x child.marked apart child.place); level = sym twin.level ∙ (child.level ∙ ap (λ level. level + 1) below.1.level) }

    grown_entry_down : (x : Handle) (node : Node C) → u.look x ≡ Some node → (key : Key) (c : Handle) → Contains (entries_of node.body) (key, c) → Child u x node c
    grown_entry_down =
        each_node (λ x n. (key : Key) (c : Handle) → Contains (entries_of n.body) (key, c) → Child u x n c) root_down first_down second_down other_down

    first_up : (q : Handle) (marked : Bool) → Linked t.root false ≡ Linked q marked → Parent u a first q
    first_up q marked place =
        let same : t.root ≡ q = cc in
        subst (Parent u a first) same (record { node = top; is = change.root_now; key = change.one_key; entry = first_in (change.one_key, a) ((change.two_key, b) ∷ []); level = refl })

    second_up : (q : Handle) (marked : Bool) → Linked t.root false ≡ Linked q marked → Parent u b second q
    second_up q marked place =
        let same : t.root ≡ q = cc in
        subst (Parent u b second) same (record { node = top; is = change.root_now; key = change.two_key; entry = later_in (change.one_key, a) ((change.two_key, b) ∷ []) (change.two_key, b) (first_in (change.two_key, b) []); level = refl })

    -- a child that moved is one level below a and b
    child_level : (key : Key) (x : Handle) (old now : Node C) → Twin x old now → Contains (entries_of change.node.body) (key, x) → change.node.level ≡ now.level + 1
    child_level key x old now twin has =
        let child = shape.entry_down t.root change.node change.before key x has in
        let one : child.node ≡ old = cc (child.is, twin.was) in
        let level : child.node.level ≡ old.level = ap (λ node. node.level) one in
        child.level ∙ ap (λ level. level + 1) (level ∙ twin.level)

    same_up : (x : Handle) (old now : Node C) → Twin x old now → (One x → ⊥) → (Two x → ⊥) → (q : Handle) (marked : Bool) → old.place ≡ Linked q marked → Parent u x now q
    same_up x old now twin not_one not_two q marked place =
        let parent = shape.entry_up x old twin.was q marked place in
        let level : parent.node.level ≡ now.level + 1 = parent.level ∙ ap (λ level. level + 1) twin.level in
        elim (handle_cases q t.root) [
          | inl at ↦
              let one : parent.node ≡ change.node = cc (parent.is, change.before, at) in
              let had : Contains (entries_of change.node.body) (parent.key, x) = entry_at parent.node.body change.node.body (parent.key, x) (ap (λ node. node.body) one) parent.entry in
              elim (parted_cases (parent.key, x) change.halves.entries had) [
                | inl goes ↦ absurd (not_one (child_in change.one parent.key x goes))
                | inr goes ↦ absurd (not_two (child_in change.two parent.key x goes))
              ]
          | inr apart ↦
              let above = twin_to q parent.node apart parent.is in
              record { node = above.0; is = above.1.is; key = parent.key; entry = entry_at parent.node.body above.0.body (parent.key, x) above.1.body parent.entry; level = sym above.1.level ∙ level }
        ]

    other_up : (x : Handle) (old now : Node C) → Twin x old now → (q : Handle) (marked : Bool) → now.place ≡ Linked q marked → Parent u x now q
    other_up x old now twin q marked place = elim twin.to_b [
      | hangs_same not_two e ↦ elim twin.to_a [
        | hangs_same not_one also ↦ same_up x old now twin not_one not_two q marked (also ∙ (e ∙ place))
        | hangs_moved mark one was is ↦
            let entry = entry_of_child change.one x one in
            let same : a ≡ q = cc (is, e, place) in
            subst (Parent u x now) same (record { node = first; is = change.one_now; key = entry.0; entry = entry.1; level = child_level entry.0 x old now twin (had_one entry.0 x entry.1) })
      ]
      | hangs_moved mark two was is ↦
          let entry = entry_of_child change.two x two in
          let same : b ≡ q = cc (is, place) in
          subst (Parent u x now) same (record { node = second; is = change.two_now; key = entry.0; entry = entry.1; level = child_level entry.0 x old now twin (had_two entry.0 x entry.1) })
    ]

    grown_entry_up : (x : Handle) (node : Node C) → u.look x ≡ Some node → (q : Handle) (marked : Bool) → node.place ≡ Linked q marked → Parent u x node q
    grown_entry_up =
        each_node (λ x n. (q : Handle) (marked : Bool) → n.place ≡ Linked q marked → Parent u x n q) (λ q marked e. let root = change.place in absurd (cc)) first_up second_up (λ x old now apart twin. other_up x old now twin)

    top_differ : Differ (entries_of top.body)
    top_differ =
        pairs_with (λ one other. one.1 ≢ other.1) (change.one_key, a) ((change.two_key, b) ∷ []) (λ y has e. change.differ (e ∙ sym (ap (λ entry. entry.1) (in_one (change.two_key, b) y has)))) (λ i j d lt long. absurd (omega arith))

    grown_children_differ : (x : Handle) (node : Node C) → u.look x ≡ Some node → Differ (entries_of node.body)
    grown_children_differ =
        let whole = shape.children_differ t.root change.node change.before in
        each_node (λ x n. Differ (entries_of n.body)) top_differ (one_pairs (λ one other. one.1 ≢ other.1) change.halves.entries whole) (one_pairs (λ one other. one.1 ≢ other.1) (turned change.halves.entries) whole) (λ x old now apart twin. subst (λ body. Differ (entries_of body)) twin.body (shape.children_differ x old twin.was))

    -- a node with a place other than `Root` is not the root
    not_root : (x : Handle) (n : Node C) → t.look x ≡ Some n → (n.place ≡ Root → ⊥) → x ≢ t.root
    not_root x n is other e =
        let one : change.node ≡ n = cc (change.before, is, e) in
        other (ap (λ node. node.place) (sym one) ∙ change.place)

    root_unmarked : IsTrue (is_marked change.node.place) → ⊥
    root_unmarked marked = let no : false ≡ true = mark_at change.node.place Root change.place marked in absurd (cc)

    old_mark : (x : Handle) (old now : Node C) → Twin x old now → IsTrue (is_marked now.place) → IsTrue (is_marked old.place)
    old_mark x old now twin marked = hangs_mark twin.to_a (hangs_mark twin.to_b marked)

    other_mark : (x : Handle) (old now : Node C) → Twin x old now → IsTrue (is_marked now.place) → Right u x now
    other_mark x old now twin marked =
        let beside = shape.mark_right x old twin.was (old_mark x old now twin marked) in
        let next = twin_to beside.right beside.node (not_root beside.right beside.node beside.is (λ e. absurd (cc (beside.place, e)))) beside.is in
        record { right = beside.right; is_right = sym twin.right ∙ beside.is_right; node = next.0; is = next.1.is; place = unlinked_stays next.1.to_b x (unlinked_stays next.1.to_a x beside.place); level = sym twin.level ∙ (beside.level ∙ next.1.level) }

    grown_mark_right : (x : Handle) (node : Node C) → u.look x ≡ Some node → IsTrue (is_marked node.place) → Right u x node
    grown_mark_right =
        each_node (λ x n. IsTrue (is_marked n.place) → Right u x n) (λ marked. absurd (root_unmarked marked)) (λ marked. let no : false ≡ true = marked in absurd (cc)) (λ marked. let no : false ≡ true = marked in absurd (cc)) (λ x old now apart twin. other_mark x old now twin)

    other_left : (x : Handle) (old now : Node C) → Twin x old now → (l : Handle) → now.place ≡ Unlinked l → Left u x now l
    other_left x old now twin l place =
        let beside = shape.unlinked_left x old twin.was l (unlinked_was twin.to_a l (unlinked_was twin.to_b l place)) in
        let next = twin_to l beside.node (not_root l beside.node beside.is (λ e. absurd (cc (beside.place, e)))) beside.is in
        let middle = mark_stays next.1.to_a beside.parent true beside.place in
        let stays = mark_stays next.1.to_b middle.0 true middle.1 in
        record { node = next.0; is = next.1.is; parent = stays.0; place = stays.1; right = sym next.1.right ∙ beside.right; level = sym next.1.level ∙ (beside.level ∙ twin.level) }

    grown_unlinked_left : (x : Handle) (node : Node C) → u.look x ≡ Some node → (l : Handle) → node.place ≡ Unlinked l → Left u x node l
    grown_unlinked_left =
        each_node (λ x n. (l : Handle) → n.place ≡ Unlinked l → Left u x n l) (λ l e. let root = change.place in absurd (cc)) (λ l e. absurd (cc)) (λ l e. absurd (cc)) (λ x old now apart twin. other_left x old now twin)

    grown_filled : (x : Handle) (node : Node C) → u.look x ≡ Some node → node.body ≡ Inner [] → ⊥
    grown_filled =
        each_node (λ x n. n.body ≡ Inner [] → ⊥) (λ e. absurd (cc)) (not_empty change.one change.halves.one_filled) (not_empty change.two change.halves.other_filled) (λ x old now apart twin empty. shape.inner_filled x old twin.was (twin.body ∙ empty))

    grown_size : (x : Handle) (node : Node C) → u.look x ≡ Some node → size_of node.body ≤ NODE_SIZE
    grown_size =
        let whole = shape.size t.root change.node change.before in
        let sum = halved_sizes change.halves in
        let one = change.halves.one_filled in
        let two = change.halves.other_filled in
        each_node (λ x n. size_of n.body ≤ NODE_SIZE) (omega arith) (omega arith) (omega arith) (λ x old now apart twin. subst (λ body. size_of body ≤ NODE_SIZE) twin.body (shape.size x old twin.was))

    top_is : (n : Node C) → u.look u.root ≡ Some n → n.level ≡ change.node.level + 1
    top_is n is =
        let one : n ≡ top = cc (change.clock.root, change.root_now, is) in
        ap (λ node. node.level) one

    grown_below_root : (x : Handle) (node high : Node C) → u.look x ≡ Some node → u.look u.root ≡ Some high → x ≢ u.root → node.level < high.level
    grown_below_root x node high is is_high apart =
        let level = top_is high is_high in
        each_node (λ x n. x ≢ u.root → n.level < high.level) (λ apart. absurd (apart (sym change.clock.root))) (λ apart. omega arith) (λ apart. omega arith) (λ x old now not_root twin apart.
        let lower = shape.below_root x old change.node twin.was change.before not_root in
        let same = twin.level in
        omega arith) x node is apart

    grown_top_level : (high : Node C) → u.look u.root ≡ Some high → high.level ≤ TOP_LEVEL
    grown_top_level high is_high =
        let level = top_is high is_high in
        let below = change.below_top in
        omega arith

    grown_retired_empty : (x : Handle) (node : Node C) → u.look x ≡ Some node → (stamp : ℕ) → node.place ≡ Retired stamp → node.body ≡ Leaf []
    grown_retired_empty =
        each_node (λ x n. (stamp : ℕ) → n.place ≡ Retired stamp → n.body ≡ Leaf []) (λ stamp e. let root = change.place in absurd (cc)) (λ stamp e. absurd (cc)) (λ stamp e. absurd (cc)) (λ x old now apart twin stamp place. sym twin.body ∙ shape.retired_empty x old twin.was stamp (retired_was twin.to_a stamp (retired_was twin.to_b stamp place)))

    -- an old entry's child was there before
    named : (p : Handle) (parent : Node C) → t.look p ≡ Some parent → (key : Key) (c : Handle) (node : Node C) → u.look c ≡ Some node → Contains (entries_of parent.body) (key, c) → (old : Node C) × Twin c old node
    named p parent is key c node is_now has =
        let child = shape.entry_down p parent is key c has in
        twin_from c node (named_not_root p parent is key c has) (not_first c child.node child.is) (not_second c child.node child.is) is_now

    -- an old entry still covers its child
    child_covered : (p : Handle) (parent : Node C) → t.look p ≡ Some parent → (key : Key) (c : Handle) (node : Node C) → u.look c ≡ Some node → Contains (entries_of parent.body) (key, c) → CoversBody C key node.body
    child_covered p parent is key c node is_now has =
        let child = named p parent is key c node is_now has in
        covers_at child.0.body node.body key child.1.body (shape.cover p parent is key c has child.0 child.1.was)

    top_covers : (key : Key) (c : Handle) → Contains (entries_of top.body) (key, c) → (node : Node C) → u.look c ≡ Some node → CoversBody C key node.body
    top_covers key c has node is = elim (top_entries key c has) [
      | inl e ↦
          let one : first ≡ node = cc (change.one_now, is, e.1) in
          subst (λ key. CoversBody C key node.body) (sym e.0) (covers_at change.one node.body change.one_key (ap (λ node. node.body) one) change.one_union.covers)
      | inr e ↦
          let one : second ≡ node = cc (change.two_now, is, e.1) in
          subst (λ key. CoversBody C key node.body) (sym e.0) (covers_at change.two node.body change.two_key (ap (λ node. node.body) one) change.two_union.covers)
    ]

    grown_cover : (p : Handle) (parent : Node C) → u.look p ≡ Some parent → (key : Key) (c : Handle) → Contains (entries_of parent.body) (key, c) → (node : Node C) → u.look c ≡ Some node → CoversBody C key node.body
    grown_cover =
        each_node (λ p n. (key : Key) (c : Handle) → Contains (entries_of n.body) (key, c) → (node : Node C) → u.look c ≡ Some node → CoversBody C key node.body)
        top_covers
        (λ key c has node is. child_covered t.root change.node change.before key c node is (had_one key c has))
        (λ key c has node is. child_covered t.root change.node change.before key c node is (had_two key c has))
        (λ p old now apart twin key c has node is. child_covered p old twin.was key c node is (entry_at now.body old.body (key, c) (sym twin.body) has))

    -- and the right node of a marked child
    abbrev Beside : Key → Node C → Type 0
    Beside key n = IsTrue (is_marked n.place) → (x : Handle) (beside : Node C) → n.right ≡ Some x → u.look x ≡ Some beside → CoversBody C key beside.body

    beside_covered : (p : Handle) (parent : Node C) → t.look p ≡ Some parent → (key : Key) (c : Handle) (node : Node C) → u.look c ≡ Some node → Contains (entries_of parent.body) (key, c) → Beside key node
    beside_covered p parent is key c node is_now has marked x beside to_right is_right =
        let child = named p parent is key c node is_now has in
        let mark = old_mark c child.0 node child.1 marked in
        let next = shape.mark_right c child.0 child.1.was mark in
        let same : next.right ≡ x = cc (next.is_right, child.1.right, to_right) in
        let there = twin_to next.right next.node (not_root next.right next.node next.is (λ e. absurd (cc (next.place, e)))) next.is in
        let one : there.0 ≡ beside = cc (there.1.is, is_right, same) in
        covers_at next.node.body beside.body key (there.1.body ∙ ap (λ node. node.body) one) (shape.cover_marked p parent is key c has child.0 child.1.was mark next.right next.node next.is_right next.is)

    top_beside : (key : Key) (c : Handle) → Contains (entries_of top.body) (key, c) → (node : Node C) → u.look c ≡ Some node → Beside key node
    top_beside key c has node is marked x beside to_right is_right = elim (top_entries key c has) [
      | inl e ↦
          let one : first ≡ node = cc (change.one_now, is, e.1) in
          let no : false ≡ true = mark_at node.place (Linked t.root false) (ap (λ node. node.place) (sym one)) marked in
          absurd (cc)
      | inr e ↦
          let one : second ≡ node = cc (change.two_now, is, e.1) in
          let no : false ≡ true = mark_at node.place (Linked t.root false) (ap (λ node. node.place) (sym one)) marked in
          absurd (cc)
    ]

    grown_cover_marked : (p : Handle) (parent : Node C) → u.look p ≡ Some parent → (key : Key) (c : Handle) → Contains (entries_of parent.body) (key, c) → (node : Node C) → u.look c ≡ Some node → Beside key node
    grown_cover_marked =
        each_node (λ p n. (key : Key) (c : Handle) → Contains (entries_of n.body) (key, c) → (node : Node C) → u.look c ≡ Some node → Beside key node)
        top_beside
        (λ key c has node is. beside_covered t.root change.node change.before key c node is (had_one key c has))
        (λ key c has node is. beside_covered t.root change.node change.before key c node is (had_two key c has))
        (λ p old now apart twin key c has node is. beside_covered p old twin.was key c node is (entry_at now.body old.body (key, c) (sym twin.body) has))

    pub shape_grown : Shape u
    shape_grown =
        record {
          root_place = grown_root_place;
          root_only = grown_root_only;
          entry_down = grown_entry_down;
          entry_up = grown_entry_up;
          children_differ = grown_children_differ;
          mark_right = grown_mark_right;
          unlinked_left = grown_unlinked_left;
          inner_filled = grown_filled;
          size = grown_size;
          below_root = grown_below_root;
          top_level = grown_top_level;
          retired_empty = grown_retired_empty;
          cover = grown_cover;
          cover_marked = grown_cover_marked;
        }

  -- the first tree
  module _ {u : Tree C} (change : IsStarted u) where
    only_root : (x : Handle) (n : Node C) → u.look x ≡ Some n → (x ≡ u.root) × (n.body ≡ Leaf []) × (n.place ≡ Root) × (n.level ≡ 0)
    only_root x n is = elim (handle_cases x u.root) [
      | inl e ↦
          let one : record { level = 0; body = Leaf []; seq = u.counter; right = None; place = Root; attached = [] } ≡ n = cc (change.root_now, is, e) in
          (e, ap (λ node. node.body) (sym one), ap (λ node. node.place) (sym one), ap (λ node. node.level) (sym one))
      | inr apart ↦ absurd (cc (change.others x apart, is))
    ]

    no_entry : (x : Handle) (n : Node C) → u.look x ≡ Some n → (key : Key) (c : Handle) → Contains (entries_of n.body) (key, c) → ⊥
    no_entry x n is key c has = let root = only_root x n is in nothing_in (key, c) (entry_at n.body (Leaf []) (key, c) root.1 has)

    started_differ : (x : Handle) (n : Node C) → u.look x ≡ Some n → Differ (entries_of n.body)
    started_differ x n is =
        let root = only_root x n is in
        subst (λ body. Differ (entries_of body)) (sym root.1) (λ i j d lt long. absurd (omega arith))

    started_size : (x : Handle) (n : Node C) → u.look x ≡ Some n → size_of n.body ≤ NODE_SIZE
    started_size x n is =
        let root = only_root x n is in
        subst (λ body. size_of body ≤ NODE_SIZE) (sym root.1) (omega arith)

    pub shape_started : Shape u
    shape_started =
        record {
          root_place = record { node = record { level = 0; body = Leaf []; seq = u.counter; right = None; place = Root; attached = [] }; is = change.root_now; place = refl };
          root_only = λ x node is place. (only_root x node is).0;
          entry_down = λ p node is key c has. absurd (no_entry p node is key c has);
          entry_up = λ x node is p marked place. let root = only_root x node is in absurd (cc (root.2, place));
          children_differ = started_differ;
          mark_right = λ x node is marked. let root = only_root x node is in let no : false ≡ true = mark_at node.place Root root.2 marked in absurd (cc);
          unlinked_left = λ x node is l place. let root = only_root x node is in absurd (cc (root.2, place));
          inner_filled = λ x node is empty. let root = only_root x node is in absurd (cc (root.1, empty));
          size = started_size;
          below_root = λ x node top is is_top apart. absurd (apart (only_root x node is).0);
          top_level = λ top is. let root = only_root u.root top is in let level = root.3 in omega arith;
          retired_empty = λ x node is stamp place. (only_root x node is).1;
          cover = λ p parent is key c has node is_child. absurd (no_entry p parent is key c has);
          cover_marked = λ p parent is key c has node is_child marked r right to_right is_right. absurd (no_entry p parent is key c has);
        }
