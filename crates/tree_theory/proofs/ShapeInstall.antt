-- An install keeps the shape.
use Rattle.std.proofs.Common.{◌≡◌, ◌≢◌, ◌⊎◌, ℕ, ◌+◌, ◌<◌, ◌≤◌, Bool, true, false, List, [], ◌∷◌, ◌++◌, length, Contains, Some, IsTrue, slice_set, refl, sym, ap, subst, ◌∙◌, inl, inr, arith}
use Rattle.std.proofs.lemmas.List.{length-append, length-set}
use Rattle.std.proofs.lemmas.List.Elements.{Contains-append_cases, Contains-append_left, Contains-append_right}
use Rattle.node_arena.specs.declared.handle.Handle.{Handle}
use Rattle.tree_theory.specs.Changes.{IsKeyFor, IsInstalled}
use Rattle.tree_theory.specs.Invariant.{CoversBody, RootStands, Child, Parent, Right, Left, Shape}
use Rattle.tree_theory.specs.KeyClasses.{Class, Laws}
use Rattle.tree_theory.specs.Nodes.{Body, Node, Tree, is_marked, entries_of, size_of}
use Rattle.tree_theory.specs.Nodes.PlainBody.{Leaf, Inner}
use Rattle.tree_theory.specs.declared.TheConstants.{NODE_SIZE, TOP_LEVEL}
use Rattle.tree_theory.specs.declared.position.Position.{Position}
use Rattle.tree_theory.specs.declared.position.Position.TheVariants.{Root, Linked, Unlinked, Retired}
use Rattle.tree_theory.proofs.ListLemmas.{handle_cases, nothing_in, first_in, in_one, got_in}
use Rattle.tree_theory.proofs.ShapeKept.{mark_at, entry_at, covers_at}
use Rattle.tree_theory.proofs.ShapeLists.{Differ, rekeyed_in, rekeyed_to, rekeyed_from, rekeyed_differ, added_differ}

-- a node's place before and after: l loses its mark, r is linked, and other places stay
data Settles (p l r x : Handle) (old now : Position) : Type 0 where
  settles_same : old ≡ now → x ≢ l → x ≢ r → Settles p l r x old now
  settles_left : x ≡ l → old ≡ Linked p true → now ≡ Linked p false → Settles p l r x old now
  settles_right : x ≡ r → old ≡ Unlinked l → now ≡ Linked p false → Settles p l r x old now

-- whatever is marked now is neither l nor r
settles_marked : {p l r x : Handle} {old now : Position} → Settles p l r x old now → IsTrue (is_marked now) → (old ≡ now) × (x ≢ l) × (x ≢ r)
settles_marked (settles_same e a b) marked = (e, a, b)
settles_marked {p = p} {now = now} (settles_left e was is) marked = let no : false ≡ true = mark_at now (Linked p false) is marked in absurd (cc)
settles_marked {p = p} {now = now} (settles_right e was is) marked = let no : false ≡ true = mark_at now (Linked p false) is marked in absurd (cc)

module _ {Key Query Item : Type 0} {C : Class Key Query Item} where
  -- an entry's old key covers the new one that is made for it
  pub key_for_below : Laws C → (body : Body C) (old key : Key) → IsKeyFor C body old key → CoversBody C old body → C.Covers old key
  key_for_below laws body old key (inl filled) covers = filled.1.least old covers
  key_for_below laws body old key (inr empty) covers = subst (C.Covers old) (sym empty.1) (laws.reflexive old)

  -- and the new key covers the body
  pub key_for_covers : (body : Body C) (old key : Key) → IsKeyFor C body old key → CoversBody C key body
  key_for_covers body old key (inl filled) = filled.1.covers
  key_for_covers (Leaf pairs) old key (inr empty) =
      record { pairs = λ pair has. let lt = has.1 in let none = empty.0 in absurd (omega arith); entries = λ entry has. absurd (nothing_in entry has) }
  key_for_covers (Inner entries) old key (inr empty) =
      record { pairs = λ pair has. absurd (nothing_in pair has); entries = λ entry has. let lt = has.1 in let none = empty.0 in absurd (omega arith) }

  module _ (laws : Laws C) {t u : Tree C} {p l r : Handle} (change : IsInstalled t u p l r) (shape : Shape t) where
    had_entries : (entry : Key × Handle) → Contains change.entries entry → Contains (entries_of change.node.body) entry
    had_entries entry has = entry_at (Inner change.entries) change.node.body entry (sym change.body) has

    left_entry : Contains (entries_of change.node.body) (change.old, l)
    left_entry = had_entries (change.old, l) (got_in change.entries change.index (change.old, l) change.entry)

    -- l is marked under p, and r is unlinked to its right
    is_marked_left : IsTrue (is_marked change.left.place)
    is_marked_left = mark_at (Linked p true) change.left.place (sym change.place) refl

    right_place : change.right.place ≡ Unlinked l
    right_place =
        let right = shape.mark_right l change.left change.left_before is_marked_left in
        let at : right.right ≡ r = cc (right.is_right, change.is_right) in
        let one : right.node ≡ change.right = cc (right.is, change.right_before, at) in
        ap (λ node. node.place) (sym one) ∙ right.place

    right_level : change.left.level ≡ change.right.level
    right_level =
        let right = shape.mark_right l change.left change.left_before is_marked_left in
        let at : right.right ≡ r = cc (right.is_right, change.is_right) in
        let one : right.node ≡ change.right = cc (right.is, change.right_before, at) in
        right.level ∙ ap (λ node. node.level) one

    parent_level : change.node.level ≡ change.left.level + 1
    parent_level =
        let child = shape.entry_down p change.node change.parent_before change.old l left_entry in
        let one : child.node ≡ change.left = cc (child.is, change.left_before) in
        subst (λ node. change.node.level ≡ node.level + 1) one child.level

    left_not_parent : l ≢ p
    left_not_parent e =
        let one : change.left ≡ change.node = cc (change.left_before, change.parent_before, e) in
        let same : change.left.level ≡ change.node.level = ap (λ node. node.level) one in
        let level = parent_level in
        absurd (omega arith)

    right_not_parent : r ≢ p
    right_not_parent e =
        let one : change.right ≡ change.node = cc (change.right_before, change.parent_before, e) in
        let same : change.right.level ≡ change.node.level = ap (λ node. node.level) one in
        let level = parent_level in
        let beside = right_level in
        absurd (omega arith)

    right_not_left : r ≢ l
    right_not_left e =
        let one : change.right ≡ change.left = cc (change.right_before, change.left_before, e) in
        let same : change.right.place ≡ change.left.place = ap (λ node. node.place) one in
        let place = change.place in
        let unlinked = right_place in
        absurd (cc)

    -- no entry names r
    right_not_named : (x : Handle) (n : Node C) → t.look x ≡ Some n → (key : Key) → Contains (entries_of n.body) (key, r) → ⊥
    right_not_named x n is key has =
        let child = shape.entry_down x n is key r has in
        let one : child.node ≡ change.right = cc (child.is, change.right_before) in
        let same : child.node.place ≡ change.right.place = ap (λ node. node.place) one in
        let place = child.place in
        let unlinked = right_place in
        absurd (cc)

    left_wide : C.Covers change.old change.left_key
    left_wide = key_for_below laws change.left.body change.old change.left_key change.for_left (shape.cover p change.node change.parent_before change.old l left_entry change.left change.left_before)

    right_wide : C.Covers change.old change.right_key
    right_wide = key_for_below laws change.right.body change.old change.right_key change.for_right (shape.cover_marked p change.node change.parent_before change.old l left_entry change.left change.left_before is_marked_left r change.right change.is_right change.right_before)

    abbrev rekeyed : List (Key × Handle)
    rekeyed = slice_set change.entries change.index (change.left_key, l)

    abbrev filled_up : List (Key × Handle)
    filled_up = rekeyed ++ (change.right_key, r) ∷ []

    -- the origin of an entry of the new tree
    abbrev Entry : Handle → Node C → Key → Handle → Type 0
    Entry x was key c = Contains (entries_of was.body) (key, c) ⊎ ((x ≡ p) × (((key ≡ change.left_key) × (c ≡ l)) ⊎ ((key ≡ change.right_key) × (c ≡ r))))

    -- the old node of a new one
    record Was (x : Handle) (now : Node C) : Type 0 where
      node : Node C
      is : t.look x ≡ Some node
      level : node.level ≡ now.level
      right : node.right ≡ now.right
      place : Settles p l r x node.place now.place
      entries : (key : Key) (c : Handle) → Contains (entries_of now.body) (key, c) → Entry x node key c
      covers : (key : Key) → CoversBody C key node.body → CoversBody C key now.body
      differ : Differ (entries_of now.body)
      filled : now.body ≡ Inner [] → ⊥
      size : size_of now.body ≤ NODE_SIZE
      empty : node.body ≡ Leaf [] → now.body ≡ Leaf []

    -- the new node of an old one
    record Stays (x : Handle) (was : Node C) : Type 0 where
      node : Node C
      is : u.look x ≡ Some node
      level : node.level ≡ was.level
      right : node.right ≡ was.right
      place : Settles p l r x was.place node.place
      entries : (key : Key) (c : Handle) → Contains (entries_of was.body) (key, c) → (now : Key) × Contains (entries_of node.body) (now, c)

    entries_differ : Differ change.entries
    entries_differ = subst (λ body. Differ (entries_of body)) change.body (shape.children_differ p change.node change.parent_before)

    filled_up_differ : Differ filled_up
    filled_up_differ =
        added_differ rekeyed change.right_key r (rekeyed_differ change.entries change.index change.old change.left_key l change.entry entries_differ) (λ key has.
        elim (rekeyed_from change.entries change.index change.old change.left_key l change.entry key r has) [
          | inl e ↦ right_not_left e.1
          | inr stays ↦ right_not_named p change.node change.parent_before key (had_entries (key, r) stays)
        ])

    filled_up_from : (key : Key) (c : Handle) → Contains filled_up (key, c) → Entry p change.node key c
    filled_up_from key c has = elim (Contains-append_cases rekeyed ((change.right_key, r) ∷ []) (key, c) has) [
      | inl front ↦ elim (rekeyed_from change.entries change.index change.old change.left_key l change.entry key c front) [
        | inl e ↦ inr (refl, inl e)
        | inr stays ↦ inl (had_entries (key, c) stays)
      ]
      | inr back ↦
          let same = in_one (change.right_key, r) (key, c) back in
          inr (refl, inr (sym (ap (λ entry. entry.0) same), sym (ap (λ entry. entry.1) same)))
    ]

    filled_up_covers : (key : Key) → CoversBody C key change.node.body → CoversBody C key (Inner filled_up)
    filled_up_covers key covers =
        let outer = covers.entries (change.old, l) left_entry in
        record {
          pairs = λ pair has. absurd (nothing_in pair has);
          entries = λ entry has. elim (filled_up_from entry.0 entry.1 has) [
            | inl had ↦ covers.entries (entry.0, entry.1) had
            | inr new ↦ elim new.1 [
              | inl left ↦ subst (C.Covers key) (sym left.0) (laws.transitive key change.old change.left_key outer left_wide)
              | inr right ↦ subst (C.Covers key) (sym right.0) (laws.transitive key change.old change.right_key outer right_wide)
            ]
          ];
        }

    filled_up_size : length filled_up ≡ length change.entries + 1
    filled_up_size =
        let long = length-append rekeyed ((change.right_key, r) ∷ []) in
        let same = length-set change.entries change.index (change.left_key, l) in
        omega arith

    was_parent : (n : Node C) → record change.node { body = Inner filled_up } ≡ n → Was p n
    was_parent n e =
        let body : n.body ≡ Inner filled_up = ap (λ node. node.body) (sym e) in
        let size = filled_up_size in
        record {
          node = change.node;
          is = change.parent_before;
          level = ap (λ node. node.level) e;
          right = ap (λ node. node.right) e;
          place = settles_same (ap (λ node. node.place) e) (λ same. left_not_parent (sym same)) (λ same. right_not_parent (sym same));
          entries = λ key c has. filled_up_from key c (entry_at n.body (Inner filled_up) (key, c) body has);
          covers = λ key covers. covers_at (Inner filled_up) n.body key (sym body) (filled_up_covers key covers);
          differ = subst (λ body. Differ (entries_of body)) (sym body) filled_up_differ;
          filled = λ none.
              let nothing : filled_up ≡ [] = ap entries_of (sym body ∙ none) in
              let zero_left : length filled_up ≡ 0 = ap length nothing in
              absurd (omega arith);
          size = let room = change.room in subst (λ body. size_of body ≤ NODE_SIZE) (sym body) (omega arith);
          empty = λ none. let inner = change.body in absurd (cc (inner, none));
        }

    -- a node that keeps its body
    was_like : (x : Handle) (old n : Node C) → t.look x ≡ Some old → old.level ≡ n.level → old.right ≡ n.right → old.body ≡ n.body → Settles p l r x old.place n.place → Was x n
    was_like x old n was level right body place =
        record {
          node = old;
          is = was;
          level = level;
          right = right;
          place = place;
          entries = λ key c has. inl (entry_at n.body old.body (key, c) (sym body) has);
          covers = λ key covers. covers_at old.body n.body key body covers;
          differ = subst (λ body. Differ (entries_of body)) body (shape.children_differ x old was);
          filled = λ none. shape.inner_filled x old was (body ∙ none);
          size = subst (λ body. size_of body ≤ NODE_SIZE) body (shape.size x old was);
          empty = λ none. sym body ∙ none;
        }

    was_left : (x : Handle) (n : Node C) → u.look x ≡ Some n → x ≡ l → Was x n
    was_left x n is at =
        let one : record change.left { place = Linked p false; seq = t.counter + 1 } ≡ n = cc (change.left_now, is, at) in
        was_like x change.left n (cc (change.left_before, at)) (ap (λ node. node.level) one) (ap (λ node. node.right) one) (ap (λ node. node.body) one) (settles_left at change.place (ap (λ node. node.place) (sym one)))

    was_right : (x : Handle) (n : Node C) → u.look x ≡ Some n → x ≡ r → Was x n
    was_right x n is at =
        let one : record change.right { place = Linked p false } ≡ n = cc (change.right_now, is, at) in
        was_like x change.right n (cc (change.right_before, at)) (ap (λ node. node.level) one) (ap (λ node. node.right) one) (ap (λ node. node.body) one) (settles_right at right_place (ap (λ node. node.place) (sym one)))

    was_at : (x : Handle) (n : Node C) → u.look x ≡ Some n → Was x n
    was_at x n is = elim (handle_cases x l) [
      | inl at ↦ was_left x n is at
      | inr not_left ↦ elim (handle_cases x r) [
        | inl at ↦ was_right x n is at
        | inr not_right ↦ elim (handle_cases x p) [
          | inl at ↦
              let one : record change.node { body = Inner filled_up } ≡ n = cc (change.parent_now, is, at) in
              subst (λ x. Was x n) (sym at) (was_parent n one)
          | inr not_parent ↦ was_like x n n (cc (change.others x not_parent not_left not_right, is)) refl refl refl (settles_same refl not_left not_right)
        ]
      ]
    ]

    stays_parent : (n : Node C) → change.node ≡ n → Stays p n
    stays_parent n e =
        record {
          node = record change.node { body = Inner filled_up };
          is = change.parent_now;
          level = ap (λ node. node.level) e;
          right = ap (λ node. node.right) e;
          place = settles_same (ap (λ node. node.place) (sym e)) (λ same. left_not_parent (sym same)) (λ same. right_not_parent (sym same));
          entries = λ key c has.
              let body : n.body ≡ Inner change.entries = ap (λ node. node.body) (sym e) ∙ change.body in
              let now = rekeyed_to change.entries change.index change.old change.left_key l change.entry key c (entry_at n.body (Inner change.entries) (key, c) body has) in
              (now.0, Contains-append_left rekeyed ((change.right_key, r) ∷ []) (now.0, c) now.1);
        }

    stays_left : (n : Node C) → change.left ≡ n → Stays l n
    stays_left n e =
        record {
          node = record change.left { place = Linked p false; seq = t.counter + 1 };
          is = change.left_now;
          level = ap (λ node. node.level) e;
          right = ap (λ node. node.right) e;
          place = settles_left refl (ap (λ node. node.place) (sym e) ∙ change.place) refl;
          entries = λ key c has. (key, entry_at n.body change.left.body (key, c) (ap (λ node. node.body) (sym e)) has);
        }

    stays_right : (n : Node C) → change.right ≡ n → Stays r n
    stays_right n e =
        record {
          node = record change.right { place = Linked p false };
          is = change.right_now;
          level = ap (λ node. node.level) e;
          right = ap (λ node. node.right) e;
          place = settles_right refl (ap (λ node. node.place) (sym e) ∙ right_place) refl;
          entries = λ key c has. (key, entry_at n.body change.right.body (key, c) (ap (λ node. node.body) (sym e)) has);
        }

    stays_at : (x : Handle) (n : Node C) → t.look x ≡ Some n → Stays x n
    stays_at x n is = elim (handle_cases x l) [
      | inl at ↦
          let one : change.left ≡ n = cc (change.left_before, is, at) in
          subst (λ x. Stays x n) (sym at) (stays_left n one)
      | inr not_left ↦ elim (handle_cases x r) [
        | inl at ↦
            let one : change.right ≡ n = cc (change.right_before, is, at) in
            subst (λ x. Stays x n) (sym at) (stays_right n one)
        | inr not_right ↦ elim (handle_cases x p) [
          | inl at ↦
              let one : change.node ≡ n = cc (change.parent_before, is, at) in
              subst (λ x. Stays x n) (sym at) (stays_parent n one)
          | inr not_parent ↦
              record {
                node = n;
                is = cc (change.others x not_parent not_left not_right, is);
                level = refl;
                right = refl;
                place = settles_same refl not_left not_right;
                entries = λ key c has. (key, has);
              }
        ]
      ]
    ]

    -- the root keeps its place, and so do unlinked nodes other than r
    root_stays : (x : Handle) (old now : Position) → Settles p l r x old now → old ≡ Root → now ≡ Root
    root_stays x old now (settles_same e a b) root = sym e ∙ root
    root_stays x old now (settles_left e was is) root = absurd (cc)
    root_stays x old now (settles_right e was is) root = absurd (cc)

    root_was : (x : Handle) (old now : Position) → Settles p l r x old now → now ≡ Root → old ≡ Root
    root_was x old now (settles_same e a b) root = e ∙ root
    root_was x old now (settles_left e was is) root = absurd (cc)
    root_was x old now (settles_right e was is) root = absurd (cc)

    unlinked_stays : (x : Handle) (old now : Position) (left : Handle) → Settles p l r x old now → old ≡ Unlinked left → left ≢ l → now ≡ Unlinked left
    unlinked_stays x old now left (settles_same e a b) unlinked apart = sym e ∙ unlinked
    unlinked_stays x old now left (settles_left e was is) unlinked apart = absurd (cc)
    unlinked_stays x old now left (settles_right e was is) unlinked apart = absurd (apart (cc))

    linked_stays : (x : Handle) (old now : Position) (q : Handle) (marked : Bool) → Settles p l r x old now → old ≡ Linked q marked → (marked : Bool) × (now ≡ Linked q marked)
    linked_stays x old now q marked (settles_same e a b) linked = (marked, sym e ∙ linked)
    linked_stays x old now q marked (settles_left e was is) linked = let same : p ≡ q = cc in (false, subst (λ q. now ≡ Linked q false) same is)
    linked_stays x old now q marked (settles_right e was is) linked = absurd (cc)

    marked_stays : (x : Handle) (old now : Position) (q : Handle) → Settles p l r x old now → old ≡ Linked q true → x ≢ l → now ≡ Linked q true
    marked_stays x old now q (settles_same e a b) linked apart = sym e ∙ linked
    marked_stays x old now q (settles_left e was is) linked apart = absurd (apart e)
    marked_stays x old now q (settles_right e was is) linked apart = absurd (cc)

    installed_root_place : RootStands u
    installed_root_place =
        let was = shape.root_place in
        let now = stays_at t.root was.node was.is in
        record { node = now.node; is = cc (change.clock.root, now.is); place = root_stays t.root was.node.place now.node.place now.place was.place }

    -- an entry's child is linked under its node
    old_down : (x : Handle) (node was : Node C) (key : Key) (c : Handle) → t.look x ≡ Some was → was.level ≡ node.level → Contains (entries_of was.body) (key, c) → Child u x node c
    old_down x node was key c is level has =
        let child = shape.entry_down x was is key c has in
        let now = stays_at c child.node child.is in
        let place = linked_stays c child.node.place now.node.place x child.marked now.place child.place in
        record { node = now.node; is = now.is; marked = place.0; place = place.1; level = cc (level, child.level, now.level) }

    left_down : (node : Node C) → change.node.level ≡ node.level → Child u p node l
    left_down node level =
        record { node = record change.left { place = Linked p false; seq = t.counter + 1 }; is = change.left_now; marked = false; place = refl; level = sym level ∙ parent_level }

    right_down : (node : Node C) → change.node.level ≡ node.level → Child u p node r
    right_down node level =
        record { node = record change.right { place = Linked p false }; is = change.right_now; marked = false; place = refl; level = sym level ∙ (parent_level ∙ ap (λ level. level + 1) right_level) }

    installed_entry_down : (x : Handle) (node : Node C) → u.look x ≡ Some node → (key : Key) (c : Handle) → Contains (entries_of node.body) (key, c) → Child u x node c
    installed_entry_down x node is key c has =
        let was = was_at x node is in
        elim (was.entries key c has) [
          | inl had ↦ old_down x node was.node key c was.is was.level had
          | inr new ↦
              let one : was.node ≡ change.node = cc (was.is, change.parent_before, new.0) in
              let level : change.node.level ≡ node.level = ap (λ node. node.level) (sym one) ∙ was.level in
              elim new.1 [
                | inl left ↦ subst (λ x. Child u x node c) (sym new.0) (subst (λ c. Child u p node c) (sym left.1) (left_down node level))
                | inr right ↦ subst (λ x. Child u x node c) (sym new.0) (subst (λ c. Child u p node c) (sym right.1) (right_down node level))
              ]
        ]

    -- p has an entry for l and one for r
    left_up : (node : Node C) → node.level ≡ change.left.level → Parent u l node p
    left_up node level =
        record {
          node = record change.node { body = Inner filled_up };
          is = change.parent_now;
          key = change.left_key;
          entry = Contains-append_left rekeyed ((change.right_key, r) ∷ []) (change.left_key, l) (rekeyed_in change.entries change.index change.old change.left_key l change.entry);
          level = parent_level ∙ ap (λ level. level + 1) (sym level);
        }

    right_up : (node : Node C) → node.level ≡ change.right.level → Parent u r node p
    right_up node level =
        record {
          node = record change.node { body = Inner filled_up };
          is = change.parent_now;
          key = change.right_key;
          entry = Contains-append_right rekeyed ((change.right_key, r) ∷ []) (change.right_key, r) (first_in (change.right_key, r) []);
          level = parent_level ∙ ap (λ level. level + 1) (right_level ∙ sym level);
        }

    installed_entry_up : (x : Handle) (node : Node C) → u.look x ≡ Some node → (q : Handle) (marked : Bool) → node.place ≡ Linked q marked → Parent u x node q
    installed_entry_up x node is q marked place =
        let was = was_at x node is in
        elim was.place [
          | settles_same e not_left not_right ↦
              let parent = shape.entry_up x was.node was.is q marked (e ∙ place) in
              let now = stays_at q parent.node parent.is in
              let entry = now.entries parent.key x parent.entry in
              record { node = now.node; is = now.is; key = entry.0; entry = entry.1; level = cc (was.level, parent.level, now.level) }
          | settles_left at before after ↦
              let same : p ≡ q = cc (after, place) in
              let one : was.node ≡ change.left = cc (was.is, change.left_before, at) in
              let level : node.level ≡ change.left.level = sym was.level ∙ ap (λ node. node.level) one in
              subst (λ q. Parent u x node q) same (subst (λ x. Parent u x node p) (sym at) (left_up node level))
          | settles_right at before after ↦
              let same : p ≡ q = cc (after, place) in
              let one : was.node ≡ change.right = cc (was.is, change.right_before, at) in
              let level : node.level ≡ change.right.level = sym was.level ∙ ap (λ node. node.level) one in
              subst (λ q. Parent u x node q) same (subst (λ x. Parent u x node p) (sym at) (right_up node level))
        ]

    installed_mark_right : (x : Handle) (node : Node C) → u.look x ≡ Some node → IsTrue (is_marked node.place) → Right u x node
    installed_mark_right x node is marked =
        let was = was_at x node is in
        let same = settles_marked was.place marked in
        let right = shape.mark_right x was.node was.is (mark_at node.place was.node.place (sym same.0) marked) in
        let now = stays_at right.right right.node right.is in
        record { right = right.right; is_right = cc (was.right, right.is_right); node = now.node; is = now.is; place = unlinked_stays right.right right.node.place now.node.place x now.place right.place same.1; level = cc (was.level, right.level, now.level) }

    installed_unlinked_left : (x : Handle) (node : Node C) → u.look x ≡ Some node → (left : Handle) → node.place ≡ Unlinked left → Left u x node left
    installed_unlinked_left x node is at place =
        let was = was_at x node is in
        elim was.place [
          | settles_same e not_left not_right ↦
              let left = shape.unlinked_left x was.node was.is at (e ∙ place) in
              let now = stays_at at left.node left.is in
              let apart : at ≢ l = λ same.
              let one : left.node ≡ change.left = cc (left.is, change.left_before, same) in
              let right : left.node.right ≡ change.left.right = ap (λ node. node.right) one in
              not_right (cc (left.right, change.is_right, right)) in
              record { node = now.node; is = now.is; parent = left.parent; place = marked_stays at left.node.place now.node.place left.parent now.place left.place apart; right = now.right ∙ left.right; level = cc (was.level, left.level, now.level) }
          | settles_left same before after ↦ absurd (cc (after, place))
          | settles_right same before after ↦ absurd (cc (after, place))
        ]

    installed_below_root : (x : Handle) (node top : Node C) → u.look x ≡ Some node → u.look u.root ≡ Some top → x ≢ u.root → node.level < top.level
    installed_below_root x node top is is_top apart =
        let was = was_at x node is in
        let above = was_at u.root top is_top in
        let level = was.level in
        let top_level = above.level in
        let below = shape.below_root x was.node above.node was.is (cc (change.clock.root, above.is)) (λ e. apart (e ∙ sym change.clock.root)) in
        omega arith

    installed_top_level : (top : Node C) → u.look u.root ≡ Some top → top.level ≤ TOP_LEVEL
    installed_top_level top is_top =
        let above = was_at u.root top is_top in
        let level = above.level in
        let high = shape.top_level above.node (cc (change.clock.root, above.is)) in
        omega arith

    installed_retired_empty : (x : Handle) (node : Node C) → u.look x ≡ Some node → (stamp : ℕ) → node.place ≡ Retired stamp → node.body ≡ Leaf []
    installed_retired_empty x node is stamp place =
        let was = was_at x node is in
        elim was.place [
          | settles_same e not_left not_right ↦ was.empty (shape.retired_empty x was.node was.is stamp (e ∙ place))
          | settles_left same before after ↦ absurd (cc (after, place))
          | settles_right same before after ↦ absurd (cc (after, place))
        ]

    -- the new keys cover l and r
    left_covered : (node : Node C) → u.look l ≡ Some node → CoversBody C change.left_key node.body
    left_covered node is =
        let one : record change.left { place = Linked p false; seq = t.counter + 1 } ≡ node = cc (change.left_now, is) in
        covers_at change.left.body node.body change.left_key (ap (λ node. node.body) one) (key_for_covers change.left.body change.old change.left_key change.for_left)

    right_covered : (node : Node C) → u.look r ≡ Some node → CoversBody C change.right_key node.body
    right_covered node is =
        let one : record change.right { place = Linked p false } ≡ node = cc (change.right_now, is) in
        covers_at change.right.body node.body change.right_key (ap (λ node. node.body) one) (key_for_covers change.right.body change.old change.right_key change.for_right)

    installed_cover : (x : Handle) (parent : Node C) → u.look x ≡ Some parent → (key : Key) (c : Handle) → Contains (entries_of parent.body) (key, c) → (node : Node C) → u.look c ≡ Some node → CoversBody C key node.body
    installed_cover x parent is key c has node is_child =
        let was = was_at x parent is in
        elim (was.entries key c has) [
          | inl had ↦
              let child = was_at c node is_child in
              child.covers key (shape.cover x was.node was.is key c had child.node child.is)
          | inr new ↦ elim new.1 [
            | inl left ↦ subst (λ key. CoversBody C key node.body) (sym left.0) (left_covered node (cc (is_child, left.1)))
            | inr right ↦ subst (λ key. CoversBody C key node.body) (sym right.0) (right_covered node (cc (is_child, right.1)))
          ]
        ]

    installed_cover_marked : (x : Handle) (parent : Node C) → u.look x ≡ Some parent → (key : Key) (c : Handle) → Contains (entries_of parent.body) (key, c) → (node : Node C) → u.look c ≡ Some node → IsTrue (is_marked node.place) → (beside : Handle) (right : Node C) → node.right ≡ Some beside → u.look beside ≡ Some right → CoversBody C key right.body
    installed_cover_marked x parent is key c has node is_child marked beside right to_right is_right =
        let was = was_at x parent is in
        let child = was_at c node is_child in
        let same = settles_marked child.place marked in
        elim (was.entries key c has) [
          | inl had ↦
              let other = was_at beside right is_right in
              other.covers key (shape.cover_marked x was.node was.is key c had child.node child.is (mark_at node.place child.node.place (sym same.0) marked) beside other.node (child.right ∙ to_right) other.is)
          | inr new ↦ elim new.1 [
            | inl left ↦ absurd (same.1 left.1)
            | inr right ↦ absurd (same.2 right.1)
          ]
        ]

    pub shape_installed : Shape u
    shape_installed =
        record {
          root_place = installed_root_place;
          root_only = λ x node is place. let was = was_at x node is in shape.root_only x was.node was.is (root_was x was.node.place node.place was.place place) ∙ sym change.clock.root;
          entry_down = installed_entry_down;
          entry_up = installed_entry_up;
          children_differ = λ x node is. (was_at x node is).differ;
          mark_right = installed_mark_right;
          unlinked_left = installed_unlinked_left;
          inner_filled = λ x node is. (was_at x node is).filled;
          size = λ x node is. (was_at x node is).size;
          below_root = installed_below_root;
          top_level = installed_top_level;
          retired_empty = installed_retired_empty;
          cover = installed_cover;
          cover_marked = installed_cover_marked;
        }
