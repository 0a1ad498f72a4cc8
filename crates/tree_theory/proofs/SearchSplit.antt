-- Splits, growth of the root and installs keep the clauses on searches.
use Rattle.std.proofs.Common.{◌≡◌, ◌≢◌, ◌⊎◌, ℕ, ◌+◌, ◌≤◌, true, false, List, [], ◌∷◌, ◌++◌, Contains, slice_set, Option, Some, None, IsTrue, refl, sym, ap, subst, ◌∙◌, inl, inr, arith}
use Rattle.std.specs.Option.{option_map}
use Rattle.std.proofs.lemmas.List.Elements.{Contains-append_cases}
use Rattle.node_arena.specs.declared.handle.Handle.{Handle}
use Rattle.tree_theory.specs.Changes.{IsSplit, IsGrown, IsInstalled, IsKeyFor, Copied, grown}
use Rattle.tree_theory.specs.Invariant.{CoversBody, Shape, Searches}
use Rattle.tree_theory.specs.KeyClasses.{Class, Laws}
use Rattle.tree_theory.specs.Nodes.{Body, Node, Search, Tree, is_marked, is_followed, under, entries_of, pairs_of, children_of}
use Rattle.tree_theory.specs.Nodes.PlainBody.{Inner}
use Rattle.tree_theory.specs.Walks.{Step, Leads, Done, Owed}
use Rattle.tree_theory.specs.Walks.Leads.{here, along}
use Rattle.tree_theory.specs.declared.position.Position.{Position}
use Rattle.tree_theory.specs.declared.position.Position.TheVariants.{Linked, Unlinked}
use Rattle.tree_theory.proofs.ListLemmas.{nothing_in, in_cases, in_one, got_in, set_cases, one_in, other_in, handle_cases, child_cases}
use Rattle.tree_theory.proofs.Leads.{followed_marked, followed_later, leads_trans}
use Rattle.tree_theory.proofs.Replaced.{Keeps, owed_kept}
use Rattle.tree_theory.proofs.SearchKept.{Seen, SeenBy, After, same_after, ticked_after, all_stay, seen_kept, kept_searches, linked_not_retired, unlinked_not_retired}
use Rattle.tree_theory.proofs.SearchMoved.{moved_itself, moved_under, seen_moved, Goes, goes_moved, goes_keeps, before_of}

module _ {Key Query Item : Type 0} {C : Class Key Query Item} where
  -- a number of a copied list is an old one
  pub copied_from : {t : Tree C} {old new : List ℕ} → Copied t old new → (s : ℕ) → Contains new s → Contains old s
  copied_from numbers s has = elim (numbers.only s has) [
    | inl was ↦ was
    | inr none ↦ absurd none
  ]

  -- a search that has seen a node has seen an unmarked one with a part of its contents
  pub seen_by_part : {u : Tree C} {s : ℕ} (whole part : Body C) (place at : Position) (right : Option Handle) → SeenBy u whole place right s → ((entry : Key × Handle) → Contains (entries_of part) entry → Contains (entries_of whole) entry) → ((pair : ℕ × Item) → Contains (pairs_of part) pair → Contains (pairs_of whole) pair) → is_marked at ≡ false → (beside : Option Handle) → SeenBy u part at beside s
  seen_by_part whole part place at right seen entries pairs unmarked beside =
      record {
        child = λ now is key c entry. seen.child now is key c (entries (key, c) entry);
        mark = λ now is marked. absurd (cc);
        found = λ now is pair has. seen.found now is pair (pairs pair has);
        given = seen.given;
      }

  pub searches_split : {t u : Tree C} {h r : Handle} → Shape t → Searches t → IsSplit t u h r → Searches u
  searches_split {t = t} {u = u} {h = h} {r = r} shape searches change = kept_searches shape searches clock (all_stay keeps searches clock change.searches) (λ x n is. from x n is (handle_cases x h) (handle_cases x r) (child_cases (children_of change.moved) x))
    where
      clock : After t u
      clock = same_after change.clock

      left : Node C
      left = record change.node { body = change.kept; right = Some r; place = Linked change.parent true }

      right : Node C
      right = record change.node { body = change.moved; place = Unlinked h; attached = change.attached }

      -- across the mark to the new node, then along the old rightlink
      leads : (memo : ℕ) → IsTrue (is_followed change.node.place change.node.seq memo) → (y : Handle) → change.node.right ≡ Some y → Leads u memo y h
      leads memo follows y beside =
          let before : IsTrue (is_followed (Linked change.parent false) change.node.seq memo) = subst (λ place. IsTrue (is_followed place change.node.seq memo)) change.place follows in
          along {y = r} (record { node = left; is = change.left_now; follows = followed_marked left.place left.seq memo refl; right = refl }) (along {y = y} (record { node = right; is = change.right_now; follows = before; right = beside }) here)

      at_left : Goes t u h change.node
      at_left = record { node = left; is = change.left_now; attached = λ s has. has; leads = λ memo below. leads memo }

      to : (x : Handle) (old : Node C) → t.look x ≡ Some old → (x ≡ h) ⊎ (x ≢ h) → (x ≡ r) ⊎ (x ≢ r) → Contains (children_of change.moved) x ⊎ (Contains (children_of change.moved) x → ⊥) → Goes t u x old
      to x old is (inl e) b c =
          let same : change.node ≡ old = cc (change.before, is, e) in
          subst (λ x. Goes t u x old) (sym e) (subst (Goes t u h) same at_left)
      to x old is (inr a) (inl e) c = absurd (cc (change.fresh, is, e))
      to x old is (inr a) (inr b) (inl c) = goes_moved x old (under r old) (change.children x a b c ∙ ap (option_map (under r)) is) (moved_under r old)
      to x old is (inr a) (inr b) (inr c) = goes_moved x old old (change.others x a b c ∙ is) (moved_itself old)

      keeps : Keeps t u
      keeps = goes_keeps searches (λ x old is. to x old is (handle_cases x h) (handle_cases x r) (child_cases (children_of change.moved) x))

      kept : (x : Handle) (n : Node C) → t.look x ≡ Some n → Seen u n
      kept = seen_kept shape searches clock (λ s now is below. all_stay keeps searches clock change.searches s now is)

      before : Seen u change.node
      before = kept h change.node change.before

      left_by : (s : ℕ) → Contains change.node.attached s → SeenBy u change.kept (Linked change.parent true) (Some r) s
      left_by s has =
          let seen = before.by s has in
          record {
            child = λ now is key c entry. seen.child now is key c (one_in (key, c) change.halves.entries entry);
            mark = λ now is marked beside is_right.
                let same : r ≡ beside = cc (is_right) in
                let was : t.searches s ≡ Some now = cc (change.searches.search s, is) in
                inl (subst (Done u s) same (record { node = right; is = change.right_now; attached = change.numbers.keeps s now was has }));
            found = λ now is pair is_in. seen.found now is pair (one_in pair change.halves.pairs is_in);
            given = seen.given;
          }

      seen_left : Seen u left
      seen_left = record { by = left_by; seq = before.seq; retired = λ stamp e. absurd (linked_not_retired left.place change.parent true stamp refl e) }

      seen_right : Seen u right
      seen_right =
          record {
            by = λ s has. seen_by_part change.node.body change.moved change.node.place (Unlinked h) change.node.right (before.by s (copied_from change.numbers s has)) (λ entry is_in. other_in entry change.halves.entries is_in) (λ pair is_in. other_in pair change.halves.pairs is_in) refl change.node.right;
            seq = before.seq;
            retired = λ stamp e. absurd (unlinked_not_retired right.place h stamp refl e);
          }

      from : (x : Handle) (n : Node C) → u.look x ≡ Some n → (x ≡ h) ⊎ (x ≢ h) → (x ≡ r) ⊎ (x ≢ r) → Contains (children_of change.moved) x ⊎ (Contains (children_of change.moved) x → ⊥) → Seen u n
      from x n is (inl e) b c = let same : left ≡ n = cc (change.left_now, is, e) in subst (Seen u) same seen_left
      from x n is (inr a) (inl e) c = let same : right ≡ n = cc (change.right_now, is, e) in subst (Seen u) same seen_right
      from x n is (inr a) (inr b) (inl c) =
          let was = before_of (under r) (t.look x) n (sym (change.children x a b c) ∙ is) in
          subst (Seen u) was.changed (seen_moved (moved_under r was.old) (kept x was.old was.is))
      from x n is (inr a) (inr b) (inr c) = kept x n (sym (change.others x a b c) ∙ is)

  pub searches_grown : {t u : Tree C} {a b : Handle} → Shape t → Searches t → IsGrown t u a b → Searches u
  searches_grown {t = t} {u = u} {a = a} {b = b} shape searches change = kept_searches shape searches clock (all_stay keeps searches clock change.searches) (λ x n is. from x n is (handle_cases x t.root) (handle_cases x a) (handle_cases x b) (child_cases (children_of change.one) x) (child_cases (children_of change.two) x))
    where
      clock : After t u
      clock = same_after change.clock

      entries : List (Key × Handle)
      entries = (change.one_key, a) ∷ (change.two_key, b) ∷ []

      top : Node C
      top = record change.node { level = change.node.level + 1; body = Inner entries }

      at_a : Node C
      at_a = grown t change.node change.one change.one_attached

      at_b : Node C
      at_b = grown t change.node change.two change.two_attached

      at_root : Goes t u t.root change.node
      at_root = record { node = top; is = change.root_now; attached = λ s has. has; leads = λ memo below follows y right. along (record { node = top; is = change.root_now; follows = follows; right = right }) here }

      to : (x : Handle) (old : Node C) → t.look x ≡ Some old → (x ≡ t.root) ⊎ (x ≢ t.root) → (x ≡ a) ⊎ (x ≢ a) → (x ≡ b) ⊎ (x ≢ b) → Contains (children_of change.one) x ⊎ (Contains (children_of change.one) x → ⊥) → Contains (children_of change.two) x ⊎ (Contains (children_of change.two) x → ⊥) → Goes t u x old
      to x old is (inl e) f g h i =
          let same : change.node ≡ old = cc (change.before, is, e) in
          subst (λ x. Goes t u x old) (sym e) (subst (Goes t u t.root) same at_root)
      to x old is (inr e) (inl f) g h i = absurd (cc (change.fresh_one, is, f))
      to x old is (inr e) (inr f) (inl g) h i = absurd (cc (change.fresh_two, is, g))
      to x old is (inr e) (inr f) (inr g) (inl h) i = goes_moved x old (under a old) (change.one_children x e f g h ∙ ap (option_map (under a)) is) (moved_under a old)
      to x old is (inr e) (inr f) (inr g) (inr h) (inl i) = goes_moved x old (under b old) (change.two_children x e f g i ∙ ap (option_map (under b)) is) (moved_under b old)
      to x old is (inr e) (inr f) (inr g) (inr h) (inr i) = goes_moved x old old (change.others x e f g h i ∙ is) (moved_itself old)

      keeps : Keeps t u
      keeps = goes_keeps searches (λ x old is. to x old is (handle_cases x t.root) (handle_cases x a) (handle_cases x b) (child_cases (children_of change.one) x) (child_cases (children_of change.two) x))

      kept : (x : Handle) (n : Node C) → t.look x ≡ Some n → Seen u n
      kept = seen_kept shape searches clock (λ s now is below. all_stay keeps searches clock change.searches s now is)

      before : Seen u change.node
      before = kept t.root change.node change.before

      -- a search that has seen the root is done with its two new children
      top_by : (s : ℕ) → Contains change.node.attached s → SeenBy u (Inner entries) change.node.place change.node.right s
      top_by s has =
          let seen = before.by s has in
          record {
            child = λ now is key c entry consistent.
                let was : t.searches s ≡ Some now = cc (change.searches.search s, is) in
                elim (in_cases (change.one_key, a) ((change.two_key, b) ∷ []) (key, c) entry) [
                  | inl e ↦ inl (subst (Done u s) (ap (λ entry. entry.1) e) (record { node = at_a; is = change.one_now; attached = change.one_numbers.keeps s now was has }))
                  | inr last ↦ inl (subst (Done u s) (ap (λ entry. entry.1) (in_one (change.two_key, b) (key, c) last)) (record { node = at_b; is = change.two_now; attached = change.two_numbers.keeps s now was has }))
                ];
            mark = seen.mark;
            found = λ now is pair is_in. absurd (nothing_in pair is_in);
            given = seen.given;
          }

      seen_top : Seen u top
      seen_top = record { by = top_by; seq = before.seq; retired = before.retired }

      counted : t.counter ≤ u.counter
      counted = clock.counter

      seen_a : Seen u at_a
      seen_a =
          record {
            by = λ s has. seen_by_part change.node.body change.one change.node.place (Linked t.root false) change.node.right (before.by s (copied_from change.one_numbers s has)) (λ entry is_in. one_in entry change.halves.entries is_in) (λ pair is_in. one_in pair change.halves.pairs is_in) refl None;
            seq = counted;
            retired = λ stamp e. absurd (linked_not_retired at_a.place t.root false stamp refl e);
          }

      seen_b : Seen u at_b
      seen_b =
          record {
            by = λ s has. seen_by_part change.node.body change.two change.node.place (Linked t.root false) change.node.right (before.by s (copied_from change.two_numbers s has)) (λ entry is_in. other_in entry change.halves.entries is_in) (λ pair is_in. other_in pair change.halves.pairs is_in) refl None;
            seq = counted;
            retired = λ stamp e. absurd (linked_not_retired at_b.place t.root false stamp refl e);
          }

      from : (x : Handle) (n : Node C) → u.look x ≡ Some n → (x ≡ t.root) ⊎ (x ≢ t.root) → (x ≡ a) ⊎ (x ≢ a) → (x ≡ b) ⊎ (x ≢ b) → Contains (children_of change.one) x ⊎ (Contains (children_of change.one) x → ⊥) → Contains (children_of change.two) x ⊎ (Contains (children_of change.two) x → ⊥) → Seen u n
      from x n is (inl e) f g h i = let same : top ≡ n = cc (change.root_now, is, e) in subst (Seen u) same seen_top
      from x n is (inr e) (inl f) g h i = let same : at_a ≡ n = cc (change.one_now, is, f) in subst (Seen u) same seen_a
      from x n is (inr e) (inr f) (inl g) h i = let same : at_b ≡ n = cc (change.two_now, is, g) in subst (Seen u) same seen_b
      from x n is (inr e) (inr f) (inr g) (inl h) i =
          let was = before_of (under a) (t.look x) n (sym (change.one_children x e f g h) ∙ is) in
          subst (Seen u) was.changed (seen_moved (moved_under a was.old) (kept x was.old was.is))
      from x n is (inr e) (inr f) (inr g) (inr h) (inl i) =
          let was = before_of (under b) (t.look x) n (sym (change.two_children x e f g i) ∙ is) in
          subst (Seen u) was.changed (seen_moved (moved_under b was.old) (kept x was.old was.is))
      from x n is (inr e) (inr f) (inr g) (inr h) (inr i) = kept x n (sym (change.others x e f g h i) ∙ is)

  -- the new key of an entry is covered by the old one
  pub key_covered : (laws : Laws C) (body : Body C) (old key : Key) → CoversBody C old body → IsKeyFor C body old key → C.Covers old key
  key_covered laws body old key covers (inl filled) = filled.1.least old covers
  key_covered laws body old key covers (inr same) = rw (same.1) (laws.reflexive old)

  pub searches_installed : {t u : Tree C} {p l r : Handle} → Laws C → Shape t → Searches t → IsInstalled t u p l r → Searches u
  searches_installed {t = t} {u = u} {p = p} {l = l} {r = r} laws shape searches change = kept_searches shape searches clock (all_stay keeps searches clock change.searches) (λ x n is. from x n is (handle_cases x p) (handle_cases x l) (handle_cases x r))
    where
      clock : After t u
      clock = ticked_after change.clock

      set : Key × Handle
      set = (change.left_key, l)

      new : Key × Handle
      new = (change.right_key, r)

      entries : List (Key × Handle)
      entries = slice_set change.entries change.index set ++ new ∷ []

      above : Node C
      above = record change.node { body = Inner entries }

      left : Node C
      left = record change.left { place = Linked p false; seq = t.counter + 1 }

      right : Node C
      right = record change.right { place = Linked p false }

      marked : IsTrue (is_marked change.left.place)
      marked = rw change.place refl

      -- the right node was unlinked, so it was followed only by its number
      right_place : change.right.place ≡ Unlinked l
      right_place =
          let beside = shape.mark_right l change.left change.left_before marked in
          let same : beside.right ≡ r = cc (beside.is_right, change.is_right) in
          let node : beside.node ≡ change.right = cc (beside.is, change.right_before, same) in
          subst (λ n. n.place ≡ Unlinked l) node beside.place

      at_above : Goes t u p change.node
      at_above = record { node = above; is = change.parent_now; attached = λ s has. has; leads = λ memo below follows y to. along (record { node = above; is = change.parent_now; follows = follows; right = to }) here }

      -- the left node has a number above all memos
      at_left : Goes t u l change.left
      at_left =
          record {
            node = left;
            is = change.left_now;
            attached = λ s has. has;
            leads = λ memo below follows y to. along (record { node = left; is = change.left_now; follows = followed_later left.place left.seq memo (omega arith); right = to }) here;
          }

      at_right : Goes t u r change.right
      at_right =
          record {
            node = right;
            is = change.right_now;
            attached = λ s has. has;
            leads = λ memo below follows y to.
                let before : IsTrue (is_followed (Unlinked l) change.right.seq memo) = subst (λ place. IsTrue (is_followed place change.right.seq memo)) right_place follows in
                along (record { node = right; is = change.right_now; follows = before; right = to }) here;
          }

      to : (x : Handle) (old : Node C) → t.look x ≡ Some old → (x ≡ p) ⊎ (x ≢ p) → (x ≡ l) ⊎ (x ≢ l) → (x ≡ r) ⊎ (x ≢ r) → Goes t u x old
      to x old is (inl e) f g =
          let same : change.node ≡ old = cc (change.parent_before, is, e) in
          subst (λ x. Goes t u x old) (sym e) (subst (Goes t u p) same at_above)
      to x old is (inr e) (inl f) g =
          let same : change.left ≡ old = cc (change.left_before, is, f) in
          subst (λ x. Goes t u x old) (sym f) (subst (Goes t u l) same at_left)
      to x old is (inr e) (inr f) (inl g) =
          let same : change.right ≡ old = cc (change.right_before, is, g) in
          subst (λ x. Goes t u x old) (sym g) (subst (Goes t u r) same at_right)
      to x old is (inr e) (inr f) (inr g) = goes_moved x old old (change.others x e f g ∙ is) (moved_itself old)

      keeps : Keeps t u
      keeps = goes_keeps searches (λ x old is. to x old is (handle_cases x p) (handle_cases x l) (handle_cases x r))

      kept : (x : Handle) (n : Node C) → t.look x ≡ Some n → Seen u n
      kept = seen_kept shape searches clock (λ s now is below. all_stay keeps searches clock change.searches s now is)

      before : Seen u change.node
      before = kept p change.node change.parent_before

      in_node : (key : Key) (c : Handle) → Contains change.entries (key, c) → Contains (entries_of change.node.body) (key, c)
      in_node key c has = rw change.body has

      old_entry : Contains (entries_of change.node.body) (change.old, l)
      old_entry = in_node change.old l (got_in change.entries change.index (change.old, l) change.entry)

      left_covered : C.Covers change.old change.left_key
      left_covered = key_covered laws change.left.body change.old change.left_key (shape.cover p change.node change.parent_before change.old l old_entry change.left change.left_before) change.for_left

      right_covered : C.Covers change.old change.right_key
      right_covered = key_covered laws change.right.body change.old change.right_key (shape.cover_marked p change.node change.parent_before change.old l old_entry change.left change.left_before marked r change.right change.is_right change.right_before) change.for_right

      -- a search to which the left node is owed is owed the right one
      owed_right : (s : ℕ) (now : Search C) → t.searches s ≡ Some now → Owed t s now l → Owed t s now r
      owed_right s now was (inl done) =
          let same : done.node ≡ change.left = cc (done.is, change.left_before) in
          searches.search_mark s now was l change.left change.left_before (subst (λ n. Contains n.attached s) same done.attached) marked r change.is_right
      owed_right s now was (inr stacked) =
          let step : Step t stacked.memo l r = record { node = change.left; is = change.left_before; follows = followed_marked change.left.place change.left.seq stacked.memo marked; right = change.is_right } in
          inr (record { from = stacked.from; memo = stacked.memo; on_stack = stacked.on_stack; leads = leads_trans stacked.leads (along {y = r} step here) })

      above_by : (s : ℕ) → Contains change.node.attached s → SeenBy u (Inner entries) change.node.place change.node.right s
      above_by s has =
          let seen = before.by s has in
          record {
            child = λ now is key c entry consistent.
                let was : t.searches s ≡ Some now = cc (change.searches.search s, is) in
                elim (Contains-append_cases (slice_set change.entries change.index set) (new ∷ []) (key, c) entry) [
                  | inl first ↦ elim (set_cases change.entries change.index set (key, c) first) [
                    | inl e ↦
                        let at : C.Consistent change.left_key now.query = subst (λ entry. C.Consistent entry.0 now.query) (sym e) consistent in
                        subst (λ entry. Owed u s now entry.1) e (seen.child now is change.old l old_entry (laws.monotone change.old change.left_key now.query left_covered at))
                    | inr old ↦ seen.child now is key c (in_node key c old) consistent
                  ]
                  | inr last ↦
                      let e : new ≡ (key, c) = in_one new (key, c) last in
                      let at : C.Consistent change.right_key now.query = subst (λ entry. C.Consistent entry.0 now.query) (sym e) consistent in
                      let owed_left = searches.search_child s now was p change.node change.parent_before has change.old l old_entry (laws.monotone change.old change.right_key now.query right_covered at) in
                      subst (λ entry. Owed u s now entry.1) e (owed_kept keeps s now was r (owed_right s now was owed_left))
                ];
            mark = seen.mark;
            found = λ now is pair is_in. absurd (nothing_in pair is_in);
            given = seen.given;
          }

      seen_above : Seen u above
      seen_above = record { by = above_by; seq = before.seq; retired = before.retired }

      seen_left : Seen u left
      seen_left =
          let was = kept l change.left change.left_before in
          record {
            by = λ s has. seen_by_part change.left.body change.left.body change.left.place (Linked p false) change.left.right (was.by s has) (λ entry is_in. is_in) (λ pair is_in. is_in) refl change.left.right;
            seq = let rises = change.clock.counter in omega arith;
            retired = λ stamp e. absurd (linked_not_retired left.place p false stamp refl e);
          }

      seen_right : Seen u right
      seen_right =
          let was = kept r change.right change.right_before in
          record {
            by = λ s has. seen_by_part change.right.body change.right.body change.right.place (Linked p false) change.right.right (was.by s has) (λ entry is_in. is_in) (λ pair is_in. is_in) refl change.right.right;
            seq = was.seq;
            retired = λ stamp e. absurd (linked_not_retired right.place p false stamp refl e);
          }

      from : (x : Handle) (n : Node C) → u.look x ≡ Some n → (x ≡ p) ⊎ (x ≢ p) → (x ≡ l) ⊎ (x ≢ l) → (x ≡ r) ⊎ (x ≢ r) → Seen u n
      from x n is (inl e) f g = let same : above ≡ n = cc (change.parent_now, is, e) in subst (Seen u) same seen_above
      from x n is (inr e) (inl f) g = let same : left ≡ n = cc (change.left_now, is, f) in subst (Seen u) same seen_left
      from x n is (inr e) (inr f) (inl g) = let same : right ≡ n = cc (change.right_now, is, g) in subst (Seen u) same seen_right
      from x n is (inr e) (inr f) (inr g) = kept x n (sym (change.others x e f g) ∙ is)
