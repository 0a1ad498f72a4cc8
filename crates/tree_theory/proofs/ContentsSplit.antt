-- The contents stay where a node splits or the root grows.
use Rattle.std.proofs.Common.{◌≡◌, ◌≢◌, ◌⊎◌, ◌↔◌, ℕ, List, [], ◌∷◌, ◌++◌, append_assoc, Contains, AllPairs, flat_map, IsSome, sym, ap, subst, ◌∙◌, inl, inr}
use Rattle.std.specs.List.Sorted.{IsPermutation}
use Rattle.node_arena.specs.declared.handle.Handle.{Handle}
use Rattle.tree_theory.specs.Changes.{IsSplit, IsGrown}
use Rattle.tree_theory.specs.Contents.{IsContents, pairs_at}
use Rattle.tree_theory.specs.KeyClasses.{Class}
use Rattle.tree_theory.specs.Nodes.{Tree, pairs_of, children_of}
use Rattle.tree_theory.proofs.ContentsKept.{SameAt, at_same, at_moved, stands_some, none_stands}
use Rattle.tree_theory.proofs.ContentsLists.{as_it_is, turned_round, then_to, before_all, behind_all, exchanged, parts_together, same_parts, Without, without}
use Rattle.tree_theory.proofs.ListLemmas.{handle_cases, child_cases, first_in, later_in, in_cases}
use Rattle.tree_theory.proofs.ShapeLists.{pairs_with}

-- a new handle in front of a list of old ones
fresh_before : (standing : Handle → Type 0) (new : Handle) (handles : List Handle) → (standing new → ⊥) → ((h : Handle) → Contains handles h → standing h) → AllPairs (λ one other. one ≢ other) handles → AllPairs (λ one other. one ≢ other) (new ∷ handles)
fresh_before standing new handles absent listed distinct =
    pairs_with (λ one other. one ≢ other) new handles (λ h has e. absent (subst standing (sym e) (listed h has))) distinct

module _ {Key Query Item : Type 0} {C : Class Key Query Item} where
  module _ {t u : Tree C} {h r : Handle} {xs : List (ℕ × Item)} (change : IsSplit t u h r) (c : IsContents t xs) where
    abbrev split_was : Handle → List (ℕ × Item)
    split_was x = pairs_at (t.look x)

    abbrev split_now : Handle → List (ℕ × Item)
    split_now x = pairs_at (u.look x)

    split_other : (x : Handle) → x ≢ h → x ≢ r → SameAt t u x
    split_other x not_left not_right = elim (child_cases (children_of change.moved) x) [
      | inl moved ↦ at_moved r (change.children x not_left not_right moved)
      | inr not ↦ at_same (change.others x not_left not_right not)
    ]

    split_stands : (x : Handle) → x ≢ r → (IsSome (t.look x) → IsSome (u.look x)) × (IsSome (u.look x) → IsSome (t.look x))
    split_stands x not_right = elim (handle_cases x h) [
      | inl e ↦ (λ some. subst (λ x. IsSome (u.look x)) (sym e) (stands_some (u.look h) _ change.left_now), λ some. subst (λ x. IsSome (t.look x)) (sym e) (stands_some (t.look h) change.node change.before))
      | inr not_left ↦ let same = split_other x not_left not_right in (same.to, same.from)
    ]

    split_not_fresh : (x : Handle) → Contains c.handles x → x ≢ r
    split_not_fresh x has e = none_stands (t.look r) change.fresh (subst (λ x. IsSome (t.look x)) e ((c.listing.listed x).0 has))

    split_listed : (x : Handle) → Contains (r ∷ c.handles) x ↔ IsSome (u.look x)
    split_listed x = (
      λ has. elim (in_cases r c.handles x has) [
        | inl e ↦ subst (λ x. IsSome (u.look x)) e (stands_some (u.look r) _ change.right_now)
        | inr later ↦ (split_stands x (split_not_fresh x later)).0 ((c.listing.listed x).0 later)
      ],
      λ some. elim (handle_cases x r) [
        | inl e ↦ subst (Contains (r ∷ c.handles)) (sym e) (first_in r c.handles)
        | inr not_right ↦ later_in r c.handles x ((c.listing.listed x).1 ((split_stands x not_right).1 some))
      ],
    )

    split_without : Without (ℕ × Item) c.handles h
    split_without = without (ℕ × Item) c.handles h c.listing.distinct ((c.listing.listed h).1 (stands_some (t.look h) change.node change.before))

    split_rest : flat_map split_now split_without.rest ≡ flat_map split_was split_without.rest
    split_rest =
        same_parts split_now split_was split_without.rest (λ x has.
        (split_other x (λ e. split_without.absent (subst (Contains split_without.rest) e has)) (split_not_fresh x (split_without.inside x has))).pairs)

    split_same : IsPermutation (flat_map split_now (r ∷ c.handles)) xs
    split_same =
        let kept = pairs_of change.kept in
        let moved = pairs_of change.moved in
        let others = flat_map split_was split_without.rest in
        let at_r : split_now r ≡ moved = ap pairs_at change.right_now in
        let at_h : split_now h ≡ kept = ap pairs_at change.left_now in
        let front : IsPermutation (flat_map split_now c.handles) (kept ++ others) =
        then_to (split_without.front split_now) (as_it_is (ap (λ part. part ++ flat_map split_now split_without.rest) at_h ∙ ap (λ rest. kept ++ rest) split_rest)) in
        let whole : IsPermutation ((kept ++ moved) ++ others) (pairs_of change.node.body ++ others) = before_all others (turned_round (parts_together change.halves.pairs)) in
        let was : IsPermutation (pairs_of change.node.body ++ others) xs =
        then_to (as_it_is (ap (λ node. pairs_at node ++ others) (sym change.before))) (then_to (turned_round (split_without.front split_was)) c.same) in
        then_to (as_it_is (ap (λ part. part ++ flat_map split_now c.handles) at_r)) (then_to (behind_all moved front) (then_to (exchanged moved kept others) (then_to (as_it_is (sym (append_assoc kept moved others))) (then_to whole was))))

    pub contents_split : IsContents u xs
    contents_split =
        record {
          handles = r ∷ c.handles;
          listing = record {
            distinct = fresh_before (λ x. IsSome (t.look x)) r c.handles (none_stands (t.look r) change.fresh) (λ x has. (c.listing.listed x).0 has) c.listing.distinct;
            listed = split_listed;
          };
          same = split_same;
        }

  module _ {t u : Tree C} {a b : Handle} {xs : List (ℕ × Item)} (change : IsGrown t u a b) (c : IsContents t xs) where
    abbrev grown_was : Handle → List (ℕ × Item)
    grown_was x = pairs_at (t.look x)

    abbrev grown_now : Handle → List (ℕ × Item)
    grown_now x = pairs_at (u.look x)

    grown_other : (x : Handle) → x ≢ t.root → x ≢ a → x ≢ b → SameAt t u x
    grown_other x not_root not_a not_b = elim (child_cases (children_of change.one) x) [
      | inl one ↦ at_moved a (change.one_children x not_root not_a not_b one)
      | inr not_one ↦ elim (child_cases (children_of change.two) x) [
        | inl two ↦ at_moved b (change.two_children x not_root not_a not_b two)
        | inr not_two ↦ at_same (change.others x not_root not_a not_b not_one not_two)
      ]
    ]

    grown_stands : (x : Handle) → x ≢ a → x ≢ b → (IsSome (t.look x) → IsSome (u.look x)) × (IsSome (u.look x) → IsSome (t.look x))
    grown_stands x not_a not_b = elim (handle_cases x t.root) [
      | inl e ↦ (λ some. subst (λ x. IsSome (u.look x)) (sym e) (stands_some (u.look t.root) _ change.root_now), λ some. subst (λ x. IsSome (t.look x)) (sym e) (stands_some (t.look t.root) change.node change.before))
      | inr not_root ↦ let same = grown_other x not_root not_a not_b in (same.to, same.from)
    ]

    grown_not_a : (x : Handle) → Contains c.handles x → x ≢ a
    grown_not_a x has e = none_stands (t.look a) change.fresh_one (subst (λ x. IsSome (t.look x)) e ((c.listing.listed x).0 has))

    grown_not_b : (x : Handle) → Contains c.handles x → x ≢ b
    grown_not_b x has e = none_stands (t.look b) change.fresh_two (subst (λ x. IsSome (t.look x)) e ((c.listing.listed x).0 has))

    grown_listed : (x : Handle) → Contains (a ∷ b ∷ c.handles) x ↔ IsSome (u.look x)
    grown_listed x = (
      λ has. elim (in_cases a (b ∷ c.handles) x has) [
        | inl e ↦ subst (λ x. IsSome (u.look x)) e (stands_some (u.look a) _ change.one_now)
        | inr later ↦ elim (in_cases b c.handles x later) [
          | inl e ↦ subst (λ x. IsSome (u.look x)) e (stands_some (u.look b) _ change.two_now)
          | inr still ↦ (grown_stands x (grown_not_a x still) (grown_not_b x still)).0 ((c.listing.listed x).0 still)
        ]
      ],
      λ some. elim (handle_cases x a) [
        | inl e ↦ subst (Contains (a ∷ b ∷ c.handles)) (sym e) (first_in a (b ∷ c.handles))
        | inr not_a ↦ later_in a (b ∷ c.handles) x (elim (handle_cases x b) [
          | inl e ↦ subst (Contains (b ∷ c.handles)) (sym e) (first_in b c.handles)
          | inr not_b ↦ later_in b c.handles x ((c.listing.listed x).1 ((grown_stands x not_a not_b).1 some))
        ])
      ],
    )

    grown_without : Without (ℕ × Item) c.handles t.root
    grown_without = without (ℕ × Item) c.handles t.root c.listing.distinct ((c.listing.listed t.root).1 (stands_some (t.look t.root) change.node change.before))

    grown_rest : flat_map grown_now grown_without.rest ≡ flat_map grown_was grown_without.rest
    grown_rest =
        same_parts grown_now grown_was grown_without.rest (λ x has.
        let inside = grown_without.inside x has in
        (grown_other x (λ e. grown_without.absent (subst (Contains grown_without.rest) e has)) (grown_not_a x inside) (grown_not_b x inside)).pairs)

    grown_same : IsPermutation (flat_map grown_now (a ∷ b ∷ c.handles)) xs
    grown_same =
        let one = pairs_of change.one in
        let two = pairs_of change.two in
        let others = flat_map grown_was grown_without.rest in
        let at_a : grown_now a ≡ one = ap pairs_at change.one_now in
        let at_b : grown_now b ≡ two = ap pairs_at change.two_now in
        let at_root : grown_now t.root ≡ [] = ap pairs_at change.root_now in
        let front : IsPermutation (flat_map grown_now c.handles) others =
        then_to (grown_without.front grown_now) (as_it_is (ap (λ part. part ++ flat_map grown_now grown_without.rest) at_root ∙ grown_rest)) in
        let whole : IsPermutation ((one ++ two) ++ others) (pairs_of change.node.body ++ others) = before_all others (turned_round (parts_together change.halves.pairs)) in
        let was : IsPermutation (pairs_of change.node.body ++ others) xs =
        then_to (as_it_is (ap (λ node. pairs_at node ++ others) (sym change.before))) (then_to (turned_round (grown_without.front grown_was)) c.same) in
        let parts : grown_now a ++ (grown_now b ++ flat_map grown_now c.handles) ≡ one ++ (two ++ flat_map grown_now c.handles) =
        ap (λ part. part ++ (grown_now b ++ flat_map grown_now c.handles)) at_a ∙ ap (λ part. one ++ (part ++ flat_map grown_now c.handles)) at_b in
        then_to (as_it_is parts) (then_to (behind_all one (behind_all two front)) (then_to (as_it_is (sym (append_assoc one two others))) (then_to whole was)))

    pub contents_grown : IsContents u xs
    contents_grown =
        record {
          handles = a ∷ b ∷ c.handles;
          listing = record {
            distinct = fresh_before (λ x. IsSome (t.look x) ⊎ (x ≡ b)) a (b ∷ c.handles) a_absent ab_listed (fresh_before (λ x. IsSome (t.look x)) b c.handles (none_stands (t.look b) change.fresh_two) (λ x has. (c.listing.listed x).0 has) c.listing.distinct);
            listed = grown_listed;
          };
          same = grown_same;
        }
      where
        a_absent : IsSome (t.look a) ⊎ (a ≡ b) → ⊥
        a_absent (inl some) = none_stands (t.look a) change.fresh_one some
        a_absent (inr e) = change.differ e

        ab_listed : (x : Handle) → Contains (b ∷ c.handles) x → IsSome (t.look x) ⊎ (x ≡ b)
        ab_listed x has = elim (in_cases b c.handles x has) [
          | inl e ↦ inr (sym e)
          | inr later ↦ inl ((c.listing.listed x).0 later)
        ]
