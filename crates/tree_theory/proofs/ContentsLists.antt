-- Permutations, and `flat_map` over a list that has each handle once.
use Rattle.std.proofs.Common.{◌≡◌, ◌≢◌, ◌⊎◌, List, [], ◌∷◌, ◌++◌, append_assoc, Contains, AllPairs, flat_map, refl, sym, ap, subst, ◌∙◌, inl, inr}
use Rattle.std.specs.List.Sorted.{IsPermutation}
use Rattle.std.proofs.lemmas.List.Elements.{Contains-append_cases, Contains-append_left, Contains-append_right}
use Rattle.std.proofs.lemmas.List.Sorted.{IsPermutation-refl, IsPermutation-sym, IsPermutation-trans, IsPermutation-cons, IsPermutation-middle, IsPermutation-append_comm, IsPermutation-append_left, IsPermutation-append_right}
use Rattle.node_arena.specs.declared.handle.Handle.{Handle}
use Rattle.tree_theory.specs.Lists.{Parted}
use Rattle.tree_theory.specs.Lists.Parted.{none, to_one, to_other}
use Rattle.tree_theory.proofs.ListLemmas.{first_in, later_in, nothing_in, in_cases}
use Rattle.tree_theory.proofs.ShapeLists.{pairs_after, pairs_first, pairs_with}

module _ {T : Type 0} where
  pub as_it_is : {xs ys : List T} → xs ≡ ys → IsPermutation xs ys
  as_it_is {xs = xs} e = subst (IsPermutation xs) e (IsPermutation-refl xs)

  pub turned_round : {xs ys : List T} → IsPermutation xs ys → IsPermutation ys xs
  turned_round {xs = xs} {ys = ys} p = IsPermutation-sym xs ys p

  pub then_to : {xs ys zs : List T} → IsPermutation xs ys → IsPermutation ys zs → IsPermutation xs zs
  then_to {xs = xs} {ys = ys} {zs = zs} p q = IsPermutation-trans xs ys zs p q

  pub before_all : (zs : List T) {xs ys : List T} → IsPermutation xs ys → IsPermutation (xs ++ zs) (ys ++ zs)
  before_all zs {xs = xs} {ys = ys} p = IsPermutation-append_left zs xs ys p

  pub behind_all : (zs : List T) {xs ys : List T} → IsPermutation xs ys → IsPermutation (zs ++ xs) (zs ++ ys)
  behind_all zs {xs = xs} {ys = ys} p = IsPermutation-append_right zs xs ys p

  -- two of three parts change places
  pub exchanged : (a b c : List T) → IsPermutation (a ++ (b ++ c)) (b ++ (a ++ c))
  exchanged a b c = then_to (as_it_is (sym (append_assoc a b c))) (then_to (before_all c (IsPermutation-append_comm a b)) (as_it_is (append_assoc b a c)))

  pub exchanged_last : (a b c : List T) → IsPermutation ((a ++ b) ++ c) ((a ++ c) ++ b)
  exchanged_last a b c = then_to (as_it_is (append_assoc a b c)) (then_to (behind_all a (IsPermutation-append_comm b c)) (as_it_is (sym (append_assoc a c b))))

  -- the parts of a list, one after the other
  pub parts_together : {whole one other : List T} → Parted whole one other → IsPermutation whole (one ++ other)
  parts_together none = IsPermutation-refl []
  parts_together (to_one {x = x} {whole = whole} {one = one} {other = other} p) = IsPermutation-cons x whole (one ++ other) (parts_together p)
  parts_together (to_other {x = x} {whole = whole} {one = one} {other = other} p) =
      then_to (IsPermutation-cons x whole (one ++ other) (parts_together p)) (turned_round (IsPermutation-middle one x other))

  -- `flat_map` is the same where each part is
  pub same_parts : (f g : Handle → List T) (handles : List Handle) → ((h : Handle) → Contains handles h → f h ≡ g h) → flat_map f handles ≡ flat_map g handles
  same_parts f g [] each = refl
  same_parts f g (h ∷ handles) each =
      ap (λ part. part ++ flat_map f handles) (each h (first_in h handles)) ∙ ap (λ rest. g h ++ rest) (same_parts f g handles (λ x has. each x (later_in h handles x has)))

  -- `flat_map` has the elements of each part, and no others
  pub put_in : (f : Handle → List T) (handles : List Handle) (h : Handle) (x : T) → Contains handles h → Contains (f h) x → Contains (flat_map f handles) x
  put_in f [] h x has inside = absurd (nothing_in h has)
  put_in f (y ∷ handles) h x has inside = elim (in_cases y handles h has) [
    | inl e ↦ Contains-append_left (f y) (flat_map f handles) x (subst (λ h. Contains (f h) x) (sym e) inside)
    | inr later ↦ Contains-append_right (f y) (flat_map f handles) x (put_in f handles h x later inside)
  ]

  pub taken_from : (f : Handle → List T) (handles : List Handle) (x : T) → Contains (flat_map f handles) x → (h : Handle) × Contains handles h × Contains (f h) x
  taken_from f [] x has = absurd (nothing_in x has)
  taken_from f (h ∷ handles) x has = elim (Contains-append_cases (f h) (flat_map f handles) x has) [
    | inl here ↦ (h, first_in h handles, here)
    | inr later ↦
        let found = taken_from f handles x later in
        (found.0, later_in h handles found.0 found.1, found.2)
  ]

module _ (T : Type 0) where
  -- a list of different handles without one of them
  pub record Without (handles : List Handle) (h : Handle) : Type 0 where
    pub rest : List Handle
    pub distinct : AllPairs (λ one other. one ≢ other) rest
    pub absent : Contains rest h → ⊥
    pub inside : (x : Handle) → Contains rest x → Contains handles x
    pub cases : (x : Handle) → Contains handles x → (x ≡ h) ⊎ Contains rest x
    pub front : (f : Handle → List T) → IsPermutation (flat_map f handles) (f h ++ flat_map f rest)

  pub without : (handles : List Handle) (h : Handle) → AllPairs (λ one other. one ≢ other) handles → Contains handles h → Without handles h
  without [] h distinct has = absurd (nothing_in h has)
  without (y ∷ ys) h distinct has = elim (in_cases y ys h has) [
    | inl e ↦
        record {
          rest = ys;
          distinct = pairs_after (λ one other. one ≢ other) y ys distinct;
          absent = λ again. pairs_first (λ one other. one ≢ other) y ys h distinct again e;
          inside = λ x later. later_in y ys x later;
          cases = λ x has. elim (in_cases y ys x has) [ inl first ↦ inl (sym first ∙ e) | inr later ↦ inr later ];
          front = λ f. as_it_is (ap (λ z. f z ++ flat_map f ys) e);
        }
    | inr later ↦
        let less = without ys h (pairs_after (λ one other. one ≢ other) y ys distinct) later in
        record {
          rest = y ∷ less.rest;
          distinct = pairs_with (λ one other. one ≢ other) y less.rest (λ z has. pairs_first (λ one other. one ≢ other) y ys z distinct (less.inside z has)) less.distinct;
          absent = λ again. elim (in_cases y less.rest h again) [ inl e ↦ pairs_first (λ one other. one ≢ other) y ys h distinct later e | inr more ↦ less.absent more ];
          inside = λ x has. elim (in_cases y less.rest x has) [ inl e ↦ subst (Contains (y ∷ ys)) e (first_in y ys) | inr more ↦ later_in y ys x (less.inside x more) ];
          cases = λ x has. elim (in_cases y ys x has) [
            | inl e ↦ inr (subst (Contains (y ∷ less.rest)) e (first_in y less.rest))
            | inr more ↦ elim (less.cases x more) [ inl e ↦ inl e | inr still ↦ inr (later_in y less.rest x still) ]
          ];
          front = λ f. then_to (behind_all (f y) (less.front f)) (exchanged (f y) (f h) (flat_map f less.rest));
        }
  ]

module _ {T : Type 0} where
  -- `flat_map` over two lists of the same handles, each once, differs only in order
  pub same_handles : (f : Handle → List T) (ones others : List Handle) → AllPairs (λ one other. one ≢ other) ones → AllPairs (λ one other. one ≢ other) others → ((h : Handle) → Contains ones h → Contains others h) → ((h : Handle) → Contains others h → Contains ones h) → IsPermutation (flat_map f ones) (flat_map f others)
  same_handles f [] [] distinct also to from = IsPermutation-refl []
  same_handles f [] (y ∷ ys) distinct also to from = absurd (nothing_in y (from y (first_in y ys)))
  same_handles f (x ∷ xs) others distinct also to from =
      let less = without T others x also (to x (first_in x xs)) in
      let rest = same_handles f xs less.rest (pairs_after (λ one other. one ≢ other) x xs distinct) less.distinct
      (λ h has. elim (less.cases h (to h (later_in x xs h has))) [
        | inl e ↦ absurd (pairs_first (λ one other. one ≢ other) x xs h distinct has (sym e))
        | inr still ↦ still
      ])
      (λ h has. elim (in_cases x xs h (from h (less.inside h has))) [
        | inl e ↦ absurd (less.absent (subst (Contains less.rest) (sym e) has))
        | inr later ↦ later
      ]) in
      then_to (behind_all (f x) rest) (turned_round (less.front f))
