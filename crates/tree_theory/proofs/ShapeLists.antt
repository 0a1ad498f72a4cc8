-- Lists of entries whose children differ.
use Rattle.std.proofs.Common.{◌≡◌, ◌≢◌, ◌⊎◌, ℕ, zero, suc, ◌+◌, ◌<◌, List, [], ◌∷◌, ◌++◌, length, Contains, AllPairs, slice_index_or, slice_get, slice_set, remove, Some, refl, sym, ap, subst, ◌∙◌, inl, inr, arith}
use Rattle.std.proofs.lemmas.Bool.{cases_eq}
use Rattle.std.proofs.lemmas.Grind.{get_or-set_at}
use Rattle.std.proofs.lemmas.List.{get_or-set_other, get_or_default, length-set}
use Rattle.std.proofs.lemmas.List.Kept.{AllPairs-cons}
use Rattle.std.proofs.lemmas.List.Quantifiers.{all_pairs_push}
use Rattle.std.proofs.lemmas.Option.{slice_get_within, get_or_from_slice_get}
use Rattle.node_arena.specs.declared.handle.Handle.{Handle}
use Rattle.tree_theory.specs.Lists.{Parted}
use Rattle.tree_theory.specs.Lists.Parted.{none, to_one, to_other}
use Rattle.tree_theory.proofs.ListLemmas.{first_in, later_in, nothing_in, in_cases, got_in, set_cases, one_in, other_in}

module _ {T : Type 0} where
  pub pairs_after : (R : T → T → Type 0) (x : T) (xs : List T) → AllPairs R (x ∷ xs) → AllPairs R xs
  pairs_after R x xs all = λ i j d lt long. all (suc i) (suc j) d (omega arith) (omega arith)

  pub pairs_first : (R : T → T → Type 0) (x : T) (xs : List T) (y : T) → AllPairs R (x ∷ xs) → Contains xs y → R x y
  pairs_first R x xs y all h = subst (R x) h.2 (all 0 (suc h.0) y (omega arith) (let lt = h.1 in omega arith))

  pub pairs_with : (R : T → T → Type 0) (x : T) (xs : List T) → ((y : T) → Contains xs y → R x y) → AllPairs R xs → AllPairs R (x ∷ xs)
  pairs_with R x xs each all = AllPairs-cons R x xs (λ i d lt. each (slice_index_or xs i d) (i, lt, get_or_default xs i (slice_index_or xs i d) d lt)) all

  -- the parts of a list keep its order
  pub one_pairs : (R : T → T → Type 0) {whole one other : List T} → Parted whole one other → AllPairs R whole → AllPairs R one
  one_pairs R none all = all
  one_pairs R (to_one {x = x} {whole = whole} {one = one} p) all =
      pairs_with R x one (λ y has. pairs_first R x whole y all (one_in y p has)) (one_pairs R p (pairs_after R x whole all))
  one_pairs R (to_other {x = x} {whole = whole} p) all = one_pairs R p (pairs_after R x whole all)

  pub parted_sizes : {whole one other : List T} → Parted whole one other → length whole ≡ length one + length other
  parted_sizes none = refl
  parted_sizes (to_one p) = let rest = parted_sizes p in omega arith
  parted_sizes (to_other p) = let rest = parted_sizes p in omega arith

  pub turned : {whole one other : List T} → Parted whole one other → Parted whole other one
  turned none = none
  turned (to_one p) = to_other (turned p)
  turned (to_other p) = to_one (turned p)

module _ {K : Type 0} where
  -- no two entries name one child
  abbrev pub Differ : List (K × Handle) → Type 0
  Differ entries = AllPairs (λ one other. one.1 ≢ other.1) entries

  -- so a child has one key
  pub one_key : (entries : List (K × Handle)) (a b : K) (c : Handle) → Differ entries → Contains entries (a, c) → Contains entries (b, c) → a ≡ b
  one_key [] a b c differ one other = absurd (nothing_in (a, c) one)
  one_key (x ∷ xs) a b c differ one other = elim (in_cases x xs (a, c) one) [
    | inl first ↦ elim (in_cases x xs (b, c) other) [
      | inl also ↦ ap (λ entry. entry.0) (sym first ∙ also)
      | inr later ↦ absurd (pairs_first (λ one other. one.1 ≢ other.1) x xs (b, c) differ later (ap (λ entry. entry.1) first))
    ]
    | inr later ↦ elim (in_cases x xs (b, c) other) [
      | inl first ↦ absurd (pairs_first (λ one other. one.1 ≢ other.1) x xs (a, c) differ later (ap (λ entry. entry.1) first))
      | inr also ↦ one_key xs a b c (pairs_after (λ one other. one.1 ≢ other.1) x xs differ) later also
    ]
  ]

  -- the parts of such a list share no child
  pub parts_differ : {whole one other : List (K × Handle)} → Parted whole one other → Differ whole → (a b : K) (c : Handle) → Contains one (a, c) → Contains other (b, c) → ⊥
  parts_differ none differ a b c h g = nothing_in (a, c) h
  parts_differ (to_one {x = x} {whole = whole} {one = one} {other = other} p) differ a b c h g = elim (in_cases x one (a, c) h) [
    | inl first ↦ pairs_first (λ one other. one.1 ≢ other.1) x whole (b, c) differ (other_in (b, c) p g) (ap (λ entry. entry.1) first)
    | inr later ↦ parts_differ p (pairs_after (λ one other. one.1 ≢ other.1) x whole differ) a b c later g
  ]
  parts_differ (to_other {x = x} {whole = whole} {one = one} {other = other} p) differ a b c h g = elim (in_cases x other (b, c) g) [
    | inl first ↦ pairs_first (λ one other. one.1 ≢ other.1) x whole (a, c) differ (one_in (a, c) p h) (ap (λ entry. entry.1) first)
    | inr later ↦ parts_differ p (pairs_after (λ one other. one.1 ≢ other.1) x whole differ) a b c h later
  ]

  -- one entry gets another key
  module _ (entries : List (K × Handle)) (index : ℕ) (old new : K) (c : Handle) (at : slice_get entries index ≡ Some (old, c)) where
    pub rekeyed_in : Contains (slice_set entries index (new, c)) (new, c)
    rekeyed_in =
        let within = slice_get_within entries index (old, c) at in
        let long = length-set entries index (new, c) in
        (index, omega arith, get_or-set_at entries index index (new, c) (new, c) refl within)

    rekeyed_child : (i : ℕ) (d : K × Handle) → (slice_index_or (slice_set entries index (new, c)) i d).1 ≡ (slice_index_or entries i d).1
    rekeyed_child i d = elim (cases_eq i index) [
      | inl same ↦
          let within = slice_get_within entries index (old, c) at in
          let now : slice_index_or (slice_set entries index (new, c)) i d ≡ (new, c) = get_or-set_at entries index i (new, c) d same within in
          let was : slice_index_or entries index d ≡ (old, c) = get_or_from_slice_get entries index (old, c) d at in
          ap (λ entry. entry.1) now ∙ sym (ap (λ i. (slice_index_or entries i d).1) same ∙ ap (λ entry. entry.1) was)
      | inr other ↦ ap (λ entry. entry.1) (get_or-set_other entries index i (new, c) d other)
    ]

    pub rekeyed_differ : Differ entries → Differ (slice_set entries index (new, c))
    rekeyed_differ differ = λ i j d lt long e.
        let size = length-set entries index (new, c) in
        differ i j d lt (omega arith) (sym (rekeyed_child i d) ∙ (e ∙ rekeyed_child j d))

    -- each child still has an entry
    pub rekeyed_to : (key : K) (x : Handle) → Contains entries (key, x) → (now : K) × Contains (slice_set entries index (new, c)) (now, x)
    rekeyed_to key x h =
        let size = length-set entries index (new, c) in
        let lt = h.1 in
        let entry : K × Handle = slice_index_or (slice_set entries index (new, c)) h.0 (key, x) in
        let named : entry.1 ≡ x = rekeyed_child h.0 (key, x) ∙ ap (λ e. e.1) h.2 in
        let long : h.0 < length (slice_set entries index (new, c)) = omega arith in
        let has : Contains (slice_set entries index (new, c)) entry = (h.0, long, get_or_default (slice_set entries index (new, c)) h.0 entry (key, x) long) in
        (entry.0, subst (λ child. Contains (slice_set entries index (new, c)) (entry.0, child)) named has)

    -- each entry is the changed one, or an old one
    pub rekeyed_from : (key : K) (x : Handle) → Contains (slice_set entries index (new, c)) (key, x) → ((key ≡ new) × (x ≡ c)) ⊎ Contains entries (key, x)
    rekeyed_from key x h = elim (set_cases entries index (new, c) (key, x) h) [
      | inl e ↦ inl (sym (ap (λ entry. entry.0) e), sym (ap (λ entry. entry.1) e))
      | inr stays ↦ inr stays
    ]

  -- an entry is removed
  pub removed_not_in : (entries : List (K × Handle)) (index : ℕ) (old key : K) (c : Handle) → slice_get entries index ≡ Some (old, c) → Differ entries → Contains (remove entries index) (key, c) → ⊥
  removed_not_in [] index old key c at differ h = absurd (cc)
  removed_not_in (x ∷ xs) zero old key c at differ h =
      let first : x ≡ (old, c) = cc in
      pairs_first (λ one other. one.1 ≢ other.1) x xs (key, c) differ h (ap (λ entry. entry.1) first)
  removed_not_in (x ∷ xs) (suc index) old key c at differ h = elim (in_cases x (remove xs index) (key, c) h) [
    | inl first ↦
        let later : Contains xs (old, c) = got_in xs index (old, c) at in
        pairs_first (λ one other. one.1 ≢ other.1) x xs (old, c) differ later (ap (λ entry. entry.1) first)
    | inr later ↦ removed_not_in xs index old key c at (pairs_after (λ one other. one.1 ≢ other.1) x xs differ) later
  ]

  pub removed_to : (entries : List (K × Handle)) (index : ℕ) (old key : K) (c x : Handle) → slice_get entries index ≡ Some (old, c) → x ≢ c → Contains entries (key, x) → Contains (remove entries index) (key, x)
  removed_to [] index old key c x at apart h = absurd (nothing_in (key, x) h)
  removed_to (y ∷ xs) zero old key c x at apart h = elim (in_cases y xs (key, x) h) [
    | inl first ↦ let gone : y ≡ (old, c) = cc in absurd (apart (ap (λ entry. entry.1) (sym first ∙ gone)))
    | inr later ↦ later
  ]
  removed_to (y ∷ xs) (suc index) old key c x at apart h = elim (in_cases y xs (key, x) h) [
    | inl first ↦ subst (Contains (y ∷ remove xs index)) first (first_in y (remove xs index))
    | inr later ↦ later_in y (remove xs index) (key, x) (removed_to xs index old key c x at apart later)
  ]

  -- an entry of another child is added at the end
  pub added_differ : (entries : List (K × Handle)) (key : K) (c : Handle) → Differ entries → ((other : K) → Contains entries (other, c) → ⊥) → Differ (entries ++ (key, c) ∷ [])
  added_differ entries key c differ absent =
      all_pairs_push (λ one other. one.1 ≢ other.1) entries (key, c) differ (λ k d lt e.
      let entry : K × Handle = slice_index_or entries k d in
      let has : Contains entries entry = (k, lt, get_or_default entries k entry d lt) in
      absent entry.0 (subst (λ child. Contains entries (entry.0, child)) e has))
