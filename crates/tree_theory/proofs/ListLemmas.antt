-- Membership in lists.
use Rattle.std.proofs.Common.{◌≡◌, ◌≢◌, ◌⊎◌, ℕ, zero, suc, ◌<◌, List, [], ◌∷◌, ◌++◌, map, length, Contains, slice_index_or, slice_get, slice_set, remove, take, drop, Some, refl, sym, ap, subst, ◌∙◌, inl, inr, arith}
use Rattle.std.proofs.lemmas.Bool.{cases_eq}
use Rattle.std.proofs.lemmas.Grind.{get_or-set_at}
use Rattle.std.proofs.lemmas.List.{get_or-set_other, length-set, take-append-drop}
use Rattle.std.proofs.lemmas.List.Elements.{Contains-append_cases, Contains-append_left, Contains-append_right}
use Rattle.std.proofs.lemmas.Option.{slice_get_within, get_or_from_slice_get}
use Rattle.node_arena.specs.declared.handle.Handle.{Handle}
use Rattle.tree_theory.specs.Lists.{Parted, Picked}
use Rattle.tree_theory.specs.Lists.Parted.{none, to_one, to_other}

module _ {T : Type 0} where
  pub first_in : (x : T) (xs : List T) → Contains (x ∷ xs) x
  first_in x xs = (0, omega arith, refl)

  pub later_in : (y : T) (xs : List T) (x : T) → Contains xs x → Contains (y ∷ xs) x
  later_in y xs x h = (suc h.0, let lt = h.1 in omega arith, h.2)

  pub nothing_in : (x : T) → Contains [] x → ⊥
  nothing_in x h = let lt = h.1 in omega arith

  pub in_cases : (y : T) (xs : List T) (x : T) → Contains (y ∷ xs) x → (y ≡ x) ⊎ Contains xs x
  in_cases y xs x h = go h.0 h.1 h.2
    where
      go : (k : ℕ) → k < length (y ∷ xs) → slice_index_or (y ∷ xs) k x ≡ x → (y ≡ x) ⊎ Contains xs x
      go zero lt e = inl e
      go (suc k) lt e = inr (k, omega arith, e)

  pub in_one : (y x : T) → Contains (y ∷ []) x → y ≡ x
  in_one y x h = elim (in_cases y [] x h) [
    | inl e ↦ e
    | inr e ↦ absurd (nothing_in x e)
  ]

  -- an element at an index is in the list
  pub got_in : (xs : List T) (i : ℕ) (x : T) → slice_get xs i ≡ Some x → Contains xs x
  got_in xs i x e = (i, slice_get_within xs i x e, get_or_from_slice_get xs i x x e)

  -- with one element replaced, and with one removed
  pub set_cases : (xs : List T) (i : ℕ) (y x : T) → Contains (slice_set xs i y) x → (y ≡ x) ⊎ Contains xs x
  set_cases xs i y x h = elim (cases_eq h.0 i) [
    | inl same ↦
        let within : i < length xs = let lt = h.1 in let long = length-set xs i y in omega arith in
        inl (sym (get_or-set_at xs i h.0 y x same within) ∙ h.2)
    | inr other ↦
        let lt = h.1 in
        let long = length-set xs i y in
        inr (h.0, omega arith, sym (get_or-set_other xs i h.0 y x other) ∙ h.2)
  ]

  pub remove_from : (xs : List T) (i : ℕ) (x : T) → Contains (remove xs i) x → Contains xs x
  remove_from xs i x h = elim (Contains-append_cases (take i xs) (drop (suc i) xs) x h) [
    | inl front ↦ subst (λ l. Contains l x) (take-append-drop i xs) (Contains-append_left (take i xs) (drop i xs) x front)
    | inr back ↦ subst (λ l. Contains l x) (take-append-drop (suc i) xs) (Contains-append_right (take (suc i) xs) (drop (suc i) xs) x back)
  ]

  -- a list in two parts
  pub one_in : {whole one other : List T} (x : T) → Parted whole one other → Contains one x → Contains whole x
  one_in x none h = h
  one_in x (to_one {x = y} {whole = whole} {one = one} p) h = elim (in_cases y one x h) [
    | inl e ↦ subst (Contains (y ∷ whole)) e (first_in y whole)
    | inr e ↦ later_in y whole x (one_in x p e)
  ]
  one_in x (to_other {x = y} {whole = whole} p) h = later_in y whole x (one_in x p h)

  pub other_in : {whole one other : List T} (x : T) → Parted whole one other → Contains other x → Contains whole x
  other_in x none h = h
  other_in x (to_one {x = y} {whole = whole} p) h = later_in y whole x (other_in x p h)
  other_in x (to_other {x = y} {whole = whole} {other = other} p) h = elim (in_cases y other x h) [
    | inl e ↦ subst (Contains (y ∷ whole)) e (first_in y whole)
    | inr e ↦ later_in y whole x (other_in x p e)
  ]

  pub parted_cases : {whole one other : List T} (x : T) → Parted whole one other → Contains whole x → Contains one x ⊎ Contains other x
  parted_cases x none h = inl h
  parted_cases x (to_one {x = y} {whole = whole} {one = one} {other = other} p) h = elim (in_cases y whole x h) [
    | inl e ↦ inl (subst (Contains (y ∷ one)) e (first_in y one))
    | inr e ↦ elim (parted_cases x p e) [
      | inl a ↦ inl (later_in y one x a)
      | inr b ↦ inr b
    ]
  ]
  parted_cases x (to_other {x = y} {whole = whole} {one = one} {other = other} p) h = elim (in_cases y whole x h) [
    | inl e ↦ inr (subst (Contains (y ∷ other)) e (first_in y other))
    | inr e ↦ elim (parted_cases x p e) [
      | inl a ↦ inl a
      | inr b ↦ inr (later_in y other x b)
    ]
  ]

  -- the elements that have P
  pub picked_in : {P : T → Type 0} {whole picked : List T} (x : T) → Picked P whole picked → Contains whole x → P x → Contains picked x
  picked_in x p h has = elim (parted_cases x p.parted h) [
    | inl a ↦ a
    | inr b ↦ absurd (p.none_left x b has)
  ]

  pub picked_from : {P : T → Type 0} {whole picked : List T} (x : T) → Picked P whole picked → Contains picked x → Contains whole x × P x
  picked_from x p h = (one_in x p.parted h, p.each x h)

  -- in a loop: the next element joins one part or the other
  pub parted_to_one : {whole one other : List T} (x : T) → Parted whole one other → Parted (whole ++ x ∷ []) (one ++ x ∷ []) other
  parted_to_one x none = to_one none
  parted_to_one x (to_one p) = to_one (parted_to_one x p)
  parted_to_one x (to_other p) = to_other (parted_to_one x p)

  pub parted_to_other : {whole one other : List T} (x : T) → Parted whole one other → Parted (whole ++ x ∷ []) one (other ++ x ∷ [])
  parted_to_other x none = to_other none
  parted_to_other x (to_one p) = to_one (parted_to_other x p)
  parted_to_other x (to_other p) = to_other (parted_to_other x p)

  -- the next element has P and is picked, or has not and is left
  pub picked_with : {P : T → Type 0} {whole picked : List T} (x : T) → Picked P whole picked → P x → Picked P (whole ++ x ∷ []) (picked ++ x ∷ [])
  picked_with {P = P} {whole = whole} {picked = picked} x p has =
      record {
        left = p.left;
        parted = parted_to_one x p.parted;
        each = λ y is_in. elim (Contains-append_cases picked (x ∷ []) y is_in) [
          | inl before ↦ p.each y before
          | inr now ↦ subst P (in_one x y now) has
        ];
        none_left = p.none_left;
      }

  pub picked_past : {P : T → Type 0} {whole picked : List T} (x : T) → Picked P whole picked → (P x → ⊥) → Picked P (whole ++ x ∷ []) picked
  picked_past {P = P} {whole = whole} {picked = picked} x p lacks =
      record {
        left = p.left ++ x ∷ [];
        parted = parted_to_other x p.parted;
        each = p.each;
        none_left = λ y is_in. elim (Contains-append_cases p.left (x ∷ []) y is_in) [
          | inl before ↦ p.none_left y before
          | inr now ↦ λ has. lacks (subst P (sym (in_one x y now)) has)
        ];
      }

  pub picked_none : {P : T → Type 0} → Picked P [] []
  picked_none = record { left = []; parted = none; each = λ x has. absurd (nothing_in x has); none_left = λ x has. absurd (nothing_in x has) }

  -- the picked elements are picked by membership among them
  pub picked_itself : {P : T → Type 0} {whole picked : List T} → Picked P whole picked → Picked (Contains picked) whole picked
  picked_itself p = record { left = p.left; parted = p.parted; each = λ x has. has; none_left = λ x left has. p.none_left x left (p.each x has) }

-- an element that f takes to y
pub record Source {S T : Type 0} (f : S → T) (xs : List S) (y : T) : Type 0 where
  pub from : S
  pub is_in : Contains xs from
  pub is : f from ≡ y

module _ {S T : Type 0} (f : S → T) where
  pub map_in : (xs : List S) (x : S) → Contains xs x → Contains (map f xs) (f x)
  map_in [] x h = absurd (nothing_in x h)
  map_in (y ∷ xs) x h = elim (in_cases y xs x h) [
    | inl e ↦ rw (← e) (first_in (f y) (map f xs))
    | inr e ↦ later_in (f y) (map f xs) (f x) (map_in xs x e)
  ]

  pub map_from : (xs : List S) (y : T) → Contains (map f xs) y → Source f xs y
  map_from [] y h = absurd (nothing_in y h)
  map_from (x ∷ xs) y h = elim (in_cases (f x) (map f xs) y h) [
    | inl e ↦ record { from = x; is_in = first_in x xs; is = e }
    | inr e ↦
        let found = map_from xs y e in
        record { from = found.from; is_in = later_in x xs found.from found.is_in; is = found.is }
  ]

-- two handles are equal, or they differ
pub handle_cases : (a b : Handle) → (a ≡ b) ⊎ (a ≢ b)
handle_cases a b = elim (cases_eq a.slot b.slot) [
  | inr apart ↦ inr (λ e. apart (ap (λ h. h.slot) e))
  | inl same ↦ elim (cases_eq a.generation b.generation) [
    | inr apart ↦ inr (λ e. apart (ap (λ h. h.generation) e))
    | inl also ↦
        let make : ℕ → ℕ → Handle = λ slot generation. record { slot = slot; generation = generation } in
        inl (ap (λ slot. make slot a.generation) same ∙ ap (λ generation. make b.slot generation) also)
  ]
]

-- a handle is in a list, or it is not
pub child_cases : (xs : List Handle) (x : Handle) → Contains xs x ⊎ (Contains xs x → ⊥)
child_cases [] x = inr (nothing_in x)
child_cases (y ∷ xs) x = elim (handle_cases y x) [
  | inl e ↦ inl (subst (Contains (y ∷ xs)) e (first_in y xs))
  | inr apart ↦ elim (child_cases xs x) [
    | inl h ↦ inl (later_in y xs x h)
    | inr absent ↦ inr (λ h. elim (in_cases y xs x h) [ inl e ↦ apart e | inr e ↦ absent e ])
  ]
]
