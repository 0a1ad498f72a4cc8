-- The end of a list, its first elements, and the elements at its indices.
use Rattle.std.proofs.Common.{◌≡◌, ◌≢◌, ℕ, zero, suc, ◌+◌, ◌<◌, List, [], ◌∷◌, ◌++◌, length, slice_index_or, slice_get, take, map, Contains, Option, Some, refl, sym, ap, ◌∙◌, ⊎_elim, arith}
use Rattle.tree_theory.proofs.ListLemmas.{nothing_in, in_cases}

-- an option holds one value
pub some_one : {T : Type 0} {o : Option T} {a b : T} → o ≡ Some a → o ≡ Some b → a ≡ b
some_one {a = a} {b = b} one other = let same : Some a ≡ Some b = sym one ∙ other in cc (same)

-- an element of a list has an index
pub place_in : {T : Type 0} (xs : List T) (x : T) → Contains xs x → (i : ℕ) × (slice_get xs i ≡ Some x)
place_in [] x has = absurd (nothing_in x has)
place_in (y ∷ xs) x has = ⊎_elim (λ e. (zero, ap (λ z. Some z) e)) (λ later. let rest = place_in xs x later in (suc rest.0, rest.1)) (in_cases y xs x has)

module _ {T : Type 0} where
  pub filled : (xs : List T) → xs ≢ [] → 0 < length xs
  filled [] some = absurd (some refl)
  filled (x ∷ xs) some = omega arith

  pub last_at : (xs : List T) (i : ℕ) (y : T) → i + 1 ≡ length xs → slice_index_or xs i y ≡ y → (rest : List T) × (xs ≡ rest ++ y ∷ [])
  last_at [] i y n e = absurd (omega arith)
  last_at (x ∷ []) zero y n e = ([], ap (λ z. z ∷ []) e)
  last_at (x ∷ (z ∷ xs)) zero y n e = absurd (omega arith)
  last_at (x ∷ xs) (suc i) y n e = let before = last_at xs i y (omega arith) e in (x ∷ before.0, ap (λ l. x ∷ l) before.1)

  -- the first i + 1 elements
  pub take_one : (xs : List T) (i : ℕ) (x : T) → slice_get xs i ≡ Some x → take (i + 1) xs ≡ take i xs ++ x ∷ []
  take_one [] i x e = absurd (cc e)
  take_one (y ∷ xs) zero x e = ap (λ z. z ∷ []) (some_is y x e)
    where
      some_is : (a b : T) → Some a ≡ Some b → a ≡ b
      some_is a b s = cc s
  take_one (y ∷ xs) (suc i) x e = let one : suc i + 1 ≡ suc (i + 1) = omega arith in rw one (ap (λ l. y ∷ l) (take_one xs i x e))

module _ {T : Type 0} where
  -- a read within a list does not depend on the default
  pub read_any : (xs : List T) (i : ℕ) (x d : T) → i < length xs → slice_index_or xs i x ≡ x → slice_index_or xs i d ≡ x
  read_any [] i x d lt e = absurd (omega arith)
  read_any (y ∷ xs) zero x d lt e = e
  read_any (y ∷ xs) (suc i) x d lt e = read_any xs i x d (omega arith) e

  pub read_self : (xs : List T) (i : ℕ) (d : T) → i < length xs → slice_index_or xs i (slice_index_or xs i d) ≡ slice_index_or xs i d
  read_self [] i d lt = absurd (omega arith)
  read_self (y ∷ xs) zero d lt = refl
  read_self (y ∷ xs) (suc i) d lt = read_self xs i d (omega arith)

  pub get_some : (xs : List T) (i : ℕ) (d : T) → i < length xs → slice_get xs i ≡ Some (slice_index_or xs i d)
  get_some [] i d lt = absurd (omega arith)
  get_some (y ∷ xs) zero d lt = refl
  get_some (y ∷ xs) (suc i) d lt = get_some xs i d (omega arith)

-- the pair at an index of a list, by its second component
pub record Both {K T : Type 0} (pairs : List (K × T)) (i : ℕ) (t : T) : Type 0 where
  pub first : K
  pub is : slice_get pairs i ≡ Some (first, t)
  pub first_is : slice_get (map (λ (p : K × T). p.0) pairs) i ≡ Some first

module _ {K T : Type 0} where
  pub both_at : (pairs : List (K × T)) (i : ℕ) (t : T) → slice_get (map (λ (p : K × T). p.1) pairs) i ≡ Some t → Both pairs i t
  both_at [] i t e = absurd (cc e)
  both_at (p ∷ pairs) zero t e = record { first = p.0; is = second p.1 e; first_is = refl }
    where
      second : (s : T) → Some s ≡ Some t → ◌≡◌ {A = Option (K × T)} (Some (p.0, s)) (Some (p.0, t))
      second s same = cc same
  both_at (p ∷ pairs) (suc i) t e = let rest = both_at pairs i t e in record { first = rest.first; is = rest.is; first_is = rest.first_is }
