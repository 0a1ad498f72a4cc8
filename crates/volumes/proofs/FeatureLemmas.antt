-- Features kept as rows by rowid: what a row that is put, or taken out, makes of them.
use Rattle.std.proofs.Common.{◌≡◌, ◌≢◌, ◌⊎◌, ℕ, ◌+◌, ◌-◌, ◌^◌, ◌<◌, ◌≤◌, ℤ, pos, negsuc, ◌==◌, eqb, nat_lt, not, Bool, true, false, true≢false, List, [], ◌∷◌, ◌++◌, map, filter, Option, Some, None, refl, sym, ap, ◌∙◌, arith, inl, inr, Ordering, Less, Equal, Greater, is_eq, int_cmp, if◌then◌else◌, ap₂, append-nil}
use Rattle.std.proofs.lemmas.List.{map-append}
use Rattle.std.proofs.lemmas.List.Elements.{filter-append}
use Rattle.std.specs.List.{AllByRecursion}
use Rattle.std.specs.Ordering.{match_ordering}
use Rattle.std.proofs.lemmas.Int.{ints}
use Rattle.std.proofs.lemmas.Bool.{cases_Bool}
use Rattle.std.proofs.lemmas.Bool.Decides.{nat_tests}
use Rattle.plane.specs.declared.point.Point.{Point}
use Rattle.features.specs.declared.rows.Feature.{Feature}
use Rattle.features.specs.Rows.{feature_with, IsBelowAll, IsSortedById, with_row, with_shape, without}
use Rattle.sqlite_value.specs.declared.value.Value.TheVariants.{Int}
use Rattle.sqlite_value.specs.Order.{Row, value_cmp}
use Rattle.sqlite_value.proofs.OrderLemmas.{value_cmp-Int}
use Rattle.sqlite_trees.specs.Tree.{rowid, has_rowid, put_row, without_rowid}
use Rattle.volumes.specs.Rows.{signed, is_high, as_stored}

-- how two ids are ordered as signed integers
signed_same : (a b : ℕ) → a < 2 ^ 64 → b < 2 ^ 64 → is_eq (int_cmp (signed a) (signed b)) ≡ eqb a b
signed_same a b p q = grind (arith, ints, nat_tests)

signed_low : (a b : ℕ) → a < 2 ^ 63 → b < 2 ^ 63 → a < b → int_cmp (signed a) (signed b) ≡ Less
signed_low a b p q h = grind (arith, ints, nat_tests)

signed_high : (a b : ℕ) → 2 ^ 63 ≤ a → 2 ^ 63 ≤ b → a < 2 ^ 64 → b < 2 ^ 64 → a < b → int_cmp (signed a) (signed b) ≡ Less
signed_high a b p q r s h = grind (arith, ints, nat_tests)

signed_across : (a b : ℕ) → 2 ^ 63 ≤ a → a < 2 ^ 64 → b < 2 ^ 63 → int_cmp (signed a) (signed b) ≡ Less
signed_across a b p q r = grind (arith, ints, nat_tests)

signed_itself : (a : ℕ) → int_cmp (signed a) (signed a) ≡ Equal
signed_itself a = grind (arith, ints, nat_tests)

signed_after : (a b : ℕ) → int_cmp (signed a) (signed b) ≡ Less → int_cmp (signed b) (signed a) ≡ Greater
signed_after a b h = grind (arith, ints, nat_tests)

-- ---- lists of features

pub found_id : (id : ℕ) (fs : List Feature) (f : Feature) → feature_with id fs ≡ Some f → f.id ≡ id
found_id id [] f is = absurd cc
found_id id (g ∷ gs) f is = go (eqb g.id id) refl is (found_id id gs f)
  where
    go : (v : Bool) → eqb g.id id ≡ v → (if v then Some g else feature_with id gs) ≡ Some f → (feature_with id gs ≡ Some f → f.id ≡ id) → f.id ≡ id
    go true same is rest = let one : g ≡ f = cc in let e : g.id ≡ f.id = ap (λ (x : Feature). x.id) one in grind (arith, nat_tests)
    go false same is rest = rest is

found_above : (a id : ℕ) (fs : List Feature) (f : Feature) → IsBelowAll a fs → feature_with id fs ≡ Some f → a < id
found_above a id [] f below is = absurd cc
found_above a id (g ∷ gs) f below is = go (eqb g.id id) refl is (found_above a id gs f below.1)
  where
    go : (v : Bool) → eqb g.id id ≡ v → (if v then Some g else feature_with id gs) ≡ Some f → (feature_with id gs ≡ Some f → a < id) → a < id
    go true same is rest = let h = below.0 in grind (arith, nat_tests)
    go false same is rest = rest is

absent_above : (id : ℕ) (fs : List Feature) → IsBelowAll id fs → feature_with id fs ≡ None
absent_above id [] below = refl
absent_above id (g ∷ gs) below = let apart : eqb g.id id ≡ false = (let h = below.0 in grind (arith, nat_tests)) in rw apart (absent_above id gs below.1)

below_trans : (a b : ℕ) (rows : List Feature) → a < b → IsBelowAll b rows → IsBelowAll a rows
below_trans a b [] lt below = tt
below_trans a b (row ∷ rows) lt below = (omega (arith, below.0), below_trans a b rows lt below.1)

with_row-below : (new : Feature) (fs : List Feature) → IsBelowAll new.id fs → with_row new fs ≡ new ∷ fs
with_row-below new [] below = refl
with_row-below new (g ∷ gs) below = let lt : nat_lt new.id g.id ≡ true = (let h = below.0 in grind (arith, nat_tests)) in rw lt refl

with_shape-absent : (id version : ℕ) (shape : List Point) (fs : List Feature) → feature_with id fs ≡ None → with_shape id version shape fs ≡ fs
with_shape-absent id version shape [] absent = refl
with_shape-absent id version shape (g ∷ gs) absent = go (eqb g.id id) absent (with_shape-absent id version shape gs)
  where
    go : (v : Bool) → (if v then Some g else feature_with id gs) ≡ None → (feature_with id gs ≡ None → with_shape id version shape gs ≡ gs)
        → (if v then record g { version = version; shape = shape } ∷ gs else g ∷ with_shape id version shape gs) ≡ g ∷ gs
    go true absent rest = absurd cc
    go false absent rest = ap (λ fs. g ∷ fs) (rest absent)

without-absent : (id : ℕ) (fs : List Feature) → feature_with id fs ≡ None → without id fs ≡ fs
without-absent id [] absent = refl
without-absent id (g ∷ gs) absent = go (eqb g.id id) absent (without-absent id gs)
  where
    go : (v : Bool) → (if v then Some g else feature_with id gs) ≡ None → (feature_with id gs ≡ None → without id gs ≡ gs) → (if v then gs else g ∷ without id gs) ≡ g ∷ gs
    go true absent rest = absurd cc
    go false absent rest = ap (λ fs. g ∷ fs) (rest absent)

-- ---- the features whose ids pass a test

module _ (q : ℕ → Bool) where
  abbrev kept : List Feature → List Feature
  kept fs = filter (λ f. q f.id) fs

  below_kept : (id : ℕ) (fs : List Feature) → IsBelowAll id fs → IsBelowAll id (kept fs)
  below_kept id [] below = tt
  below_kept id (g ∷ gs) below = go (q g.id) (below_kept id gs below.1)
    where
      go : (v : Bool) → IsBelowAll id (kept gs) → IsBelowAll id (if v then g ∷ kept gs else kept gs)
      go true rest = (below.0, rest)
      go false rest = rest

  sorted_kept : (fs : List Feature) → IsSortedById fs → IsSortedById (kept fs)
  sorted_kept [] sorted = tt
  sorted_kept (g ∷ gs) sorted = go (q g.id) (sorted_kept gs sorted.1)
    where
      go : (v : Bool) → IsSortedById (kept gs) → IsSortedById (if v then g ∷ kept gs else kept gs)
      go true rest = (below_kept g.id gs sorted.0, rest)
      go false rest = rest

  feature_with-kept : (id : ℕ) (fs : List Feature) → feature_with id (kept fs) ≡ (if q id then feature_with id fs else None)
  feature_with-kept id [] = elim (q id) as (λ v. let n : Option Feature = None in n ≡ (if v then n else n)) [ true ↦ refl | false ↦ refl ]
  feature_with-kept id (g ∷ gs) = go (eqb g.id id) (q g.id) refl refl (feature_with-kept id gs)
    where
      go : (v w : Bool) → eqb g.id id ≡ v → q g.id ≡ w → feature_with id (kept gs) ≡ (if q id then feature_with id gs else None)
          → feature_with id (if w then g ∷ kept gs else kept gs) ≡ (if q id then (if v then Some g else feature_with id gs) else None)
      go true w same is rest =
          let one : g.id ≡ id = grind (arith, nat_tests) in
          let told : q id ≡ w = ap q (sym one) ∙ is in
          elim w as (λ x. q id ≡ x → feature_with id (if x then g ∷ kept gs else kept gs) ≡ (if q id then Some g else None))
          [ true ↦ (λ e. rw (e, same) refl) | false ↦ (λ e. rest ∙ rw e refl) ] told
      go false true same is rest = rw same rest
      go false false same is rest = rest

  absent_kept : (id : ℕ) (fs : List Feature) → q id ≡ false → feature_with id (kept fs) ≡ None
  absent_kept id fs fails = feature_with-kept id fs ∙ rw fails refl

  -- a feature that passes comes to those that passed
  kept-with_row : (new : Feature) (fs : List Feature) → q new.id ≡ true → IsSortedById fs → kept (with_row new fs) ≡ with_row new (kept fs)
  kept-with_row new [] passes sorted = rw passes refl
  kept-with_row new (g ∷ gs) passes sorted = go (nat_lt new.id g.id) refl (kept-with_row new gs passes sorted.1)
    where
      go : (v : Bool) → nat_lt new.id g.id ≡ v → kept (with_row new gs) ≡ with_row new (kept gs) → kept (if v then new ∷ g ∷ gs else g ∷ with_row new gs) ≡ with_row new (kept (g ∷ gs))
      go true lt rest =
          let above : new.id < g.id = grind (arith, nat_tests) in
          rw passes (sym (with_row-below new (kept (g ∷ gs)) (below_kept new.id (g ∷ gs) (above, below_trans new.id g.id gs above sorted.0))))
      go false lt rest = elim (q g.id) as (λ w. (if w then g ∷ kept (with_row new gs) else kept (with_row new gs)) ≡ with_row new (if w then g ∷ kept gs else kept gs))
          [ true ↦ rw (lt, rest) refl | false ↦ rest ]

  -- any other does not
  kept-other_row : (new : Feature) (fs : List Feature) → q new.id ≡ false → kept (with_row new fs) ≡ kept fs
  kept-other_row new [] fails = rw fails refl
  kept-other_row new (g ∷ gs) fails = go (nat_lt new.id g.id) (kept-other_row new gs fails)
    where
      go : (v : Bool) → kept (with_row new gs) ≡ kept gs → kept (if v then new ∷ g ∷ gs else g ∷ with_row new gs) ≡ kept (g ∷ gs)
      go true rest = rw fails refl
      go false rest = elim (q g.id) as (λ w. (if w then g ∷ kept (with_row new gs) else kept (with_row new gs)) ≡ (if w then g ∷ kept gs else kept gs))
          [ true ↦ ap (λ fs. g ∷ fs) rest | false ↦ rest ]

  kept-with_shape : (id version : ℕ) (shape : List Point) (fs : List Feature) → kept (with_shape id version shape fs) ≡ with_shape id version shape (kept fs)
  kept-with_shape id version shape [] = refl
  kept-with_shape id version shape (g ∷ gs) = go (eqb g.id id) (q g.id) refl refl (kept-with_shape id version shape gs)
    where
      go : (v w : Bool) → eqb g.id id ≡ v → q g.id ≡ w → kept (with_shape id version shape gs) ≡ with_shape id version shape (kept gs)
          → kept (if v then record g { version = version; shape = shape } ∷ gs else g ∷ with_shape id version shape gs) ≡ with_shape id version shape (if w then g ∷ kept gs else kept gs)
      go true true same is rest = rw (is, same) refl
      go true false same is rest =
          let one : g.id ≡ id = grind (arith, nat_tests) in
          let fails : q id ≡ false = ap q (sym one) ∙ is in
          rw is (sym (with_shape-absent id version shape (kept gs) (absent_kept id gs fails)))
      go false true same is rest = rw (is, same) (ap (λ fs. g ∷ fs) rest)
      go false false same is rest = rw is rest

  kept-without : (id : ℕ) (fs : List Feature) → kept (without id fs) ≡ without id (kept fs)
  kept-without id [] = refl
  kept-without id (g ∷ gs) = go (eqb g.id id) (q g.id) refl refl (kept-without id gs)
    where
      go : (v w : Bool) → eqb g.id id ≡ v → q g.id ≡ w → kept (without id gs) ≡ without id (kept gs)
          → kept (if v then gs else g ∷ without id gs) ≡ without id (if w then g ∷ kept gs else kept gs)
      go true true same is rest = rw same refl
      go true false same is rest =
          let one : g.id ≡ id = grind (arith, nat_tests) in
          let fails : q id ≡ false = ap q (sym one) ∙ is in
          sym (without-absent id (kept gs) (absent_kept id gs fails))
      go false true same is rest = rw (is, same) (ap (λ fs. g ∷ fs) rest)
      go false false same is rest = rw is rest

-- ---- features as rows

abbrev pub AreIds : List Feature → Type 0
AreIds fs = AllByRecursion (λ f. f.id < 2 ^ 64) fs

abbrev is_low_id : ℕ → Bool
is_low_id id = nat_lt id (2 ^ 63)

abbrev is_high_id : ℕ → Bool
is_high_id id = not (nat_lt id (2 ^ 63))

-- the order of a feature's id with another's is that of the two as signed integers
record Agrees (new f : Feature) : Type 0 where
  less : f.id < new.id → int_cmp (signed f.id) (signed new.id) ≡ Less
  greater : new.id < f.id → int_cmp (signed f.id) (signed new.id) ≡ Greater

all_kept : (q : ℕ → Bool) (P : Feature → Type 0) → ((f : Feature) → f.id < 2 ^ 64 → q f.id ≡ true → P f) → (fs : List Feature) → AreIds fs → AllByRecursion P (kept q fs)
all_kept q P made [] ids = tt
all_kept q P made (g ∷ gs) ids = go (q g.id) refl (all_kept q P made gs ids.1)
  where
    go : (v : Bool) → q g.id ≡ v → AllByRecursion P (kept q gs) → AllByRecursion P (if v then g ∷ kept q gs else kept q gs)
    go true is rest = (made g ids.0 is, rest)
    go false is rest = rest

low_agrees : (new f : Feature) → new.id < 2 ^ 63 → f.id < 2 ^ 63 → Agrees new f
low_agrees new f p q = record {
  less = λ h. signed_low f.id new.id q p h;
  greater = λ h. signed_after new.id f.id (signed_low new.id f.id p q h);
}

high_agrees : (new f : Feature) → 2 ^ 63 ≤ new.id → new.id < 2 ^ 64 → 2 ^ 63 ≤ f.id → f.id < 2 ^ 64 → Agrees new f
high_agrees new f p q r s = record {
  less = λ h. signed_high f.id new.id r p s q h;
  greater = λ h. signed_after new.id f.id (signed_high new.id f.id p r q s h);
}

lows_agree : (new : Feature) (fs : List Feature) → new.id < 2 ^ 63 → AreIds fs → AllByRecursion (Agrees new) (kept is_low_id fs)
lows_agree new fs p ids = all_kept is_low_id (Agrees new) (λ f q is. let low : f.id < 2 ^ 63 = grind (arith, nat_tests) in low_agrees new f p low) fs ids

highs_agree : (new : Feature) (fs : List Feature) → 2 ^ 63 ≤ new.id → new.id < 2 ^ 64 → AreIds fs → AllByRecursion (Agrees new) (kept is_high_id fs)
highs_agree new fs p q ids = all_kept is_high_id (Agrees new) (λ f r is. let high : 2 ^ 63 ≤ f.id = grind (arith, nat_tests) in high_agrees new f p q high r) fs ids

highs_before : (new : Feature) (fs : List Feature) → new.id < 2 ^ 63 → AreIds fs → AllByRecursion (λ f. int_cmp (signed f.id) (signed new.id) ≡ Less) (kept is_high_id fs)
highs_before new fs p ids = all_kept is_high_id (λ f. int_cmp (signed f.id) (signed new.id) ≡ Less)
    (λ f q is. let high : 2 ^ 63 ≤ f.id = grind (arith, nat_tests) in signed_across f.id new.id high q p) fs ids

lows_after : (new : Feature) (fs : List Feature) → 2 ^ 63 ≤ new.id → new.id < 2 ^ 64 → AreIds fs → AllByRecursion (λ f. int_cmp (signed f.id) (signed new.id) ≡ Greater) (kept is_low_id fs)
lows_after new fs p q ids = all_kept is_low_id (λ f. int_cmp (signed f.id) (signed new.id) ≡ Greater)
    (λ f r is. let low : f.id < 2 ^ 63 = grind (arith, nat_tests) in signed_after new.id f.id (signed_across new.id f.id p q low)) fs ids

-- the row of a feature that was found
abbrev pub row_found : (Feature → Row) → Option Feature → List Row
row_found row None = []
row_found row (Some f) = row f ∷ []

module _ (row : Feature → Row) (keyed : (f : Feature) → rowid (row f) ≡ Int (signed f.id)) where
  cmp : (f g : Feature) → value_cmp (rowid (row f)) (rowid (row g)) ≡ int_cmp (signed f.id) (signed g.id)
  cmp f g = rw (keyed f, keyed g) (value_cmp-Int (signed f.id) (signed g.id))

  has : (id : ℕ) (f : Feature) → id < 2 ^ 64 → f.id < 2 ^ 64 → has_rowid (signed id) (row f) ≡ eqb f.id id
  has id f p q = rw (keyed f, value_cmp-Int (signed f.id) (signed id)) (signed_same f.id id q p)

  -- a row goes behind those below it
  put_behind : (new : Feature) (fs : List Feature) (after : List Row) → AllByRecursion (λ f. int_cmp (signed f.id) (signed new.id) ≡ Less) fs
      → put_row (row new) (map row fs ++ after) ≡ map row fs ++ put_row (row new) after
  put_behind new [] after all = refl
  put_behind new (g ∷ gs) after all = rw (cmp g new, all.0) (ap (λ rs. row g ∷ rs) (put_behind new gs after all.1))

  -- and before those above it
  put_before : (new : Feature) (fs : List Feature) → AllByRecursion (λ f. int_cmp (signed f.id) (signed new.id) ≡ Greater) fs
      → put_row (row new) (map row fs) ≡ row new ∷ map row fs
  put_before new [] all = refl
  put_before new (g ∷ gs) all = rw (cmp g new, all.0) refl

  put_new : (new : Feature) (fs : List Feature) (after : List Row) → AllByRecursion (Agrees new) fs → feature_with new.id fs ≡ None
      → put_row (row new) after ≡ row new ∷ after → put_row (row new) (map row fs ++ after) ≡ map row (with_row new fs) ++ after
  put_new new [] after all absent first = first
  put_new new (g ∷ gs) after all absent first = go (nat_lt new.id g.id) (eqb g.id new.id) refl refl absent (λ e. put_new new gs after all.1 e first)
    where
      go : (v w : Bool) → nat_lt new.id g.id ≡ v → eqb g.id new.id ≡ w → (if w then Some g else feature_with new.id gs) ≡ None
          → (feature_with new.id gs ≡ None → put_row (row new) (map row gs ++ after) ≡ map row (with_row new gs) ++ after)
          → put_row (row new) (row g ∷ (map row gs ++ after)) ≡ map row (if v then new ∷ g ∷ gs else g ∷ with_row new gs) ++ after
      go v true lt same absent rest = absurd cc
      go true false lt same absent rest =
          let above : new.id < g.id = grind (arith, nat_tests) in
          rw (cmp g new, all.0.greater above) refl
      go false false lt same absent rest =
          let below : g.id < new.id = grind (arith, nat_tests) in
          rw (cmp g new, all.0.less below) (ap (λ rs. row g ∷ rs) (rest absent))

  put_changed : (old new : Feature) (version : ℕ) (shape : List Point) (fs : List Feature) (after : List Row)
      → new ≡ record old { version = version; shape = shape } → AllByRecursion (Agrees new) fs → IsSortedById fs → feature_with new.id fs ≡ Some old
      → put_row (row new) (map row fs ++ after) ≡ map row (with_shape new.id version shape fs) ++ after
  put_changed old new version shape [] after made all sorted is = absurd cc
  put_changed old new version shape (g ∷ gs) after made all sorted is =
      go (eqb g.id new.id) refl is (put_changed old new version shape gs after made all.1 sorted.1) (found_above g.id new.id gs old sorted.0)
    where
      go : (w : Bool) → eqb g.id new.id ≡ w → (if w then Some g else feature_with new.id gs) ≡ Some old
          → (feature_with new.id gs ≡ Some old → put_row (row new) (map row gs ++ after) ≡ map row (with_shape new.id version shape gs) ++ after)
          → (feature_with new.id gs ≡ Some old → g.id < new.id)
          → put_row (row new) (row g ∷ (map row gs ++ after)) ≡ map row (if w then record g { version = version; shape = shape } ∷ gs else g ∷ with_shape new.id version shape gs) ++ after
      go true same is rest above =
          let one : g.id ≡ new.id = grind (arith, nat_tests) in
          let tied : int_cmp (signed g.id) (signed new.id) ≡ Equal = rw one (signed_itself new.id) in
          let first : g ≡ old = cc in
          let whole : new ≡ record g { version = version; shape = shape } = made ∙ ap (λ (f : Feature). let h : Feature = record f { version = version; shape = shape } in h) (sym first) in
          rw (cmp g new, tied) (ap (λ (f : Feature). row f ∷ (map row gs ++ after)) whole)
      go false same is rest above = rw (cmp g new, all.0.less (above is)) (ap (λ rs. row g ∷ rs) (rest is))

  out_absent : (id : ℕ) (fs : List Feature) → id < 2 ^ 64 → AreIds fs → feature_with id fs ≡ None → without_rowid (signed id) (map row fs) ≡ map row fs
  out_absent id [] p ids absent = refl
  out_absent id (g ∷ gs) p ids absent = go (eqb g.id id) (has id g p ids.0) absent (out_absent id gs p ids.1)
    where
      go : (w : Bool) → has_rowid (signed id) (row g) ≡ w → (if w then Some g else feature_with id gs) ≡ None
          → (feature_with id gs ≡ None → without_rowid (signed id) (map row gs) ≡ map row gs) → without_rowid (signed id) (row g ∷ map row gs) ≡ row g ∷ map row gs
      go true is absent rest = absurd cc
      go false is absent rest = rw is (ap (λ rs. row g ∷ rs) (rest absent))

  taken_out : (id : ℕ) (fs : List Feature) → id < 2 ^ 64 → AreIds fs → IsSortedById fs → without_rowid (signed id) (map row fs) ≡ map row (without id fs)
  taken_out id [] p ids sorted = refl
  taken_out id (g ∷ gs) p ids sorted = go (eqb g.id id) refl (has id g p ids.0) (taken_out id gs p ids.1 sorted.1)
    where
      go : (w : Bool) → eqb g.id id ≡ w → has_rowid (signed id) (row g) ≡ w → without_rowid (signed id) (map row gs) ≡ map row (without id gs)
          → without_rowid (signed id) (row g ∷ map row gs) ≡ map row (if w then gs else g ∷ without id gs)
      go true same is rest =
          let one : g.id ≡ id = grind (arith, nat_tests) in
          rw is (out_absent id gs p ids.1 (ap (λ n. feature_with n gs) (sym one) ∙ absent_above g.id gs sorted.0))
      go false same is rest = rw is (ap (λ rs. row g ∷ rs) rest)

  none_has : (id : ℕ) (fs : List Feature) → id < 2 ^ 64 → AreIds fs → feature_with id fs ≡ None → filter (has_rowid (signed id)) (map row fs) ≡ []
  none_has id [] p ids absent = refl
  none_has id (g ∷ gs) p ids absent = go (eqb g.id id) (has id g p ids.0) absent (none_has id gs p ids.1)
    where
      go : (w : Bool) → has_rowid (signed id) (row g) ≡ w → (if w then Some g else feature_with id gs) ≡ None
          → (feature_with id gs ≡ None → filter (has_rowid (signed id)) (map row gs) ≡ []) → filter (has_rowid (signed id)) (row g ∷ map row gs) ≡ []
      go true is absent rest = absurd cc
      go false is absent rest = rw is (rest absent)

  one_has : (id : ℕ) (fs : List Feature) → id < 2 ^ 64 → AreIds fs → IsSortedById fs → filter (has_rowid (signed id)) (map row fs) ≡ row_found row (feature_with id fs)
  one_has id [] p ids sorted = refl
  one_has id (g ∷ gs) p ids sorted = go (eqb g.id id) refl (has id g p ids.0) (one_has id gs p ids.1 sorted.1)
    where
      go : (w : Bool) → eqb g.id id ≡ w → has_rowid (signed id) (row g) ≡ w → filter (has_rowid (signed id)) (map row gs) ≡ row_found row (feature_with id gs)
          → filter (has_rowid (signed id)) (row g ∷ map row gs) ≡ row_found row (if w then Some g else feature_with id gs)
      go true same is rest =
          let one : g.id ≡ id = grind (arith, nat_tests) in
          rw is (ap (λ rs. row g ∷ rs) (none_has id gs p ids.1 (ap (λ n. feature_with n gs) (sym one) ∙ absent_above g.id gs sorted.0)))
      go false same is rest = rw is rest

  -- the rows of the features: those with high ids first
  two_parts : (fs : List Feature) → map row (as_stored fs) ≡ map row (kept is_high_id fs) ++ map row (kept is_low_id fs)
  two_parts fs = map-append row (kept is_high_id fs) (kept is_low_id fs)

  ids_kept : (q : ℕ → Bool) (fs : List Feature) → AreIds fs → AreIds (kept q fs)
  ids_kept q fs ids = all_kept q (λ f. f.id < 2 ^ 64) (λ f p is. p) fs ids

  -- a feature is added
  pub put_added : (new : Feature) (fs : List Feature) → new.id < 2 ^ 64 → AreIds fs → IsSortedById fs → feature_with new.id fs ≡ None
      → put_row (row new) (map row (as_stored fs)) ≡ map row (as_stored (with_row new fs))
  put_added new fs p ids sorted absent = go (is_low_id new.id) refl
    where
      none_kept : (q : ℕ → Bool) → feature_with new.id (kept q fs) ≡ None
      none_kept q = feature_with-kept q new.id fs ∙ elim (q new.id) as (λ v. let n : Option Feature = None in (if v then feature_with new.id fs else n) ≡ n) [ true ↦ absent | false ↦ refl ]

      go : (v : Bool) → is_low_id new.id ≡ v → put_row (row new) (map row (as_stored fs)) ≡ map row (as_stored (with_row new fs))
      go true low =
          let small : new.id < 2 ^ 63 = grind (arith, nat_tests) in
          let other : is_high_id new.id ≡ false = ap not low in
          let behind = put_behind new (kept is_high_id fs) (map row (kept is_low_id fs)) (highs_before new fs small ids) in
          let put = put_new new (kept is_low_id fs) [] (lows_agree new fs small ids) (none_kept is_low_id) refl in
          ap (put_row (row new)) (two_parts fs) ∙ behind
          ∙ ap (λ rs. map row (kept is_high_id fs) ++ rs) (ap (put_row (row new)) (sym (append-nil (map row (kept is_low_id fs)))) ∙ put ∙ append-nil _)
          ∙ sym (two_parts (with_row new fs) ∙ ap₂ (λ hs ls. map row hs ++ map row ls) (kept-other_row is_high_id new fs other) (kept-with_row is_low_id new fs low sorted))
      go false low =
          let large : 2 ^ 63 ≤ new.id = grind (arith, nat_tests) in
          let high : is_high_id new.id ≡ true = ap not low in
          let put = put_new new (kept is_high_id fs) (map row (kept is_low_id fs)) (highs_agree new fs large p ids) (none_kept is_high_id) (put_before new (kept is_low_id fs) (lows_after new fs large p ids)) in
          ap (put_row (row new)) (two_parts fs) ∙ put
          ∙ sym (two_parts (with_row new fs) ∙ ap₂ (λ hs ls. map row hs ++ map row ls) (kept-with_row is_high_id new fs high sorted) (kept-other_row is_low_id new fs low))

  -- a feature is reshaped
  pub put_reshaped : (old new : Feature) (version : ℕ) (shape : List Point) (fs : List Feature) → new.id < 2 ^ 64 → AreIds fs → IsSortedById fs
      → new ≡ record old { version = version; shape = shape } → feature_with new.id fs ≡ Some old
      → put_row (row new) (map row (as_stored fs)) ≡ map row (as_stored (with_shape new.id version shape fs))
  put_reshaped old new version shape fs p ids sorted made is = go (is_low_id new.id) refl
    where
      there : (q : ℕ → Bool) → q new.id ≡ true → feature_with new.id (kept q fs) ≡ Some old
      there q passes = feature_with-kept q new.id fs ∙ rw passes is

      gone : (q : ℕ → Bool) → q new.id ≡ false → with_shape new.id version shape (kept q fs) ≡ kept q fs
      gone q fails = with_shape-absent new.id version shape (kept q fs) (absent_kept q new.id fs fails)

      go : (v : Bool) → is_low_id new.id ≡ v → put_row (row new) (map row (as_stored fs)) ≡ map row (as_stored (with_shape new.id version shape fs))
      go true low =
          let small : new.id < 2 ^ 63 = grind (arith, nat_tests) in
          let other : is_high_id new.id ≡ false = ap not low in
          let behind = put_behind new (kept is_high_id fs) (map row (kept is_low_id fs)) (highs_before new fs small ids) in
          let put = put_changed old new version shape (kept is_low_id fs) [] made (lows_agree new fs small ids) (sorted_kept is_low_id fs sorted) (there is_low_id low) in
          ap (put_row (row new)) (two_parts fs) ∙ behind
          ∙ ap (λ rs. map row (kept is_high_id fs) ++ rs) (ap (put_row (row new)) (sym (append-nil (map row (kept is_low_id fs)))) ∙ put ∙ append-nil _)
          ∙ sym (two_parts (with_shape new.id version shape fs)
          ∙ ap₂ (λ hs ls. map row hs ++ map row ls) (kept-with_shape is_high_id new.id version shape fs ∙ gone is_high_id other) (kept-with_shape is_low_id new.id version shape fs))
      go false low =
          let large : 2 ^ 63 ≤ new.id = grind (arith, nat_tests) in
          let high : is_high_id new.id ≡ true = ap not low in
          let put = put_changed old new version shape (kept is_high_id fs) (map row (kept is_low_id fs)) made (highs_agree new fs large p ids) (sorted_kept is_high_id fs sorted) (there is_high_id high) in
          ap (put_row (row new)) (two_parts fs) ∙ put
          ∙ sym (two_parts (with_shape new.id version shape fs)
          ∙ ap₂ (λ hs ls. map row hs ++ map row ls) (kept-with_shape is_high_id new.id version shape fs) (kept-with_shape is_low_id new.id version shape fs ∙ gone is_low_id low))

  -- a feature is deleted
  pub put_out : (id : ℕ) (fs : List Feature) → id < 2 ^ 64 → AreIds fs → IsSortedById fs
      → without_rowid (signed id) (map row (as_stored fs)) ≡ map row (as_stored (without id fs))
  put_out id fs p ids sorted =
      ap (without_rowid (signed id)) (two_parts fs)
      ∙ filter-append (λ r. not (has_rowid (signed id) r)) (map row (kept is_high_id fs)) (map row (kept is_low_id fs))
      ∙ ap₂ (λ hs ls. hs ++ ls)
      (taken_out id (kept is_high_id fs) p (ids_kept is_high_id fs ids) (sorted_kept is_high_id fs sorted) ∙ ap (map row) (sym (kept-without is_high_id id fs)))
      (taken_out id (kept is_low_id fs) p (ids_kept is_low_id fs ids) (sorted_kept is_low_id fs sorted) ∙ ap (map row) (sym (kept-without is_low_id id fs)))
      ∙ sym (two_parts (without id fs))

  -- what is found under an id
  pub found_stored : (id : ℕ) (fs : List Feature) → id < 2 ^ 64 → AreIds fs → IsSortedById fs
      → filter (has_rowid (signed id)) (map row (as_stored fs)) ≡ row_found row (feature_with id fs)
  found_stored id fs p ids sorted =
      ap (filter (has_rowid (signed id))) (two_parts fs)
      ∙ filter-append (has_rowid (signed id)) (map row (kept is_high_id fs)) (map row (kept is_low_id fs))
      ∙ ap₂ (λ hs ls. hs ++ ls)
      (one_has id (kept is_high_id fs) p (ids_kept is_high_id fs ids) (sorted_kept is_high_id fs sorted) ∙ ap (row_found row) (feature_with-kept is_high_id id fs))
      (one_has id (kept is_low_id fs) p (ids_kept is_low_id fs ids) (sorted_kept is_low_id fs sorted) ∙ ap (row_found row) (feature_with-kept is_low_id id fs))
      ∙ join (nat_lt id (2 ^ 63))
    where
      join : (v : Bool) → row_found row (if not v then feature_with id fs else None) ++ row_found row (if v then feature_with id fs else None) ≡ row_found row (feature_with id fs)
      join true = refl
      join false = append-nil _
