-- Features that rise by id, put into a store one by one.
use Rattle.std.proofs.Common.{◌≡◌, ℕ, ◌<◌, ◌==◌, nat_lt, false, zero, suc, List, [], ◌∷◌, take, slice_get, Some, None, refl, sym, ap, subst, arith}
use Rattle.std.proofs.lemmas.Bool.Decides.{nat_tests}
use Rattle.features.specs.declared.rows.Feature.{Feature}
use Rattle.features.specs.Rows.{IsBelowAll, IsSortedById, feature_with, with_row}

-- what lies behind a front of a sorted list has a greater id than the head
below_there : (id : ℕ) (rows : List Feature) (k : ℕ) (row : Feature) → IsBelowAll id rows → slice_get rows k ≡ Some row → id < row.id
below_there id [] k row below is = absurd cc
below_there id (first ∷ rows) zero row below is = let same : first ≡ row = cc in subst (λ (r : Feature). id < r.id) same below.0
below_there id (first ∷ rows) (suc k) row below is = below_there id rows k row below.1 is

-- the next feature is in no front
pub absent_before : (rows : List Feature) (k : ℕ) (row : Feature) → IsSortedById rows → slice_get rows k ≡ Some row → feature_with row.id (take k rows) ≡ None
absent_before [] k row sorted is = absurd cc
absent_before (first ∷ rows) zero row sorted is = refl
absent_before (first ∷ rows) (suc k) row sorted is =
    let less = below_there first.id rows k row sorted.0 is in
    let apart : (first.id == row.id) ≡ false = grind (arith, nat_tests, less) in
    rw apart (absent_before rows k row sorted.1 is)

-- it goes to the end of the front
pub put_next : (rows : List Feature) (k : ℕ) (row : Feature) → IsSortedById rows → slice_get rows k ≡ Some row → with_row row (take k rows) ≡ take (suc k) rows
put_next [] k row sorted is = absurd cc
put_next (first ∷ rows) zero row sorted is = let same : first ≡ row = cc in ap (λ (r : Feature). r ∷ []) (sym same)
put_next (first ∷ rows) (suc k) row sorted is =
    let less = below_there first.id rows k row sorted.0 is in
    let apart : nat_lt row.id first.id ≡ false = grind (arith, nat_tests, less) in
    rw apart (ap (λ (rs : List Feature). first ∷ rs) (put_next rows k row sorted.1 is))
