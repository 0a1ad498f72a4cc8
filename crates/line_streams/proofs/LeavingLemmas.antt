-- Returning early by `?`.
use Rattle.std.proofs.Common.{◌≡◌, Result, Ok, Err, IsErrAnd, subst, sym}

-- what holds for the fault that occurred holds for the result that is returned
pub left_by : {T E : Type 0} (r : Result T E) (e : E) (P : Result T E → Type 0) → IsErrAnd r (λ f. f ≡ e) → P (Err e) → P r
left_by (Ok x) e P is stands = absurd is
left_by {T} {E} (Err f) e P is stands = subst (λ (f : E). P (Err f)) (sym is) stands
