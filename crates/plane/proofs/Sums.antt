-- Identities of sums and products of integers. Each integer is written as a difference of two
-- naturals, for which `omega` multiplies out.
use Rattle.std.specs.Prelude.{◌≡◌, ℕ, ◌+◌, ◌*◌, ℤ, pos, negsuc, ◌+ℤ◌, ◌-ℤ◌, ◌*ℤ◌}
use Rattle.std.proofs.Common.{arith, suc, sym, ◌∙◌, ap}
use Rattle.std.proofs.lemmas.Int.{ints}
use Rattle.std.proofs.Math.IntN.{neg_ℤ}
use borrow.Author.Differences.{up, down}

-- u minus v
pub diff : ℕ → ℕ → ℤ
diff u v = pos u +ℤ neg_ℤ (pos v)

pub same-diff : (u v u' v' : ℕ) → u + v' ≡ u' + v → diff u v ≡ diff u' v'
unfolding diff
same-diff u v u' v' e = omega (arith, ints)

pub parts : (z : ℤ) → z ≡ diff (up z) (down z)
unfolding diff
parts z = omega (arith, ints)

pub diff-add : (u v u' v' : ℕ) → diff u v +ℤ diff u' v' ≡ diff (u + u') (v + v')
unfolding diff
diff-add u v u' v' = omega (arith, ints)

pub diff-sub : (u v u' v' : ℕ) → diff u v -ℤ diff u' v' ≡ diff (u + v') (v + u')
unfolding diff
diff-sub u v u' v' = omega (arith, ints)

pub neg-diff : (u v : ℕ) → neg_ℤ (diff u v) ≡ diff v u
unfolding diff
neg-diff u v = omega (arith, ints)

-- a difference of two naturals as an integer in normal form
pos-diff : (u v k : ℕ) → u ≡ v + k → diff u v ≡ pos k
unfolding diff
pos-diff u v k e = omega (arith, ints)

negsuc-diff : (u v k : ℕ) → v ≡ u + suc k → diff u v ≡ negsuc k
unfolding diff
negsuc-diff u v k e = omega (arith, ints)

whole : (a b u v u' v' : ℕ) → u ≡ v + a → u' ≡ v' + b → u * u' + v * v' ≡ u * v' + v * u' + a * b
whole a b u v u' v' e e' = rw (e, e') (omega arith)

mul-go : (z z' : ℤ) (u v u' v' : ℕ) → up z + v ≡ down z + u → up z' + v' ≡ down z' + u' → z *ℤ z' ≡ diff (u * u' + v * v') (u * v' + v * u')
mul-go (pos a) (pos b) u v u' v' e e' = sym (pos-diff _ _ (a * b) (whole a b u v u' v' (omega arith) (omega arith)))
mul-go (pos a) (negsuc b) u v u' v' e e' = ap neg_ℤ (sym (pos-diff _ _ (a * suc b) (whole a (suc b) u v v' u' (omega arith) (omega arith)))) ∙ neg-diff _ _
mul-go (negsuc a) (pos b) u v u' v' e e' = ap neg_ℤ (sym (pos-diff _ _ (suc a * b) (whole (suc a) b v u u' v' (omega arith) (omega arith)))) ∙ neg-diff _ _ ∙ same-diff _ _ _ _ (omega arith)
mul-go (negsuc a) (negsuc b) u v u' v' e e' = sym (pos-diff _ _ (suc a * suc b) (whole (suc a) (suc b) v u v' u' (omega arith) (omega arith))) ∙ same-diff _ _ _ _ (omega arith)

pub diff-mul : (u v u' v' : ℕ) → diff u v *ℤ diff u' v' ≡ diff (u * u' + v * v') (u * v' + v * u')
unfolding diff
diff-mul u v u' v' = mul-go (diff u v) (diff u' v') u v u' v' (omega (arith, ints)) (omega (arith, ints))

-- an identity between the cross products of three vectors
pub turn-id : (ux uy vx vy wx wy : ℤ) → (ux *ℤ vy -ℤ uy *ℤ vx) *ℤ wx +ℤ (vx *ℤ wy -ℤ vy *ℤ wx) *ℤ ux ≡ (ux *ℤ wy -ℤ uy *ℤ wx) *ℤ vx
turn-id ux uy vx vy wx wy = rw (parts ux, parts uy, parts vx, parts vy, parts wx, parts wy) (simp (diff-mul, diff-sub, diff-add) (same-diff _ _ _ _ (omega arith)))

pub zero-diff : (u v : ℕ) → u ≡ v → diff u v ≡ pos 0
unfolding diff
zero-diff u v e = omega (arith, ints)
