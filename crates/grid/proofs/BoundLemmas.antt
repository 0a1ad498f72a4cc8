-- A bound that is capped on its way is the same bound.
use Rattle.std.proofs.Common.{◌≡◌, ℕ, ◌≤◌, min, ℤ, pos, ◌-ℤ◌, ◌+ℤ◌, Bool, true, false, refl, ap, arith}
use Rattle.std.proofs.lemmas.Bool.{cases_lt}
use Rattle.std.proofs.lemmas.Int.{ints}
use Rattle.std.proofs.Math.Logic.{⊎_elim}
use Rattle.grid.specs.declared.values.TheConstants.{CAP}
use Rattle.grid.specs.Bounds.{bound_at}
use Rattle.grid.specs.Origins.{IsOrigin}

-- what is at the cap or above it is beyond the grid, with either sign
behind : Bool → ℤ
behind true = pos 0 -ℤ pos 10000001
behind false = pos 10000001

far : (negative : Bool) (n : ℕ) (origin : ℤ) → 1800000000000000000 ≤ n → IsOrigin origin → bound_at origin negative n ≡ behind negative
unfolding behind
far true n origin above h = grind (arith, ints)
far false n origin above h = grind (arith, ints)

capped_at : (n : ℕ) → n ≤ 1800000000000000000 → min n 1800000000000000000 ≡ n
capped_at n h = omega arith

pub capped_bound : (origin : ℤ) (negative : Bool) (n : ℕ) → IsOrigin origin
    → bound_at origin negative (min n CAP) ≡ bound_at origin negative n
capped_bound origin negative n h = ⊎_elim
    (λ above.
    rw (far negative (min n 1800000000000000000) origin (omega arith) h, far negative n origin (omega arith) h) refl)
    (λ below. ap (λ (k : ℕ). bound_at origin negative k) (capped_at n below))
    (cases_lt 1800000000000000000 n)
