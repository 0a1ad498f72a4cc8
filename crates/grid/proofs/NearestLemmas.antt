-- On a grid that takes the nearest step, a number's coordinate is the nearest one.
use Rattle.std.proofs.Common.{◌≡◌, ℕ, zero, suc, ◌+◌, ◌-◌, ◌*◌, ◌/◌, ◌%◌, ◌^◌, ◌==◌, ◌≤◌, ◌<◌, nat_le, ℤ, pos, neg_ℤ, ◌+ℤ◌, ◌*ℤ◌, ◌≤ℤ◌, Bool, true, false, List, Option, Some, None, Ok, if◌then◌else◌, refl, sym, ap, subst, ◌∙◌, arith}
use Rattle.std.specs.Str.Parse.{digits_value}
use Rattle.std.proofs.Math.IntN.{negsuc-*ℤ-pos, pos-*ℤ-pos}
use Rattle.std.proofs.Math.Logic.{⊎_elim}
use Rattle.std.proofs.Math.Nat.{le_of_mul-le-mul_right, mul-le-mul_right, mul_comm, mul_right_comm}
use Rattle.std.proofs.lemmas.Bool.{cases_lt, eqb-true, leb-true}
use Rattle.std.proofs.lemmas.Bool.Decides.{nat_tests}
use Rattle.std.proofs.lemmas.Int.{ints}
use Rattle.std.proofs.lemmas.Nat.{div-add-mod', mod_below}
use Rattle.grid.specs.declared.grids.Axis.{Axis}
use Rattle.grid.specs.declared.grids.Between.TheVariants.{Nearest}
use Rattle.grid.specs.declared.grids.Grid.{Grid}
use Rattle.grid.specs.Exact.{IsNearest, number_parts, place_parts}
use Rattle.grid.specs.Grids.{coordinate_of, number_steps, on_grid, origin_on, signed, signed_steps, text_steps}
use Rattle.grid.specs.Numbers.{Number, number_of}
use Rattle.grid.specs.Steps.{nearest, parts_of, parts_of_step, steps_of}
use Rattle.grid.proofs.ClosestLemmas.{same_parts}
use Rattle.grid.proofs.ExactLemmas.{on_grid_placed}
use Rattle.grid.proofs.StepsLemmas.{tens_some}

-- so many steps, of `step` parts each, are at most half a step from the parts
record IsNear (parts step m : ℕ) : Type 0 where
  above : 2 * (m * step) ≤ 2 * parts + step
  below : 2 * parts < 2 * (m * step) + step

-- ---- in the parts of the division

more_steps : (q step : ℕ) → (q + 1) * step ≡ q * step + step
more_steps q step = omega arith

go-rounded : (parts step : ℕ) (b : Bool) → nat_le step (2 * (parts % step)) ≡ b → 0 < step → IsNear parts step (if b then parts / step + 1 else parts / step)
go-rounded parts step true e some =
    let most : step ≤ 2 * (parts % step) = leb-true step (2 * (parts % step)) e in
    let below : parts % step < step = mod_below parts step some in
    record {
      above = omega (arith, div-add-mod' parts step, more_steps (parts / step) step, most);
      below = omega (arith, div-add-mod' parts step, more_steps (parts / step) step, below);
    }
go-rounded parts step false e some =
    let less : 2 * (parts % step) < step = ⊎_elim (λ l. l) (λ most. let wrong = le_test step (2 * (parts % step)) most in absurd (clash wrong e)) (cases_lt (2 * (parts % step)) step) in
    record {
      above = omega (arith, div-add-mod' parts step);
      below = omega (arith, div-add-mod' parts step, less);
    }
  where
    le_test : (m n : ℕ) → m ≤ n → nat_le m n ≡ true
    le_test m n h = grind (arith, nat_tests)

    clash : {x : Bool} → x ≡ true → x ≡ false → ⊥
    clash p q = absurd (let wrong = sym p ∙ q in cc)

go-whole : (parts step m : ℕ) (b : Bool) → (parts % step == 0) ≡ b → 0 < step → (if b then Some (parts / step) else Some (nearest parts step)) ≡ Some m → IsNear parts step m
go-whole parts step m true e some h =
    let none : parts % step ≡ 0 = eqb-true (parts % step) 0 e in
    let is : parts / step ≡ m = cc in
    subst (λ (k : ℕ). IsNear parts step k) is record {
      above = omega (arith, div-add-mod' parts step, none);
      below = omega (arith, div-add-mod' parts step, none, some);
    }
go-whole parts step m false e some h =
    let is : nearest parts step ≡ m = cc in
    subst (λ (k : ℕ). IsNear parts step k) is (go-rounded parts step (nat_le step (2 * (parts % step))) refl some)

-- ---- in the parts of the number

scaled : (parts step whole unit m : ℕ) → 0 < step → 0 < unit → whole * step ≡ parts * unit → IsNear parts step m → IsNear whole unit m
scaled parts step whole unit m some_step some_unit same near = record { above = above; below = below }
  where
    above : 2 * (m * unit) ≤ 2 * whole + unit
    above =
        let more : (2 * (m * step)) * unit ≤ (2 * parts + step) * unit = mul-le-mul_right unit near.above in
        le_of_mul-le-mul_right {k = step} (omega (arith, more, same, mul_right_comm m step unit, mul_comm step unit)) some_step

    below : 2 * whole < 2 * (m * unit) + unit
    below = ⊎_elim (λ l. l)
        (λ most.
        let more : (2 * (m * unit) + unit) * step ≤ (2 * whole) * step = mul-le-mul_right step most in
        let back : 2 * (m * step) + step ≤ 2 * parts = le_of_mul-le-mul_right {k = unit} (omega (arith, more, same, mul_right_comm m step unit, mul_comm step unit)) some_unit in
        absurd (omega (arith, back, near.below)))
        (cases_lt (2 * whole) (2 * (m * unit) + unit))

near_steps : (decimals m : ℕ) (x : Number) → steps_of Nearest decimals x ≡ Some m → IsNear (digits_value 10 x.digits * 10 ^ (x.up + decimals)) (10 ^ x.down) m
unfolding steps_of
near_steps decimals m x h =
    let a = x.up + decimals in
    let v = digits_value 10 x.digits in
    scaled (parts_of decimals x) (parts_of_step decimals x) (v * 10 ^ a) (10 ^ x.down) m (tens_some (x.down - a)) (tens_some x.down) (same_parts v a x.down)
    (go-whole (parts_of decimals x) (parts_of_step decimals x) m (parts_of decimals x % parts_of_step decimals x == 0) refl (tens_some (x.down - a)) h)

-- ---- with signs

signed_times : (negative : Bool) (m unit : ℕ) → signed negative m *ℤ pos unit ≡ signed negative (m * unit)
signed_times false m unit = pos-*ℤ-pos m unit
signed_times true zero unit = pos-*ℤ-pos 0 unit ∙ nothing (0 * unit) (omega arith)
  where
    nothing : (n : ℕ) → n ≡ 0 → pos n ≡ neg_ℤ (pos n)
    nothing n e = rw e refl
signed_times true (suc m) unit = negsuc-*ℤ-pos m unit

-- so many parts of a place and of a number, of either sign
record IsBeside (negative : Bool) (place number unit : ℤ) : Type 0 where
  not_above : (place +ℤ place) ≤ℤ (number +ℤ number +ℤ unit)
  not_below : (number +ℤ number) ≤ℤ (place +ℤ place +ℤ unit)
  half_above : place +ℤ place ≡ number +ℤ number +ℤ unit → negative ≡ false
  half_below : number +ℤ number ≡ place +ℤ place +ℤ unit → negative ≡ true

beside : (negative : Bool) (m whole unit : ℕ) → IsNear whole unit m → IsBeside negative (signed negative (m * unit)) (signed negative whole) (pos unit)
beside false m whole unit near = record {
  not_above = omega (arith, ints, near.above);
  not_below = omega (arith, ints, near.below);
  half_above = λ e. refl;
  half_below = λ e. absurd (omega (arith, ints, near.below, e));
}
beside true m whole unit near = record {
  not_above = omega (arith, ints, near.below);
  not_below = omega (arith, ints, near.above);
  half_above = λ e. absurd (omega (arith, ints, near.below, e));
  half_below = λ e. refl;
}

-- ---- a text

go-steps : (grid : Grid) (axis : Axis) (n : ℤ) (x : Number) (s : Option ℕ) → steps_of Nearest grid.decimals x ≡ s
    → on_grid (origin_on axis grid) (signed_steps x.negative s) ≡ Ok n → IsNearest grid axis x n
go-steps grid axis n x None e h = absurd cc
go-steps grid axis n x (Some m) e h =
    let at = on_grid_placed (signed x.negative m) (origin_on axis grid) n h in
    let place : place_parts grid axis x n ≡ signed x.negative (m * 10 ^ x.down) = ap (λ (z : ℤ). z *ℤ pos (10 ^ x.down)) at ∙ signed_times x.negative m (10 ^ x.down) in
    let near = beside x.negative m (digits_value 10 x.digits * 10 ^ (x.up + grid.decimals)) (10 ^ x.down) (near_steps grid.decimals m x e) in
    let is : IsBeside x.negative (place_parts grid axis x n) (number_parts grid x) (pos (10 ^ x.down)) = subst (λ (z : ℤ). IsBeside x.negative z (number_parts grid x) (pos (10 ^ x.down))) (sym place) near in
    record { not_above = is.not_above; not_below = is.not_below; half_above = is.half_above; half_below = is.half_below }

pub number_is_nearest : (grid : Grid) (axis : Axis) (text : List ℕ) (number : Number) (n : ℤ) → grid.between ≡ Nearest → number_of text ≡ Some number → coordinate_of grid axis text ≡ Ok n
    → IsNearest grid axis number n
unfolding text_steps
number_is_nearest grid axis text number n r spelled h =
    let read : on_grid (origin_on axis grid) (number_steps Nearest grid.decimals (Some number)) ≡ Ok n = ap (λ (o : Option Number). on_grid (origin_on axis grid) (number_steps Nearest grid.decimals o)) (sym spelled)
    ∙ (ap (λ b. on_grid (origin_on axis grid) (text_steps b grid.decimals text)) (sym r) ∙ h) in
    go-steps grid axis n number (steps_of Nearest grid.decimals number) refl read
