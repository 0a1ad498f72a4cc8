-- Beyond the cap no coordinate and no origin lies.
use Rattle.std.proofs.Common.{◌≡◌, ℕ, ◌≤◌, min, ℤ, ◌-ℤ◌, Bool, true, false, List, Option, Some, None, option_map, Ok, refl, ap, arith}
use Rattle.std.proofs.lemmas.Bool.{cases_lt}
use Rattle.std.proofs.lemmas.Int.{ints}
use Rattle.std.proofs.Math.Logic.{⊎_elim}
use Rattle.plane.specs.Coordinates.{is_coordinate}
use Rattle.grid.specs.declared.values.TheConstants.{CAP}
use Rattle.grid.specs.declared.grids.Between.{Between}
use Rattle.grid.specs.Capped.{capped_number_steps, capped_text_steps}
use Rattle.grid.specs.declared.grids.Axis.{Axis}
use Rattle.grid.specs.declared.grids.Axis.TheVariants.{X, Y}
use Rattle.grid.specs.declared.grids.Grid.{Grid}
use Rattle.grid.specs.Grids.{signed, signed_steps, number_steps, text_steps, on_grid, as_origin, origin_on}
use Rattle.grid.specs.Numbers.{Number, number_of}
use Rattle.grid.specs.Steps.{steps_of}
use Rattle.grid.specs.Origins.{IsOrigin, is_origin}

-- a number at the cap or above it is no coordinate, with either sign, and no origin
far : (negative : Bool) (n : ℕ) (origin : ℤ) → 1800000000000000000 ≤ n → IsOrigin origin → is_coordinate (signed negative n -ℤ origin) ≡ false
far true n origin above h = grind (arith, ints)
far false n origin above h = grind (arith, ints)

far_origin : (negative : Bool) (n : ℕ) → 1800000000000000000 ≤ n → is_origin (signed negative n) ≡ false
far_origin true n above = grind (arith, ints)
far_origin false n above = grind (arith, ints)

capped_at : (n : ℕ) → n ≤ 1800000000000000000 → min n 1800000000000000000 ≡ n
capped_at n h = omega arith

go-grid : (negative : Bool) (n : ℕ) (origin : ℤ) → IsOrigin origin
    → on_grid origin (Ok (signed negative (min n 1800000000000000000))) ≡ on_grid origin (Ok (signed negative n))
go-grid negative n origin h = ⊎_elim
    (λ above.
    rw (far negative (min n 1800000000000000000) origin (omega arith) h, far negative n origin (omega arith) h) refl)
    (λ below. ap (λ (k : ℕ). on_grid origin (Ok (signed negative k))) (capped_at n below))
    (cases_lt 1800000000000000000 n)

-- a capped number is the same coordinate, or none
capped_on_grid : (negative : Bool) (o : Option ℕ) (origin : ℤ) → IsOrigin origin
    → on_grid origin (signed_steps negative (option_map (λ k. min k CAP) o)) ≡ on_grid origin (signed_steps negative o)
capped_on_grid negative None origin h = refl
capped_on_grid negative (Some n) origin h = go-grid negative n origin h

go-origin : (negative : Bool) (n : ℕ) → as_origin (Ok (signed negative (min n 1800000000000000000))) ≡ as_origin (Ok (signed negative n))
go-origin negative n = ⊎_elim
    (λ above.
    rw (far_origin negative (min n 1800000000000000000) (omega arith), far_origin negative n (omega arith)) refl)
    (λ below. ap (λ (k : ℕ). as_origin (Ok (signed negative k))) (capped_at n below))
    (cases_lt 1800000000000000000 n)

capped_as_origin : (negative : Bool) (o : Option ℕ) → as_origin (signed_steps negative (option_map (λ k. min k CAP) o)) ≡ as_origin (signed_steps negative o)
capped_as_origin negative None = refl
capped_as_origin negative (Some n) = go-origin negative n

-- ---- texts

go-text_grid : (between : Between) (decimals : ℕ) (o : Option Number) (origin : ℤ) → IsOrigin origin
    → on_grid origin (capped_number_steps CAP between decimals o) ≡ on_grid origin (number_steps between decimals o)
go-text_grid between decimals None origin h = refl
go-text_grid between decimals (Some n) origin h = capped_on_grid n.negative (steps_of between decimals n) origin h

pub text_on_grid : (between : Between) (decimals : ℕ) (text : List ℕ) (origin : ℤ) → IsOrigin origin
    → on_grid origin (capped_text_steps CAP between decimals text) ≡ on_grid origin (text_steps between decimals text)
unfolding capped_text_steps text_steps
text_on_grid between decimals text origin h = go-text_grid between decimals (number_of text) origin h

go-text_origin : (between : Between) (decimals : ℕ) (o : Option Number) → as_origin (capped_number_steps CAP between decimals o) ≡ as_origin (number_steps between decimals o)
go-text_origin between decimals None = refl
go-text_origin between decimals (Some n) = capped_as_origin n.negative (steps_of between decimals n)

pub text_as_origin : (between : Between) (decimals : ℕ) (text : List ℕ) → as_origin (capped_text_steps CAP between decimals text) ≡ as_origin (text_steps between decimals text)
unfolding capped_text_steps text_steps
text_as_origin between decimals text = go-text_origin between decimals (number_of text)

-- the origin of a grid is in range
pub origin_in_range : (axis : Axis) (grid : Grid) → IsOrigin (origin_on axis grid)
origin_in_range X grid = grid.x_in_range
origin_in_range Y grid = grid.y_in_range
