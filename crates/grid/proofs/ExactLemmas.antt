-- A text that is read as a coordinate spells exactly the number that it means.
use Rattle.std.proofs.Common.{◌≡◌, ℕ, ◌+◌, ◌-◌, ◌*◌, ◌/◌, ◌%◌, ◌^◌, ◌==◌, ℤ, ◌+ℤ◌, ◌-ℤ◌, Bool, true, false, List, Option, Some, None, Ok, Err, if◌then◌else◌, refl, sym, ap, ◌∙◌, arith}
use Rattle.std.specs.Str.Parse.{digits_value}
use Rattle.std.proofs.Math.Logic.{⊎_elim}
use Rattle.std.proofs.Math.Nat.{mul_assoc}
use Rattle.std.proofs.lemmas.Bool.{cases_lt, eqb-true}
use Rattle.std.proofs.lemmas.Int.{ints}
use Rattle.std.proofs.lemmas.Nat.{div-add-mod', pow-add}
use Rattle.plane.specs.Coordinates.{is_coordinate}
use Rattle.grid.specs.declared.faults.NumberFault.TheVariants.{Beyond}
use Rattle.grid.specs.declared.grids.Axis.{Axis}
use Rattle.grid.specs.declared.grids.Between.TheVariants.{Refuse}
use Rattle.grid.specs.declared.grids.Grid.{Grid}
use Rattle.grid.specs.Exact.{Means}
use Rattle.grid.specs.Grids.{signed, signed_steps, number_steps, text_steps, on_grid, origin_on, coordinate_of}
use Rattle.grid.specs.Numbers.{Number, number_of}
use Rattle.grid.specs.Steps.{parts_of, parts_of_step, whole_steps, steps_of}

-- ---- a number of parts that is whole steps

go-whole : (parts step m : ℕ) (is_whole : Bool) → (parts % step == 0) ≡ is_whole → (if is_whole then Some (parts / step) else None) ≡ Some m → parts ≡ m * step
go-whole parts step m true e h =
    let left : parts % step ≡ 0 = eqb-true (parts % step) 0 e in
    let quotient : parts / step ≡ m = cc in
    omega (arith, div-add-mod' parts step, ap (λ (n : ℕ). n * step) quotient)
go-whole parts step m false e h = absurd cc

whole_parts : (parts step m : ℕ) → whole_steps Refuse parts step ≡ Some m → parts ≡ m * step
whole_parts parts step m h = go-whole parts step m (parts % step == 0) refl h

-- both sides times what is missing of the power
go-powers : (v m a b : ℕ) → v * 10 ^ (a - b) ≡ m * 10 ^ (b - a) → v * 10 ^ a ≡ m * 10 ^ b
go-powers v m a b e = ⊎_elim
    (λ less.
    let none : a - b ≡ 0 = omega arith in
    let more : b ≡ (b - a) + a = omega arith in
    let single : v * 10 ^ (a - b) ≡ v = ap (λ (k : ℕ). v * 10 ^ k) none ∙ omega arith in
    ap (λ (n : ℕ). n * 10 ^ a) (sym single ∙ e) ∙ mul_assoc m (10 ^ (b - a)) (10 ^ a) ∙ ap (λ (n : ℕ). m * n) (sym (pow-add 10 (b - a) a)) ∙ ap (λ (k : ℕ). m * 10 ^ k) (sym more))
    (λ most.
    let none : b - a ≡ 0 = omega arith in
    let more : a ≡ (a - b) + b = omega arith in
    let single : m * 10 ^ (b - a) ≡ m = ap (λ (k : ℕ). m * 10 ^ k) none ∙ omega arith in
    ap (λ (k : ℕ). v * 10 ^ k) more ∙ ap (λ (n : ℕ). v * n) (pow-add 10 (a - b) b) ∙ sym (mul_assoc v (10 ^ (a - b)) (10 ^ b)) ∙ ap (λ (n : ℕ). n * 10 ^ b) (e ∙ single))
    (cases_lt a b)

exact_steps : (decimals m : ℕ) (x : Number) → steps_of Refuse decimals x ≡ Some m → digits_value 10 x.digits * 10 ^ (x.up + decimals) ≡ m * 10 ^ x.down
unfolding steps_of
exact_steps decimals m x h = go-powers (digits_value 10 x.digits) m (x.up + decimals) x.down (whole_parts (parts_of decimals x) (parts_of_step decimals x) m h)

-- ---- a text

placed : (z o n : ℤ) → z -ℤ o ≡ n → o +ℤ n ≡ z
placed z o n e = omega (arith, ints)

go-placed : (z o n : ℤ) (inside : Bool) → (if inside then Ok (z -ℤ o) else Err Beyond) ≡ Ok n → o +ℤ n ≡ z
go-placed z o n true h = let e : z -ℤ o ≡ n = cc in placed z o n e
go-placed z o n false h = absurd cc

pub on_grid_placed : (z o n : ℤ) → on_grid o (Ok z) ≡ Ok n → o +ℤ n ≡ z
on_grid_placed z o n h = go-placed z o n (is_coordinate (z -ℤ o)) h

go-steps : (grid : Grid) (axis : Axis) (text : List ℕ) (n : ℤ) (x : Number) (s : Option ℕ) → number_of text ≡ Some x → steps_of Refuse grid.decimals x ≡ s
    → on_grid (origin_on axis grid) (signed_steps x.negative s) ≡ Ok n → Means grid axis text n
go-steps grid axis text n x None spelled e h = absurd cc
go-steps grid axis text n x (Some m) spelled e h = record {
  number = x;
  spelled = spelled;
  steps = m;
  placed = on_grid_placed (signed x.negative m) (origin_on axis grid) n h;
  exact = exact_steps grid.decimals m x e;
}

go-number : (grid : Grid) (axis : Axis) (text : List ℕ) (n : ℤ) (o : Option Number) → number_of text ≡ o
    → on_grid (origin_on axis grid) (number_steps Refuse grid.decimals o) ≡ Ok n → Means grid axis text n
go-number grid axis text n None e h = absurd cc
go-number grid axis text n (Some x) e h = go-steps grid axis text n x (steps_of Refuse grid.decimals x) e refl h

refusing : (grid : Grid) (axis : Axis) (text : List ℕ) (n : ℤ) → grid.between ≡ Refuse → coordinate_of grid axis text ≡ Ok n
    → on_grid (origin_on axis grid) (text_steps Refuse grid.decimals text) ≡ Ok n
refusing grid axis text n r h = ap (λ b. on_grid (origin_on axis grid) (text_steps b grid.decimals text)) (sym r) ∙ h

pub number_is_exact : (grid : Grid) (axis : Axis) (text : List ℕ) (n : ℤ) → grid.between ≡ Refuse → coordinate_of grid axis text ≡ Ok n → Means grid axis text n
unfolding text_steps
number_is_exact grid axis text n r h = go-number grid axis text n (number_of text) refl (refusing grid axis text n r h)
