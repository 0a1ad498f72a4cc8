-- A bound of a box is the step closest to its number.
use Rattle.std.proofs.Common.{◌≡◌, ◌↔◌, ℕ, suc, ◌+◌, ◌-◌, ◌*◌, ◌/◌, ◌%◌, ◌^◌, ◌==◌, ◌≤◌, ◌<◌, ℤ, pos, negsuc, neg_ℤ, ◌+ℤ◌, ◌-ℤ◌, ◌*ℤ◌, ◌≤ℤ◌, Bool, true, false, List, Some, Result, Ok, if◌then◌else◌, refl, sym, ap, subst, ◌∙◌, arith}
use Rattle.std.specs.Str.Parse.{digits_value}
use Rattle.std.proofs.Math.IntN.{negsuc-*ℤ-pos, pos-*ℤ-pos}
use Rattle.std.proofs.Math.Logic.{⊎_elim}
use Rattle.std.proofs.Math.Nat.{le-div_iff_mul-le, le_of_mul-le-mul_right, mul-le-mul_right, mul_assoc, mul_right_comm}
use Rattle.std.proofs.lemmas.Bool.{cases_lt, eqb-true, eqb-false}
use Rattle.std.proofs.lemmas.Int.{ints}
use Rattle.std.proofs.lemmas.Nat.{div-add-mod', mod_below, pow-add}
use Rattle.plane.specs.Coordinates.{IsCoordinate}
use Rattle.grid.specs.declared.bounds.Side.TheVariants.{High, Low}
use Rattle.grid.specs.declared.faults.NumberFault.{NumberFault}
use Rattle.grid.specs.declared.grids.Axis.{Axis}
use Rattle.grid.specs.declared.grids.Grid.{Grid}
use Rattle.grid.specs.Bounds.{bound_at, bound_of, bound_of_number, is_farther, kept_near, steps_beside, whole_or_beside}
use Rattle.grid.specs.Exact.{IsAtLeast, IsAtMost}
use Rattle.grid.specs.Grids.{origin_on, signed}
use Rattle.grid.specs.Numbers.{Number, number_of}
use Rattle.grid.proofs.StepsLemmas.{tens_some}

-- ---- a number times a power of ten, and its parts

-- both are the number times the greater of the two powers
pub same_parts : (v a b : ℕ) → v * 10 ^ a * 10 ^ (b - a) ≡ v * 10 ^ (a - b) * 10 ^ b
same_parts v a b =
    let greater : a + (b - a) ≡ (a - b) + b = omega arith in
    mul_assoc v (10 ^ a) (10 ^ (b - a)) ∙ ap (λ (n : ℕ). v * n) (sym (pow-add 10 a (b - a))) ∙ ap (λ (k : ℕ). v * 10 ^ k) greater
    ∙ ap (λ (n : ℕ). v * n) (pow-add 10 (a - b) b) ∙ sym (mul_assoc v (10 ^ (a - b)) (10 ^ b))

-- ---- how many steps fit

-- `parts` of which `step` are a step, against `whole` of which `unit` are one
fits : (parts step whole unit k : ℕ) → 0 < step → 0 < unit → whole * step ≡ parts * unit → (k * step ≤ parts) ↔ (k * unit ≤ whole)
fits parts step whole unit k some_step some_unit same = (
  λ h.
      let more : k * step * unit ≤ parts * unit = mul-le-mul_right unit h in
      le_of_mul-le-mul_right {k = step} (omega (arith, more, same, mul_right_comm k step unit)) some_step,
  λ h.
      let more : k * unit * step ≤ whole * step = mul-le-mul_right step h in
      le_of_mul-le-mul_right {k = unit} (omega (arith, more, same, mul_right_comm k step unit)) some_unit,
)

holds : (parts step whole unit k : ℕ) → 0 < step → 0 < unit → whole * step ≡ parts * unit → (parts ≤ k * step) ↔ (whole ≤ k * unit)
holds parts step whole unit k some_step some_unit same = (
  λ h.
      let more : parts * unit ≤ k * step * unit = mul-le-mul_right unit h in
      le_of_mul-le-mul_right {k = step} (omega (arith, more, same, mul_right_comm k step unit)) some_step,
  λ h.
      let more : whole * step ≤ k * unit * step = mul-le-mul_right step h in
      le_of_mul-le-mul_right {k = unit} (omega (arith, more, same, mul_right_comm k step unit)) some_unit,
)

nearer_is : (parts step : ℕ) (b : Bool) → (if b then parts / step else if false then parts / step + 1 else parts / step) ≡ parts / step
nearer_is parts step true = refl
nearer_is parts step false = refl

-- the nearer whole steps: as many as fit
nearer_fits : (parts step k : ℕ) → 0 < step → (k ≤ whole_or_beside false parts step) ↔ (k * step ≤ parts)
nearer_fits parts step k some =
    let is = nearer_is parts step (parts % step == 0) in
    let both = le-div_iff_mul-le {k = step} {x = k} {y = parts} some in
    (λ h. both.0 (subst (λ (m : ℕ). k ≤ m) is h), λ h. subst (λ (m : ℕ). k ≤ m) (sym is) (both.1 h))

-- the farther whole steps: so many that the parts fit
go-farther : (parts step k : ℕ) (b : Bool) → (parts % step == 0) ≡ b → 0 < step
    → ((if b then parts / step else if true then parts / step + 1 else parts / step) ≤ k) ↔ (parts ≤ k * step)
go-farther parts step k true e some =
    let none : parts % step ≡ 0 = eqb-true (parts % step) 0 e in
    let whole : parts ≡ parts / step * step = omega (arith, div-add-mod' parts step, none) in (
      λ h. let more : parts / step * step ≤ k * step = mul-le-mul_right step h in omega (arith, more, whole),
      λ h. le_of_mul-le-mul_right {k = step} (omega (arith, h, whole)) some,
    )
go-farther parts step k false e some =
    let left : 0 < parts % step = let not_none = eqb-false (parts % step) 0 e in ⊎_elim (λ l. l) (λ most. absurd (not_none (omega arith))) (cases_lt 0 (parts % step)) in
    let below : parts % step < step = mod_below parts step some in
    let whole = div-add-mod' parts step in (
      λ h.
          let more : (parts / step + 1) * step ≤ k * step = mul-le-mul_right step h in
          omega (arith, more, whole, below, one_more (parts / step) step),
      λ h. ⊎_elim
          (λ less. omega arith)
          (λ most.
          let more : k * step ≤ parts / step * step = mul-le-mul_right step most in
          absurd (omega (arith, more, whole, left, h)))
          (cases_lt (parts / step) k),
    )
  where
    one_more : (q n : ℕ) → (q + 1) * n ≡ q * n + n
    one_more q n = omega arith

farther_holds : (parts step k : ℕ) → 0 < step → (whole_or_beside true parts step ≤ k) ↔ (parts ≤ k * step)
farther_holds parts step k some = go-farther parts step k (parts % step == 0) refl some

-- ---- with signs

over : {A B C : Type 0} → A ↔ B → B ↔ C → A ↔ C
over p q = (λ h. q.0 (p.0 h), λ h. p.1 (q.1 h))

suc_times : (k n : ℕ) → suc k * n ≡ k * n + n
suc_times k n = omega arith

none_times : (k unit : ℕ) → k ≤ 0 → k * unit ≡ 0
none_times k unit h = let none : k ≡ 0 = omega arith in ap (λ (j : ℕ). j * unit) none ∙ omega arith

times_none : (k unit : ℕ) → 0 < unit → k * unit ≤ 0 → k ≤ 0
times_none k unit some h = le_of_mul-le-mul_right {k = unit} (omega (arith, h)) some

low_plus : (s : ℤ) (m whole unit : ℕ) → ((k : ℕ) → (k ≤ m) ↔ (k * unit ≤ whole)) → (s ≤ℤ pos m) ↔ ((s *ℤ pos unit) ≤ℤ pos whole)
low_plus (pos k) m whole unit each = rw (pos-*ℤ-pos k unit) (
  λ h. let inner = (each k).0 (omega (arith, ints, h)) in omega (arith, ints, inner),
  λ h. let inner = (each k).1 (omega (arith, ints, h)) in omega (arith, ints, inner),
)
low_plus (negsuc k) m whole unit each = rw (negsuc-*ℤ-pos k unit) (λ h. omega (arith, ints), λ h. omega (arith, ints))

low_minus : (s : ℤ) (m whole unit : ℕ) → 0 < unit → ((k : ℕ) → (m ≤ k) ↔ (whole ≤ k * unit)) → (s ≤ℤ neg_ℤ (pos m)) ↔ ((s *ℤ pos unit) ≤ℤ neg_ℤ (pos whole))
low_minus (pos k) m whole unit some each = rw (pos-*ℤ-pos k unit) (
  λ h.
      let none : k ≤ 0 = omega (arith, ints, h) in
      let inner = (each k).0 (omega (arith, ints, h)) in
      omega (arith, ints, inner, none_times k unit none),
  λ h.
      let few : k * unit ≤ 0 = omega (arith, ints, h) in
      let none = times_none k unit some few in
      let inner = (each k).1 (omega (arith, ints, h)) in
      omega (arith, ints, inner, none),
)
low_minus (negsuc k) m whole unit some each = rw (negsuc-*ℤ-pos k unit) (
  λ h. let inner = (each (suc k)).0 (omega (arith, ints, h)) in omega (arith, ints, inner),
  λ h. let inner = (each (suc k)).1 (omega (arith, ints, h)) in omega (arith, ints, inner),
)

high_plus : (s : ℤ) (m whole unit : ℕ) → 0 < unit → ((k : ℕ) → (m ≤ k) ↔ (whole ≤ k * unit)) → (pos m ≤ℤ s) ↔ (pos whole ≤ℤ (s *ℤ pos unit))
high_plus (pos k) m whole unit some each = rw (pos-*ℤ-pos k unit) (
  λ h. let inner = (each k).0 (omega (arith, ints, h)) in omega (arith, ints, inner),
  λ h. let inner = (each k).1 (omega (arith, ints, h)) in omega (arith, ints, inner),
)
high_plus (negsuc k) m whole unit some each = rw (negsuc-*ℤ-pos k unit) (
  λ h. absurd (omega (arith, ints, h)),
  λ h. let more = suc_times k unit in absurd (omega (arith, ints, h, more, some)),
)

high_minus : (s : ℤ) (m whole unit : ℕ) → ((k : ℕ) → (k ≤ m) ↔ (k * unit ≤ whole)) → (neg_ℤ (pos m) ≤ℤ s) ↔ (neg_ℤ (pos whole) ≤ℤ (s *ℤ pos unit))
high_minus (pos k) m whole unit each = rw (pos-*ℤ-pos k unit) (λ h. omega (arith, ints), λ h. omega (arith, ints))
high_minus (negsuc k) m whole unit each = rw (negsuc-*ℤ-pos k unit) (
  λ h. let inner = (each (suc k)).0 (omega (arith, ints, h)) in omega (arith, ints, inner),
  λ h. let inner = (each (suc k)).1 (omega (arith, ints, h)) in omega (arith, ints, inner),
)

-- ---- a bound within the grid

kept_low : (z n : ℤ) → IsCoordinate n → (n ≤ℤ kept_near z) ↔ (n ≤ℤ z)
kept_low z n inside = (λ h. grind (arith, ints), λ h. grind (arith, ints))

kept_high : (z n : ℤ) → IsCoordinate n → (kept_near z ≤ℤ n) ↔ (z ≤ℤ n)
kept_high z n inside = (λ h. grind (arith, ints), λ h. grind (arith, ints))

moved_low : (z origin n : ℤ) → (n ≤ℤ (z -ℤ origin)) ↔ ((origin +ℤ n) ≤ℤ z)
moved_low z origin n = (λ h. omega (arith, ints, h), λ h. omega (arith, ints, h))

moved_high : (z origin n : ℤ) → ((z -ℤ origin) ≤ℤ n) ↔ (z ≤ℤ (origin +ℤ n))
moved_high z origin n = (λ h. omega (arith, ints, h), λ h. omega (arith, ints, h))

-- ---- the bounds

go-low : (negative : Bool) (origin n : ℤ) (v a b : ℕ) → IsCoordinate n
    → (n ≤ℤ bound_at origin negative (whole_or_beside (is_farther Low negative) (v * 10 ^ (a - b)) (10 ^ (b - a)))) ↔ (((origin +ℤ n) *ℤ pos (10 ^ b)) ≤ℤ signed negative (v * 10 ^ a))
go-low false origin n v a b inside =
    let most : ℕ = whole_or_beside false (v * 10 ^ (a - b)) (10 ^ (b - a)) in
    over (kept_low (pos most -ℤ origin) n inside) (over (moved_low (pos most) origin n)
    (low_plus (origin +ℤ n) most (v * 10 ^ a) (10 ^ b) (λ k. over (nearer_fits (v * 10 ^ (a - b)) (10 ^ (b - a)) k (tens_some (b - a)))
    (fits (v * 10 ^ (a - b)) (10 ^ (b - a)) (v * 10 ^ a) (10 ^ b) k (tens_some (b - a)) (tens_some b) (same_parts v a b)))))
go-low true origin n v a b inside =
    let most : ℕ = whole_or_beside true (v * 10 ^ (a - b)) (10 ^ (b - a)) in
    over (kept_low (neg_ℤ (pos most) -ℤ origin) n inside) (over (moved_low (neg_ℤ (pos most)) origin n)
    (low_minus (origin +ℤ n) most (v * 10 ^ a) (10 ^ b) (tens_some b) (λ k. over (farther_holds (v * 10 ^ (a - b)) (10 ^ (b - a)) k (tens_some (b - a)))
    (holds (v * 10 ^ (a - b)) (10 ^ (b - a)) (v * 10 ^ a) (10 ^ b) k (tens_some (b - a)) (tens_some b) (same_parts v a b)))))

go-high : (negative : Bool) (origin n : ℤ) (v a b : ℕ) → IsCoordinate n
    → (bound_at origin negative (whole_or_beside (is_farther High negative) (v * 10 ^ (a - b)) (10 ^ (b - a))) ≤ℤ n) ↔ (signed negative (v * 10 ^ a) ≤ℤ ((origin +ℤ n) *ℤ pos (10 ^ b)))
go-high false origin n v a b inside =
    let least : ℕ = whole_or_beside true (v * 10 ^ (a - b)) (10 ^ (b - a)) in
    over (kept_high (pos least -ℤ origin) n inside) (over (moved_high (pos least) origin n)
    (high_plus (origin +ℤ n) least (v * 10 ^ a) (10 ^ b) (tens_some b) (λ k. over (farther_holds (v * 10 ^ (a - b)) (10 ^ (b - a)) k (tens_some (b - a)))
    (holds (v * 10 ^ (a - b)) (10 ^ (b - a)) (v * 10 ^ a) (10 ^ b) k (tens_some (b - a)) (tens_some b) (same_parts v a b)))))
go-high true origin n v a b inside =
    let least : ℕ = whole_or_beside false (v * 10 ^ (a - b)) (10 ^ (b - a)) in
    over (kept_high (neg_ℤ (pos least) -ℤ origin) n inside) (over (moved_high (neg_ℤ (pos least)) origin n)
    (high_minus (origin +ℤ n) least (v * 10 ^ a) (10 ^ b) (λ k. over (nearer_fits (v * 10 ^ (a - b)) (10 ^ (b - a)) k (tens_some (b - a)))
    (fits (v * 10 ^ (a - b)) (10 ^ (b - a)) (v * 10 ^ a) (10 ^ b) k (tens_some (b - a)) (tens_some b) (same_parts v a b)))))

one_ok : (a b : ℤ) → ◌≡◌ {A = Result ℤ NumberFault} (Ok a) (Ok b) → a ≡ b
one_ok a b e = cc

pub low_is_closest : (grid : Grid) (axis : Axis) (text : List ℕ) (number : Number) (bound n : ℤ) → number_of text ≡ Some number → bound_of grid axis Low text ≡ Ok bound → IsCoordinate n
    → (n ≤ℤ bound) ↔ IsAtMost grid axis number n
unfolding steps_beside
low_is_closest grid axis text number bound n spelled is inside =
    let at = one_ok _ _ (sym (ap (bound_of_number grid axis Low) spelled) ∙ is) in
    subst (λ (b : ℤ). (n ≤ℤ b) ↔ IsAtMost grid axis number n) at
    (go-low number.negative (origin_on axis grid) n (digits_value 10 number.digits) (number.up + grid.decimals) number.down inside)

pub high_is_closest : (grid : Grid) (axis : Axis) (text : List ℕ) (number : Number) (bound n : ℤ) → number_of text ≡ Some number → bound_of grid axis High text ≡ Ok bound → IsCoordinate n
    → (bound ≤ℤ n) ↔ IsAtLeast grid axis number n
unfolding steps_beside
high_is_closest grid axis text number bound n spelled is inside =
    let at = one_ok _ _ (sym (ap (bound_of_number grid axis High) spelled) ∙ is) in
    subst (λ (b : ℤ). (b ≤ℤ n) ↔ IsAtLeast grid axis number n) at
    (go-high number.negative (origin_on axis grid) n (digits_value 10 number.digits) (number.up + grid.decimals) number.down inside)
