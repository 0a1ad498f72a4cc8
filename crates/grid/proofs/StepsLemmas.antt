-- Digits cut in two, and a number of digits divided by a power of ten or multiplied with one.
use Rattle.std.proofs.Common.{◌≡◌, ℕ, zero, suc, ◌+◌, ◌-◌, ◌*◌, ◌/◌, ◌%◌, ◌^◌, ◌≤◌, ◌<◌, ◌==◌, min, ◌&&◌, Bool, true, false, nat_le, List, [], ◌∷◌, ◌++◌, length, take, drop, refl, sym, ap, ◌∙◌, Some, option_map, if◌then◌else◌, arith}
use Rattle.std.specs.Char.{is_ascii_digit, digit_value}
use Rattle.std.specs.Int.{IsInRange}
use Rattle.std.specs.List.{list_all}
use Rattle.std.specs.Str.{all_ascii_digits}
use Rattle.std.specs.Str.Parse.{digits_value}
use Rattle.std.proofs.Math.Nat.{pow-zero, pow-suc, pow-succ', one-le-pow, pow-le-pow_right, mul-le-mul_right, mul_assoc, mod-eq_of_lt}
use Rattle.std.proofs.Math.Seq.{take-append-add, drop-append-add}
use Rattle.std.proofs.lemmas.Bool.{and_parts, and_from, cases_lt, le-leb, lt-leb, eq-eqb, ne_eqb, cases_eq}
use Rattle.std.proofs.lemmas.Int.Digits.{digits_value-lt}
use Rattle.std.proofs.lemmas.List.{take-append-drop, length-drop}
use Rattle.std.proofs.lemmas.Nat.{div-mul-add, mod-mul-add}
use Rattle.std.proofs.Math.Logic.{⊎_elim}
use Rattle.grid.specs.Digits.{Divides, begins_with_five, rounded_up, rounded_steps, quotient_steps}
use Rattle.grid.specs.declared.steps.Quotient.{Quotient}
use Rattle.grid.specs.declared.grids.Between.{Between}
use Rattle.grid.specs.declared.grids.Between.TheVariants.{Refuse, Nearest}
use Rattle.grid.specs.Steps.{rounded, whole_steps}
use Rattle.grid.proofs.DigitsLemmas.{own, digit_worth, digit_in_range, value_append, value_after_is}

-- ---- parts of digits

pub digits_take : (k : ℕ) (ds : List ℕ) → all_ascii_digits ds ≡ true → all_ascii_digits (take k ds) ≡ true
digits_take zero ds h = refl
digits_take (suc k) [] h = refl
digits_take (suc k) (d ∷ ds) h = let parts = and_parts (is_ascii_digit d) (all_ascii_digits ds) h in and_from _ _ parts.0 (digits_take k ds parts.1)

pub digits_drop : (k : ℕ) (ds : List ℕ) → all_ascii_digits ds ≡ true → all_ascii_digits (drop k ds) ≡ true
digits_drop zero ds h = h
digits_drop (suc k) [] h = refl
digits_drop (suc k) (d ∷ ds) h = digits_drop k ds (and_parts (is_ascii_digit d) (all_ascii_digits ds) h).1

pub digits_append : (ds es : List ℕ) → all_ascii_digits ds ≡ true → all_ascii_digits es ≡ true → all_ascii_digits (ds ++ es) ≡ true
digits_append [] es h k = k
digits_append (d ∷ ds) es h k = let parts = and_parts (is_ascii_digit d) (all_ascii_digits ds) h in and_from _ _ parts.0 (digits_append ds es parts.1 k)

-- the front and the back of two lists, past the first
pub take_past : (k : ℕ) (xs ys : List ℕ) → length xs ≤ k → take k (xs ++ ys) ≡ xs ++ take (k - length xs) ys
take_past k xs ys le = let e : k ≡ length xs + (k - length xs) = omega arith in ap (λ (n : ℕ). take n (xs ++ ys)) e ∙ take-append-add xs ys (k - length xs)

pub drop_past : (k : ℕ) (xs ys : List ℕ) → length xs ≤ k → drop k (xs ++ ys) ≡ drop (k - length xs) ys
drop_past k xs ys le = let e : k ≡ length xs + (k - length xs) = omega arith in ap (λ (n : ℕ). drop n (xs ++ ys)) e ∙ drop-append-add xs ys (k - length xs)

-- ---- zeros

pub value_lt : (ds : List ℕ) → all_ascii_digits ds ≡ true → digits_value 10 ds < 10 ^ length ds
value_lt ds h = digits_value-lt 10 ds (own.to ds h)

first_digit : (d : ℕ) (ds : List ℕ) → all_ascii_digits (d ∷ ds) ≡ true → IsInRange 48 57 d
first_digit d ds h = digit_in_range (d ∷ ds) 0 h (omega arith)

value_first : (d : ℕ) (ds : List ℕ) → all_ascii_digits (d ∷ ds) ≡ true → digits_value 10 (d ∷ ds) ≡ (d - 48) * 10 ^ length ds + digits_value 10 ds
value_first d ds h =
    let worth : 0 * 10 + digit_value d ≡ d - 48 = omega (arith, digit_worth d (first_digit d ds h)) in
    value_after_is (0 * 10 + digit_value d) ds ∙ ap (λ (n : ℕ). n * 10 ^ length ds + digits_value 10 ds) worth

-- a power of ten is not 0
pub tens_some : (k : ℕ) → 1 ≤ 10 ^ k
tens_some k = one-le-pow k 10 (omega arith)

go-zero : (d v p : ℕ) (zeros : Bool) → 48 ≤ d → 1 ≤ p → zeros ≡ (v == 0) → ((d == 48) && zeros) ≡ ((d - 48) * p + v == 0)
go-zero d v p zeros low unit e = ⊎_elim
    (λ is.
    let none : (d - 48) * p ≡ 0 * p = ap (λ (n : ℕ). (n - 48) * p) is in
    let same : v ≡ (d - 48) * p + v = omega (arith, none) in
    rw (eq-eqb d 48 is, e) (ap (λ (n : ℕ). n == 0) same))
    (λ more.
    let more_than : 1 ≤ d - 48 = omega arith in
    let above : 1 * p ≤ (d - 48) * p = mul-le-mul_right p more_than in
    let some : (d - 48) * p + v ≡ 0 → ⊥ = λ z. omega (arith, above) in
    rw (ne_eqb d 48 more) (sym (ne_eqb ((d - 48) * p + v) 0 some)))
    (cases_eq d 48)

-- all digits are zeros where their value is 0
pub zeros_value : (ds : List ℕ) → all_ascii_digits ds ≡ true → list_all (λ z. z == 48) ds ≡ (digits_value 10 ds == 0)
zeros_value [] h = refl
zeros_value (d ∷ ds) h =
    let rest = zeros_value ds (and_parts (is_ascii_digit d) (all_ascii_digits ds) h).1 in
    go-zero d (digits_value 10 ds) (10 ^ length ds) (list_all (λ z. z == 48) ds) (first_digit d ds h).0 (tens_some (length ds)) rest
    ∙ ap (λ (n : ℕ). n == 0) (sym (value_first d ds h))

-- two parts have the value 0 where both have
pub zero_append : (ds es : List ℕ) → (digits_value 10 ds == 0) && (digits_value 10 es == 0) ≡ (digits_value 10 (ds ++ es) == 0)
zero_append ds es = ⊎_elim
    (λ none.
    let product : digits_value 10 ds * 10 ^ length es ≡ 0 * 10 ^ length es = ap (λ (n : ℕ). n * 10 ^ length es) none in
    let same : digits_value 10 es ≡ digits_value 10 (ds ++ es) = omega (arith, value_append ds es, product) in
    rw (eq-eqb (digits_value 10 ds) 0 none) (ap (λ (n : ℕ). n == 0) same))
    (λ some.
    let more_than : 1 ≤ digits_value 10 ds = omega arith in
    let above : 1 * 10 ^ length es ≤ digits_value 10 ds * 10 ^ length es = mul-le-mul_right (10 ^ length es) more_than in
    let all : digits_value 10 (ds ++ es) ≡ 0 → ⊥ = λ z. omega (arith, above, value_append ds es, tens_some (length es)) in
    rw (ne_eqb (digits_value 10 ds) 0 some) (sym (ne_eqb (digits_value 10 (ds ++ es)) 0 all)))
    (cases_eq (digits_value 10 ds) 0)

-- ---- halves

go-half : (d v p : ℕ) → 48 ≤ d → v < p → nat_le 53 d ≡ nat_le (10 * p) (2 * ((d - 48) * p + v))
go-half d v p low small = ⊎_elim
    (λ below.
    let four : d - 48 ≤ 4 = omega arith in
    let most : (d - 48) * p ≤ 4 * p = mul-le-mul_right p four in
    lt-leb 53 d below ∙ sym (lt-leb _ _ (omega (arith, most))))
    (λ above.
    let five : 5 ≤ d - 48 = omega arith in
    let least : 5 * p ≤ (d - 48) * p = mul-le-mul_right p five in
    le-leb 53 d above ∙ sym (le-leb _ _ (omega (arith, least))))
    (cases_lt d 53)

-- the first digit is 5 or more where the digits are worth at least half
pub five_is_half : (ds : List ℕ) → all_ascii_digits ds ≡ true → begins_with_five ds ≡ nat_le (10 ^ length ds) (2 * digits_value 10 ds)
five_is_half [] h = refl
five_is_half (d ∷ ds) h =
    let rest = value_lt ds (and_parts (is_ascii_digit d) (all_ascii_digits ds) h).1 in
    go-half d (digits_value 10 ds) (10 ^ length ds) (first_digit d ds h).0 rest
    ∙ ap (λ (n : ℕ). nat_le n (2 * ((d - 48) * 10 ^ length ds + digits_value 10 ds))) (sym (pow-succ' 10 (length ds)))
    ∙ ap (λ (n : ℕ). nat_le (10 ^ suc (length ds)) (2 * n)) (sym (value_first d ds h))

-- ---- divided

small_div : (v d : ℕ) → v < d → v / d ≡ 0
small_div v d lt = let e : v ≡ 0 * d + v = omega arith in ap (λ (n : ℕ). n / d) e ∙ div-mul-add 0 d v lt

-- fewer digits than zeros of the divisor
pub divides_past : (cap count : ℕ) (ds : List ℕ) → all_ascii_digits ds ≡ true → length ds < count
    → Divides cap (digits_value 10 ds) count (record { value = 0; is_whole = digits_value 10 ds == 0; is_half = false })
divides_past cap count ds h more =
    let v : ℕ = digits_value 10 ds in
    let small : v < 10 ^ length ds = value_lt ds h in
    let power : 10 ^ suc (length ds) ≤ 10 ^ count = pow-le-pow_right {n = 10} (omega arith) (omega arith) in
    let tenth : 10 ^ suc (length ds) ≡ 10 * 10 ^ length ds = pow-succ' 10 (length ds) in
    let below : v < 10 ^ count = omega arith in
    record {
      value_is = omega (arith, small_div v (10 ^ count) below);
      whole_is = sym (ap (λ (n : ℕ). n == 0) (mod-eq_of_lt below));
      half_is = sym (ap (λ (n : ℕ). nat_le (10 ^ count) (2 * n)) (mod-eq_of_lt below) ∙ lt-leb _ _ (omega arith));
    }

-- the digits in front of the cut are the quotient, and those behind it what remains
pub divides_at : (cap at count : ℕ) (ds : List ℕ) → all_ascii_digits ds ≡ true → at + count ≡ length ds
    → Divides cap (digits_value 10 ds) count
    (record { value = min (digits_value 10 (take at ds)) cap; is_whole = digits_value 10 (drop at ds) == 0; is_half = begins_with_five (drop at ds) })
divides_at cap at count ds h whole =
    let q : ℕ = digits_value 10 (take at ds) in
    let r : ℕ = digits_value 10 (drop at ds) in
    let behind : length (drop at ds) ≡ count = omega (arith, length-drop at ds) in
    let small : r < 10 ^ count = let s : r < 10 ^ length (drop at ds) = value_lt (drop at ds) (digits_drop at ds h) in rw behind at s in
    let parts : digits_value 10 ds ≡ q * 10 ^ count + r =
    ap (digits_value 10) (sym (take-append-drop at ds)) ∙ value_append (take at ds) (drop at ds) ∙ ap (λ (n : ℕ). q * 10 ^ n + r) behind in
    let div : digits_value 10 ds / 10 ^ count ≡ q = ap (λ (n : ℕ). n / 10 ^ count) parts ∙ div-mul-add q (10 ^ count) r small in
    let left : digits_value 10 ds % 10 ^ count ≡ r = ap (λ (n : ℕ). n % 10 ^ count) parts ∙ mod-mul-add q (10 ^ count) r small in
    record {
      value_is = sym (ap (λ (n : ℕ). min n cap) div);
      whole_is = sym (ap (λ (n : ℕ). n == 0) left);
      half_is = five_is_half (drop at ds) (digits_drop at ds h) ∙ ap (λ (n : ℕ). nat_le (10 ^ n) (2 * r)) behind ∙ sym (ap (λ (n : ℕ). nat_le (10 ^ count) (2 * n)) left);
    }

-- ---- steps

capped_up : (cap n : ℕ) → min (min n cap + 1) cap ≡ min (n + 1) cap
capped_up cap n = omega arith

go-up : (cap n : ℕ) (up : Bool) → rounded_up cap (min n cap) up ≡ min (if up then n + 1 else n) cap
go-up cap n true = capped_up cap n
go-up cap n false = refl

go-rounded : (cap parts step value : ℕ) (between : Between) (half : Bool) → value ≡ min (parts / step) cap → half ≡ nat_le step (2 * (parts % step))
    → rounded_steps cap between value half ≡ option_map (λ k. min k cap) (rounded between parts step)
go-rounded cap parts step value Refuse half v h = refl
go-rounded cap parts step value Nearest half v h = rw (v, h) (ap Some (go-up cap (parts / step) (nat_le step (2 * (parts % step)))))

go-steps : (cap parts step value : ℕ) (between : Between) (half whole : Bool) → value ≡ min (parts / step) cap → half ≡ nat_le step (2 * (parts % step))
    → (if whole then Some value else rounded_steps cap between value half) ≡ option_map (λ k. min k cap) (if whole then Some (parts / step) else rounded between parts step)
go-steps cap parts step value between half true v h = ap Some v
go-steps cap parts step value between half false v h = go-rounded cap parts step value between half v h

-- a number of parts, each a step divided by a power of ten
pub steps_divided : (cap parts count : ℕ) (between : Between) (q : Quotient) → Divides cap parts count q
    → quotient_steps cap between q ≡ option_map (λ k. min k cap) (whole_steps between parts (10 ^ count))
steps_divided cap parts count between q d =
    rw d.whole_is (go-steps cap parts (10 ^ count) q.value between q.is_half (parts % 10 ^ count == 0) d.value_is d.half_is)

-- whole steps
pub steps_whole : (cap parts : ℕ) (between : Between) → Some (min parts cap) ≡ option_map (λ k. min k cap) (whole_steps between parts 1)
steps_whole cap parts between =
    let rest : parts % 1 ≡ 0 = omega arith in
    let all : parts / 1 ≡ parts = omega arith in
    rw (rest, all) refl

pub multiplied_more : (cap v i product : ℕ) → product ≡ min (v * 10 ^ i) cap → min (product * 10) cap ≡ min (v * 10 ^ (i + 1)) cap
multiplied_more cap v i product e =
    let power : v * 10 ^ suc i ≡ v * 10 ^ i * 10 = ap (λ (n : ℕ). v * n) (pow-suc 10 i) ∙ sym (mul_assoc v (10 ^ i) 10) in
    let next : i + 1 ≡ suc i = omega arith in
    rw next (omega (arith, power))

pub multiplied_none : (cap v : ℕ) → v ≤ cap → v ≡ min (v * 10 ^ 0) cap
multiplied_none cap v le = omega (arith, ap (λ (n : ℕ). v * n) (pow-zero 10))
