-- The digits of a number's text.
use Rattle.std.proofs.Common.{◌≡◌, ℕ, zero, suc, ◌+◌, ◌-◌, ◌*◌, ◌/◌, ◌%◌, ◌^◌, ◌<◌, ◌≤◌, true, length, decimal, refl, ap, ◌∙◌, arith}
use Rattle.std.specs.Str.{all_ascii_digits}
use Rattle.std.specs.Str.Parse.{digits_value}
use Rattle.std.proofs.Math.Nat.{pow-succ', mod-lt}
use Rattle.std.proofs.lemmas.Fmt.{decimal_digit, digits_decimal, digits_value-decimal}
use Rattle.std.proofs.lemmas.List.{length-append}
use Rattle.std.proofs.lemmas.Nat.{div_below, div-add-mod'}
use Rattle.grid.specs.Printing.{last_digits}
use Rattle.grid.proofs.DigitsLemmas.{own, value_append}
use Rattle.grid.proofs.StepsLemmas.{tens_some, digits_append}

pub length_digit : (n : ℕ) → n < 10 → length (decimal n) ≡ 1
length_digit n h = ap length (decimal_digit n h)

-- the first of the last digits
pub digit_fits : (n unit places : ℕ) → unit ≡ 10 ^ (places - 1) → 1 ≤ places → 1 ≤ unit → n < 10 ^ places → n / unit < 10
digit_fits n unit places e some whole lt =
    let next : places ≡ suc (places - 1) = omega arith in
    let power : 10 ^ places ≡ 10 * 10 ^ (places - 1) = ap (λ (k : ℕ). 10 ^ k) next ∙ pow-succ' 10 (places - 1) in
    let bound : n < 10 * unit = omega (arith, ap (λ (k : ℕ). 10 * k) e) in
    div_below n unit 10 whole bound

-- ---- the last digits of a number

first_below : (k n : ℕ) → n < 10 ^ suc k → n / 10 ^ k < 10
first_below k n lt = div_below n (10 ^ k) 10 (tens_some k) (omega (arith, pow-succ' 10 k))

pub digits_of_last : (k n : ℕ) → n < 10 ^ k → all_ascii_digits (last_digits k n) ≡ true
unfolding last_digits
digits_of_last zero n lt = refl
digits_of_last (suc k) n lt =
    let first = first_below k n lt in
    digits_append (decimal (n / 10 ^ k)) (last_digits k (n % 10 ^ k)) (digits_decimal own (n / 10 ^ k) (omega arith)) (digits_of_last k (n % 10 ^ k) (mod-lt n (tens_some k)))

pub length_last : (k n : ℕ) → n < 10 ^ k → length (last_digits k n) ≡ k
unfolding last_digits
length_last zero n lt = refl
length_last (suc k) n lt =
    omega (arith, length-append (decimal (n / 10 ^ k)) (last_digits k (n % 10 ^ k)), length_digit (n / 10 ^ k) (first_below k n lt), length_last k (n % 10 ^ k) (mod-lt n (tens_some k)))

pub value_last : (k n : ℕ) → n < 10 ^ k → digits_value 10 (last_digits k n) ≡ n
unfolding last_digits
value_last zero n lt = omega arith
value_last (suc k) n lt =
    let first = first_below k n lt in
    let rest : n % 10 ^ k < 10 ^ k = mod-lt n (tens_some k) in
    value_append (decimal (n / 10 ^ k)) (last_digits k (n % 10 ^ k))
    ∙ ap (λ (v : ℕ). v * 10 ^ length (last_digits k (n % 10 ^ k)) + digits_value 10 (last_digits k (n % 10 ^ k))) (digits_value-decimal own (n / 10 ^ k) (omega arith))
    ∙ ap (λ (l : ℕ). n / 10 ^ k * 10 ^ l + digits_value 10 (last_digits k (n % 10 ^ k))) (length_last k (n % 10 ^ k) rest)
    ∙ ap (λ (v : ℕ). n / 10 ^ k * 10 ^ k + v) (value_last k (n % 10 ^ k) rest)
    ∙ div-add-mod' n (10 ^ k)
