-- Words at the front of a text, and the numbers that digits spell.
use Rattle.std.proofs.Common.{◌≡◌, ℕ, ◌<◌, ◌≤◌, ◌^◌, Bool, true, false, ◌&&◌, List, [], ◌∷◌, length, Option, None, Some, Result, Ok, Err, refl, ap, arith, nat_le, nat_lt, if◌then◌else◌, inl, inr, le-ltb}
use Rattle.std.proofs.lemmas.Bool.{cases_lt, lt-leb, lt-ltb, le-leb}
use Rattle.std.proofs.lemmas.Bool.Decides.{nat_tests}
use Rattle.std.proofs.lemmas.List.Sums.{prefix_len-le-length}
use Rattle.std.proofs.lemmas.Str.{IsUtf8-from_ascii}
use Rattle.std.proofs.lemmas.Str.Ascii.{IsAscii-cons, IsAscii-nil}
use Rattle.std.proofs.lemmas.Str.Parse.{IsNumeralModel, numerals_by_value, parse_digits, tells_all_ascii_digits}
use Rattle.std.specs.Char.{is_ascii_digit}
use Rattle.std.specs.List.{list_all, prefix_len}
use Rattle.std.specs.Result.{OkIff, result_ok}
use Rattle.std.specs.Str.{IsAscii, IsUtf8, all_ascii_digits}
use Rattle.std.specs.Str.Parse.{ParsesUnsigned, digits_value}
use Rattle.line_words.specs.Words.{number_of}

pub prefix_fits : (p : ℕ → Bool) (xs : List ℕ) → prefix_len p xs ≤ length xs
prefix_fits p xs = prefix_len-le-length p xs

-- a word of more than 20 bytes spells no number
pub number_long : (word : List ℕ) → 20 < length word → None ≡ number_of word
unfolding number_of
number_long word long = rw (lt-leb (length word) 20 long) (fails (nat_le 1 (length word)) (all_ascii_digits word) (nat_lt (digits_value 10 word) (2 ^ 64)) _)
  where
    fails : (a b c : Bool) (number : Option ℕ) → None ≡ (if ((a && false) && b) && c then number else None)
    fails true b c number = refl
    fails false b c number = refl

not_all : (word : List ℕ) → list_all is_ascii_digit word ≡ false → all_ascii_digits word ≡ false
not_all [] e = e
not_all (c ∷ cs) e = either (is_ascii_digit c) (list_all is_ascii_digit cs) (all_ascii_digits cs) (not_all cs) e
  where
    either : (a b c : Bool) → (b ≡ false → c ≡ false) → (a && b) ≡ false → (a && c) ≡ false
    either true b c rest e = rest e
    either false b c rest e = refl

-- a word that is not all digits spells no number
pub number_none : (word : List ℕ) → list_all is_ascii_digit word ≡ false → None ≡ number_of word
unfolding number_of
number_none word e = rw (not_all word e) (fails (nat_le 1 (length word)) (nat_le (length word) 20) _ _)
  where
    fails : (a b c : Bool) (number : Option ℕ) → None ≡ (if ((a && b) && false) && c then number else None)
    fails true true c number = refl
    fails true false c number = refl
    fails false b c number = refl

all_digits : (word : List ℕ) → list_all is_ascii_digit word ≡ true → all_ascii_digits word ≡ true
all_digits [] e = refl
all_digits (c ∷ cs) e = both (is_ascii_digit c) (list_all is_ascii_digit cs) (all_ascii_digits cs) (all_digits cs) e
  where
    both : (a b c : Bool) → (b ≡ true → c ≡ true) → (a && b) ≡ true → (a && c) ≡ true
    both true b c rest e = rest e
    both false b c rest e = e

own : IsNumeralModel (λ ds. all_ascii_digits ds ≡ true) (digits_value 10)
own = numerals_by_value (λ ds. all_ascii_digits ds ≡ true) tells_all_ascii_digits

-- what `parse` returns for at most 20 digits
pub number_read : {E : Type 0} (word : List ℕ) (r : Result ℕ E) → length word ≤ 20 → list_all is_ascii_digit word ≡ true → ParsesUnsigned 64 10 word r → result_ok r ≡ number_of word
unfolding number_of
number_read {E} word r short all parsed = by r (parse_digits own 64 word r parsed (all_digits word all))
  where
    by : (r : Result ℕ E) → OkIff r ((0 < length word) × (digits_value 10 word < 2 ^ 64)) (digits_value 10 word) → result_ok r ≡ number_of word
    by (Ok x) h = rw (le-leb 1 (length word) h.0.0, le-leb (length word) 20 short, all_digits word all, lt-ltb (digits_value 10 word) (2 ^ 64) h.0.1) (ap Some h.1)
    by (Err e) h = elim (cases_lt 0 (length word)) [
      | inl some ↦ elim (cases_lt (digits_value 10 word) (2 ^ 64)) [
        | inl small ↦ absurd (h (some, small))
        | inr large ↦ rw (le-leb 1 (length word) some, le-leb (length word) 20 short, all_digits word all, le-ltb (digits_value 10 word) (2 ^ 64) large) refl
      ]
      | inr none ↦ rw (lt-leb 1 (length word) (omega (arith, none))) refl
    ]

digit_small : (c : ℕ) → is_ascii_digit c ≡ true → c < 128
digit_small c is = grind (arith, nat_tests, is)

digits_ascii : (word : List ℕ) → list_all is_ascii_digit word ≡ true → IsAscii word
digits_ascii [] e = IsAscii-nil
digits_ascii (c ∷ cs) e = both (is_ascii_digit c) refl (digits_ascii cs) e
  where
    both : (a : Bool) → is_ascii_digit c ≡ a → (list_all is_ascii_digit cs ≡ true → IsAscii cs) → (a && list_all is_ascii_digit cs) ≡ true → IsAscii (c ∷ cs)
    both true first rest e = IsAscii-cons c cs (digit_small c first) (rest e)
    both false first rest e = absurd cc

-- digits are UTF-8 text
pub digits_utf8 : (word : List ℕ) → list_all is_ascii_digit word ≡ true → IsUtf8 word
digits_utf8 word e = IsUtf8-from_ascii word (digits_ascii word e)
