-- A printed coordinate is one word, and is read as itself.
use Rattle.std.proofs.Common.{◌≡◌, ℕ, suc, ◌+◌, ◌≤◌, ◌<◌, ◌==◌, Bool, true, false, not, ◌||◌, List, [], ◌∷◌, ◌++◌, take, drop, take_while, length, Some, Ok, ℤ, pos, negsuc, decimal, refl, ap, ◌∙◌, arith, one-add}
use Rattle.std.specs.Char.{is_ascii_digit}
use Rattle.std.specs.Fmt.{signed_decimal}
use Rattle.std.specs.Int.Signed.{mag}
use Rattle.std.specs.List.{list_all, prefix_len}
use Rattle.std.specs.Str.{all_ascii_digits}
use Rattle.std.specs.Str.Parse.{digits_value}
use Rattle.std.proofs.lemmas.Bool.{and_from, and_parts, ne_eqb}
use Rattle.std.proofs.lemmas.Bool.Decides.{nat_tests}
use Rattle.std.proofs.lemmas.Fmt.{digits_decimal, digits_value-decimal, decimal_nonempty}
use Rattle.std.proofs.lemmas.Int.{ints}
use Rattle.std.proofs.lemmas.List.{take_at, drop_at, take_all, drop_all}
use Rattle.plane.specs.Coordinates.{IsCoordinate, is_coordinate}
use Rattle.wkt.specs.Tokens.{tokens, is_space, is_mark, is_word_byte}
use Rattle.wkt.specs.Numbers.{sign_of, magnitude_of, number_of, coordinate_of}
use Rattle.wkt.specs.Reading.{number_of_token, number_at}
use Rattle.wkt.proofs.DigitsLemmas.{own}
use Rattle.wkt.proofs.PrintingLemmas.{mag_of_coordinate}
use Rattle.wkt.proofs.TokensLemmas.{tokens-word}

-- ---- a word before a byte that ends it

pub whole_prefix : (p : ℕ → Bool) (w : List ℕ) (b : ℕ) (rest : List ℕ) → list_all p w ≡ true → p b ≡ false → prefix_len p (w ++ b ∷ rest) ≡ length w
whole_prefix p [] b rest h e = rw e refl
whole_prefix p (c ∷ cs) b rest h e =
    let parts = and_parts (p c) (list_all p cs) h in
    rw (parts.0, whole_prefix p cs b rest parts.1 e, one-add) refl

word_parts : (s m : Bool) → not (s || m) ≡ true → (s ≡ false) × (m ≡ false)
word_parts true m h = absurd cc
word_parts false true h = absurd cc
word_parts false false h = (refl, refl)

pub tokens_of_word : (at c : ℕ) (cs : List ℕ) (b : ℕ) (rest : List ℕ) → list_all is_word_byte (c ∷ cs) ≡ true → is_word_byte b ≡ false
    → tokens at ((c ∷ cs) ++ b ∷ rest) ≡ (at, c ∷ cs) ∷ tokens (at + length (c ∷ cs)) (b ∷ rest)
tokens_of_word at c cs b rest h e =
    let parts = and_parts (is_word_byte c) (list_all is_word_byte cs) h in
    let tests = word_parts (is_space c) (is_mark c) parts.0 in
    let len : prefix_len is_word_byte (c ∷ (cs ++ b ∷ rest)) ≡ length (c ∷ cs) = whole_prefix is_word_byte (c ∷ cs) b rest h e in
    let word : take_while is_word_byte (c ∷ (cs ++ b ∷ rest)) ≡ c ∷ cs = ap (λ (k : ℕ). take k (c ∷ (cs ++ b ∷ rest))) len ∙ take_at (c ∷ cs) (b ∷ rest) (length (c ∷ cs)) refl in
    let behind : drop (prefix_len is_word_byte (c ∷ (cs ++ b ∷ rest))) (c ∷ (cs ++ b ∷ rest)) ≡ b ∷ rest = ap (λ (k : ℕ). drop k (c ∷ (cs ++ b ∷ rest))) len ∙ drop_at (c ∷ cs) (b ∷ rest) (length (c ∷ cs)) refl in
    tokens-word at c (cs ++ b ∷ rest) tests.0 tests.1
    ∙ ap (λ (w : List ℕ). (at, w) ∷ tokens (at + prefix_len is_word_byte (c ∷ (cs ++ b ∷ rest))) (drop (prefix_len is_word_byte (c ∷ (cs ++ b ∷ rest))) (c ∷ (cs ++ b ∷ rest)))) word
    ∙ ap (λ (bs : List ℕ). (at, c ∷ cs) ∷ tokens (at + prefix_len is_word_byte (c ∷ (cs ++ b ∷ rest))) bs) behind
    ∙ ap (λ (k : ℕ). (at, c ∷ cs) ∷ tokens (at + k) (b ∷ rest)) len

-- ---- digits

digit_is_word : (b : ℕ) → is_ascii_digit b ≡ true → is_word_byte b ≡ true
digit_is_word b h = grind (arith, nat_tests)

digits_are_word : (ds : List ℕ) → all_ascii_digits ds ≡ true → list_all is_word_byte ds ≡ true
digits_are_word [] h = refl
digits_are_word (d ∷ ds) h = let parts = and_parts (is_ascii_digit d) (all_ascii_digits ds) h in and_from _ _ (digit_is_word d parts.0) (digits_are_word ds parts.1)

pub digits_prefix : (ds : List ℕ) → all_ascii_digits ds ≡ true → prefix_len is_ascii_digit ds ≡ length ds
digits_prefix [] h = refl
digits_prefix (d ∷ ds) h = let parts = and_parts (is_ascii_digit d) (all_ascii_digits ds) h in rw (parts.0, digits_prefix ds parts.1, one-add) refl

magnitude_of_digits : (ds : List ℕ) → all_ascii_digits ds ≡ true → 0 < length ds → magnitude_of ds ≡ Some (digits_value 10 ds)
magnitude_of_digits ds h lt =
    let some : (length ds == 0) ≡ false = ne_eqb (length ds) 0 (λ e. absurd (omega arith)) in
    rw (digits_prefix ds h, some, drop_all (length ds) ds (omega arith), take_all (length ds) ds (omega arith)) refl

not_a_sign : (d : ℕ) → is_ascii_digit d ≡ true → ((d == 45) ≡ false) × ((d == 43) ≡ false)
not_a_sign d h = (grind (arith, nat_tests), grind (arith, nat_tests))

pub sign_of_digits : (d : ℕ) (ds : List ℕ) → is_ascii_digit d ≡ true → sign_of (d ∷ ds) ≡ (false, d ∷ ds)
sign_of_digits d ds h = let tests = not_a_sign d h in rw (tests.0, tests.1) refl

-- ---- the text of a coordinate

-- a word that is read as the number z
record IsWordOf (w : List ℕ) (z : ℤ) : Type 0 where
  bytes : list_all is_word_byte w ≡ true
  some : 0 < length w
  value : number_of w ≡ Some z

go-positive : (ds : List ℕ) (n : ℕ) → all_ascii_digits ds ≡ true → 0 < length ds → digits_value 10 ds ≡ n → IsWordOf ds (pos n)
go-positive [] n h lt e = absurd (omega arith)
go-positive (d ∷ ds) n h lt e =
    let first = and_parts (is_ascii_digit d) (all_ascii_digits ds) h in
    record {
      bytes = digits_are_word (d ∷ ds) h;
      some = lt;
      value = rw (sign_of_digits d ds first.0, magnitude_of_digits (d ∷ ds) h lt, e) refl;
    }

go-negative : (ds : List ℕ) (n : ℕ) → all_ascii_digits ds ≡ true → 0 < length ds → digits_value 10 ds ≡ suc n → IsWordOf (45 ∷ ds) (negsuc n)
go-negative ds n h lt e = record {
  bytes = digits_are_word ds h;
  some = omega arith;
  value = rw (magnitude_of_digits ds h lt, e) refl;
}

printed_word : (z : ℤ) → mag z ≤ 10000000 → IsWordOf (signed_decimal z) z
printed_word (pos n) h = go-positive (decimal n) n (digits_decimal own n (omega arith)) (decimal_nonempty n (omega arith)) (digits_value-decimal own n (omega arith))
printed_word (negsuc n) h = go-negative (decimal (suc n)) n (digits_decimal own (suc n) (omega arith)) (decimal_nonempty (suc n) (omega arith)) (digits_value-decimal own (suc n) (omega arith))

pub coordinate_test : (z : ℤ) → IsCoordinate z → is_coordinate z ≡ true
coordinate_test z h = grind (arith, ints)

go-word : (end at : ℕ) (z : ℤ) (w : List ℕ) (b : ℕ) (rest : List ℕ) → IsWordOf w z → is_coordinate z ≡ true → is_word_byte b ≡ false
    → number_at end (tokens at (w ++ b ∷ rest)) ≡ Ok (z, tokens (at + length w) (b ∷ rest))
unfolding number_at number_of_token coordinate_of
go-word end at z [] b rest h inside e = absurd (omega (arith, h.some))
go-word end at z (c ∷ cs) b rest h inside e =
    let parts = and_parts (is_word_byte c) (list_all is_word_byte cs) h.bytes in
    let tests = word_parts (is_space c) (is_mark c) parts.0 in
    rw (tokens_of_word at c cs b rest h.bytes e, tests.1, h.value, inside) refl

-- a printed coordinate is read as itself, whatever follows its word
pub number_read : (end at : ℕ) (z : ℤ) (b : ℕ) (rest : List ℕ) → IsCoordinate z → is_word_byte b ≡ false
    → number_at end (tokens at (signed_decimal z ++ b ∷ rest)) ≡ Ok (z, tokens (at + length (signed_decimal z)) (b ∷ rest))
number_read end at z b rest h e = go-word end at z (signed_decimal z) b rest (printed_word z (mag_of_coordinate z h)) (coordinate_test z h) e
