-- The words that `number_of` accepts are those that spell a number.
use Rattle.std.proofs.Common.{◌≡◌, ℕ, ◌<◌, ◌==◌, Bool, true, false, cond, ◌&&◌, List, [], ◌∷◌, ◌++◌, take, drop, length, Option, Some, None, option_map, ℤ, refl, sym, ap, ◌∙◌, arith, inl, inr, take-append-drop, append-nil}
use Rattle.std.specs.Char.{is_ascii_digit}
use Rattle.std.specs.List.{AllByRecursion, list_all, prefix_len}
use Rattle.std.specs.Str.{all_ascii_digits}
use Rattle.std.specs.Str.Parse.{digits_value}
use Rattle.std.proofs.lemmas.Bool.{eqb-true, eqb-false, eq-eqb, ne_eqb, and_parts, and_from}
use Rattle.std.proofs.lemmas.List.{take_at, drop_at, length-take}
use Rattle.std.proofs.lemmas.List.Sums.{prefix_len-le-length}
use Rattle.wkt.specs.Numbers.{sign_of, is_zero_fraction, magnitude_of, signed, number_of}
use Rattle.wkt.specs.Spelling.{SpellsSign, IsZeroFraction, SpellsNumber}
use Rattle.wkt.proofs.NumbersLemmas.{digits_of_word}
use Rattle.wkt.proofs.PrintedNumbers.{whole_prefix, digits_prefix, sign_of_digits}

-- ---- a fraction of zeros

zeros_found : (bs : List ℕ) → list_all (λ z. z == 48) bs ≡ true → AllByRecursion (λ z. z ≡ 48) bs
zeros_found [] h = tt
zeros_found (b ∷ bs) h = let parts = and_parts (b == 48) (list_all (λ z. z == 48) bs) h in (eqb-true b 48 parts.0, zeros_found bs parts.1)

zeros_only : (bs : List ℕ) → AllByRecursion (λ z. z ≡ 48) bs → list_all (λ z. z == 48) bs ≡ true
zeros_only [] h = refl
zeros_only (b ∷ bs) h = and_from _ _ (eq-eqb b 48 h.0) (zeros_only bs h.1)

fraction_found : (bs : List ℕ) → is_zero_fraction bs ≡ true → IsZeroFraction bs
fraction_found [] h = tt
fraction_found (b ∷ bs) h = let parts = and_parts (b == 46) (list_all (λ z. z == 48) bs) h in (eqb-true b 46 parts.0, zeros_found bs parts.1)

fraction_only : (bs : List ℕ) → IsZeroFraction bs → is_zero_fraction bs ≡ true
fraction_only [] h = refl
fraction_only (b ∷ bs) h = and_from _ _ (eq-eqb b 46 h.0) (zeros_only bs h.1)

-- ---- a number without its sign

-- digits and a fraction, with the digits' value
record IsMagnitude (word : List ℕ) (n : ℕ) : Type 0 where
  digits : List ℕ
  fraction : List ℕ
  whole : word ≡ digits ++ fraction
  are_digits : all_ascii_digits digits ≡ true
  some_digit : 0 < length digits
  fraction_is : IsZeroFraction fraction
  value : n ≡ digits_value 10 digits

go-fraction : (v : Bool) (n m : ℕ) → cond v (Some n) None ≡ Some m → (v ≡ true) × (m ≡ n)
go-fraction true n m h = (refl, cc)
go-fraction false n m h = absurd cc

go-digits : (v : Bool) (o : Option ℕ) (m : ℕ) → cond v None o ≡ Some m → (v ≡ false) × (o ≡ Some m)
go-digits true o m h = absurd cc
go-digits false o m h = (refl, h)

magnitude_found : (word : List ℕ) (n : ℕ) → magnitude_of word ≡ Some n → IsMagnitude word n
magnitude_found word n h =
    let len = prefix_len is_ascii_digit word in
    let some = go-digits (len == 0) (cond (is_zero_fraction (drop len word)) (Some (digits_value 10 (take len word))) None) n h in
    let rest = go-fraction (is_zero_fraction (drop len word)) (digits_value 10 (take len word)) n some.1 in
    record {
      digits = take len word;
      fraction = drop len word;
      whole = sym (take-append-drop len word);
      are_digits = digits_of_word word;
      some_digit = omega (arith, length-take len word, prefix_len-le-length is_ascii_digit word, eqb-false len 0 some.0);
      fraction_is = fraction_found (drop len word) rest.0;
      value = rest.1;
    }

digits_all : (ds : List ℕ) → list_all is_ascii_digit ds ≡ all_ascii_digits ds
digits_all [] = refl
digits_all (d ∷ ds) = ap (λ (b : Bool). is_ascii_digit d && b) (digits_all ds)

go-prefix : (digits fraction : List ℕ) → all_ascii_digits digits ≡ true → IsZeroFraction fraction → prefix_len is_ascii_digit (digits ++ fraction) ≡ length digits
go-prefix digits [] h k = ap (prefix_len is_ascii_digit) (append-nil digits) ∙ digits_prefix digits h
go-prefix digits (b ∷ bs) h k = whole_prefix is_ascii_digit digits b bs (digits_all digits ∙ h) (rw k.0 refl)

magnitude_only : (digits fraction : List ℕ) → all_ascii_digits digits ≡ true → 0 < length digits → IsZeroFraction fraction → magnitude_of (digits ++ fraction) ≡ Some (digits_value 10 digits)
magnitude_only digits fraction h lt k =
    let some : (length digits == 0) ≡ false = ne_eqb (length digits) 0 (λ e. absurd (omega arith)) in
    rw (go-prefix digits fraction h k, some, drop_at digits fraction (length digits) refl, fraction_only fraction k, take_at digits fraction (length digits) refl) refl

-- ---- a number

signed_found : (negative : Bool) (o : Option ℕ) (z : ℤ) → option_map (signed negative) o ≡ Some z → (n : ℕ) × (o ≡ Some n) × (z ≡ signed negative n)
signed_found negative None z h = absurd cc
signed_found negative (Some n) z h = (n, refl, cc)

with_sign : (sign rest : List ℕ) (negative : Bool) (z : ℤ) → SpellsSign sign negative → option_map (signed negative) (magnitude_of rest) ≡ Some z → SpellsNumber (sign ++ rest) z
with_sign sign rest negative z s h =
    let n = signed_found negative (magnitude_of rest) z h in
    let m = magnitude_found rest n.0 n.1 in
    record {
      sign = sign;
      negative = negative;
      digits = m.digits;
      fraction = m.fraction;
      whole = ap (λ (bs : List ℕ). sign ++ bs) m.whole;
      sign_is = s;
      are_digits = m.are_digits;
      some_digit = m.some_digit;
      fraction_is = m.fraction_is;
      value = n.2 ∙ ap (signed negative) m.value;
    }

go-sign : (minus plus : Bool) (b : ℕ) (bs : List ℕ) (z : ℤ) → (b == 45) ≡ minus → (b == 43) ≡ plus → number_of (b ∷ bs) ≡ Some z → SpellsNumber (b ∷ bs) z
go-sign true plus b bs z e f h = with_sign (b ∷ []) bs true z (inr (eqb-true b 45 e, refl)) (rw e at h)
go-sign false true b bs z e f h = with_sign (b ∷ []) bs false z (inl (eqb-true b 43 f, refl)) (rw (e, f) at h)
go-sign false false b bs z e f h = with_sign [] (b ∷ bs) false z refl (rw (e, f) at h)

pub number_found : (word : List ℕ) (z : ℤ) → number_of word ≡ Some z → SpellsNumber word z
number_found [] z h = absurd cc
number_found (b ∷ bs) z h = go-sign (b == 45) (b == 43) b bs z refl refl h

-- after a sign, or without one
go-only : (sign digits fraction : List ℕ) (negative : Bool) → SpellsSign sign negative → all_ascii_digits digits ≡ true → 0 < length digits → sign_of (sign ++ (digits ++ fraction)) ≡ (negative, digits ++ fraction)
go-only [] [] fraction negative s h lt = absurd (omega arith)
go-only [] (d ∷ ds) fraction negative s h lt = rw s (sign_of_digits d (ds ++ fraction) (and_parts (is_ascii_digit d) (all_ascii_digits ds) h).0)
go-only (b ∷ []) digits fraction negative (inl s) h lt = rw (s.0, s.1) refl
go-only (b ∷ []) digits fraction negative (inr s) h lt = rw (s.0, s.1) refl
go-only (b ∷ c ∷ bs) digits fraction negative s h lt = absurd s

pub number_only : (word : List ℕ) (z : ℤ) → SpellsNumber word z → number_of word ≡ Some z
number_only word z h =
    let parts = go-only h.sign h.digits h.fraction h.negative h.sign_is h.are_digits h.some_digit in
    let n = magnitude_only h.digits h.fraction h.are_digits h.some_digit h.fraction_is in
    ap number_of h.whole ∙ rw (parts, n, h.value) refl
