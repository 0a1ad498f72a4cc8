-- The text of a coordinate is a number of JSON.
use Rattle.std.proofs.Common.{◌≡◌, ℕ, zero, suc, ◌+◌, ◌/◌, ◌^◌, ◌==◌, ◌<◌, ◌≤◌, ℤ, pos, negsuc, ◌+ℤ◌, Bool, true, false, cond, List, [], ◌∷◌, ◌++◌, length, drop, get_or, Some, None, option_and_then, decimal, refl, sym, ap, subst, ◌∙◌, arith}
use Rattle.std.specs.Char.{is_ascii_digit}
use Rattle.std.specs.Int.Signed.{mag}
use Rattle.std.specs.List.{prefix_len}
use Rattle.std.specs.Str.{all_ascii_digits}
use Rattle.std.proofs.Math.Nat.{div-le_self}
use Rattle.std.proofs.lemmas.Bool.{ne_eqb}
use Rattle.std.proofs.lemmas.Fmt.{decimal_digit, first_decimal}
use Rattle.std.proofs.lemmas.List.{drop_at, drop_all}
use Rattle.json.specs.Print.{IsNumber}
use Rattle.json.specs.Word.{head, after_digits, after_whole, after_fraction, after_exponent, after_number}
use Rattle.plane.specs.Coordinates.{IsCoordinate}
use Rattle.grid.specs.declared.grids.Axis.{Axis}
use Rattle.grid.specs.declared.grids.Grid.{Grid}
use Rattle.grid.specs.Grids.{origin_on}
use Rattle.grid.specs.Printing.{signed_text, coordinate_text}
use Rattle.grid.proofs.CappedLemmas.{origin_in_range}
use Rattle.grid.proofs.RoundTrip.{whole_prefix, digits_prefix, point_text, whole_of, behind_of, is_shown, near}

-- digits before nothing, or before a point
front : (ds behind : List ℕ) → all_ascii_digits ds ≡ true → prefix_len is_ascii_digit (ds ++ point_text behind) ≡ length ds
front ds [] h = ap (prefix_len is_ascii_digit) (append_nothing ds) ∙ digits_prefix ds h
  where
    append_nothing : (xs : List ℕ) → xs ++ [] ≡ xs
    append_nothing [] = refl
    append_nothing (x ∷ xs) = ap (λ l. x ∷ l) (append_nothing xs)
front ds (b ∷ bs) h = whole_prefix ds 46 (b ∷ bs) h refl

record IsWhole (ds rest : List ℕ) : Type 0 where
  taken : after_whole (ds ++ rest) ≡ Some rest
  unsigned : (head (ds ++ rest) == 45) ≡ false

go-whole : (ds behind : List ℕ) → all_ascii_digits ds ≡ true → 48 < get_or ds 0 0 → IsWhole ds (point_text behind)
go-whole [] behind h first = absurd (omega arith)
go-whole (d ∷ ds) behind h first =
    let count = front (d ∷ ds) behind h in
    let left : drop (length (d ∷ ds)) ((d ∷ ds) ++ point_text behind) ≡ point_text behind = drop_at (d ∷ ds) (point_text behind) (length (d ∷ ds)) refl in
    record {
      taken =
          ap (λ (b : Bool). cond b (Some (ds ++ point_text behind)) (after_digits ((d ∷ ds) ++ point_text behind))) (ne_eqb d 48 (λ e. omega arith))
          ∙ ap (λ (n : ℕ). cond (n == 0) None (Some (drop n ((d ∷ ds) ++ point_text behind)))) count
          ∙ ap (λ (b : Bool). cond b None (Some (drop (length (d ∷ ds)) ((d ∷ ds) ++ point_text behind)))) (ne_eqb (length (d ∷ ds)) 0 (λ e. omega arith))
          ∙ ap Some left;
      unsigned = ne_eqb d 45 (λ e. omega arith);
    }

whole_decimal : (q : ℕ) (behind : List ℕ) → q < 2 ^ 64 → all_ascii_digits (decimal q) ≡ true → IsWhole (decimal q) (point_text behind)
whole_decimal zero behind small h =
    let e = decimal_digit 0 (omega arith) in
    record {
      taken = ap (λ ds. after_whole (ds ++ point_text behind)) e;
      unsigned = ap (λ ds. head (ds ++ point_text behind) == 45) e;
    }
whole_decimal (suc n) behind small h = go-whole (decimal (suc n)) behind h (first_decimal (suc n) (omega arith) small)

fraction : (behind : List ℕ) → all_ascii_digits behind ≡ true → after_fraction (point_text behind) ≡ Some []
fraction [] h = refl
fraction (d ∷ ds) h =
    ap (λ (n : ℕ). cond (n == 0) None (Some (drop n (d ∷ ds)))) (digits_prefix (d ∷ ds) h)
    ∙ ap (λ (b : Bool). cond b None (Some (drop (length (d ∷ ds)) (d ∷ ds)))) (ne_eqb (length (d ∷ ds)) 0 (λ e. omega arith))
    ∙ ap Some (drop_all (length (d ∷ ds)) (d ∷ ds) (omega arith))

go-number : (ds behind : List ℕ) → IsWhole ds (point_text behind) → all_ascii_digits behind ≡ true
    → option_and_then after_exponent (option_and_then after_fraction (after_whole (ds ++ point_text behind))) ≡ Some []
go-number ds behind w h =
    ap (λ o. option_and_then after_exponent (option_and_then after_fraction o)) w.taken
    ∙ ap (option_and_then after_exponent) (fraction behind h)

unsigned_number : (ds behind : List ℕ) → IsWhole ds (point_text behind) → all_ascii_digits behind ≡ true → IsNumber (ds ++ point_text behind)
unfolding after_number
unsigned_number ds behind w h =
    ap (λ (b : Bool). option_and_then after_exponent (option_and_then after_fraction (after_whole (cond b (drop 1 (ds ++ point_text behind)) (ds ++ point_text behind))))) w.unsigned
    ∙ go-number ds behind w h

negative_number : (ds behind : List ℕ) → IsWhole ds (point_text behind) → all_ascii_digits behind ≡ true → IsNumber (45 ∷ (ds ++ point_text behind))
unfolding after_number
negative_number ds behind w h = go-number ds behind w h

quotient_small : (decimals n : ℕ) → n < 2 ^ 63 → n / 10 ^ decimals < 2 ^ 64
quotient_small decimals n small = omega (arith, div-le_self n (10 ^ decimals))

steps_number : (decimals : ℕ) (z : ℤ) → decimals ≤ 9 → mag z + 1 < 2 ^ 63 → IsNumber (signed_text decimals z)
steps_number decimals (pos n) few small =
    let s = is_shown decimals n few (omega arith) in
    subst IsNumber (sym s.text) (unsigned_number (whole_of decimals n) (behind_of decimals n) (whole_decimal (n / 10 ^ decimals) (behind_of decimals n) (quotient_small decimals n (omega arith)) s.whole_digits) s.behind_digits)
steps_number decimals (negsuc n) few small =
    let s = is_shown decimals (suc n) few (omega arith) in
    let P : List ℕ → Type 0 = λ t. IsNumber (45 ∷ t) in
    subst P (sym s.text) (negative_number (whole_of decimals (suc n)) (behind_of decimals (suc n)) (whole_decimal (suc n / 10 ^ decimals) (behind_of decimals (suc n)) (quotient_small decimals (suc n) (omega arith)) s.whole_digits) s.behind_digits)

pub is_number : (grid : Grid) (axis : Axis) (n : ℤ) → IsCoordinate n → IsNumber (coordinate_text grid axis n)
is_number grid axis n h = steps_number grid.decimals (origin_on axis grid +ℤ n) grid.few_decimals (near (origin_on axis grid) n (origin_in_range axis grid) h)
