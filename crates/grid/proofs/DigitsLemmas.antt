-- Digits at the front of bytes, and what digits are worth.
use Rattle.std.proofs.Common.{◌≡◌, ℕ, suc, ◌+◌, ◌-◌, ◌*◌, ◌^◌, ◌≤◌, ◌<◌, min, ◌&&◌, Bool, true, false, List, [], ◌∷◌, ◌++◌, length, take, take_while, get_or, refl, sym, ap, ◌∙◌, one-add, zero-add, arith}
use Rattle.std.specs.Char.{is_ascii_digit, digit_value}
use Rattle.std.specs.Int.{IsInRange}
use Rattle.std.specs.List.{list_all, prefix_len}
use Rattle.std.specs.Str.{all_ascii_digits}
use Rattle.std.specs.Str.Parse.{digits_value, digits_value_after}
use Rattle.std.proofs.Math.Nat.{pow-zero, pow-succ', mul_assoc, add-mul}
use Rattle.std.proofs.Math.Seq.{take-suc}
use Rattle.std.proofs.lemmas.Bool.{and_from}
use Rattle.std.proofs.lemmas.Bool.Decides.{nat_tests}
use Rattle.std.proofs.lemmas.List.Sums.{prefix_len-le-length}
use Rattle.std.proofs.lemmas.Str.Parse.{IsNumeralModel, numerals_by_value, tells_all_ascii_digits, digit_at}

pub prefix_fits : (p : ℕ → Bool) (xs : List ℕ) → prefix_len p xs ≤ length xs
prefix_fits p xs = prefix_len-le-length p xs

go-digit : (v : Bool) (b : ℕ) (bs : List ℕ) → is_ascii_digit b ≡ v → all_ascii_digits (take_while is_ascii_digit bs) ≡ true → all_ascii_digits (take_while is_ascii_digit (b ∷ bs)) ≡ true
go-digit true b bs e h = rw (e, one-add) (and_from _ _ e h)
go-digit false b bs e h = rw e refl

-- the digits at the front are digits
pub front_digits : (text : List ℕ) → all_ascii_digits (take (prefix_len is_ascii_digit text) text) ≡ true
front_digits [] = refl
front_digits (b ∷ bs) = go-digit (is_ascii_digit b) b bs refl (front_digits bs)

pub own : IsNumeralModel (λ ds. all_ascii_digits ds ≡ true) (digits_value 10)
own = numerals_by_value _ tells_all_ascii_digits

pub digit_in_range : (ds : List ℕ) (i : ℕ) → all_ascii_digits ds ≡ true → i < length ds → IsInRange 48 57 (get_or ds i 0)
digit_in_range ds i h lt = digit_at ds i (own.to ds h) lt

pub digit_worth : (c : ℕ) → IsInRange 48 57 c → digit_value c ≡ c - 48
digit_worth c h = grind (arith, nat_tests)

-- every byte is a digit
pub all_digits : (ds : List ℕ) → list_all is_ascii_digit ds ≡ all_ascii_digits ds
all_digits [] = refl
all_digits (d ∷ ds) = ap (λ v. is_ascii_digit d && v) (all_digits ds)

-- ---- the value of digits behind a number

pub value_after_push : (n : ℕ) (ds : List ℕ) (c : ℕ) → digits_value_after 10 n (ds ++ (c ∷ [])) ≡ digits_value_after 10 n ds * 10 + digit_value c
value_after_push n [] c = refl
value_after_push n (d ∷ ds) c = value_after_push (n * 10 + digit_value d) ds c

value_after_more : (n : ℕ) (ds : List ℕ) (i : ℕ) → i < length ds → digits_value_after 10 n (take (i + 1) ds) ≡ digits_value_after 10 n (take i ds) * 10 + digit_value (get_or ds i 0)
value_after_more n ds i lt =
    let s : i + 1 ≡ suc i = omega arith in
    ap (λ (k : ℕ). digits_value_after 10 n (take k ds)) s ∙ ap (digits_value_after 10 n) (take-suc ds i 0 lt) ∙ value_after_push n (take i ds) (get_or ds i 0)

capped : (cap v d : ℕ) → min (min v cap * 10 + d) cap ≡ min (v * 10 + d) cap
capped cap v d = omega arith

-- one more digit, capped
pub capped_more : (cap n : ℕ) (ds : List ℕ) (i value : ℕ) → all_ascii_digits ds ≡ true → i < length ds → value ≡ min (digits_value_after 10 n (take i ds)) cap
    → min (value * 10 + (get_or ds i 0 - 48)) cap ≡ min (digits_value_after 10 n (take (i + 1) ds)) cap
capped_more cap n ds i value h lt so_far =
    rw (so_far, value_after_more n ds i lt, digit_worth (get_or ds i 0) (digit_in_range ds i h lt)) (capped cap (digits_value_after 10 n (take i ds)) (get_or ds i 0 - 48))

-- digits behind two numbers that are the same below the cap
pub capped_same : (cap a b : ℕ) (ds : List ℕ) → min a cap ≡ min b cap → min (digits_value_after 10 a ds) cap ≡ min (digits_value_after 10 b ds) cap
capped_same cap a b [] e = e
capped_same cap a b (d ∷ ds) e = capped_same cap (a * 10 + digit_value d) (b * 10 + digit_value d) ds (omega arith)

pub value_after_append : (n : ℕ) (ds es : List ℕ) → digits_value_after 10 n (ds ++ es) ≡ digits_value_after 10 (digits_value_after 10 n ds) es
value_after_append n [] es = refl
value_after_append n (d ∷ ds) es = value_after_append (n * 10 + digit_value d) ds es

-- the value of digits in two places, capped
pub capped_append : (cap : ℕ) (ds es : List ℕ) → min (digits_value_after 10 (min (digits_value 10 ds) cap) es) cap ≡ min (digits_value 10 (ds ++ es)) cap
capped_append cap ds es =
    capped_same cap (min (digits_value 10 ds) cap) (digits_value 10 ds) es (omega arith) ∙ ap (λ (n : ℕ). min n cap) (sym (value_after_append 0 ds es))

-- what digits are worth behind a number
pub value_after_is : (n : ℕ) (ds : List ℕ) → digits_value_after 10 n ds ≡ n * 10 ^ length ds + digits_value 10 ds
value_after_is n [] = omega (arith, ap (λ x. n * x) (pow-zero 10))
value_after_is n (d ∷ ds) =
    let far = value_after_is (n * 10 + digit_value d) ds in
    let near = value_after_is (0 * 10 + digit_value d) ds in
    omega (arith, far, near, add-mul (n * 10) (digit_value d) (10 ^ length ds), mul_assoc n 10 (10 ^ length ds), ap (λ x. n * x) (pow-succ' 10 (length ds)), ap (λ x. x * 10 ^ length ds) (zero-add (digit_value d)))

-- the value of digits in two parts
pub value_append : (ds es : List ℕ) → digits_value 10 (ds ++ es) ≡ digits_value 10 ds * 10 ^ length es + digits_value 10 es
value_append ds es = value_after_append 0 ds es ∙ value_after_is (digits_value 10 ds) es
