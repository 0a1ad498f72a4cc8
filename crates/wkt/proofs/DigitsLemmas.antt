-- Digits at the front of bytes, and the capped value of digits read one by one, for any cap.
use Rattle.std.proofs.Common.{◌≡◌, ℕ, ◌+◌, ◌-◌, ◌*◌, ◌≤◌, ◌<◌, min, Bool, true, List, length, take, get_or, arith}
use Rattle.std.specs.Char.{digit_value}
use Rattle.std.specs.Int.{IsInRange}
use Rattle.std.specs.List.{prefix_len}
use Rattle.std.specs.Str.{all_ascii_digits}
use Rattle.std.specs.Str.Parse.{digits_value}
use Rattle.std.proofs.lemmas.Bool.Decides.{nat_tests}
use Rattle.std.proofs.lemmas.Int.Digits.{digits_value_more}
use Rattle.std.proofs.lemmas.List.Sums.{prefix_len-le-length}
use Rattle.std.proofs.lemmas.Str.Parse.{IsNumeralModel, numerals_by_value, tells_all_ascii_digits, digit_at}
use Rattle.wkt.specs.Numbers.{capped_value}

pub prefix_fits : (p : ℕ → Bool) (xs : List ℕ) → prefix_len p xs ≤ length xs
prefix_fits p xs = prefix_len-le-length p xs

pub own : IsNumeralModel (λ ds. all_ascii_digits ds ≡ true) (digits_value 10)
own = numerals_by_value _ tells_all_ascii_digits

pub digit_in_range : (ds : List ℕ) (i : ℕ) → all_ascii_digits ds ≡ true → i < length ds → IsInRange 48 57 (get_or ds i 0)
digit_in_range ds i h lt = digit_at ds i (own.to ds h) lt

digit_worth : (c : ℕ) → IsInRange 48 57 c → digit_value c ≡ c - 48
digit_worth c h = grind (arith, nat_tests)

capped : (cap v d : ℕ) → min (min v cap * 10 + d) cap ≡ min (v * 10 + d) cap
capped cap v d = omega arith

-- one more digit
pub capped_more : (cap : ℕ) (ds : List ℕ) (i value : ℕ) → all_ascii_digits ds ≡ true → i < length ds → value ≡ capped_value cap (take i ds)
    → min (value * 10 + (get_or ds i 0 - 48)) cap ≡ capped_value cap (take (i + 1) ds)
capped_more cap ds i value h lt so_far =
    rw (so_far, digits_value_more 10 ds i lt, digit_worth (get_or ds i 0) (digit_in_range ds i h lt)) (capped cap (digits_value 10 (take i ds)) (get_or ds i 0 - 48))
