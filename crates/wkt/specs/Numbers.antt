-- The number that a word spells.
use Rattle.std.specs.Prelude.{ℕ, ℤ, pos, neg_ℤ, ◌==◌, ◌&&◌, Bool, true, false, List, [], ◌∷◌, min, take, drop, Option, Some, None, option_map, Result, Ok, Err, if◌then◌else◌}
use Rattle.std.specs.Char.{is_ascii_digit}
use Rattle.std.specs.List.{list_all, prefix_len}
use Rattle.std.specs.Str.Parse.{digits_value}
use Rattle.plane.specs.Coordinates.{is_coordinate}
use Rattle.wkt.specs.declared.fault.WktFault.{WktFault}
use Rattle.wkt.specs.declared.fault.WktFault.TheVariants.{Number, OutOfRange}

-- whether the number has a minus sign, and what follows its sign
abbrev pub sign_of : List ℕ → Bool × List ℕ
sign_of [] = (false, [])
sign_of (b ∷ bs) = if b == 45 then (true, bs) else if b == 43 then (false, bs) else (false, b ∷ bs)

-- nothing, or a period and any number of zeros
abbrev pub is_zero_fraction : List ℕ → Bool
is_zero_fraction [] = true
is_zero_fraction (b ∷ bs) = b == 46 && list_all (λ z. z == 48) bs

-- a number without its sign: digits, and a fraction of zeros
abbrev pub magnitude_of : List ℕ → Option ℕ
magnitude_of word =
    let len = prefix_len is_ascii_digit word in
    if len == 0 then None
    else if is_zero_fraction (drop len word) then Some (digits_value 10 (take len word))
    else None

-- the value of the digits, capped at `cap`
abbrev pub capped_value : ℕ → List ℕ → ℕ
capped_value cap digits = min (digits_value 10 digits) cap

abbrev pub signed : Bool → ℕ → ℤ
signed negative n = if negative then neg_ℤ (pos n) else pos n

abbrev pub number_of : List ℕ → Option ℤ
number_of word = let parts = sign_of word in option_map (signed parts.0) (magnitude_of parts.1)

-- a number as a coordinate; `at` is the place for a fault
abbrev pub in_limits : ℕ → Option ℤ → Result ℤ WktFault
in_limits at None = Err (Number at)
in_limits at (Some n) = if is_coordinate n then Ok n else Err (OutOfRange at)

unfoldable pub coordinate_of : ℕ → List ℕ → Result ℤ WktFault
coordinate_of at word = in_limits at (number_of word)
