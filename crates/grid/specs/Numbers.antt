-- The number that a text spells: an optional sign, digits with an optional point among them, and an
-- optional exponent.
use Rattle.std.specs.Prelude.{ℕ, ◌+◌, ◌==◌, ◌&&◌, ◌||◌, Bool, true, false, List, [], ◌∷◌, ◌++◌, length, take, drop, Option, Some, None, option_map, if◌then◌else◌, nat_lt, nat_le}
use Rattle.std.specs.Char.{is_ascii_digit}
use Rattle.std.specs.List.{list_all, prefix_len}
use Rattle.std.specs.Str.Parse.{digits_value}
use Rattle.grid.specs.declared.parts.TheConstants.{NUMBER_LIMIT, EXPONENT_LIMIT}

-- the number that these digits write, times 10 ^ up, divided by 10 ^ down; below 0 if negative
pub record Number : Type 0 where
  pub negative : Bool
  pub digits : List ℕ
  pub up : ℕ
  pub down : ℕ

-- whether there is a minus sign, and what follows the sign
abbrev pub sign_of : List ℕ → Bool × List ℕ
sign_of [] = (false, [])
sign_of (b ∷ bs) = if b == 45 then (true, bs) else if b == 43 then (false, bs) else (false, b ∷ bs)

-- the digits at the front, and what follows them
abbrev pub digits_of : List ℕ → List ℕ × List ℕ
digits_of text = let len = prefix_len is_ascii_digit text in (take len text, drop len text)

-- the digits behind a point, and what follows them; none if there is no point
abbrev pub fraction_of : List ℕ → List ℕ × List ℕ
fraction_of [] = ([], [])
fraction_of (b ∷ bs) = if b == 46 then digits_of bs else ([], b ∷ bs)

-- at least one digit, and nothing else; the number is below the limit
abbrev pub exponent_value : List ℕ → Option ℕ
exponent_value digits =
    if nat_lt 0 (length digits) && list_all is_ascii_digit digits && nat_lt (digits_value 10 digits) EXPONENT_LIMIT
    then Some (digits_value 10 digits) else None

-- what `e` or `E` begins: whether the exponent is below 0, and its digits' value
abbrev pub exponent_of : List ℕ → Option (Bool × ℕ)
exponent_of [] = Some (false, 0)
exponent_of (b ∷ bs) =
    if b == 101 || b == 69 then option_map (λ n. ((sign_of bs).0, n)) (exponent_value (sign_of bs).1)
    else None

-- the number of a sign, digits before and behind the point, and an exponent
abbrev pub number_with : Bool → List ℕ → List ℕ → Bool × ℕ → Number
number_with negative whole fraction e = record {
  negative = negative;
  digits = whole ++ fraction;
  up = if e.0 then 0 else e.1;
  down = if e.0 then length fraction + e.1 else length fraction;
}

-- what follows the sign and the digits before the point: digits behind it, an exponent
abbrev pub number_behind : Bool → List ℕ → List ℕ × List ℕ → Option Number
number_behind negative whole fraction =
    if length whole + length fraction.0 == 0 then None
    else option_map (number_with negative whole fraction.0) (exponent_of fraction.1)

abbrev pub unsigned_number : Bool → List ℕ × List ℕ → Option Number
unsigned_number negative whole = number_behind negative whole.0 (fraction_of whole.1)

-- a text that is too long spells no number
unfoldable pub number_of : List ℕ → Option Number
number_of text =
    if nat_le (length text) NUMBER_LIMIT
    then unsigned_number (sign_of text).0 (digits_of (sign_of text).1) else None
