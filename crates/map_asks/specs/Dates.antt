-- What a `datetime` is.
use Rattle.std.specs.Prelude.{ℕ, ◌+◌, ◌-◌, ◌*◌, ◌%◌, ◌==◌, ◌&&◌, ◌||◌, not, Bool, true, false, List, [], ◌∷◌, length, take, drop, codes, if◌then◌else◌, nat_lt}
use Rattle.std.specs.Char.{is_ascii_digit}
use Rattle.std.specs.List.{prefix_len}
use Rattle.std.specs.Str.{bytes_eq}
use Rattle.map_asks.specs.Cuts.{front, back}

-- a byte of a form: each digit is `0`, and a small `t` or `z` is a capital one (RFC 3339, 5.6)
abbrev pub figure : ℕ → ℕ
figure b =
    if is_ascii_digit b then 48
    else if b == 116 then 84
    else if b == 122 then 90
    else b

-- the text is the form, but for its digits
abbrev pub has_form : List ℕ → List ℕ → Bool
has_form [] [] = true
has_form [] (b ∷ bs) = false
has_form (f ∷ form) [] = false
has_form (f ∷ form) (b ∷ bs) = if figure b == f then has_form form bs else false

abbrev pub behind_digits : List ℕ → List ℕ
behind_digits text = drop (prefix_len is_ascii_digit text) text

-- without the fraction of a second at the front: a point and digits
abbrev pub behind_point : List ℕ → List ℕ → List ℕ
behind_point whole [] = whole
behind_point whole (b ∷ bs) = if is_ascii_digit b then behind_digits bs else whole

abbrev pub behind_fraction : List ℕ → List ℕ
behind_fraction [] = []
behind_fraction (b ∷ bs) = if b == 46 then behind_point (b ∷ bs) bs else b ∷ bs

-- the number of two digits
abbrev pub number : ℕ → ℕ → ℕ
number tens ones = (tens - 48) * 10 + (ones - 48)

-- the year has a 29th of February (RFC 3339, C)
abbrev pub is_leap : ℕ → Bool
is_leap year = (year % 4 == 0) && (not (year % 100 == 0) || (year % 400 == 0))

-- how many days the month has (5.7)
abbrev pub days_in : ℕ → ℕ → ℕ
days_in year month =
    if month == 2 then (if is_leap year then 29 else 28)
    else if (month == 4) || (month == 6) || (month == 9) || (month == 11) then 30
    else 31

-- the month has such a day
abbrev pub has_day : ℕ → ℕ → ℕ → Bool
has_day year month day =
    nat_lt 0 month && nat_lt month 13 && nat_lt 0 day && nat_lt day (days_in year month + 1)

-- what has the form of a month and a day is one of this year
abbrev pub is_day_of : ℕ → List ℕ → Bool
is_day_of year (_ ∷ m ∷ n ∷ _ ∷ x ∷ y ∷ _) = has_day year (number m n) (number x y)
is_day_of year _ = false

-- what has the form of a date is one
abbrev pub is_day : List ℕ → Bool
is_day (a ∷ b ∷ c ∷ d ∷ rest) = is_day_of (number a b * 100 + number c d) rest
is_day _ = false

abbrev pub is_date : List ℕ → Bool
is_date text = has_form (codes "0000-00-00") text && is_day text

-- what has the form of a time of day is one; a second may be a leap second
abbrev pub is_time : List ℕ → Bool
is_time (_ ∷ h ∷ i ∷ _ ∷ m ∷ n ∷ _ ∷ s ∷ t ∷ _) =
    nat_lt (number h i) 24 && nat_lt (number m n) 60 && nat_lt (number s t) 61
is_time _ = false

abbrev pub is_clock : List ℕ → Bool
is_clock text = has_form (codes "T00:00:00") text && is_time text

-- what has the form of an offset is one
abbrev pub is_shift : List ℕ → Bool
is_shift (_ ∷ h ∷ i ∷ _ ∷ m ∷ n ∷ _) = nat_lt (number h i) 24 && nat_lt (number m n) 60
is_shift _ = false

abbrev pub is_offset : List ℕ → Bool
is_offset text = (has_form (codes "+00:00") text || has_form (codes "-00:00") text) && is_shift text

abbrev pub is_zone : List ℕ → Bool
is_zone text = has_form (codes "Z") text || is_offset text

-- a date, or a date with a time of day and a zone (5.6)
unfoldable pub is_moment : List ℕ → Bool
is_moment text =
    if is_date text then true
    else if nat_lt (length text) 19 then false
    else is_date (take 10 text) && is_clock (take 9 (drop 10 text))
    && is_zone (behind_fraction (drop 9 (drop 10 text)))

-- an end of an interval: a moment, or open
abbrev pub is_end : List ℕ → Bool
is_end text = (length text == 0) || bytes_eq text (codes "..") || is_moment text

-- the text before a slash, and the text from it on: a moment, or an interval
abbrev pub is_span : List ℕ → List ℕ → Bool
is_span begin [] = is_moment begin
is_span begin (slash ∷ end) = is_end begin && is_end end && (is_moment begin || is_moment end)

unfoldable pub is_datetime : List ℕ → Bool
is_datetime text = is_span (front 47 text) (back 47 text)
