-- The words of a line, separated by spaces.
use Rattle.std.specs.Prelude.{ℕ, ◌^◌, ◌==◌, ◌&&◌, Bool, not, nat_le, nat_lt, List, [], ◌∷◌, length, take, drop, Option, None, Some, if◌then◌else◌}
use Rattle.std.specs.List.{prefix_len}
use Rattle.std.specs.Str.{all_ascii_digits}
use Rattle.std.specs.Str.Parse.{digits_value}

abbrev pub is_space : ℕ → Bool
is_space b = b == 32

-- every byte but a space belongs to a word
abbrev pub is_letter : ℕ → Bool
is_letter b = not (b == 32)

-- a text without its leading spaces
abbrev pub unspaced : List ℕ → List ℕ
unspaced text = drop (prefix_len is_space text) text

-- the word at the front of a text, and the rest of the text
abbrev pub parted : List ℕ → Option (List ℕ × List ℕ)
parted [] = None
parted (b ∷ bs) = let len = prefix_len is_letter (b ∷ bs) in
    Some (take len (b ∷ bs), drop len (b ∷ bs))

-- the next word of a text, and the rest of the text
unfoldable pub next_word : List ℕ → Option (List ℕ × List ℕ)
next_word text = parted (unspaced text)

-- the number that a word spells: 1 to 20 digits, below 2 ^ 64
unfoldable pub number_of : List ℕ → Option ℕ
number_of word =
    if nat_le 1 (length word) && nat_le (length word) 20 && all_ascii_digits word && nat_lt
    (digits_value 10 word) (2 ^ 64)
    then Some (digits_value 10 word)
    else None
