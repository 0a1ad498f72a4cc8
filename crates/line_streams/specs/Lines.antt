-- The lines of a text.
use Rattle.std.specs.Prelude.{ℕ, ◌==◌, Bool, nat_lt, List, [], ◌∷◌, length}
use Rattle.std.specs.Io.BufRead.{strip_last}
use Rattle.std.specs.List.{slice_split}
use Rattle.line_streams.specs.declared.streams.TheConstants.{LINE_LIMIT}

-- a line without its end has more than `LINE_LIMIT` bytes
abbrev pub is_too_long : List ℕ → Bool
is_too_long line = nat_lt LINE_LIMIT (length line)

abbrev pub is_feed : ℕ → Bool
is_feed b = b == 10

-- what follows the last line feed is a line if it is not empty
abbrev pub last_line : List ℕ → List (List ℕ)
last_line [] = []
last_line (b ∷ bs) = (b ∷ bs) ∷ []

-- The pieces between line feeds, as lines: a carriage return right before a line feed is dropped.
abbrev pub ended : List (List ℕ) → List (List ℕ)
ended [] = []
ended (last ∷ []) = last_line last
ended (piece ∷ next ∷ pieces) = strip_last 13 piece ∷ ended (next ∷ pieces)

unfoldable pub lines_of : List ℕ → List (List ℕ)
lines_of text = ended (slice_split is_feed text)

-- the pieces that a line feed ends, as lines
abbrev pub whole_ended : List (List ℕ) → List (List ℕ)
whole_ended [] = []
whole_ended (last ∷ []) = []
whole_ended (piece ∷ next ∷ pieces) = strip_last 13 piece ∷ whole_ended (next ∷ pieces)

-- The whole lines of a text: those that a line feed ends. What follows the last line feed is not
-- one of them.
unfoldable pub whole_lines_of : List ℕ → List (List ℕ)
whole_lines_of text = whole_ended (slice_split is_feed text)

abbrev pub last_of : List (List ℕ) → List ℕ
last_of [] = []
last_of (last ∷ []) = last
last_of (piece ∷ next ∷ pieces) = last_of (next ∷ pieces)

-- The line that has begun in a text: what follows the last line feed.
unfoldable pub begun_of : List ℕ → List ℕ
begun_of text = last_of (slice_split is_feed text)
