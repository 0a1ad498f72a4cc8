-- How far an import has come.
use Rattle.std.specs.Prelude.{ℕ, List, [], ◌∷◌, ◌++◌, ◌==◌, codes, decimal, Option, None, Some, length, take, ◌-◌, nat_eq, slice_index, if◌then◌else◌}
use Rattle.line_words.specs.Words.{number_of}

-- the text of a number of rows that are settled
abbrev pub progress_text : ℕ → List ℕ
progress_text rows = decimal rows ++ codes "\n"

-- the number in such a text, which ends with its line feed
abbrev pub progress_of : List ℕ → Option ℕ
progress_of text =
    if slice_index text (length text - 1) == 10 then number_of (take (length text - 1) text) else None
