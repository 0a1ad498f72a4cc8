-- Texts cut in two at the first byte of a kind.
use Rattle.std.specs.Prelude.{ℕ, ◌==◌, Bool, not, List, [], ◌∷◌, take, drop}
use Rattle.std.specs.List.{prefix_len}

abbrev pub is_no : ℕ → ℕ → Bool
is_no mark b = not (b == mark)

-- the text before the first such byte; all of it if there is none
abbrev pub front : ℕ → List ℕ → List ℕ
front mark text = take (prefix_len (is_no mark) text) text

-- the text from that byte on
abbrev pub back : ℕ → List ℕ → List ℕ
back mark text = drop (prefix_len (is_no mark) text) text

abbrev pub without_first : List ℕ → List ℕ
without_first [] = []
without_first (b ∷ bs) = bs

-- the text behind that byte
abbrev pub behind : ℕ → List ℕ → List ℕ
behind mark text = without_first (back mark text)
