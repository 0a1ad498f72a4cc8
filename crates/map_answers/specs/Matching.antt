-- Entity tags (RFC 9110, section 8.8.3), and the field `if-none-match` (section 13.1.2).
use Rattle.std.specs.Prelude.{ℕ, Bool, false, ◌||◌, List, [], ◌∷◌, ◌++◌, codes, decimal, nat_eq}
use Rattle.std.specs.List.{starts_with}
use Rattle.std.specs.Str.{bytes_eq}

-- the tag of a version: the number in quotation marks
unfoldable pub tag_text : ℕ → List ℕ
tag_text version = codes "\"" ++ decimal version ++ codes "\""

-- a text stands somewhere in another one
abbrev pub occurs : List ℕ → List ℕ → Bool
occurs part [] = false
occurs part (b ∷ bs) = starts_with nat_eq (b ∷ bs) part || occurs part bs

-- the field names this version's tag, or any by `*`. No tag has a quotation mark but at its ends,
-- so the tag stands nowhere else in a list of tags, weak or strong.
abbrev pub is_known : List ℕ → ℕ → Bool
is_known field version = bytes_eq field (codes "*") || occurs (tag_text version) field
