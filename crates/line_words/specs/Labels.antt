-- The label in front of a line.
use Rattle.std.specs.Prelude.{ℕ, ◌==◌, ◌+◌, Bool, not, nat_lt, List, length, take, drop, Option, None, Some, if◌then◌else◌}
use Rattle.std.specs.List.{prefix_len}

abbrev pub is_not_colon : ℕ → Bool
is_not_colon b = not (b == 58)

-- the text before the first colon and the text after it
unfoldable pub parts_of : List ℕ → Option (List ℕ × List ℕ)
parts_of line =
    let len = prefix_len is_not_colon line in
    if nat_lt len (length line) then Some (take len line, drop (len + 1) line) else None
