-- The version that a request means to change: the field `if-match` (RFC 9110, 13.1.1).
use Rattle.std.specs.Prelude.{ℕ, ◌-◌, ◌==◌, ◌&&◌, ◌||◌, List, length, take, drop, codes, nat_eq, nat_le, Option, None, Some, option_and_then, Result, Err, if◌then◌else◌}
use Rattle.std.specs.List.{starts_with, ends_with}
use Rattle.std.specs.Str.{bytes_eq}
use Rattle.line_words.specs.Words.{number_of}
use Rattle.map_changes.specs.Faults.{or_fault}
use Rattle.map_changes.specs.declared.faults.ChangeFault.{ChangeFault}
use Rattle.map_changes.specs.declared.faults.ChangeFault.TheVariants.{NoVersion, WrongTag}

-- the text between the quotation marks of a strong entity tag (8.8.3)
abbrev pub unquoted : List ℕ → Option (List ℕ)
unquoted tag =
    if nat_le 2 (length tag) && starts_with nat_eq tag (codes "\"")
    && ends_with nat_eq tag (codes "\"")
    then Some (drop 1 (take (length tag - 1) tag)) else None

-- the number that a text is, written as this server writes one: without a zero in front (a strong
-- comparison compares the characters, 8.8.3.2; versions begin with 1)
abbrev pub plain_number : List ℕ → Option ℕ
plain_number text = if starts_with nat_eq text (codes "0") then None else number_of text

-- the version whose entity tag this is: a number in quotation marks
abbrev pub tagged : List ℕ → Option ℕ
tagged tag = option_and_then plain_number (unquoted tag)

-- the version that a field names; none where it is not there, or is content with any
unfoldable pub version_in : List ℕ → Result ℕ ChangeFault
version_in field =
    if (length field == 0) || bytes_eq field (codes "*") then Err NoVersion
    else or_fault WrongTag (tagged field)
