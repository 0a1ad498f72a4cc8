-- A server's reply to a line.
use Rattle.std.specs.Prelude.{◌≡◌, ◌≢◌, ◌⊎◌, ℕ, ◌<◌, List, ◌++◌, length, take, drop, codes, All, if◌then◌else◌}
use Rattle.std.specs.List.{flat_map}
use Rattle.std.specs.Option.{unwrap_or}
use Rattle.std.specs.Str.{bytes_eq}
use Rattle.line_streams.specs.Streams.{IsLine, fed}
use Rattle.line_words.specs.Words.{number_of}

-- the number that a text spells, or 0 if it spells none
abbrev pub count_in : List ℕ → ℕ
count_in text = unwrap_or (number_of text) 0

-- how many lines follow the first line of a reply: N after `rows N` and `rolled N`
abbrev pub rows_behind : List ℕ → ℕ
rows_behind head =
    if bytes_eq (take 5 head) (codes "rows ") then count_in (drop 5 head)
    else if bytes_eq (take 7 head) (codes "rolled ") then count_in (drop 7 head)
    else 0

-- A whole reply: its first line and the lines that it announces, each with its line feed.
pub record IsReply (text : List ℕ) : Type 0 where
  pub head : List ℕ
  pub rows : List (List ℕ)
  pub is_line : IsLine head
  pub are_lines : All IsLine rows
  pub counted : length rows ≡ rows_behind head
  pub is : text ≡ fed head ++ flat_map fed rows

-- A reply with its whole first line, and fewer lines than that announces.
pub record LacksRows (text : List ℕ) : Type 0 where
  pub head : List ℕ
  pub rows : List (List ℕ)
  pub last : List ℕ
  pub is_line : IsLine head
  pub are_lines : All IsLine rows
  pub is_open : IsLine last
  pub lacking : length rows < rows_behind head
  pub is : text ≡ fed head ++ (flat_map fed rows ++ last)

-- a reply that is not whole; even its first line may be incomplete
abbrev pub IsUnfinished : List ℕ → Type 0
IsUnfinished text = IsLine text ⊎ LacksRows text

-- the reply that ends a session
abbrev pub farewell : List ℕ
farewell = codes "bye\n"

-- the session goes on after this reply
abbrev pub GoesOn : List ℕ → Type 0
GoesOn reply = reply ≢ farewell
