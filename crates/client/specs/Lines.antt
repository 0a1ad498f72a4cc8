-- The first line of some bytes, and the bytes held while a reader is read for a line.
use Rattle.std.specs.Prelude.{◌≡◌, ℕ, ◌+◌, List, ◌++◌, length, Option, None, Some, Result, Ok, Err}
use Rattle.std.specs.Io.KnownBytes.{Consumes, IsAtEnd, Keeps}
use Rattle.line_streams.specs.Streams.{IsLine, fed}
use Rattle.client.specs.declared.ahead.Found.{Found}
use Rattle.client.specs.declared.ahead.Found.TheVariants.{Whole, Open}
use Rattle.client.specs.declared.ahead.AheadFault.{AheadFault}

-- The bytes begin with a line, which has `count` bytes with its line feed.
pub record BeginsWithLine (bytes : List ℕ) (count : ℕ) : Type 0 where
  pub line : List ℕ
  pub behind : List ℕ
  pub is_line : IsLine line
  pub are : bytes ≡ fed line ++ behind
  pub counted : count ≡ length line + 1

-- the index of the first line feed
abbrev pub FindsFeed : Option ℕ → List ℕ → Type 0
FindsFeed None bytes = IsLine bytes
FindsFeed (Some at) bytes = BeginsWithLine bytes (at + 1)

-- more was read, and is appended to what was held
abbrev pub Gains : List ℕ → List ℕ → Option (List ℕ) → Option (List ℕ) → Type 0
Gains old new left left_then = (more : List ℕ) × (new ≡ old ++ more) × Consumes left left_then more

-- one read: `count` bytes are added, 0 only at the reader's end; or it failed
abbrev pub Fills : {E : Type 0} → Result ℕ E → List ℕ → List ℕ → Option (List ℕ) → Option (List ℕ)
    → Type 0
Fills (Ok count) old new left left_then =
    (more : List ℕ) × (new ≡ old ++ more) × Consumes left left_then more × (count ≡ length more)
    × (count ≡ 0 → IsAtEnd left_then)
Fills (Err e) old new left left_then = (new ≡ old) × Keeps left left_then

-- the next line is held; or no line feed is, because the reader is at its end, a read failed, or
-- memory ran out
abbrev pub FindsLine : Result Found AheadFault → List ℕ → Option (List ℕ) → Type 0
FindsLine (Ok (Whole count)) bytes left = BeginsWithLine bytes count
FindsLine (Ok Open) bytes left = IsLine bytes × IsAtEnd left
FindsLine (Err fault) bytes left = IsLine bytes
