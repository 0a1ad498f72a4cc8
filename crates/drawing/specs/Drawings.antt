-- What holds when a drawing ends.
use Rattle.std.specs.Prelude.{◌≡◌, ◌⊎◌, ℕ, List, ◌++◌, Option, Result, Ok, Err}
use Rattle.std.specs.Io.KnownBytes.{Appends, Consumes, IsAtEnd}
use Rattle.drawing.specs.declared.faults.DrawFault.{DrawFault}
use Rattle.drawing.specs.declared.faults.DrawFault.TheVariants.{Write}
use Rattle.drawing.specs.Marks.{AreNotTooMany, marks_in}
use Rattle.drawing.specs.Pictures.{svg_of}

-- the document that shows what the lines of a script and of its replies show
abbrev pub drawn : List ℕ → List ℕ → List ℕ
drawn commands answers = svg_of (marks_in commands ++ marks_in answers)

-- A script and its replies were read to their ends; these are their texts.
pub record ReadBoth (script script_then replies replies_then : Option (List ℕ)) : Type 0 where
  pub commands : List ℕ
  pub answers : List ℕ
  pub read_script : Consumes script script_then commands
  pub script_ends : IsAtEnd script_then
  pub read_replies : Consumes replies replies_then answers
  pub replies_end : IsAtEnd replies_then

-- the whole drawing was written, of at most `MARK_LIMIT` marks
abbrev pub DrawsAll : Option (List ℕ) → Option (List ℕ) → Option (List ℕ) → Option (List ℕ)
    → Option (List ℕ) → Option (List ℕ) → Type 0
DrawsAll script script_then replies replies_then before after =
    (both : ReadBoth script script_then replies replies_then)
    × AreNotTooMany (marks_in both.commands ++ marks_in both.answers)
    × Appends before after (drawn both.commands both.answers)

-- a front part of the drawing was written, maybe all of it
abbrev pub DrawsFront : Option (List ℕ) → Option (List ℕ) → Option (List ℕ) → Option (List ℕ)
    → Option (List ℕ) → Option (List ℕ) → Type 0
DrawsFront script script_then replies replies_then before after =
    (both : ReadBoth script script_then replies replies_then) × (front : List ℕ) × (left : List ℕ)
    × (drawn both.commands both.answers ≡ front ++ left) × Appends before after front

-- What was written, by how the drawing ended: after a failed write a front part of the document, or
-- nothing; after every other fault nothing.
abbrev pub Draws : {T : Type 0} → Result T DrawFault → Option (List ℕ) → Option (List ℕ)
    → Option (List ℕ) → Option (List ℕ) → Option (List ℕ) → Option (List ℕ) → Type 0
Draws (Ok done) script script_then replies replies_then before after =
    DrawsAll script script_then replies replies_then before after
Draws (Err (Write failed)) script script_then replies replies_then before after =
    DrawsFront script script_then replies replies_then before after ⊎ (after ≡ before)
Draws (Err _) script script_then replies replies_then before after = after ≡ before
