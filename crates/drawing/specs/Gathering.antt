-- The marks that are gathered from lines.
use Rattle.std.specs.Prelude.{◌≡◌, ℕ, List, [], ◌++◌, Option, IsSome}
use Rattle.std.specs.Io.KnownBytes.{Consumes, IsAtEnd}
use Rattle.line_streams.specs.declared.streams.Next.{Next}
use Rattle.line_streams.specs.declared.streams.Next.TheVariants.{Line, End}
use Rattle.drawing.specs.declared.marks.Mark.{Mark}
use Rattle.drawing.specs.declared.reading.Stop.{Stop}
use Rattle.drawing.specs.Marks.{AreNotTooMany, marks_in, marks_on}

-- the marks that are gathered, and why no further one is
pub record Gathered : Type 0 where
  pub marks : List Mark
  pub stop : Option Stop

abbrev pub gathered : List Mark → Option Stop → Gathered
gathered marks stop = record { marks = marks; stop = stop }

-- what is found is added, if there are not too many marks; or it is not, and the gathering ends
abbrev pub GathersAs : Next → List Mark → Gathered → Gathered → Type 0
GathersAs Line found old new = (new.marks ≡ old.marks ++ found) × (new.stop ≡ old.stop)
    × (AreNotTooMany old.marks → AreNotTooMany new.marks)
GathersAs End found old new = IsSome new.stop

-- what a line shows is added, and nothing is written
abbrev pub LineGathers : List ℕ → Gathered → Gathered → List ℕ → Next → Type 0
LineGathers line old new said next = (said ≡ []) × GathersAs next (marks_on line) old new

-- a text was read to its end, and what its lines show follows the marks that were there before
pub record ReadsMarks (old new : List Mark) (input left : Option (List ℕ)) : Type 0 where
  pub text : List ℕ
  pub read : Consumes input left text
  pub at_end : IsAtEnd left
  pub are : new ≡ old ++ marks_in text
  pub not_too_many : AreNotTooMany old → AreNotTooMany new
