-- What a line shows.
use Rattle.std.specs.Prelude.{ℕ, ◌≤◌, ◌||◌, Bool, List, [], ◌∷◌, codes, length, Option, None, Some, Result, Ok, Err, if◌then◌else◌}
use Rattle.std.specs.List.{flat_map}
use Rattle.std.specs.Str.{bytes_eq}
use Rattle.plane.specs.declared.point.Point.{Point}
use Rattle.wkt.specs.declared.fault.WktFault.{WktFault}
use Rattle.wkt.specs.Reading.{shape_of}
use Rattle.features.specs.Names.{name_of}
use Rattle.line_streams.specs.Lines.{is_too_long, lines_of}
use Rattle.drawing.specs.declared.marks.Mark.{Mark}
use Rattle.drawing.specs.declared.marks.Mark.TheVariants.{Window, Row}
use Rattle.drawing.specs.declared.reading.TheConstants.{MARK_LIMIT}
use Rattle.line_words.specs.Labels.{parts_of}
use Rattle.line_words.specs.Words.{next_word, number_of}

infixl 10 ◌>>=◌
abbrev pub ◌>>=◌ : {A B : Type 0} → Option A → (A → Option B) → Option B
(Some x) >>= f = f x
None >>= f = None

-- where a mark is
abbrev pub mark_shape : Mark → List Point
mark_shape (Window corners) = corners
mark_shape (Row feature) = feature.shape

-- what is read of a line: the text after the colon, if there is a name before it
abbrev pub behind_name : Option (List ℕ) → List ℕ → List ℕ → List ℕ
behind_name None text line = line
behind_name (Some name) text line = text

abbrev pub behind_label : Option (List ℕ × List ℕ) → List ℕ → List ℕ
behind_label None line = line
behind_label (Some parts) line = behind_name (name_of parts.0) parts.1 line

-- a line without its label: the text after the first colon, if the text before it is a name
abbrev pub unlabelled : List ℕ → List ℕ
unlabelled line = behind_label (parts_of line) line

-- a command with a window
abbrev pub is_window_word : List ℕ → Bool
is_window_word word = bytes_eq word (codes "SEARCH") || bytes_eq word (codes "OPEN")

-- the shape that a text spells, if it spells one
abbrev pub read_or_none : Result (List Point) WktFault → Option (List Point)
read_or_none (Ok corners) = Some corners
read_or_none (Err fault) = None

-- the window that a text spells
abbrev pub window_of : List ℕ → Option Mark
window_of text = read_or_none (shape_of text) >>= λ corners. Some (Window corners)

-- the row whose id is this word, and whose further words are the version, the office, the class and
-- the shape
unfoldable pub row_at : List ℕ → List ℕ → Option Mark
row_at word text = do
  id ← number_of word
  first ← next_word text
  version ← number_of first.0
  second ← next_word first.1
  office ← name_of second.0
  third ← next_word second.1
  class ← name_of third.0
  shape ← read_or_none (shape_of third.1)
  Some (Row (record { id = id; version = version; office = office; class = class; shape = shape }))

-- what a line shows: a window or a row
unfoldable pub mark_of : List ℕ → Option Mark
mark_of line = do
  word ← next_word (unlabelled line)
  if is_window_word word.0 then window_of word.1 else row_at word.0 word.1

abbrev pub listed : Option Mark → List Mark
listed None = []
listed (Some mark) = mark ∷ []

-- what a line shows; a line that is too long shows nothing
abbrev pub marks_on : List ℕ → List Mark
marks_on line = if is_too_long line then [] else listed (mark_of line)

-- what the lines of a text show, in their order
abbrev pub marks_in : List ℕ → List Mark
marks_in text = flat_map marks_on (lines_of text)

-- there are not more marks than are drawn
abbrev pub AreNotTooMany : List Mark → Type 0
AreNotTooMany marks = length marks ≤ MARK_LIMIT
