-- Runs of lines from a reader to a writer, whatever answers the lines: `tell line old new said
-- next` says that the line is answered by the bytes `said` and leads from the state `old` to `new`,
-- and that the stream goes on or ends after it.
use Rattle.std.specs.Prelude.{◌≡◌, ◌≢◌, ◌⊎◌, ℕ, ◌≤◌, ◌<◌, nat_lt, List, [], ◌∷◌, ◌++◌, length, map, take, Option, None, Some, Result, Ok, Err, All, IfOk, IfSome, if◌then◌else◌}
use Rattle.std.specs.Io.BufRead.{strip_last}
use Rattle.std.specs.Io.KnownBytes.{Appends, Consumes, IsAtEnd, Keeps}
use Rattle.std.specs.List.{flat_map}
use Rattle.byte_streams.specs.Written.{Took}
use Rattle.line_streams.specs.declared.streams.Next.{Next}
use Rattle.line_streams.specs.declared.streams.Next.TheVariants.{Line, End}
use Rattle.line_streams.specs.declared.streams.Stop.{Stop}
use Rattle.line_streams.specs.declared.streams.Stop.TheVariants.{Ended, Failed}
use Rattle.line_streams.specs.declared.streams.ServeFault.{ServeFault}
use Rattle.line_streams.specs.declared.streams.ServeFault.TheVariants.{Read, Write, TooManyTurns, Memory}
use Rattle.line_streams.specs.declared.streams.TheConstants.{HELD, READ_LIMIT}
use Rattle.line_streams.specs.Lines.{begun_of, lines_of, whole_lines_of}

-- no byte of a line is a line feed
abbrev pub IsLine : List ℕ → Type 0
IsLine line = All (λ b. b ≢ 10) line

-- what is held of the line that is being read; a line of `HELD` bytes is too long, whatever follows
abbrev pub held_of : List ℕ → List ℕ
held_of begun = take HELD begun

-- lines are answered one after another; `text` is all their answers
abbrev pub LinesTell : {S : Type 0} → (List ℕ → S → S → List ℕ → Type 0) → S → List (List ℕ) → S
    → List ℕ → Type 0
LinesTell tell old [] new text = (new ≡ old) × (text ≡ [])
LinesTell {S = S} tell old (line ∷ lines) new text =
    (mid : S) × (said : List ℕ) × (more : List ℕ) × tell line old mid said × (text ≡ said ++ more)
    × LinesTell tell mid lines new more

-- a line is answered, and the stream goes on
abbrev pub GoesOn : {S : Type 0} → (List ℕ → S → S → List ℕ → Next → Type 0) → List ℕ → S → S
    → List ℕ → Type 0
GoesOn tell line old new said = tell line old new said Line

-- a line is answered, and the stream always goes on
abbrev pub NeverEnds : {S : Type 0} → (List ℕ → S → S → List ℕ → Type 0) → List ℕ → S → S → List ℕ
    → Next → Type 0
NeverEnds tell line old new said next = tell line old new said × (next ≡ Line)

-- lines are answered up to the first that ends the stream, including that one
pub record StreamEnds {S : Type 0} (tell : List ℕ → S → S → List ℕ → Next
    → Type 0) (old : S) (lines : List (List ℕ)) (new : S) (text : List ℕ) : Type 0 where
  pub firsts : List (List ℕ)
  pub last : List ℕ
  pub others : List (List ℕ)
  pub are : lines ≡ firsts ++ last ∷ others
  pub mid : S
  pub said : List ℕ
  pub told : LinesTell (GoesOn tell) old firsts mid said
  pub more : List ℕ
  pub told_last : tell last mid new more End
  pub is : text ≡ said ++ more

-- The answers of a stream's lines: of all of them, if none ends it, or of those up to the first
-- that does.
abbrev pub StreamTells : {S : Type 0} → (List ℕ → S → S → List ℕ → Next → Type 0) → S
    → List (List ℕ) → S → List ℕ → Type 0
StreamTells tell old lines new text =
    LinesTell (GoesOn tell) old lines new text ⊎ StreamEnds tell old lines new text

-- what a writer took of a line's answer, and whether the stream goes on if it took all
abbrev pub TookLine : {E : Type 0} → Result Next E → Option (List ℕ) → Option (List ℕ) → List ℕ
    → Next → Type 0
TookLine result before after said next =
    Took result before after said × IfOk result (λ answered. answered ≡ next)

-- Lines were answered, none of them ended the stream, and all answers were written.
pub record Answered {S : Type 0} (tell : List ℕ → S → S → List ℕ → Next
    → Type 0) (old : S) (lines : List (List ℕ)) (new : S) (before after : Option (List ℕ)) : Type 0
  where
    pub said : List ℕ
    pub told : LinesTell (GoesOn tell) old lines new said
    pub written : Appends before after said

-- how a run stops at a line: the line ends the stream and its answer is written in full, or its
-- answer was not written in full
abbrev pub StopsAs : Stop → Next → List ℕ → Type 0
StopsAs Ended next left = (next ≡ End) × (left ≡ [])
StopsAs (Failed failed) next left = Unit {0}

-- Lines were answered, and the last one stopped the run. The answers of all but the last are
-- written in full, and of that of the last its front.
pub record Stopped {S : Type 0} (tell : List ℕ → S → S → List ℕ → Next
    → Type 0) (stop : Stop) (old : S) (lines : List (List ℕ)) (new : S)
    (before after : Option (List ℕ)) : Type 0 where
  pub firsts : List (List ℕ)
  pub last : List ℕ
  pub are : lines ≡ firsts ++ last ∷ []
  pub mid : S
  pub said : List ℕ
  pub told : LinesTell (GoesOn tell) old firsts mid said
  pub more : List ℕ
  pub next : Next
  pub told_last : tell last mid new more next
  pub front : List ℕ
  pub left : List ℕ
  pub parts : more ≡ front ++ left
  pub stops : StopsAs stop next left
  pub written : Appends before after (said ++ front)

-- the whole lines of what was read are answered
pub record RanSoFar {S : Type 0} (tell : List ℕ → S → S → List ℕ → Next
    → Type 0) (old new : S) (input left before after : Option (List ℕ)) : Type 0 where
  pub text : List ℕ
  pub read : Consumes input left text
  pub answered : Answered tell old (whole_lines_of text) new before after

-- the input was read to its end, and all its lines are answered
pub record RanToEnd {S : Type 0} (tell : List ℕ → S → S → List ℕ → Next
    → Type 0) (old new : S) (input left before after : Option (List ℕ)) : Type 0 where
  pub text : List ℕ
  pub read : Consumes input left text
  pub at_end : IsAtEnd left
  pub answered : Answered tell old (lines_of text) new before after

-- Lines from the start of the input are answered, and the last of them stopped the run. No read was
-- made after the one that ended this line: what was read before that one has fewer whole lines.
pub record RanToStop {S : Type 0} (tell : List ℕ → S → S → List ℕ → Next
    → Type 0) (stop : Stop) (old new : S) (input left before after : Option (List ℕ)) : Type 0 where
  pub lines : List (List ℕ)
  pub others : List (List ℕ)
  pub are_first : IfSome input (λ text. lines_of text ≡ lines ++ others)
  pub stopped : Stopped tell stop old lines new before after
  pub earlier : List ℕ
  pub latest : List ℕ
  pub read : Consumes input left (earlier ++ latest)
  pub at_once : length (whole_lines_of earlier) < length lines

-- all lines that the run has to answer are answered: those of the whole input, or those up to the
-- one that ends the stream
abbrev pub RanWell : {S : Type 0} → (List ℕ → S → S → List ℕ → Next → Type 0) → S → S
    → Option (List ℕ) → Option (List ℕ) → Option (List ℕ) → Option (List ℕ) → Type 0
RanWell tell old new input left before after =
    RanToEnd tell old new input left before after
    ⊎ RanToStop tell Ended old new input left before after

-- What holds when a run of at most so many reads has ended, by how it ended: for the states, and for
-- the known bytes of the reader and the writer, before and after. If a write failed, it was at a
-- line, or it was a flush after the whole lines of what was read, or after all lines that the run
-- has to answer. `TooManyTurns` means that all these reads were made.
abbrev pub RanWithin : {S T : Type 0} → ℕ → (List ℕ → S → S → List ℕ → Next → Type 0)
    → Result T ServeFault → S → S → Option (List ℕ) → Option (List ℕ) → Option (List ℕ)
    → Option (List ℕ) → Type 0
RanWithin reads tell (Ok done) old new input left before after =
    RanWell tell old new input left before after
RanWithin reads tell (Err (Read failed)) old new input left before after =
    RanSoFar tell old new input left before after
RanWithin reads tell (Err (Write failed)) old new input left before after =
    RanToStop tell (Failed failed) old new input left before after
    ⊎ (RanSoFar tell old new input left before after
    ⊎ RanWell tell old new input left before after)
RanWithin reads tell (Err (TooManyTurns turns)) old new input left before after =
    (run : RanSoFar tell old new input left before after) × (reads ≤ length run.text)
    × (turns.made ≡ reads)
RanWithin reads tell (Err (Memory refused)) old new input left before after =
    (new ≡ old) × (left ≡ input) × (after ≡ before)

-- what holds when a run has ended that makes at most `READ_LIMIT` reads
abbrev pub Ran : {S T : Type 0} → (List ℕ → S → S → List ℕ → Next → Type 0) → Result T ServeFault
    → S → S → Option (List ℕ) → Option (List ℕ) → Option (List ℕ) → Option (List ℕ) → Type 0
Ran tell result old new input left before after =
    RanWithin READ_LIMIT tell result old new input left before after

-- what a reader has left, with the text before it that was read of a line that has begun
abbrev pub with_begun : List ℕ → Option (List ℕ) → Option (List ℕ)
with_begun begun None = None
with_begun begun (Some input) = Some (begun ++ input)

-- the whole lines of what was read are answered, and of the line that has begun its bytes are held
pub record Rests {S : Type 0} (tell : List ℕ → S → S → List ℕ → Next
    → Type 0) (old new : S) (held : List ℕ) (input left before after : Option (List ℕ)) : Type 0
  where
    pub run : RanSoFar tell old new input left before after
    pub holds : held ≡ held_of (begun_of run.text)

-- What holds when a run has ended that may be gone on with, by how it ended: what `RanWithin` says,
-- and, where a read failed or all reads were made, what is held of the line that has begun. Out of
-- memory it never is.
abbrev pub RanOn : {S T : Type 0} → ℕ → (List ℕ → S → S → List ℕ → Next → Type 0)
    → Result T ServeFault → S → S → List ℕ → Option (List ℕ) → Option (List ℕ) → Option (List ℕ)
    → Option (List ℕ) → Type 0
RanOn reads tell (Ok done) old new held input left before after =
    RanWell tell old new input left before after
RanOn reads tell (Err (Read failed)) old new held input left before after =
    Rests tell old new held input left before after
RanOn reads tell (Err (Write failed)) old new held input left before after =
    RanToStop tell (Failed failed) old new input left before after
    ⊎ (RanSoFar tell old new input left before after
    ⊎ RanWell tell old new input left before after)
RanOn reads tell (Err (TooManyTurns turns)) old new held input left before after =
    (rests : Rests tell old new held input left before after) × (reads ≤ length rests.run.text)
    × (turns.made ≡ reads)
RanOn reads tell (Err (Memory refused)) old new held input left before after = ⊥

-- what holds if the run was out of memory
abbrev pub OnMemory : ServeFault → Type 0 → Type 0
OnMemory (Memory refused) stands = stands
OnMemory _ stands = Unit {0}

abbrev pub held_with : ℕ → List ℕ → List ℕ
held_with byte held = if nat_lt (length held) HELD then held ++ byte ∷ [] else held

-- a line with its line feed
abbrev pub fed : List ℕ → List ℕ
fed line = line ++ 10 ∷ []

-- the text is these pieces, each with a line feed after it, and then what is behind them
pub record ArePieces (text : List ℕ) (pieces : List (List ℕ)) (behind : List ℕ) : Type 0 where
  pub are : text ≡ flat_map fed pieces ++ behind
  pub whole : All IsLine pieces

-- Bytes were taken: the start of a line that was held already, and further bytes. The lines that
-- they end are answered, and the start of the next line is held.
pub record Passed {S : Type 0} (tell : List ℕ → S → S → List ℕ → Next
    → Type 0) (text : List ℕ) (old new : S) (held : List ℕ) (before after : Option (List ℕ)) : Type
    0 where
  pub pieces : List (List ℕ)
  pub begun : List ℕ
  pub are : ArePieces text pieces begun
  pub open_line : IsLine begun
  pub holds : held ≡ held_of begun
  pub answered : Answered tell old (map (strip_last 13) pieces) new before after

-- the same, up to a line that stopped the run
pub record PassedToStop {S : Type 0} (tell : List ℕ → S → S → List ℕ → Next
    → Type 0) (stop : Stop) (text : List ℕ) (old new : S) (before after : Option (List ℕ)) : Type 0
  where
    pub pieces : List (List ℕ)
    pub behind : List ℕ
    pub are : ArePieces text pieces behind
    pub stopped : Stopped tell stop old (map (strip_last 13) pieces) new before after

abbrev pub Passes : {S : Type 0} → (List ℕ → S → S → List ℕ → Next → Type 0)
    → Result (Unit {0}) Stop → List ℕ → S → S → List ℕ → Option (List ℕ) → Option (List ℕ) → Type 0
Passes tell (Ok u) text old new held before after = Passed tell text old new held before after
Passes tell (Err stop) text old new held before after =
    PassedToStop tell stop text old new before after

-- a line was answered, and it stopped the run
pub record StoppedAt {S : Type 0} (tell : List ℕ → S → S → List ℕ → Next
    → Type 0) (stop : Stop) (line : List ℕ) (old new : S) (before after : Option (List ℕ)) : Type 0
  where
    pub said : List ℕ
    pub next : Next
    pub told : tell line old new said next
    pub front : List ℕ
    pub left : List ℕ
    pub parts : said ≡ front ++ left
    pub stops : StopsAs stop next left
    pub written : Appends before after front

-- a line was answered, and the run goes on or stops
abbrev pub TookOne : {S : Type 0} → (List ℕ → S → S → List ℕ → Next → Type 0)
    → Result (Unit {0}) Stop → List ℕ → S → S → Option (List ℕ) → Option (List ℕ) → Type 0
TookOne tell (Ok u) line old new before after =
    (said : List ℕ) × Appends before after said × tell line old new said Line
TookOne tell (Err stop) line old new before after = StoppedAt tell stop line old new before after

-- the last lines were answered, or the last of them stopped the run
abbrev pub TookLast : {S : Type 0} → (List ℕ → S → S → List ℕ → Next → Type 0)
    → Result (Unit {0}) Stop → List (List ℕ) → S → S → Option (List ℕ) → Option (List ℕ) → Type 0
TookLast tell (Ok u) lines old new before after = Answered tell old lines new before after
TookLast tell (Err stop) lines old new before after = Stopped tell stop old lines new before after

-- everything was written before; the run ends well if the flush does
abbrev pub IsFlushed : {T : Type 0} → Result T ServeFault → Option (List ℕ) → Option (List ℕ)
    → Type 0
IsFlushed (Ok done) before after = Keeps before after
IsFlushed (Err (Write failed)) before after = Keeps before after
IsFlushed (Err _) before after = ⊥

-- a run ends after its last line: with that line's failed write, or with the result of a flush
abbrev pub Concludes : {T : Type 0} → Result (Unit {0}) Stop → Result T ServeFault → Option (List ℕ)
    → Option (List ℕ) → Type 0
Concludes (Ok u) result before after = IsFlushed result before after
Concludes (Err Ended) result before after = IsFlushed result before after
Concludes (Err (Failed failed)) result before after =
    (result ≡ Err (Write failed)) × Keeps before after
