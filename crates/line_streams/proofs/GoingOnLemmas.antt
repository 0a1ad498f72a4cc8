-- A run that was broken off and is gone on with is one run.
use Rattle.std.proofs.Common.{◌≡◌, ◌≢◌, ℕ, zero, suc, ◌+◌, Bool, true, false, List, [], ◌∷◌, ◌++◌, map, Option, None, Some, Result, Ok, Err, refl, sym, ap, subst, ◌∙◌, append_assoc, length-append, arith, inl, inr}
use Rattle.std.specs.Io.BufRead.{strip_last}
use Rattle.std.specs.List.{All, flat_map}
use Rattle.std.specs.Option.{IfSome}
use Rattle.std.specs.Io.KnownBytes.{Consumes}
use Rattle.std.proofs.lemmas.Bool.{eqb-true, eqb-false}
use Rattle.line_streams.specs.declared.streams.ServeFault.{ServeFault}
use Rattle.line_streams.specs.declared.streams.ServeFault.TheVariants.{Read, Write, TooManyTurns, Memory}
use Rattle.line_streams.specs.declared.streams.Next.{Next}
use Rattle.line_streams.specs.declared.streams.Stop.{Stop}
use Rattle.line_streams.specs.declared.streams.Stop.TheVariants.{Ended, Failed}
use Rattle.line_streams.specs.Lines.{begun_of, is_feed, lines_of, whole_lines_of}
use Rattle.line_streams.specs.Streams.{Answered, ArePieces, IsLine, RanOn, RanSoFar, RanToStop, RanWell, Rests, fed, held_of, with_begun}
use Rattle.line_streams.proofs.LineLemmas.{begun_of-pieces, begun_of-then, lines_of-pieces, no_line, no_pieces, whole_lines_of-pieces, whole_lines_of-then}
use Rattle.line_streams.proofs.StreamLemmas.{answered_then, stopped_then}

-- ---- a text is whole pieces and a line that has begun

-- a text, as its pieces and the line that has begun
record Parts (text : List ℕ) : Type 0 where
  pieces : List (List ℕ)
  behind : List ℕ
  are : ArePieces text pieces behind
  open_line : IsLine behind

onto_line : (b : ℕ) (line : List ℕ) → b ≢ 10 → IsLine line → IsLine (b ∷ line)
onto_line b line other whole zero d within = other
onto_line b line other whole (suc k) d within = whole k d (omega (arith, within))

onto_whole : (piece : List ℕ) (pieces : List (List ℕ)) → IsLine piece → All IsLine pieces → All IsLine (piece ∷ pieces)
onto_whole piece pieces whole others zero d within = whole
onto_whole piece pieces whole others (suc k) d within = others k d (omega (arith, within))

-- a byte before a text
byte_onto : (b : ℕ) (text : List ℕ) (v : Bool) → is_feed b ≡ v → Parts text → Parts (b ∷ text)
byte_onto b text true is parts = record {
  pieces = [] ∷ parts.pieces;
  behind = parts.behind;
  are = record {
    are = ap (λ (n : ℕ). n ∷ text) (eqb-true b 10 is) ∙ ap (λ (t : List ℕ). 10 ∷ t) parts.are.are;
    whole = onto_whole [] parts.pieces no_line parts.are.whole;
  };
  open_line = parts.open_line;
}
byte_onto b text false is parts = go parts.pieces parts.are
  where
    go : (pieces : List (List ℕ)) → ArePieces text pieces parts.behind → Parts (b ∷ text)
    go [] are = record {
      pieces = [];
      behind = b ∷ parts.behind;
      are = record { are = ap (λ (t : List ℕ). b ∷ t) are.are; whole = are.whole };
      open_line = onto_line b parts.behind (eqb-false b 10 is) parts.open_line;
    }
    go (piece ∷ pieces) are = record {
      pieces = (b ∷ piece) ∷ pieces;
      behind = parts.behind;
      are = record {
        are = ap (λ (t : List ℕ). b ∷ t) are.are;
        whole = onto_whole (b ∷ piece) pieces (onto_line b piece (eqb-false b 10 is) (are.whole 0 piece (omega arith))) (λ k d within. are.whole (suc k) d (omega (arith, within)));
      };
      open_line = parts.open_line;
    }

parts_of : (text : List ℕ) → Parts text
parts_of [] = record { pieces = []; behind = []; are = no_pieces []; open_line = no_line }
parts_of (b ∷ text) = byte_onto b text (is_feed b) refl (parts_of text)

-- the pieces of a text, and the line that has begun in it
pub record Begins (text : List ℕ) : Type 0 where
  pub pieces : List (List ℕ)
  pub are : text ≡ flat_map fed pieces ++ begun_of text
  pub whole : All IsLine pieces
  pub open_line : IsLine (begun_of text)

pub begins : (text : List ℕ) → Begins text
begins text =
    let parts = parts_of text in
    let is : begun_of text ≡ parts.behind = ap begun_of parts.are.are ∙ begun_of-pieces parts.pieces parts.behind parts.are.whole parts.open_line in
    record {
      pieces = parts.pieces;
      are = parts.are.are ∙ ap (λ (t : List ℕ). flat_map fed parts.pieces ++ t) (sym is);
      whole = parts.are.whole;
      open_line = subst IsLine (sym is) parts.open_line;
    }

pub begun_is_line : (text : List ℕ) → IsLine (begun_of text)
begun_is_line text = (begins text).open_line

-- ---- the last part of a run

-- behind the whole lines of a text, of which a line has begun
module _ (text : List ℕ) (front : Begins text) where
  abbrev firsts : List (List ℕ)
  firsts = map (strip_last 13) front.pieces

  -- the text of both parts, where `more` is that of the last, with the line that had begun
  abbrev both : List ℕ → List ℕ
  both more = flat_map fed front.pieces ++ more

  first_lines : whole_lines_of text ≡ firsts
  first_lines = ap whole_lines_of front.are ∙ whole_lines_of-pieces front.pieces (begun_of text) front.whole front.open_line

  onto_begun : (left : List ℕ) → text ++ left ≡ both (begun_of text ++ left)
  onto_begun left = ap (λ (t : List ℕ). t ++ left) front.are ∙ append_assoc (flat_map fed front.pieces) (begun_of text) left

  reads_on : (input left rest : Option (List ℕ)) (more : List ℕ) → Consumes input left text → Consumes (with_begun (begun_of text) left) rest more → Consumes input rest (both more)
  reads_on None left rest more first second = tt
  reads_on (Some input) None rest more first second = absurd first
  reads_on (Some input) (Some left) None more first second = absurd second
  reads_on (Some input) (Some left) (Some rest) more first second = first ∙ onto_begun left ∙ ap both second ∙ sym (append_assoc (flat_map fed front.pieces) more rest)

  lines_on : (input left : Option (List ℕ)) (lines others : List (List ℕ)) → Consumes input left text → IfSome (with_begun (begun_of text) left) (λ t. lines_of t ≡ lines ++ others)
      → IfSome input (λ t. lines_of t ≡ (firsts ++ lines) ++ others)
  lines_on None left lines others first second = tt
  lines_on (Some input) None lines others first second = absurd first
  lines_on (Some input) (Some left) lines others first second =
      ap lines_of (first ∙ onto_begun left) ∙ lines_of-pieces front.pieces (begun_of text ++ left) front.whole ∙ ap (λ (t : List (List ℕ)). firsts ++ t) second ∙ sym (append_assoc firsts lines others)

  module _ {S : Type 0} (tell : List ℕ → S → S → List ℕ → Next → Type 0) (old mid new : S) (input left rest a b c : Option (List ℕ)) (read : Consumes input left text)
      (answered : Answered tell old (whole_lines_of text) mid a b) where
    abbrev begun : Option (List ℕ)
    begun = with_begun (begun_of text) left

    so_far_on : RanSoFar tell mid new begun rest b c → RanSoFar tell old new input rest a c
    so_far_on run = record {
      text = both run.text;
      read = reads_on input left rest run.text read run.read;
      answered = rw (whole_lines_of-then front.pieces run.text front.whole) (answered_then tell old mid new firsts _ a b c (rw first_lines at answered) run.answered);
    }

    stop_on : (stop : Stop) → RanToStop tell stop mid new begun rest b c → RanToStop tell stop old new input rest a c
    stop_on stop run = record {
      lines = firsts ++ run.lines;
      others = run.others;
      are_first = lines_on input left run.lines run.others read run.are_first;
      stopped = stopped_then tell stop old mid new firsts run.lines a b c (rw first_lines at answered) run.stopped;
      earlier = both run.earlier;
      latest = run.latest;
      read = subst (λ (t : List ℕ). Consumes input rest t) (sym (append_assoc (flat_map fed front.pieces) run.earlier run.latest)) (reads_on input left rest (run.earlier ++ run.latest) read run.read);
      at_once = rw (whole_lines_of-then front.pieces run.earlier front.whole) (omega (arith, run.at_once, length-append firsts (whole_lines_of run.earlier), length-append firsts run.lines));
    }

    well_on : RanWell tell mid new begun rest b c → RanWell tell old new input rest a c
    well_on (inl run) = inl (record {
      text = both run.text;
      read = reads_on input left rest run.text read run.read;
      at_end = run.at_end;
      answered = rw (lines_of-pieces front.pieces run.text front.whole) (answered_then tell old mid new firsts _ a b c (rw first_lines at answered) run.answered);
    })
    well_on (inr run) = inr (stop_on Ended run)

    rests_on : (held : List ℕ) → Rests tell mid new held begun rest b c → Rests tell old new held input rest a c
    unfolding so_far_on
    rests_on held rests = record { run = so_far_on rests.run; holds = rests.holds ∙ ap held_of (sym (begun_of-then front.pieces rests.run.text front.whole)) }

    ran_on : {T : Type 0} (reads : ℕ) (r : Result T ServeFault) (held : List ℕ) → RanOn reads tell r mid new held begun rest b c → RanOn reads tell r old new held input rest a c
    unfolding so_far_on rests_on
    ran_on reads (Ok done) held run = well_on run
    ran_on reads (Err (Read failed)) held run = rests_on held run
    ran_on reads (Err (Write failed)) held (inl run) = inl (stop_on (Failed failed) run)
    ran_on reads (Err (Write failed)) held (inr (inl run)) = inr (inl (so_far_on run))
    ran_on reads (Err (Write failed)) held (inr (inr run)) = inr (inr (well_on run))
    ran_on reads (Err (TooManyTurns turns)) held run = (rests_on held run.0, omega (arith, run.1, length-append (flat_map fed front.pieces) run.0.run.text), run.2)
    ran_on reads (Err (Memory refused)) held run = absurd run

-- a run that is gone on with is one run
pub one_run : {S T : Type 0} (tell : List ℕ → S → S → List ℕ → Next → Type 0) (reads : ℕ) (r : Result T ServeFault) (old mid new : S) (held kept : List ℕ) (input left rest a b c : Option (List ℕ)) → (first : Rests tell old mid held input left a b)
    → RanOn reads tell r mid new kept (with_begun (begun_of first.run.text) left) rest b c → RanOn reads tell r old new kept input rest a c
one_run tell reads r old mid new held kept input left rest a b c first =
    ran_on first.run.text (begins first.run.text) tell old mid new input left rest a b c first.run.read first.run.answered reads r kept
