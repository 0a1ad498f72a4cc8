-- The lines of a text, its pieces, and what is held of a line.
use Rattle.std.proofs.Common.{◌≡◌, ◌≢◌, ℕ, zero, suc, ◌+◌, ◌-◌, ◌≤◌, ◌<◌, Bool, true, false, List, [], ◌∷◌, ◌++◌, length, map, take, if◌then◌else◌, refl, sym, ap, ◌∙◌, append_assoc, append-nil, length-append, length-take, arith, inl, inr, le-ltb}
use Rattle.std.specs.Io.BufRead.{strip_last, ends_with_byte}
use Rattle.std.specs.List.{All, slice_split, flat_map}
use Rattle.std.proofs.lemmas.Bool.{lt-ltb, ne_eqb, cases_lt}
use Rattle.std.proofs.lemmas.Grind.{flat_map-append}
use Rattle.std.proofs.lemmas.List.{nil_from_length, take_all, take-append-le}
use Rattle.std.proofs.lemmas.List.Elements.{All-append}
use Rattle.std.proofs.lemmas.List.Splits.{slice_split_at, slice_split_none, length-slice_split}
use Rattle.line_streams.specs.declared.streams.TheConstants.{HELD, LINE_LIMIT}
use Rattle.line_streams.specs.Lines.{begun_of, is_feed, is_too_long, ended, last_of, lines_of, whole_ended, whole_lines_of}
use Rattle.line_streams.specs.Streams.{IsLine, held_of, held_with, fed, ArePieces}

no_feed : (line : List ℕ) → IsLine line → All (λ b. is_feed b ≡ false) line
no_feed line whole k d within = ne_eqb _ _ (whole k d within)

some_piece : (text : List ℕ) → 1 ≤ length (slice_split is_feed text)
some_piece text = omega (arith, length-slice_split is_feed text)

-- ---- lines of a text

ended_more : (piece : List ℕ) (pieces : List (List ℕ)) → 1 ≤ length pieces → ended (piece ∷ pieces) ≡ strip_last 13 piece ∷ ended pieces
ended_more piece [] some = absurd (omega arith)
ended_more piece (next ∷ pieces) some = refl

whole_ended_more : (piece : List ℕ) (pieces : List (List ℕ)) → 1 ≤ length pieces → whole_ended (piece ∷ pieces) ≡ strip_last 13 piece ∷ whole_ended pieces
whole_ended_more piece [] some = absurd (omega arith)
whole_ended_more piece (next ∷ pieces) some = refl

-- a line ends at its line feed
lines_of-feed : (line rest : List ℕ) → IsLine line → lines_of (line ++ 10 ∷ rest) ≡ strip_last 13 line ∷ lines_of rest
unfolding lines_of
lines_of-feed line rest whole =
    ap ended (slice_split_at is_feed line 10 rest (no_feed line whole) refl) ∙ ended_more line (slice_split is_feed rest) (some_piece rest)

whole_lines_of-feed : (line rest : List ℕ) → IsLine line → whole_lines_of (line ++ 10 ∷ rest) ≡ strip_last 13 line ∷ whole_lines_of rest
unfolding whole_lines_of
whole_lines_of-feed line rest whole =
    ap whole_ended (slice_split_at is_feed line 10 rest (no_feed line whole) refl) ∙ whole_ended_more line (slice_split is_feed rest) (some_piece rest)

whole_lines_of-line : (line : List ℕ) → IsLine line → whole_lines_of line ≡ []
unfolding whole_lines_of
whole_lines_of-line line whole = ap whole_ended (slice_split_none is_feed line (no_feed line whole))

last_of_more : (piece : List ℕ) (pieces : List (List ℕ)) → 1 ≤ length pieces → last_of (piece ∷ pieces) ≡ last_of pieces
last_of_more piece [] some = absurd (omega arith)
last_of_more piece (next ∷ pieces) some = refl

-- no line has begun behind a line feed
begun_of-feed : (line rest : List ℕ) → IsLine line → begun_of (line ++ 10 ∷ rest) ≡ begun_of rest
unfolding begun_of
begun_of-feed line rest whole =
    ap last_of (slice_split_at is_feed line 10 rest (no_feed line whole) refl) ∙ last_of_more line (slice_split is_feed rest) (some_piece rest)

begun_of-line : (line : List ℕ) → IsLine line → begun_of line ≡ line
unfolding begun_of
begun_of-line line whole = ap last_of (slice_split_none is_feed line (no_feed line whole))

later : (piece : List ℕ) (pieces : List (List ℕ)) → All IsLine (piece ∷ pieces) → All IsLine pieces
later piece pieces whole k d within = whole (suc k) d (omega arith)

first : (piece : List ℕ) (pieces : List (List ℕ)) → All IsLine (piece ∷ pieces) → IsLine piece
first piece pieces whole = whole 0 piece (omega arith)

fed_onto : (piece rest behind : List ℕ) → (fed piece ++ rest) ++ behind ≡ piece ++ 10 ∷ (rest ++ behind)
fed_onto piece rest behind = append_assoc (fed piece) rest behind ∙ append_assoc piece (10 ∷ []) (rest ++ behind)

pub lines_of-pieces : (pieces : List (List ℕ)) (behind : List ℕ) → All IsLine pieces → lines_of (flat_map fed pieces ++ behind) ≡ map (strip_last 13) pieces ++ lines_of behind
lines_of-pieces [] behind whole = refl
lines_of-pieces (piece ∷ pieces) behind whole =
    ap lines_of (fed_onto piece (flat_map fed pieces) behind) ∙ lines_of-feed piece (flat_map fed pieces ++ behind) (first piece pieces whole)
    ∙ ap (λ (lines : List (List ℕ)). strip_last 13 piece ∷ lines) (lines_of-pieces pieces behind (later piece pieces whole))

pub whole_lines_of-then : (pieces : List (List ℕ)) (rest : List ℕ) → All IsLine pieces → whole_lines_of (flat_map fed pieces ++ rest) ≡ map (strip_last 13) pieces ++ whole_lines_of rest
whole_lines_of-then [] rest whole = refl
whole_lines_of-then (piece ∷ pieces) rest whole =
    ap whole_lines_of (fed_onto piece (flat_map fed pieces) rest) ∙ whole_lines_of-feed piece (flat_map fed pieces ++ rest) (first piece pieces whole)
    ∙ ap (λ (lines : List (List ℕ)). strip_last 13 piece ∷ lines) (whole_lines_of-then pieces rest (later piece pieces whole))

pub whole_lines_of-pieces : (pieces : List (List ℕ)) (behind : List ℕ) → All IsLine pieces → IsLine behind → whole_lines_of (flat_map fed pieces ++ behind) ≡ map (strip_last 13) pieces
whole_lines_of-pieces pieces behind whole open_line =
    whole_lines_of-then pieces behind whole ∙ ap (λ (lines : List (List ℕ)). map (strip_last 13) pieces ++ lines) (whole_lines_of-line behind open_line) ∙ append-nil _

pub begun_of-then : (pieces : List (List ℕ)) (rest : List ℕ) → All IsLine pieces → begun_of (flat_map fed pieces ++ rest) ≡ begun_of rest
begun_of-then [] rest whole = refl
begun_of-then (piece ∷ pieces) rest whole =
    ap begun_of (fed_onto piece (flat_map fed pieces) rest) ∙ begun_of-feed piece (flat_map fed pieces ++ rest) (first piece pieces whole)
    ∙ begun_of-then pieces rest (later piece pieces whole)

pub begun_of-pieces : (pieces : List (List ℕ)) (behind : List ℕ) → All IsLine pieces → IsLine behind → begun_of (flat_map fed pieces ++ behind) ≡ behind
begun_of-pieces pieces behind whole open_line = begun_of-then pieces behind whole ∙ begun_of-line behind open_line

-- ---- pieces of a text

-- a text and further bytes: the pieces of the text, then those of its rest with the bytes
pub pieces_then : (text bytes begun behind : List ℕ) (xs ys : List (List ℕ)) → ArePieces text xs begun → ArePieces (begun ++ bytes) ys behind → ArePieces (text ++ bytes) (xs ++ ys) behind
pieces_then text bytes begun behind xs ys front rest = record {
  are = rw (front.are, flat_map-append fed xs ys, append_assoc (flat_map fed xs) begun bytes, rest.are) (sym (append_assoc (flat_map fed xs) (flat_map fed ys) behind));
  whole = All-append IsLine xs ys front.whole rest.whole;
}

-- further bytes that end no piece
pub pieces_behind : (text behind rest front bytes : List ℕ) (xs : List (List ℕ)) → ArePieces text xs behind → text ≡ front ++ bytes → ArePieces (front ++ (bytes ++ rest)) xs (behind ++ rest)
pieces_behind text behind rest front bytes xs all parts = record {
  are = sym (append_assoc front bytes rest) ∙ ap (λ (t : List ℕ). t ++ rest) (sym parts ∙ all.are) ∙ append_assoc (flat_map fed xs) behind rest;
  whole = all.whole;
}

pub no_pieces : (text : List ℕ) → ArePieces text [] text
no_pieces text = record { are = refl; whole = λ k d within. absurd (omega (arith, within)) }

pub one_piece : (line : List ℕ) → IsLine line → ArePieces (line ++ 10 ∷ []) (line ∷ []) []
one_piece line whole = record { are = sym (append-nil (fed line ++ []) ∙ append-nil (fed line)); whole = only }
  where
    only : All IsLine (line ∷ [])
    only zero d within = whole
    only (suc k) d within = absurd (omega (arith, within))

-- ---- what is held of a line

pub no_line : IsLine []
no_line k d within = absurd (omega (arith, within))

pub still_line : (begun : List ℕ) (byte : ℕ) → IsLine begun → byte ≢ 10 → IsLine (begun ++ byte ∷ [])
still_line begun byte whole other = All-append (λ b. b ≢ 10) begun (byte ∷ []) whole only
  where
    only : IsLine (byte ∷ [])
    only zero d within = other
    only (suc k) d within = absurd (omega (arith, within))

strip_length : (v : Bool) (line : List ℕ) → length line ≤ length (if v then take (length line - 1) line else line) + 1
strip_length true line = omega (arith, length-take (length line - 1) line)
strip_length false line = omega arith

pub stripped_long : (line : List ℕ) → HELD ≤ length line → is_too_long (strip_last 13 line) ≡ true
stripped_long line long = lt-ltb LINE_LIMIT _ (omega (arith, long, strip_length (ends_with_byte 13 line) line))

pub held_length : (begun : List ℕ) → HELD ≤ length begun → HELD ≤ length (held_of begun)
held_length begun long = omega (arith, long, length-take HELD begun)

pub lines_of-none : lines_of [] ≡ []
unfolding lines_of
lines_of-none = refl

one_line : (line : List ℕ) → 0 < length line → ended (line ∷ []) ≡ line ∷ []
one_line [] some = absurd (omega arith)
one_line (b ∷ line) some = refl

pub lines_of-line : (line : List ℕ) → IsLine line → 0 < length line → lines_of line ≡ line ∷ []
unfolding lines_of
lines_of-line line whole some = ap ended (slice_split_none is_feed line (no_feed line whole)) ∙ one_line line some

pub held_some : (begun held : List ℕ) → held ≡ held_of begun → 0 < length held → 0 < length begun
held_some begun held holds some = omega (arith, ap (λ (xs : List ℕ). length xs) holds, some, length-take HELD begun)

pub held_none : (begun held : List ℕ) → held ≡ held_of begun → held ≡ [] → begun ≡ []
held_none begun held holds none = nil_from_length begun (omega (arith, ap (λ (xs : List ℕ). length xs) holds, ap (λ (xs : List ℕ). length xs) none, length-take HELD begun))

-- bytes that are no more than are held, and no line feed, are the start of a line
pub some_start : (begun held : List ℕ) → begun ≡ held → length begun ≤ HELD → IsLine begun → (start : List ℕ) × IsLine start × (held ≡ held_of start)
some_start begun held is short whole = (begun, whole, sym is ∙ sym (take_all HELD begun short))

pub held_more : (begun : List ℕ) (byte : ℕ) → held_with byte (held_of begun) ≡ held_of (begun ++ byte ∷ [])
held_more begun byte = elim (cases_lt (length begun) HELD) [
  | inl short ↦ rw (take_all HELD begun (omega (arith, short)), lt-ltb (length begun) HELD short, take_all HELD (begun ++ byte ∷ []) (omega (arith, short, length-append begun (byte ∷ [])))) refl
  | inr long ↦ rw (le-ltb (length (held_of begun)) HELD (held_length begun long), take-append-le HELD begun (byte ∷ []) long) refl
]
