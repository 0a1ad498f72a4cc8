-- The first line of some bytes, while a reader is read for a line.
use Rattle.std.proofs.Common.{◌≡◌, ◌≢◌, ℕ, ◌+◌, ◌-◌, ◌≤◌, ◌<◌, List, [], ◌∷◌, ◌++◌, length, get_or, take, drop, Option, sym, ap, subst, ◌∙◌, append_assoc, append-nil, length-append, length-take, take-append-drop, arith}
use Rattle.std.proofs.lemmas.List.{drop_all, drop-append-le, nil_from_length, take_all, take-append-le, take_more}
use Rattle.std.proofs.lemmas.List.Elements.{All-append, All-same}
use Rattle.std.specs.Io.KnownBytes.{Consumes}
use Rattle.line_streams.specs.Streams.{IsLine, fed}
use Rattle.client.specs.Lines.{BeginsWithLine, Gains}
use Rattle.client.specs.Turns.{Moves}
use Rattle.client.proofs.ByteLemmas.{consumes_then}

-- a line feed was found after bytes that have none
pub feed_found : (bytes : List ℕ) (at : ℕ) → at < length bytes → IsLine (take at bytes) → get_or bytes at 0 ≡ 10 → BeginsWithLine bytes (at + 1)
feed_found bytes at within whole is = record {
  line = take at bytes;
  behind = drop (at + 1) bytes;
  is_line = whole;
  are = sym (take-append-drop (at + 1) bytes) ∙ ap (λ (t : List ℕ). t ++ drop (at + 1) bytes) (take_more bytes at 0 within ∙ ap (λ (b : ℕ). take at bytes ++ b ∷ []) is);
  counted = omega (arith, length-take at bytes, within);
}

-- a line that begins before bytes that were searched
line_further : (seen : ℕ) (bytes : List ℕ) (at : ℕ) → seen ≤ length bytes → IsLine (take seen bytes) → BeginsWithLine (drop seen bytes) (at + 1) → BeginsWithLine bytes (seen + at + 1)
line_further seen bytes at within whole found = record {
  line = take seen bytes ++ found.line;
  behind = found.behind;
  is_line = All-append (λ b. b ≢ 10) (take seen bytes) found.line whole found.is_line;
  are = sym (take-append-drop seen bytes) ∙ ap (λ (t : List ℕ). take seen bytes ++ t) found.are
      ∙ sym (append_assoc (take seen bytes) (fed found.line) found.behind)
      ∙ ap (λ (t : List ℕ). t ++ found.behind) (sym (append_assoc (take seen bytes) found.line (10 ∷ [])));
  counted = omega (arith, length-append (take seen bytes) found.line, length-take seen bytes, within, found.counted);
}

-- neither part has a line feed
open_whole : (seen : ℕ) (bytes : List ℕ) → IsLine (take seen bytes) → IsLine (drop seen bytes) → IsLine bytes
open_whole seen bytes front rest =
    All-same (λ b. b ≢ 10) bytes (take seen bytes ++ drop seen bytes) (sym (take-append-drop seen bytes)) (All-append (λ b. b ≢ 10) (take seen bytes) (drop seen bytes) front rest)

pub open_same : (bytes more all : List ℕ) → all ≡ bytes ++ more → 0 ≡ length more → IsLine bytes → IsLine all
open_same bytes more all are none open_line =
    All-same (λ b. b ≢ 10) all bytes (are ∙ ap (λ (t : List ℕ). bytes ++ t) (nil_from_length more (sym none)) ∙ append-nil bytes) open_line

-- the bytes already searched, `seen`, stay in front
pub open_front : (bytes seen more all : List ℕ) → seen ≡ bytes → all ≡ bytes ++ more → IsLine bytes → IsLine (take (length seen) all)
open_front bytes seen more all is are open_line =
    All-same (λ b. b ≢ 10) (take (length seen) all) bytes
    (ap (λ (t : List ℕ). take (length t) all) is ∙ ap (take (length bytes)) are ∙ take-append-le (length bytes) bytes more (omega arith) ∙ take_all (length bytes) bytes (omega arith)) open_line

pub grown : (bytes seen more all : List ℕ) → seen ≡ bytes → all ≡ bytes ++ more → length seen ≤ length all
grown bytes seen more all is are = omega (arith, ap (λ (t : List ℕ). length t) is, ap (λ (t : List ℕ). length t) are, length-append bytes more)

-- more was read
pub gains_then : (old mid new : List ℕ) (a b c : Option (List ℕ)) (more : List ℕ) → Gains old mid a b → new ≡ mid ++ more → Consumes b c more → Gains old new a c
gains_then old mid new a b c more first are read =
    (first.0 ++ more, are ∙ ap (λ (t : List ℕ). t ++ more) first.1 ∙ append_assoc old first.0 more, consumes_then a b c first.0 more first.2 read)

-- the same for the held bytes
pub line_found : (seen : ℕ) (bytes rest : List ℕ) (at : ℕ) → seen ≤ length bytes → IsLine (take seen bytes) → rest ≡ drop seen bytes → BeginsWithLine rest (at + 1) → BeginsWithLine bytes (seen + at + 1)
line_found seen bytes rest at within whole are found = line_further seen bytes at within whole (subst (λ (t : List ℕ). BeginsWithLine t (at + 1)) are found)

pub none_found : (seen : ℕ) (bytes rest : List ℕ) → IsLine (take seen bytes) → rest ≡ drop seen bytes → IsLine rest → IsLine bytes
none_found seen bytes rest front are open_line = open_whole seen bytes front (subst IsLine are open_line)

pub still_open : (bytes all : List ℕ) → all ≡ bytes → IsLine bytes → IsLine all
still_open bytes all are open_line = subst IsLine (sym are) open_line

-- a line is taken from bytes that begin with it
pub line_taken : (bytes : List ℕ) (count : ℕ) (found : BeginsWithLine bytes count) → take count bytes ≡ fed found.line
line_taken bytes count found =
    ap (take count) found.are ∙ take-append-le count (fed found.line) found.behind (omega (arith, found.counted, length-append found.line (10 ∷ [])))
    ∙ take_all count (fed found.line) (omega (arith, found.counted, length-append found.line (10 ∷ [])))

pub line_left : (bytes : List ℕ) (count : ℕ) (found : BeginsWithLine bytes count) → drop count bytes ≡ found.behind
line_left bytes count found =
    ap (drop count) found.are ∙ drop-append-le count (fed found.line) found.behind (omega (arith, found.counted, length-append found.line (10 ∷ [])))
    ∙ ap (λ (t : List ℕ). t ++ found.behind) (drop_all count (fed found.line) (omega (arith, found.counted, length-append found.line (10 ∷ []))))

-- the line that was found is used
pub line_moved : (old mid new : List ℕ) (a b : Option (List ℕ)) (count : ℕ) → Gains old mid a b → (found : BeginsWithLine mid count) → new ≡ drop count mid → Moves old new a b (fed found.line)
line_moved old mid new a b count gains found is =
    (gains.0, gains.2, sym gains.1 ∙ found.are ∙ ap (λ (t : List ℕ). fed found.line ++ t) (sym (line_left mid count found) ∙ sym is))

-- none of the bytes read is used
pub none_moved : (old new : List ℕ) (a b : Option (List ℕ)) → Gains old new a b → Moves old new a b []
none_moved old new a b gains = (gains.0, gains.2, sym gains.1)

-- a line without its line feed, at the front of some bytes
pub line_head : (bytes line head : List ℕ) (count : ℕ) (found : BeginsWithLine bytes count) → line ≡ take count bytes → head ≡ take (count - 1) line → head ≡ found.line
line_head bytes line head count found whole front =
    front ∙ ap (take (count - 1)) (whole ∙ line_taken bytes count found)
    ∙ take-append-le (count - 1) found.line (10 ∷ []) (omega (arith, found.counted)) ∙ take_all (count - 1) found.line (omega (arith, found.counted))

-- part of a line was written
pub line_part : (bytes line front left : List ℕ) (count : ℕ) → line ≡ take count bytes → line ≡ front ++ left → bytes ≡ front ++ (left ++ drop count bytes)
line_part bytes line front left count whole parts =
    sym (take-append-drop count bytes) ∙ ap (λ (t : List ℕ). t ++ drop count bytes) (sym whole ∙ parts) ∙ append_assoc front left (drop count bytes)
