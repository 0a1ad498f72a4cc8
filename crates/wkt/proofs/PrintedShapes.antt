-- The printed text of a shape is read as that shape.
use Rattle.std.proofs.Common.{◌≡◌, ℕ, ◌+◌, true, false, List, [], ◌∷◌, ◌++◌, length, Ok, codes, flat_map, refl, sym, ap, ◌∙◌, append_assoc, append-nil, arith}
use Rattle.std.specs.Fmt.{signed_decimal}
use Rattle.std.specs.List.{AllByRecursion}
use Rattle.std.proofs.lemmas.List.Elements.{recursion_from_All}
use Rattle.std.proofs.lemmas.Grind.{flat_map-append}
use Rattle.plane.specs.declared.point.Point.{Point}
use Rattle.plane.specs.Canonical.{IsCanonical, point_of, segment_of, polygon_of}
use Rattle.plane.specs.Points.{IsInRange}
use Rattle.wkt.specs.Tokens.{tokens, tokens_from, is_word_byte, OPENING, CLOSING, COMMA}
use Rattle.wkt.specs.Reading.{pair_at, opening_at, mark_at, closing_at, is_more, more_at, ring_at, point_at, line_string_at, polygon_at, kind_of, keyword_at, shape_of, made}
use Rattle.wkt.specs.Printing.{pair_text, following_text, printed}
use Rattle.wkt.proofs.RingLemmas.{ring_more, ring_last}
use Rattle.wkt.proofs.PrintedNumbers.{number_read}
use Rattle.wkt.proofs.TokensLemmas.{tokens-space}

-- a printed pair is read as itself, whatever follows its second word
abbrev ReadsPair : ℕ → ℕ → Point → List ℕ → Type 0
ReadsPair end at p tail = (k : ℕ) × (pair_at end (tokens at (pair_text p ++ tail)) ≡ Ok (p, tokens k tail))

pair_read : (end at : ℕ) (p : Point) (b : ℕ) (rest : List ℕ) → IsInRange p → is_word_byte b ≡ false → ReadsPair end at p (b ∷ rest)
unfolding pair_at
pair_read end at p b rest h e =
    let behind = signed_decimal p.y ++ b ∷ rest in
    let bytes : pair_text p ++ b ∷ rest ≡ signed_decimal p.x ++ 32 ∷ behind = append_assoc (signed_decimal p.x ++ codes " ") (signed_decimal p.y) (b ∷ rest) ∙ append_assoc (signed_decimal p.x) (codes " ") behind in
    let x = number_read end at p.x 32 behind h.x_in_range refl in
    let next = at + length (signed_decimal p.x) in
    let y = number_read end (next + 1) p.y b rest h.y_in_range e in
    (next + 1 + length (signed_decimal p.y), rw (bytes, x, tokens-space next 32 behind refl, y) refl)

-- ---- the points of a ring

-- what follows the first pair of a printed ring
abbrev ring_tail : List Point → List ℕ
ring_tail ps = flat_map following_text ps ++ codes "))"

abbrev ReadsRing : ℕ → ℕ → Point → List Point → Type 0
ReadsRing end at p ps = (k : ℕ) × (ring_at end (tokens at (pair_text p ++ ring_tail ps)) ≡ Ok (p ∷ ps, tokens k (codes ")")))

more_read : (end at : ℕ) (tail : List ℕ) → more_at end (tokens at (44 ∷ 32 ∷ tail)) ≡ Ok (true, tokens (at + 1 + 1) tail)
unfolding more_at is_more tokens_from
more_read end at tail = refl

last_read : (end at : ℕ) → more_at end (tokens at (codes "))")) ≡ Ok (false, tokens (at + 1) (codes ")"))
unfolding more_at is_more tokens_from
last_read end at = refl

ring_read : (end at : ℕ) (p : Point) (ps : List Point) → IsInRange p → AllByRecursion IsInRange ps → ReadsRing end at p ps
ring_read end at p [] h hs =
    let pair = pair_read end at p 41 (codes ")") h refl in
    (pair.0 + 1, ring_last end p (tokens at (pair_text p ++ codes "))")) (tokens pair.0 (codes "))")) (tokens (pair.0 + 1) (codes ")")) pair.1 (last_read end pair.0))
ring_read end at p (q ∷ qs) h hs =
    let tail = (pair_text q ++ flat_map following_text qs) ++ codes "))" in
    let pair = pair_read end at p 44 (32 ∷ tail) h refl in
    let next = pair.0 + 1 + 1 in
    let rest = ring_read end next q qs hs.0 hs.1 in
    let same : tokens next tail ≡ tokens next (pair_text q ++ ring_tail qs) = ap (tokens next) (append_assoc (pair_text q) (flat_map following_text qs) (codes "))")) in
    (rest.0, ring_more end p (tokens at (pair_text p ++ 44 ∷ 32 ∷ tail)) (tokens pair.0 (44 ∷ 32 ∷ tail)) (tokens next tail) pair.1 (more_read end pair.0 tail) ∙ rw (same, rest.1) refl)

-- ---- the marks and the keywords

opening_read : (end at : ℕ) (tail : List ℕ) → opening_at end (tokens at (40 ∷ tail)) ≡ Ok (tokens (at + 1) tail)
unfolding opening_at tokens_from
opening_read end at tail = refl

mark_read : (end at : ℕ) (tail : List ℕ) → mark_at OPENING end (tokens at (40 ∷ tail)) ≡ Ok (tokens (at + 1) tail)
unfolding mark_at tokens_from
mark_read end at tail = refl

comma_read : (end at : ℕ) (tail : List ℕ) → mark_at COMMA end (tokens at (44 ∷ 32 ∷ tail)) ≡ Ok (tokens (at + 1 + 1) tail)
unfolding mark_at tokens_from
comma_read end at tail = refl

bracket_read : (end at : ℕ) → mark_at CLOSING end (tokens at (codes ")")) ≡ Ok []
unfolding mark_at tokens_from
bracket_read end at = refl

closing_read : (end at : ℕ) → closing_at end (tokens at (codes ")")) ≡ Ok []
unfolding closing_at tokens_from
closing_read end at = refl

point_word : (tail : List ℕ) → shape_of (codes "POINT " ++ tail) ≡ point_at (length (codes "POINT " ++ tail)) (tokens 6 tail)
unfolding shape_of keyword_at kind_of tokens_from
point_word tail = refl

line_string_word : (tail : List ℕ) → shape_of (codes "LINESTRING " ++ tail) ≡ line_string_at (length (codes "LINESTRING " ++ tail)) (tokens 11 tail)
unfolding shape_of keyword_at kind_of tokens_from
line_string_word tail = refl

polygon_word : (tail : List ℕ) → shape_of (codes "POLYGON " ++ tail) ≡ polygon_at (length (codes "POLYGON " ++ tail)) (tokens 8 tail)
unfolding shape_of keyword_at kind_of tokens_from
polygon_word tail = refl

-- ---- the three kinds

point_read : (end at : ℕ) (p : Point) → IsInRange p → point_at end (tokens at (40 ∷ (pair_text p ++ codes ")"))) ≡ made (point_of p)
unfolding point_at
point_read end at p h =
    let pair = pair_read end (at + 1) p 41 [] h refl in
    rw (opening_read, pair.1, bracket_read) refl

line_string_read : (end at : ℕ) (p q : Point) → IsInRange p → IsInRange q
    → line_string_at end (tokens at (40 ∷ (pair_text p ++ 44 ∷ 32 ∷ (pair_text q ++ codes ")")))) ≡ made (segment_of p q)
unfolding line_string_at
line_string_read end at p q h k =
    let first = pair_read end (at + 1) p 44 (32 ∷ (pair_text q ++ codes ")")) h refl in
    let next = pair_read end (first.0 + 1 + 1) q 41 [] k refl in
    rw (opening_read, first.1, comma_read, next.1, closing_read) refl

polygon_read : (end at : ℕ) (p : Point) (ps : List Point) → IsInRange p → AllByRecursion IsInRange ps
    → polygon_at end (tokens at (40 ∷ 40 ∷ (pair_text p ++ ring_tail ps))) ≡ made (polygon_of (p ∷ ps))
unfolding polygon_at
polygon_read end at p ps h hs =
    let ring = ring_read end (at + 1 + 1) p ps h hs in
    rw (opening_read, mark_read, ring.1, closing_read) refl

-- ---- the whole text

regroup : (a b c d : List ℕ) → a ++ b ++ c ++ d ≡ a ++ (b ++ (c ++ []) ++ d)
regroup a b c d = simp (append_assoc, append-nil)

-- a printed ring lists its corners, then the first one again
ring_text : (p : Point) (qs : List Point) → pair_text p ++ flat_map following_text qs ++ following_text p ++ codes "))" ≡ pair_text p ++ ring_tail (qs ++ p ∷ [])
ring_text p qs =
    regroup (pair_text p) (flat_map following_text qs) (following_text p) (codes "))")
    ∙ ap (λ (bs : List ℕ). pair_text p ++ (bs ++ codes "))")) (sym (flat_map-append following_text qs (p ∷ [])))

in_range_behind : (qs : List Point) (p : Point) → AllByRecursion IsInRange qs → IsInRange p → AllByRecursion IsInRange (qs ++ p ∷ [])
in_range_behind [] p hs h = (h, tt)
in_range_behind (q ∷ qs) p hs h = (hs.0, in_range_behind qs p hs.1 h)

pub printed_is_read : (corners : List Point) → IsCanonical corners → shape_of (printed corners) ≡ Ok corners
printed_is_read [] h = absurd (omega (arith, h.not_empty))
printed_is_read (p ∷ []) h =
    let inside = recursion_from_All IsInRange (p ∷ []) h.in_range in
    point_word (40 ∷ (pair_text p ++ codes ")")) ∙ point_read _ 6 p inside.0 ∙ ap made h.listed
printed_is_read (p ∷ q ∷ []) h =
    let inside = recursion_from_All IsInRange (p ∷ q ∷ []) h.in_range in
    let tail : pair_text p ++ following_text q ++ codes ")" ≡ pair_text p ++ 44 ∷ 32 ∷ (pair_text q ++ codes ")") = append_assoc (pair_text p) (following_text q) (codes ")") in
    line_string_word (40 ∷ (pair_text p ++ following_text q ++ codes ")"))
    ∙ ap (λ (bs : List ℕ). line_string_at (length (printed (p ∷ q ∷ []))) (tokens 11 (40 ∷ bs))) tail
    ∙ line_string_read _ 11 p q inside.0 inside.1.0 ∙ ap made h.listed
printed_is_read (p ∷ q ∷ r ∷ rest) h =
    let inside = recursion_from_All IsInRange (p ∷ q ∷ r ∷ rest) h.in_range in
    polygon_word (40 ∷ 40 ∷ (pair_text p ++ flat_map following_text (q ∷ r ∷ rest) ++ following_text p ++ codes "))"))
    ∙ ap (λ (bs : List ℕ). polygon_at (length (printed (p ∷ q ∷ r ∷ rest))) (tokens 8 (40 ∷ 40 ∷ bs))) (ring_text p (q ∷ r ∷ rest))
    ∙ polygon_read _ 8 p ((q ∷ r ∷ rest) ++ p ∷ []) inside.0 (in_range_behind (q ∷ r ∷ rest) p inside.1 inside.0)
    ∙ ap made h.listed
