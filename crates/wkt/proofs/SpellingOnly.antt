-- What spells a shape is read as that shape.
use Rattle.std.proofs.Common.{◌≡◌, ℕ, ◌≤◌, ◌<◌, Bool, true, false, map, List, [], ◌∷◌, ◌++◌, length, codes, bytes_eq, Result, Ok, ℤ, refl, sym, ap, subst, ◌∙◌, inl, inr, arith}
use Rattle.std.specs.Char.{to_ascii_lowercase, is_ascii_digit}
use Rattle.std.specs.Str.{all_ascii_digits}
use Rattle.std.proofs.lemmas.Slice.Eq.{bytes_eq-Decides}
use Rattle.std.proofs.lemmas.Bool.{and_parts}
use Rattle.std.proofs.lemmas.Bool.Decides.{nat_tests}
use Rattle.plane.specs.declared.point.Point.{Point}
use Rattle.plane.specs.Coordinates.{IsCoordinate}
use Rattle.wkt.specs.declared.fault.WktFault.{WktFault}
use Rattle.wkt.specs.declared.keyword.Kind.{Kind}
use Rattle.wkt.specs.declared.keyword.Kind.TheVariants as kinds
use Rattle.wkt.specs.Tokens.{Token, tokens, is_mark, OPENING, CLOSING, COMMA}
use Rattle.wkt.specs.Numbers.{coordinate_of}
use Rattle.wkt.specs.Reading.{◌>>=◌, with_front, is_the_mark, begins_with_mark, kind_of, keyword_at, opening_at, mark_at, closing_at, end_at, number_of_token, number_at, pair_at, is_more, more_at, ring_at, made, point_at, line_string_at, polygon_at, body_at, shape_of}
use Rattle.wkt.specs.Spelling.{Word, words, mark_word, SpellsSign, SpellsNumber, SpellsPair, SpellsPairs, Listed, one_point, two_points, ring, IsKeyword, SpellsPoint, SpellsLineString, SpellsRing, SpellsListed, canonical_of, Spells}
use Rattle.wkt.proofs.KeptLemmas.{ok_is}
use Rattle.wkt.proofs.NumberGrammar.{number_only}
use Rattle.wkt.proofs.PrintedNumbers.{coordinate_test}
use Rattle.wkt.proofs.RingLemmas.{ring_more, ring_last}

-- ---- the first word

record First (ts : List Token) (word : Word) (ws : List Word) : Type 0 where
  token : Token
  rest : List Token
  whole : ts ≡ token ∷ rest
  word_is : token.1 ≡ word
  rest_is : words rest ≡ ws

first_of : (ts : List Token) (word : Word) (ws : List Word) → words ts ≡ word ∷ ws → First ts word ws
first_of [] word ws h = absurd cc
first_of (t ∷ ts) word ws h = record { token = t; rest = ts; whole = refl; word_is = cc; rest_is = cc }

-- a field reads the front of the tokens as x, and leaves these words
abbrev Reads : {A : Type 0} → Result (A × List Token) WktFault → A → List Word → Type 0
Reads reading x ws = (rest : List Token) × (reading ≡ Ok (x, rest)) × (words rest ≡ ws)

-- the same for a field without a value
abbrev Passes : Result (List Token) WktFault → List Word → Type 0
Passes reading ws = (rest : List Token) × (reading ≡ Ok rest) × (words rest ≡ ws)

same_bytes : (xs ys : List ℕ) → xs ≡ ys → bytes_eq xs ys ≡ true
same_bytes xs ys h = (bytes_eq-Decides xs ys).1 h

-- ---- numbers and pairs

digit_is_no_mark : (d : ℕ) → is_ascii_digit d ≡ true → is_mark d ≡ false
digit_is_no_mark d h = grind (arith, nat_tests)

go-unmarked : (sign digits fraction : List ℕ) (negative : Bool) → SpellsSign sign negative → all_ascii_digits digits ≡ true → 0 < length digits → begins_with_mark (sign ++ (digits ++ fraction)) ≡ false
go-unmarked [] [] fraction negative s h lt = absurd (omega arith)
go-unmarked [] (d ∷ ds) fraction negative s h lt = digit_is_no_mark d (and_parts (is_ascii_digit d) (all_ascii_digits ds) h).0
go-unmarked (b ∷ []) digits fraction negative (inl s) h lt = rw s.0 refl
go-unmarked (b ∷ []) digits fraction negative (inr s) h lt = rw s.0 refl
go-unmarked (b ∷ c ∷ bs) digits fraction negative s h lt = absurd s

number_is_unmarked : (word : Word) (z : ℤ) → SpellsNumber word z → begins_with_mark word ≡ false
number_is_unmarked word z h = ap begins_with_mark h.whole ∙ go-unmarked h.sign h.digits h.fraction h.negative h.sign_is h.are_digits h.some_digit

go-token : (at : ℕ) (word : Word) (z : ℤ) → SpellsNumber word z → IsCoordinate z → number_of_token (at, word) ≡ Ok z
unfolding number_of_token coordinate_of
go-token at word z h inside = rw (number_is_unmarked word z h, number_only word z h, coordinate_test z inside) refl

token_only : (t : Token) (word : Word) (z : ℤ) → t.1 ≡ word → SpellsNumber word z → IsCoordinate z → number_of_token t ≡ Ok z
token_only t word z e h inside = ap (λ (w : Word). number_of_token (t.0, w)) e ∙ go-token t.0 word z h inside

number_at_only : (end : ℕ) (ts : List Token) (word : Word) (z : ℤ) (ws : List Word) → words ts ≡ word ∷ ws → SpellsNumber word z → IsCoordinate z → Reads (number_at end ts) z ws
unfolding number_at
number_at_only end ts word z ws h spelled inside =
    let first = first_of ts word ws h in
    (first.rest, ap (number_at end) first.whole ∙ rw (token_only first.token word z first.word_is spelled inside) refl, first.rest_is)

pair_only : (end : ℕ) (ts : List Token) (x y : Word) (p : Point) (ws : List Word) → words ts ≡ x ∷ y ∷ ws → SpellsPair x y p → Reads (pair_at end ts) p ws
unfolding pair_at
pair_only end ts x y p ws h pair =
    let first = number_at_only end ts x p.x (y ∷ ws) h pair.x_is pair.in_range.x_in_range in
    let next = number_at_only end first.0 y p.y ws first.2 pair.y_is pair.in_range.y_in_range in
    (next.0, rw (first.1, next.1) refl, next.2)

-- ---- marks

the_mark : (b : ℕ) (word : Word) → word ≡ mark_word b → is_the_mark b word ≡ true
the_mark b word e = same_bytes word (b ∷ []) e

opening_only : (end : ℕ) (ts : List Token) (ws : List Word) → words ts ≡ mark_word OPENING ∷ ws → Passes (opening_at end ts) ws
unfolding opening_at
opening_only end ts ws h =
    let first = first_of ts (mark_word OPENING) ws h in
    (first.rest, ap (opening_at end) first.whole ∙ rw (the_mark OPENING first.token.1 first.word_is) refl, first.rest_is)

closing_only : (end : ℕ) (ts : List Token) (ws : List Word) → words ts ≡ mark_word CLOSING ∷ ws → Passes (closing_at end ts) ws
unfolding closing_at
closing_only end ts ws h =
    let first = first_of ts (mark_word CLOSING) ws h in
    (first.rest, ap (closing_at end) first.whole ∙ rw (the_mark CLOSING first.token.1 first.word_is) refl, first.rest_is)

mark_only : (b end : ℕ) (ts : List Token) (ws : List Word) → words ts ≡ mark_word b ∷ ws → Passes (mark_at b end ts) ws
unfolding mark_at
mark_only b end ts ws h =
    let first = first_of ts (mark_word b) ws h in
    (first.rest, ap (mark_at b end) first.whole ∙ rw (the_mark b first.token.1 first.word_is) refl, first.rest_is)

end_only : (ts : List Token) → words ts ≡ [] → end_at ts ≡ Ok tt
end_only [] h = refl
end_only (t ∷ ts) h = absurd cc

comma_only : (end : ℕ) (ts : List Token) (ws : List Word) → words ts ≡ mark_word COMMA ∷ ws → Reads (more_at end ts) true ws
unfolding more_at is_more
comma_only end ts ws h =
    let first = first_of ts (mark_word COMMA) ws h in
    (first.rest, ap (more_at end) first.whole ∙ rw first.word_is refl, first.rest_is)

last_only : (end : ℕ) (ts : List Token) (ws : List Word) → words ts ≡ mark_word CLOSING ∷ ws → Reads (more_at end ts) false ws
unfolding more_at is_more
last_only end ts ws h =
    let first = first_of ts (mark_word CLOSING) ws h in
    (first.rest, ap (more_at end) first.whole ∙ rw first.word_is refl, first.rest_is)

-- ---- rings

ring_only : (end : ℕ) (ts : List Token) (pairs : List Word) (ps : List Point) (ws : List Word) → words ts ≡ pairs ++ mark_word CLOSING ∷ ws → SpellsPairs pairs ps → Reads (ring_at end ts) ps ws
ring_only end ts pairs [] ws h spelled = absurd spelled
ring_only end ts pairs (p ∷ []) ws h (x, y, whole, pair) =
    let one = pair_only end ts x y p (mark_word CLOSING ∷ ws) (h ∙ ap (λ (front : List Word). front ++ mark_word CLOSING ∷ ws) whole) pair in
    let last = last_only end one.0 ws one.2 in
    (last.0, ring_last end p ts one.0 last.0 one.1 last.1, last.2)
ring_only end ts pairs (p ∷ q ∷ qs) ws h (x, y, more, whole, pair, others) =
    let one = pair_only end ts x y p (mark_word COMMA ∷ (more ++ mark_word CLOSING ∷ ws)) (h ∙ ap (λ (front : List Word). front ++ mark_word CLOSING ∷ ws) whole) pair in
    let comma = comma_only end one.0 (more ++ mark_word CLOSING ∷ ws) one.2 in
    let rest = ring_only end comma.0 more (q ∷ qs) ws comma.2 others in
    (rest.0, ring_more end p ts one.0 comma.0 one.1 comma.1 ∙ ap (with_front p) rest.1, rest.2)

-- ---- keywords

first_is_no_mark : (b c : ℕ) → to_ascii_lowercase b ≡ c → 97 ≤ c → is_mark b ≡ false
first_is_no_mark b c h le = grind (arith, nat_tests)

-- a keyword does not begin with a mark
keyword_is_unmarked : (word : Word) (c : ℕ) (cs : List ℕ) → 97 ≤ c → map to_ascii_lowercase word ≡ c ∷ cs → begins_with_mark word ≡ false
keyword_is_unmarked [] c cs le h = refl
keyword_is_unmarked (b ∷ bs) c cs le h = first_is_no_mark b c (cc) le

abbrev keyword_of : Kind → List ℕ
keyword_of kinds.Point = codes "POINT"
keyword_of kinds.LineString = codes "LINESTRING"
keyword_of kinds.Polygon = codes "POLYGON"

kind_only : (t : Token) (kind : Kind) → IsKeyword (keyword_of kind) t.1 → kind_of t ≡ Ok kind
unfolding kind_of
kind_only t kinds.Point h = rw h refl
kind_only t kinds.LineString h = rw h refl
kind_only t kinds.Polygon h = rw h refl

unmarked : (word : Word) (kind : Kind) → IsKeyword (keyword_of kind) word → begins_with_mark word ≡ false
unmarked word kinds.Point h = keyword_is_unmarked word _ _ (omega arith) h
unmarked word kinds.LineString h = keyword_is_unmarked word _ _ (omega arith) h
unmarked word kinds.Polygon h = keyword_is_unmarked word _ _ (omega arith) h

keyword_only : (end : ℕ) (ts : List Token) (word : Word) (kind : Kind) (ws : List Word) → words ts ≡ word ∷ ws → IsKeyword (keyword_of kind) word → Reads (keyword_at end ts) kind ws
unfolding keyword_at
keyword_only end ts word kind ws h is =
    let first = first_of ts word ws h in
    let here = subst (IsKeyword (keyword_of kind)) (sym first.word_is) is in
    (first.rest, ap (keyword_at end) first.whole ∙ rw (unmarked first.token.1 kind here, kind_only first.token kind here) refl, first.rest_is)

-- ---- the three kinds

abbrev pub IsRead : ℕ → List Token → Listed → Type 0
IsRead end ts listed = (keyword_at end ts >>= λ k. body_at k.0 end k.1) ≡ made (canonical_of listed)

point_only : (end : ℕ) (ts : List Token) (p : Point) → SpellsPoint (words ts) p → IsRead end ts (one_point p)
unfolding point_at
point_only end ts p h =
    let keyword = keyword_only end ts h.keyword kinds.Point _ h.whole h.is_keyword in
    let inside = opening_only end keyword.0 _ keyword.2 in
    let pair = pair_only end inside.0 h.x h.y p _ inside.2 h.pair in
    let after = mark_only CLOSING end pair.0 _ pair.2 in
    rw (keyword.1, inside.1, pair.1, after.1, end_only after.0 after.2) refl

line_string_only : (end : ℕ) (ts : List Token) (p q : Point) → SpellsLineString (words ts) p q → IsRead end ts (two_points p q)
unfolding line_string_at
line_string_only end ts p q h =
    let keyword = keyword_only end ts h.keyword kinds.LineString _ h.whole h.is_keyword in
    let inside = opening_only end keyword.0 _ keyword.2 in
    let one = pair_only end inside.0 h.x h.y p _ inside.2 h.first in
    let comma = mark_only COMMA end one.0 _ one.2 in
    let two = pair_only end comma.0 h.u h.v q _ comma.2 h.second in
    let after = closing_only end two.0 _ two.2 in
    rw (keyword.1, inside.1, one.1, comma.1, two.1, after.1, end_only after.0 after.2) refl

polygon_only : (end : ℕ) (ts : List Token) (ps : List Point) → SpellsRing (words ts) ps → IsRead end ts (ring ps)
unfolding polygon_at
polygon_only end ts ps h =
    let keyword = keyword_only end ts h.keyword kinds.Polygon _ h.whole h.is_keyword in
    let inside = opening_only end keyword.0 _ keyword.2 in
    let first = mark_only OPENING end inside.0 _ inside.2 in
    let pairs = ring_only end first.0 h.pairs ps (mark_word CLOSING ∷ []) first.2 h.are_pairs in
    let after = closing_only end pairs.0 _ pairs.2 in
    rw (keyword.1, inside.1, first.1, pairs.1, after.1, end_only after.0 after.2) refl

pub listed_only : (end : ℕ) (ts : List Token) (listed : Listed) → SpellsListed (words ts) listed → IsRead end ts listed
listed_only end ts (one_point p) h = point_only end ts p h
listed_only end ts (two_points p q) h = line_string_only end ts p q h
listed_only end ts (ring ps) h = polygon_only end ts ps h

pub only : (text : List ℕ) (corners : List Point) → Spells text corners → shape_of text ≡ Ok corners
unfolding shape_of
only text corners h = listed_only (length text) (tokens 0 text) h.listed h.spelled ∙ ap made h.canonical

-- no text spells two shapes
pub one : (text : List ℕ) (a b : List Point) → Spells text a → Spells text b → a ≡ b
one text a b h k = ok_is a b (sym (only text a h) ∙ only text b k)
