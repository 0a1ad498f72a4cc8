-- What is read as a shape spells that shape.
use Rattle.std.proofs.Common.{◌≡◌, ℕ, zero, suc, length, Bool, true, false, cond, ◌⊎◌, map, List, [], ◌∷◌, ◌++◌, codes, bytes_eq, Option, Some, None, Result, Ok, Err, ℤ, refl, sym, ap, subst, ◌∙◌, inl, inr, pos, negsuc, leb, arith, if◌then◌else◌}
use Rattle.std.specs.Char.{to_ascii_lowercase}
use Rattle.std.proofs.lemmas.Slice.Eq.{bytes_eq-Decides}
use Rattle.std.proofs.lemmas.Bool.{and_parts, leb-true}
use Rattle.std.proofs.lemmas.Int.{ints}
use Rattle.plane.specs.declared.point.Point.{Point}
use Rattle.plane.specs.declared.fault.ShapeFault.{ShapeFault}
use Rattle.plane.specs.Coordinates.{IsCoordinate, is_coordinate}
use Rattle.wkt.specs.declared.fault.WktFault.{WktFault}
use Rattle.wkt.specs.declared.fault.WktFault.TheVariants.{OutOfRange, Syntax}
use Rattle.wkt.specs.declared.keyword.Kind.{Kind}
use Rattle.wkt.specs.declared.keyword.Kind.TheVariants as kinds
use Rattle.wkt.specs.Tokens.{Token, tokens, OPENING, CLOSING, COMMA}
use Rattle.wkt.specs.Numbers.{in_limits, number_of, coordinate_of}
use Rattle.wkt.specs.Reading.{◌>>=◌, with_rest, pair_of, is_word, is_the_mark, is_left_out_kind, is_left_out_form, begins_with_mark, kind_of, keyword_at, opening_at, mark_at, closing_at, end_at, number_of_token, number_at, pair_at, is_more, more_at, ring_at, made, shape_of}
use Rattle.wkt.specs.Spelling.{Word, words, mark_word, SpellsNumber, SpellsPair, SpellsPairs, Listed, one_point, two_points, ring, IsKeyword, SpellsListed, canonical_of, Spells}
use Rattle.wkt.proofs.KeptLemmas.{done, ok_is}
use Rattle.wkt.proofs.NumberGrammar.{number_found}
use Rattle.wkt.proofs.Machine.{start, run, judged, listing, keyword_listing, reading_run, point_inside, point_pair, point_after, point_listing, line_inside, line_pair, line_next, line_second, line_after, line_listing, ring_inside, ring_first, ring_behind, ring_end, ring_listing}
use Rattle.wkt.proofs.RingLemmas.{behind_pair, after_pair, ring_step}

-- ---- results

bind_ok : {A B : Type 0} (r : Result A WktFault) (f : A → Result B WktFault) (y : B) → (r >>= f) ≡ Ok y → (x : A) × (r ≡ Ok x) × (f x ≡ Ok y)
bind_ok (Ok x) f y e = (x, refl, e)
bind_ok (Err d) f y e = absurd cc

-- a value from a test that chooses between a result and an error is that of the result
if_ok : {A : Type 0} (v : Bool) (r : Result A WktFault) (e : WktFault) (y : A) → cond v r (Err e) ≡ Ok y → (v ≡ true) × (r ≡ Ok y)
if_ok true r e y h = (refl, h)
if_ok false r e y h = absurd cc

unless_ok : {A : Type 0} (v : Bool) (r : Result A WktFault) (e : WktFault) (y : A) → cond v (Err e) r ≡ Ok y → (v ≡ false) × (r ≡ Ok y)
unless_ok true r e y h = absurd cc
unless_ok false r e y h = (refl, h)

-- a value from a test that chooses between two results is that of one of them
either_ok : {A : Type 0} (v : Bool) (r s : Result A WktFault) (y : A) → cond v r s ≡ Ok y → ((v ≡ true) × (r ≡ Ok y)) ⊎ ((v ≡ false) × (s ≡ Ok y))
either_ok true r s y h = inl (refl, h)
either_ok false r s y h = inr (refl, h)

same_bytes : (xs ys : List ℕ) → bytes_eq xs ys ≡ true → xs ≡ ys
same_bytes xs ys h = (bytes_eq-Decides xs ys).0 h

-- ---- numbers and pairs

is_coordinate_tells : (z : ℤ) → is_coordinate z ≡ true → IsCoordinate z
is_coordinate_tells (pos n) h = record { low = omega (arith, ints); high = omega (arith, ints, leb-true n 10000000 h) }
is_coordinate_tells (negsuc n) h = let parts = and_parts (leb n 9999999) true h in record { low = omega (arith, ints, leb-true n 9999999 parts.0); high = omega (arith, ints) }

go-limits : (at : ℕ) (o : Option ℤ) (z : ℤ) → in_limits at o ≡ Ok z → (o ≡ Some z) × IsCoordinate z
go-limits at None z h = absurd cc
go-limits at (Some n) z h =
    let inside = if_ok (is_coordinate n) (Ok n) (OutOfRange at) z h in
    let same = ok_is n z inside.1 in
    (ap (λ (k : ℤ). Some k) same, subst IsCoordinate same (is_coordinate_tells n inside.0))

token_found : (t : Token) (z : ℤ) → number_of_token t ≡ Ok z → SpellsNumber t.1 z × IsCoordinate z
unfolding number_of_token coordinate_of
token_found t z h =
    let word = unless_ok (begins_with_mark t.1) (in_limits t.0 (number_of t.1)) (Syntax t.0) z h in
    let n = go-limits t.0 (number_of t.1) z word.1 in
    (number_found t.1 z n.0, n.1)

-- the first word is taken off
abbrev Takes : List Token → Word → List Token → Type 0
Takes ts word rest = words ts ≡ word ∷ words rest

abbrev NumberFound : List Token → ℤ × List Token → Type 0
NumberFound ts n = (word : Word) × Takes ts word n.1 × SpellsNumber word n.0 × IsCoordinate n.0

number_at_found : (end : ℕ) (ts : List Token) (n : ℤ × List Token) → number_at end ts ≡ Ok n → NumberFound ts n
unfolding number_at
number_at_found end [] n h = absurd cc
number_at_found end (t ∷ ts) n h =
    let z = bind_ok (number_of_token t) (λ x. Ok (x, ts)) n h in
    let found = token_found t z.0 z.1 in
    subst (NumberFound (t ∷ ts)) (ok_is (z.0, ts) n z.2) (t.1, refl, found.0, found.1)

abbrev PairFound : List Token → Point × List Token → Type 0
PairFound ts p = (x : Word) × (y : Word) × (words ts ≡ x ∷ y ∷ words p.1) × SpellsPair x y p.0

pair_found : (end : ℕ) (ts : List Token) (p : Point × List Token) → pair_at end ts ≡ Ok p → PairFound ts p
unfolding pair_at
pair_found end ts p h =
    let x = bind_ok (number_at end ts) (λ x. number_at end x.1 >>= λ y. pair_of x.0 y) p h in
    let y = bind_ok (number_at end x.0.1) (λ y. pair_of x.0.0 y) p x.2 in
    let first = number_at_found end ts x.0 x.1 in
    let next = number_at_found end x.0.1 y.0 y.1 in
    let spelled : SpellsPair first.0 next.0 (record { x = x.0.0; y = y.0.0 }) = record { x_is = first.2; y_is = next.2; in_range = record { x_in_range = first.3; y_in_range = next.3 } } in
    subst (PairFound ts) (ok_is (record { x = x.0.0; y = y.0.0 }, y.0.1) p y.2)
    (first.0, next.0, first.1 ∙ ap (λ (ws : List Word). first.0 ∷ ws) next.1, spelled)

-- ---- marks

taken : (t : Token) (ts rest : List Token) (word : Word) → t.1 ≡ word → done ts ≡ done rest → Takes (t ∷ ts) word rest
taken t ts rest word e h = ap (λ (w : Word). w ∷ words ts) e ∙ ap (λ (r : List Token). word ∷ words r) (ok_is ts rest h)

no_ok : {A : Type 0} (v : Bool) (d e : WktFault) (y : A) → cond v (Err d) (Err e) ≡ Ok y → ⊥
no_ok true d e y h = absurd cc
no_ok false d e y h = absurd cc

-- a mark, or one of two faults
go-mark : (b : ℕ) (v : Bool) (d e : WktFault) (t : Token) (ts rest : List Token) → cond (is_the_mark b t.1) (Ok ts) (cond v (Err d) (Err e)) ≡ Ok rest → Takes (t ∷ ts) (mark_word b) rest
go-mark b v d e t ts rest h =
    elim (either_ok (is_the_mark b t.1) (Ok ts) (cond v (Err d) (Err e)) rest h) [
      | inl first ↦ taken t ts rest (mark_word b) (same_bytes t.1 (mark_word b) first.0) first.1
      | inr next ↦ absurd (no_ok v d e rest next.1)
    ]

opening_found : (end : ℕ) (ts rest : List Token) → opening_at end ts ≡ Ok rest → Takes ts (mark_word OPENING) rest
unfolding opening_at
opening_found end [] rest h = absurd cc
opening_found end (t ∷ ts) rest h = go-mark OPENING (is_left_out_form t.1) _ _ t ts rest h

closing_found : (end : ℕ) (ts rest : List Token) → closing_at end ts ≡ Ok rest → Takes ts (mark_word CLOSING) rest
unfolding closing_at
closing_found end [] rest h = absurd cc
closing_found end (t ∷ ts) rest h = go-mark CLOSING (is_the_mark COMMA t.1) _ _ t ts rest h

mark_found : (b end : ℕ) (ts rest : List Token) → mark_at b end ts ≡ Ok rest → Takes ts (mark_word b) rest
unfolding mark_at
mark_found b end [] rest h = absurd cc
mark_found b end (t ∷ ts) rest h =
    let first = if_ok (is_the_mark b t.1) (Ok ts) (Syntax t.0) rest h in
    taken t ts rest (mark_word b) (same_bytes t.1 (mark_word b) first.0) first.1

end_found : (ts : List Token) (u : Unit {0}) → end_at ts ≡ Ok u → words ts ≡ []
end_found [] u h = refl
end_found (t ∷ ts) u h = absurd cc

-- ---- rings

abbrev after_mark : Bool → ℕ
after_mark more = if more then COMMA else CLOSING

is_more_found : (t : Token) (more : Bool) → is_more t ≡ Ok more → t.1 ≡ mark_word (after_mark more)
unfolding is_more
is_more_found t more h =
    elim (either_ok (is_the_mark COMMA t.1) (Ok true) (cond (is_the_mark CLOSING t.1) (Ok false) (Err (Syntax t.0))) more h) [
      | inl first ↦ subst (λ (v : Bool). t.1 ≡ mark_word (after_mark v)) (ok_is true more first.1) (same_bytes t.1 (mark_word COMMA) first.0)
      | inr next ↦
          let last = if_ok (is_the_mark CLOSING t.1) (Ok false) (Syntax t.0) more next.1 in
          subst (λ (v : Bool). t.1 ≡ mark_word (after_mark v)) (ok_is false more last.1) (same_bytes t.1 (mark_word CLOSING) last.0)
    ]

abbrev MoreFound : List Token → Bool × List Token → Type 0
MoreFound ts more = Takes ts (mark_word (after_mark more.0)) more.1

more_found : (end : ℕ) (ts : List Token) (more : Bool × List Token) → more_at end ts ≡ Ok more → MoreFound ts more
unfolding more_at
more_found end [] more h = absurd cc
more_found end (t ∷ ts) more h =
    let one = bind_ok (is_more t) (λ m. Ok (m, ts)) more h in
    subst (MoreFound (t ∷ ts)) (ok_is (one.0, ts) more one.2) (ap (λ (w : Word). w ∷ words ts) (is_more_found t one.0 one.1))

abbrev RingFound : List Token → List Point × List Token → Type 0
RingFound ts found = (ws : List Word) × (words ts ≡ ws ++ mark_word CLOSING ∷ words found.1) × SpellsPairs ws found.0

pairs_more : (x y : Word) (p : Point) (ws : List Word) (ps : List Point) → SpellsPair x y p → SpellsPairs ws ps → SpellsPairs (x ∷ y ∷ mark_word COMMA ∷ ws) (p ∷ ps)
pairs_more x y p ws [] one more = absurd more
pairs_more x y p ws (q ∷ qs) one more = (x, y, ws, refl, one, more)

-- the last pair, or one with others after it
go-last : (ts behind : List Token) (p : Point) (after : List Token) (found : List Point × List Token) → PairFound ts (p, behind) → MoreFound behind (false, after)
    → done (p ∷ [], after) ≡ done found → RingFound ts found
go-last ts behind p after found one last h =
    subst (RingFound ts) (ok_is (p ∷ [], after) found h)
    (one.0 ∷ one.1 ∷ [], one.2 ∙ ap (λ (ws : List Word). one.0 ∷ one.1 ∷ ws) last, (one.0, one.1, refl, one.3))

go-others : (ts behind : List Token) (p : Point) (after : List Token) (others found : List Point × List Token) → PairFound ts (p, behind) → MoreFound behind (true, after)
    → RingFound after others → done (p ∷ others.0, others.1) ≡ done found → RingFound ts found
go-others ts behind p after others found one comma more h =
    subst (RingFound ts) (ok_is (p ∷ others.0, others.1) found h) (
      one.0 ∷ one.1 ∷ mark_word COMMA ∷ more.0,
      one.2 ∙ ap (λ (ws : List Word). one.0 ∷ one.1 ∷ ws) (comma ∙ ap (λ (ws : List Word). mark_word COMMA ∷ ws) more.1),
      pairs_more one.0 one.1 p more.0 others.0 one.3 more.2,
    )

-- the claim for rings with one point less
abbrev Shorter : ℕ → List Token → List Point → Type 0
Shorter end after ps = (qs : List Point) (rest : List Token) → suc (length qs) ≡ length ps → ring_at end after ≡ Ok (qs, rest) → RingFound after (qs, rest)

count_of : (p : Point) (others found : List Point × List Token) → (p ∷ others.0, others.1) ≡ found → suc (length others.0) ≡ length found.0
count_of p others found e = ap (λ (f : List Point × List Token). length f.0) e

go-behind : (end : ℕ) (ts behind : List Token) (p : Point) (more : Bool) (after : List Token) (found : List Point × List Token) → PairFound ts (p, behind) → MoreFound behind (more, after)
    → Shorter end after found.0 → behind_pair end p (more, after) ≡ Ok found → RingFound ts found
go-behind end ts behind p false after found one last ih h = go-last ts behind p after found one last h
go-behind end ts behind p true after found one comma ih h =
    let others = bind_ok (ring_at end after) (λ f. Ok (p ∷ f.0, f.1)) found h in
    let count = count_of p others.0 found (ok_is (p ∷ others.0.0, others.0.1) found others.2) in
    go-others ts behind p after others.0 found one comma (ih others.0.0 others.0.1 count others.1) others.2

go-ring : (end : ℕ) (ts : List Token) (found : List Point × List Token) → ((after : List Token) → Shorter end after found.0) → ring_at end ts ≡ Ok found → RingFound ts found
go-ring end ts found ih h =
    let pair = bind_ok (pair_at end ts) (after_pair end) found (sym (ring_step end ts) ∙ h) in
    let more = bind_ok (more_at end pair.0.1) (behind_pair end pair.0.0) found pair.2 in
    go-behind end ts pair.0.1 pair.0.0 more.0.0 more.0.1 found (pair_found end ts pair.0 pair.1) (more_found end pair.0.1 more.0 more.1) (ih more.0.1) more.2

-- by induction on the number of points
ring_found_of : (n end : ℕ) (ts : List Token) (found : List Point × List Token) → length found.0 ≡ n → ring_at end ts ≡ Ok found → RingFound ts found
ring_found_of zero end ts found count h = go-ring end ts found (λ after qs rest less k. absurd (omega arith)) h
ring_found_of (suc n) end ts found count h = go-ring end ts found (λ after qs rest less k. ring_found_of n end after (qs, rest) (omega arith) k) h

ring_found : (end : ℕ) (ts : List Token) (found : List Point × List Token) → ring_at end ts ≡ Ok found → RingFound ts found
ring_found end ts found h = ring_found_of (length found.0) end ts found refl h

-- ---- the three kinds

made_ok : (r : Result (List Point) ShapeFault) (corners : List Point) → made r ≡ Ok corners → r ≡ Ok corners
made_ok (Ok ps) corners h = ap (λ (qs : List Point). Ok qs) (ok_is ps corners h)
made_ok (Err e) corners h = absurd cc

abbrev IsKind : Kind → Word → Type 0
IsKind kinds.Point word = IsKeyword (codes "POINT") word
IsKind kinds.LineString word = IsKeyword (codes "LINESTRING") word
IsKind kinds.Polygon word = IsKeyword (codes "POLYGON") word

word_found : (keyword word : List ℕ) → is_word keyword word ≡ true → IsKeyword keyword word
word_found keyword word h = same_bytes (map to_ascii_lowercase word) (map to_ascii_lowercase keyword) h

kind_found : (t : Token) (kind : Kind) → kind_of t ≡ Ok kind → IsKind kind t.1
unfolding kind_of
kind_found t kind h =
    elim (either_ok (is_word (codes "POINT") t.1) (Ok kinds.Point) _ kind h) [
      | inl first ↦ subst (λ (k : Kind). IsKind k t.1) (ok_is kinds.Point kind first.1) (word_found (codes "POINT") t.1 first.0)
      | inr next ↦ elim (either_ok (is_word (codes "LINESTRING") t.1) (Ok kinds.LineString) _ kind next.1) [
        | inl first ↦ subst (λ (k : Kind). IsKind k t.1) (ok_is kinds.LineString kind first.1) (word_found (codes "LINESTRING") t.1 first.0)
        | inr next ↦ elim (either_ok (is_word (codes "POLYGON") t.1) (Ok kinds.Polygon) _ kind next.1) [
          | inl first ↦ subst (λ (k : Kind). IsKind k t.1) (ok_is kinds.Polygon kind first.1) (word_found (codes "POLYGON") t.1 first.0)
          | inr next ↦ absurd (no_ok (is_left_out_kind t.1) _ _ kind next.1)
        ]
      ]
    ]

abbrev KeywordFound : List Token → Kind × List Token → Type 0
KeywordFound ts k = (word : Word) × Takes ts word k.1 × IsKind k.0 word

keyword_found : (end : ℕ) (ts : List Token) (k : Kind × List Token) → keyword_at end ts ≡ Ok k → KeywordFound ts k
unfolding keyword_at
keyword_found end [] k h = absurd cc
keyword_found end (t ∷ ts) k h =
    let word = unless_ok (begins_with_mark t.1) (with_rest (kind_of t) ts) (Syntax t.0) k h in
    let kind = bind_ok (kind_of t) (λ x. Ok (x, ts)) k word.1 in
    subst (KeywordFound (t ∷ ts)) (ok_is (kind.0, ts) k kind.2) (t.1, refl, kind_found t kind.0 kind.1)

-- the words list the points that are read
abbrev Lists : List Token → Listed → Type 0
Lists all listed = SpellsListed (words all) listed

point_words : (all ts inside p after : List Token) (keyword x y : Word) → Takes all keyword ts → Takes ts (mark_word OPENING) inside → words inside ≡ x ∷ y ∷ words p → Takes p (mark_word CLOSING) after → words after ≡ []
    → words all ≡ keyword ∷ mark_word OPENING ∷ x ∷ y ∷ mark_word CLOSING ∷ []
point_words all ts inside p after keyword x y front opening pair closing none = rw (front, opening, pair, closing, none) refl

point_found : (end : ℕ) (all : List Token) (keyword : Word) (ts : List Token) (listed : Listed) → Takes all keyword ts → IsKind kinds.Point keyword → point_listing end ts ≡ Ok listed → Lists all listed
point_found end all keyword ts listed front kind h =
    let inside = bind_ok (opening_at end ts) (point_inside end) listed h in
    let p = bind_ok (pair_at end inside.0) (point_pair end) listed inside.2 in
    let after = bind_ok (mark_at CLOSING end p.0.1) (point_after p.0.0) listed p.2 in
    let u = bind_ok (end_at after.0) (λ u. Ok (one_point p.0.0)) listed after.2 in
    let pair = pair_found end inside.0 p.0 p.1 in
    let whole = point_words all ts inside.0 p.0.1 after.0 keyword pair.0 pair.1 front (opening_found end ts inside.0 inside.1) pair.2 (mark_found CLOSING end p.0.1 after.0 after.1) (end_found after.0 u.0 u.1) in
    subst (Lists all) (ok_is (one_point p.0.0) listed u.2) (record { keyword = keyword; x = pair.0; y = pair.1; whole = whole; is_keyword = kind; pair = pair.3 })

line_string_words : (all ts inside p next q after : List Token) (keyword x y u v : Word) → Takes all keyword ts → Takes ts (mark_word OPENING) inside → words inside ≡ x ∷ y ∷ words p → Takes p (mark_word COMMA) next
    → words next ≡ u ∷ v ∷ words q → Takes q (mark_word CLOSING) after → words after ≡ [] → words all ≡ keyword ∷ mark_word OPENING ∷ x ∷ y ∷ mark_word COMMA ∷ u ∷ v ∷ mark_word CLOSING ∷ []
line_string_words all ts inside p next q after keyword x y u v front opening one comma two closing none = rw (front, opening, one, comma, two, closing, none) refl

line_string_found : (end : ℕ) (all : List Token) (keyword : Word) (ts : List Token) (listed : Listed) → Takes all keyword ts → IsKind kinds.LineString keyword → line_listing end ts ≡ Ok listed → Lists all listed
line_string_found end all keyword ts listed front kind h =
    let inside = bind_ok (opening_at end ts) (line_inside end) listed h in
    let p = bind_ok (pair_at end inside.0) (line_pair end) listed inside.2 in
    let next = bind_ok (mark_at COMMA end p.0.1) (line_next end p.0.0) listed p.2 in
    let q = bind_ok (pair_at end next.0) (line_second end p.0.0) listed next.2 in
    let after = bind_ok (closing_at end q.0.1) (line_after p.0.0 q.0.0) listed q.2 in
    let u = bind_ok (end_at after.0) (λ u. Ok (two_points p.0.0 q.0.0)) listed after.2 in
    let one = pair_found end inside.0 p.0 p.1 in
    let two = pair_found end next.0 q.0 q.1 in
    let whole = line_string_words all ts inside.0 p.0.1 next.0 q.0.1 after.0 keyword one.0 one.1 two.0 two.1 front (opening_found end ts inside.0 inside.1) one.2 (mark_found COMMA end p.0.1 next.0 next.1) two.2
    (closing_found end q.0.1 after.0 after.1) (end_found after.0 u.0 u.1) in
    subst (Lists all) (ok_is (two_points p.0.0 q.0.0) listed u.2)
    (record { keyword = keyword; x = one.0; y = one.1; u = two.0; v = two.1; whole = whole; is_keyword = kind; first = one.3; second = two.3 })

ring_words : (all ts inside first behind after : List Token) (keyword : Word) (pairs : List Word) → Takes all keyword ts → Takes ts (mark_word OPENING) inside → Takes inside (mark_word OPENING) first
    → words first ≡ pairs ++ mark_word CLOSING ∷ words behind → Takes behind (mark_word CLOSING) after → words after ≡ []
    → words all ≡ keyword ∷ mark_word OPENING ∷ mark_word OPENING ∷ (pairs ++ mark_word CLOSING ∷ mark_word CLOSING ∷ [])
ring_words all ts inside first behind after keyword pairs front opening second listed closing none = rw (front, opening, second, listed, closing, none) refl

polygon_found : (end : ℕ) (all : List Token) (keyword : Word) (ts : List Token) (listed : Listed) → Takes all keyword ts → IsKind kinds.Polygon keyword → ring_listing end ts ≡ Ok listed → Lists all listed
polygon_found end all keyword ts listed front kind h =
    let inside = bind_ok (opening_at end ts) (ring_inside end) listed h in
    let first = bind_ok (mark_at OPENING end inside.0) (ring_first end) listed inside.2 in
    let found = bind_ok (ring_at end first.0) (ring_behind end) listed first.2 in
    let after = bind_ok (closing_at end found.0.1) (ring_end found.0.0) listed found.2 in
    let u = bind_ok (end_at after.0) (λ u. Ok (ring found.0.0)) listed after.2 in
    let pairs = ring_found end first.0 found.0 found.1 in
    let whole = ring_words all ts inside.0 first.0 found.0.1 after.0 keyword pairs.0 front (opening_found end ts inside.0 inside.1) (mark_found OPENING end inside.0 first.0 first.1) pairs.1
    (closing_found end found.0.1 after.0 after.1) (end_found after.0 u.0 u.1) in
    subst (Lists all) (ok_is (ring found.0.0) listed u.2) (record { keyword = keyword; pairs = pairs.0; whole = whole; is_keyword = kind; are_pairs = pairs.2 })

listing_found : (kind : Kind) (end : ℕ) (all : List Token) (keyword : Word) (ts : List Token) (listed : Listed) → Takes all keyword ts → IsKind kind keyword → listing kind end ts ≡ Ok listed → Lists all listed
listing_found kinds.Point end all keyword ts listed front kind h = point_found end all keyword ts listed front kind h
listing_found kinds.LineString end all keyword ts listed front kind h = line_string_found end all keyword ts listed front kind h
listing_found kinds.Polygon end all keyword ts listed front kind h = polygon_found end all keyword ts listed front kind h

-- what a run lists is spelled by the words
pub run_found : (end : ℕ) (ts : List Token) (listed : Listed) → run start end ts ≡ Ok listed → SpellsListed (words ts) listed
run_found end ts listed h =
    let k = bind_ok (keyword_at end ts) (λ k. listing k.0 end k.1) listed (sym (keyword_listing end ts) ∙ h) in
    let first = keyword_found end ts k.0 k.1 in
    listing_found k.0.0 end ts first.0 k.0.1 listed first.1 first.2 k.2

pub found : (text : List ℕ) (corners : List Point) → shape_of text ≡ Ok corners → Spells text corners
unfolding shape_of
found text corners h =
    let l = bind_ok (run start (length text) (tokens 0 text)) judged corners (reading_run (length text) (tokens 0 text) ∙ h) in
    record { listed = l.0; spelled = run_found (length text) (tokens 0 text) l.0 l.1; canonical = made_ok (canonical_of l.0) corners l.2 }
