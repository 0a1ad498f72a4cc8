-- The shape that a text spells, or the first fault from the left. `end` is the text's length.
use Rattle.std.specs.Prelude.{◌≡◌, ℕ, ℤ, Bool, true, false, map, List, [], ◌∷◌, codes, length, Result, Ok, Err, ◌||◌, if◌then◌else◌}
use Rattle.std.specs.Char.{to_ascii_lowercase}
use Rattle.std.specs.Str.{bytes_eq}
use Rattle.plane.specs.declared.point.Point.{Point}
use Rattle.plane.specs.declared.fault.ShapeFault.{ShapeFault}
use Rattle.plane.specs.Canonical.{point_of, segment_of, polygon_of}
use Rattle.wkt.specs.declared.fault.WktFault.{WktFault}
use Rattle.wkt.specs.declared.fault.WktFault.TheVariants.{UnknownWord, LeftOut, Syntax, Bad}
use Rattle.wkt.specs.declared.keyword.Kind.{Kind}
use Rattle.wkt.specs.declared.keyword.Kind.TheVariants as kinds
use Rattle.wkt.specs.Tokens.{Token, tokens, is_mark, OPENING, CLOSING, COMMA}
use Rattle.wkt.specs.Numbers.{coordinate_of}

infixl 10 ◌>>=◌
abbrev pub ◌>>=◌ : {A B : Type 0} → Result A WktFault → (A → Result B WktFault) → Result B WktFault
(Ok x) >>= f = f x
(Err e) >>= f = Err e

-- the returned value, seen through `view`, is that of the reading
abbrev pub Gives : {X Y : Type 0} → (X → Y) → Result X WktFault → Result Y WktFault → Type 0
Gives view (Ok x) reading = reading ≡ Ok (view x)
Gives view (Err e) reading = reading ≡ Err e

-- what a token is read as, and the tokens after it
abbrev pub with_rest : {A : Type 0} → Result A WktFault → List Token
    → Result (A × List Token) WktFault
with_rest reading ts = reading >>= λ x. Ok (x, ts)

-- the same word, in any ASCII letter case
abbrev pub is_word : List ℕ → List ℕ → Bool
is_word word bytes = bytes_eq (map to_ascii_lowercase bytes) (map to_ascii_lowercase word)

abbrev pub begins_with_mark : List ℕ → Bool
begins_with_mark [] = false
begins_with_mark (b ∷ bs) = is_mark b

abbrev pub is_the_mark : ℕ → List ℕ → Bool
is_the_mark mark bytes = bytes_eq bytes (mark ∷ [])

-- the words for kinds of geometry that are not supported
abbrev pub is_left_out_kind : List ℕ → Bool
is_left_out_kind word =
    is_word (codes "MULTIPOINT") word || is_word (codes "MULTILINESTRING") word || is_word
    (codes "MULTIPOLYGON") word || is_word (codes "GEOMETRYCOLLECTION") word

-- the words that the standard allows after a keyword, and that are not supported
abbrev pub is_left_out_form : List ℕ → Bool
is_left_out_form word = is_word (codes "EMPTY") word || is_word (codes "Z") word || is_word
    (codes "M") word || is_word (codes "ZM") word

-- the kind that the first word announces
unfoldable pub kind_of : Token → Result Kind WktFault
kind_of t =
    if is_word (codes "POINT") t.1 then Ok kinds.Point
    else if is_word (codes "LINESTRING") t.1 then Ok kinds.LineString
    else if is_word (codes "POLYGON") t.1 then Ok kinds.Polygon
    else if is_left_out_kind t.1 then Err (LeftOut t.0)
    else Err (UnknownWord t.0)

-- the keyword
unfoldable pub keyword_at : ℕ → List Token → Result (Kind × List Token) WktFault
keyword_at end [] = Err (Syntax end)
keyword_at end (t ∷ ts) =
    if begins_with_mark t.1 then Err (Syntax t.0)
    else with_rest (kind_of t) ts

-- the opening bracket after a keyword
unfoldable pub opening_at : ℕ → List Token → Result (List Token) WktFault
opening_at end [] = Err (Syntax end)
opening_at end (t ∷ ts) =
    if is_the_mark OPENING t.1 then Ok ts
    else if is_left_out_form t.1 then Err (LeftOut t.0)
    else Err (Syntax t.0)

-- one bracket or comma
unfoldable pub mark_at : ℕ → ℕ → List Token → Result (List Token) WktFault
mark_at mark end [] = Err (Syntax end)
mark_at mark end (t ∷ ts) = if is_the_mark mark t.1 then Ok ts else Err (Syntax t.0)

-- the bracket that closes a list of fixed length; a comma there makes the list too long
unfoldable pub closing_at : ℕ → List Token → Result (List Token) WktFault
closing_at end [] = Err (Syntax end)
closing_at end (t ∷ ts) =
    if is_the_mark CLOSING t.1 then Ok ts
    else if is_the_mark COMMA t.1 then Err (LeftOut t.0)
    else Err (Syntax t.0)

-- the end of the text
abbrev pub end_at : List Token → Result (Unit {0}) WktFault
end_at [] = Ok tt
end_at (t ∷ ts) = Err (Syntax t.0)

-- the coordinate in a token
unfoldable pub number_of_token : Token → Result ℤ WktFault
number_of_token t = if begins_with_mark t.1 then Err (Syntax t.0) else coordinate_of t.0 t.1

unfoldable pub number_at : ℕ → List Token → Result (ℤ × List Token) WktFault
number_at end [] = Err (Syntax end)
number_at end (t ∷ ts) = with_rest (number_of_token t) ts

-- the point with this x and y, and the tokens after y
abbrev pub pair_of : ℤ → ℤ × List Token → Result (Point × List Token) WktFault
pair_of x y = Ok (record { x = x; y = y.0 }, y.1)

unfoldable pub pair_at : ℕ → List Token → Result (Point × List Token) WktFault
pair_at end ts = do
  x ← number_at end ts
  y ← number_at end x.1
  pair_of x.0 y

-- after a pair of a ring: true for a comma, false for the bracket that closes the ring
unfoldable pub is_more : Token → Result Bool WktFault
is_more t =
    if is_the_mark COMMA t.1 then Ok true
    else if is_the_mark CLOSING t.1 then Ok false
    else Err (Syntax t.0)

unfoldable pub more_at : ℕ → List Token → Result (Bool × List Token) WktFault
more_at end [] = Err (Syntax end)
more_at end (t ∷ ts) = with_rest (is_more t) ts

-- what comes next in a ring: a pair, the second number of one, or what follows it
pub data Due : Type 0 where
  pair : Due
  second : ℤ → Due
  mark : Due

-- a point in front of those that are read after it
abbrev pub with_front : Point → Result (List Point × List Token) WktFault
    → Result (List Point × List Token) WktFault
with_front p reading = reading >>= λ ring. Ok (p ∷ ring.0, ring.1)

-- the points that are left to read in a ring, and the tokens after it
unfoldable pub ring_from : Due → ℕ → List Token → Result (List Point × List Token) WktFault
ring_from due end [] = Err (Syntax end)
ring_from pair end (t ∷ ts) = number_of_token t >>= λ x. ring_from (second x) end ts
ring_from (second x) end (t ∷ ts) =
    number_of_token t >>= λ y. with_front (record { x = x; y = y }) (ring_from mark end ts)
ring_from mark end (t ∷ ts) = is_more t >>= λ more. if more then ring_from pair end ts
    else Ok ([], ts)

-- the points of a ring, and the tokens after its closing bracket
abbrev pub ring_at : ℕ → List Token → Result (List Point × List Token) WktFault
ring_at end ts = ring_from pair end ts

-- the shape of the points, or why they make none
abbrev pub made : Result (List Point) ShapeFault → Result (List Point) WktFault
made (Ok corners) = Ok corners
made (Err e) = Err (Bad e)

-- `( pair )`
unfoldable pub point_at : ℕ → List Token → Result (List Point) WktFault
point_at end ts = do
  inside ← opening_at end ts
  p ← pair_at end inside
  after ← mark_at CLOSING end p.1
  _ ← end_at after
  made (point_of p.0)

-- `( pair , pair )`
unfoldable pub line_string_at : ℕ → List Token → Result (List Point) WktFault
line_string_at end ts = do
  inside ← opening_at end ts
  p ← pair_at end inside
  next ← mark_at COMMA end p.1
  q ← pair_at end next
  after ← closing_at end q.1
  _ ← end_at after
  made (segment_of p.0 q.0)

-- `( ( pair , pair .. ) )`
unfoldable pub polygon_at : ℕ → List Token → Result (List Point) WktFault
polygon_at end ts = do
  inside ← opening_at end ts
  first ← mark_at OPENING end inside
  ring ← ring_at end first
  after ← closing_at end ring.1
  _ ← end_at after
  made (polygon_of ring.0)

-- what follows the keyword
abbrev pub body_at : Kind → ℕ → List Token → Result (List Point) WktFault
body_at kinds.Point end ts = point_at end ts
body_at kinds.LineString end ts = line_string_at end ts
body_at kinds.Polygon end ts = polygon_at end ts

-- the shape that a text spells, as its corners; otherwise the first fault from the left
unfoldable pub shape_of : List ℕ → Result (List Point) WktFault
shape_of text = do
  keyword ← keyword_at (length text) (tokens 0 text)
  body_at keyword.0 (length text) keyword.1
