-- The texts that spell a shape, by cases. (`Reading` also says which fault any other text has.)
use Rattle.std.specs.Prelude.{◌≡◌, ℕ, ℤ, ◌<◌, ◌⊎◌, Bool, true, false, map, List, [], ◌∷◌, ◌++◌, codes, length, Result, Ok}
use Rattle.std.specs.Char.{to_ascii_lowercase}
use Rattle.std.specs.List.{AllByRecursion}
use Rattle.std.specs.Str.{all_ascii_digits}
use Rattle.std.specs.Str.Parse.{digits_value}
use Rattle.plane.specs.declared.point.Point.{Point}
use Rattle.plane.specs.declared.fault.ShapeFault.{ShapeFault}
use Rattle.plane.specs.Canonical.{point_of, segment_of, polygon_of}
use Rattle.plane.specs.Points.{IsInRange}
use Rattle.wkt.specs.Tokens.{Token, tokens, OPENING, CLOSING, COMMA}
use Rattle.wkt.specs.Numbers.{signed}

-- the bytes of a word or a mark
abbrev pub Word : Type 0
Word = List ℕ

-- tokens without their places
abbrev pub words : List Token → List Word
words ts = map (λ t. t.1) ts

abbrev pub mark_word : ℕ → Word
mark_word mark = mark ∷ []

-- ---- numbers

-- nothing, `+` or `-`
abbrev pub SpellsSign : List ℕ → Bool → Type 0
SpellsSign [] negative = negative ≡ false
SpellsSign (b ∷ []) negative = ((b ≡ 43) × (negative ≡ false)) ⊎ ((b ≡ 45) × (negative ≡ true))
SpellsSign (b ∷ c ∷ bs) negative = ⊥

-- nothing, or a period and any number of zeros
abbrev pub IsZeroFraction : List ℕ → Type 0
IsZeroFraction [] = Unit {0}
IsZeroFraction (b ∷ zeros) = (b ≡ 46) × AllByRecursion (λ z. z ≡ 48) zeros

-- a number is an optional sign, at least one digit, and an optional fraction of zeros
pub record SpellsNumber (word : Word) (z : ℤ) : Type 0 where
  pub sign : List ℕ
  pub negative : Bool
  pub digits : List ℕ
  pub fraction : List ℕ
  pub whole : word ≡ sign ++ (digits ++ fraction)
  pub sign_is : SpellsSign sign negative
  pub are_digits : all_ascii_digits digits ≡ true
  pub some_digit : 0 < length digits
  pub fraction_is : IsZeroFraction fraction
  pub value : z ≡ signed negative (digits_value 10 digits)

-- ---- points

-- two numbers in range
pub record SpellsPair (x y : Word) (p : Point) : Type 0 where
  pub x_is : SpellsNumber x p.x
  pub y_is : SpellsNumber y p.y
  pub in_range : IsInRange p

-- pairs separated by commas
abbrev pub SpellsPairs : List Word → List Point → Type 0
SpellsPairs ws [] = ⊥
SpellsPairs ws (p ∷ []) = (x : Word) × (y : Word) × (ws ≡ x ∷ y ∷ []) × SpellsPair x y p
SpellsPairs ws (p ∷ q ∷ ps) = (x : Word) × (y : Word) × (more : List Word)
    × (ws ≡ x ∷ y ∷ mark_word COMMA ∷ more) × SpellsPair x y p × SpellsPairs more (q ∷ ps)

-- ---- texts

-- what a text lists
pub data Listed : Type 0 where
  one_point : Point → Listed
  two_points : Point → Point → Listed
  ring : List Point → Listed

-- a keyword in any ASCII letter case
abbrev pub IsKeyword : List ℕ → Word → Type 0
IsKeyword keyword word = map to_ascii_lowercase word ≡ map to_ascii_lowercase keyword

pub record SpellsPoint (ws : List Word) (p : Point) : Type 0 where
  pub keyword : Word
  pub x : Word
  pub y : Word
  pub whole : ws ≡ keyword ∷ mark_word OPENING ∷ x ∷ y ∷ mark_word CLOSING ∷ []
  pub is_keyword : IsKeyword (codes "POINT") keyword
  pub pair : SpellsPair x y p

pub record SpellsLineString (ws : List Word) (p q : Point) : Type 0 where
  pub keyword : Word
  pub x : Word
  pub y : Word
  pub u : Word
  pub v : Word
  pub whole : ws ≡ keyword ∷ mark_word OPENING ∷ x ∷ y ∷ mark_word COMMA ∷ u ∷ v ∷ mark_word
      CLOSING ∷ []
  pub is_keyword : IsKeyword (codes "LINESTRING") keyword
  pub first : SpellsPair x y p
  pub second : SpellsPair u v q

pub record SpellsRing (ws : List Word) (ps : List Point) : Type 0 where
  pub keyword : Word
  pub pairs : List Word
  pub whole : ws ≡ keyword ∷ mark_word OPENING ∷ mark_word
      OPENING ∷ (pairs ++ mark_word CLOSING ∷ mark_word CLOSING ∷ [])
  pub is_keyword : IsKeyword (codes "POLYGON") keyword
  pub are_pairs : SpellsPairs pairs ps

abbrev pub SpellsListed : List Word → Listed → Type 0
SpellsListed ws (one_point p) = SpellsPoint ws p
SpellsListed ws (two_points p q) = SpellsLineString ws p q
SpellsListed ws (ring ps) = SpellsRing ws ps

-- the canonical shape of what is listed
abbrev pub canonical_of : Listed → Result (List Point) ShapeFault
canonical_of (one_point p) = point_of p
canonical_of (two_points p q) = segment_of p q
canonical_of (ring ps) = polygon_of ps

-- a text spells a shape if it lists points whose canonical shape it is
pub record Spells (text : List ℕ) (corners : List Point) : Type 0 where
  pub listed : Listed
  pub spelled : SpellsListed (words (tokens 0 text)) listed
  pub canonical : canonical_of listed ≡ Ok corners
