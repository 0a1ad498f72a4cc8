-- Where a text stops being the beginning of one that lists points, defined by the grammar alone and
-- not by how texts are read.
use Rattle.std.specs.Prelude.{◌≡◌, ℕ, List, [], ◌∷◌, ◌++◌, length, Option, Some, None}
use Rattle.wkt.specs.declared.fault.WktFault.{WktFault}
use Rattle.wkt.specs.declared.fault.WktFault.TheVariants.{UnknownWord, LeftOut, Syntax, Number, OutOfRange, Bad}
use Rattle.wkt.specs.Tokens.{Token, tokens}
use Rattle.wkt.specs.Spelling.{Word, words, Listed, SpellsListed}

-- the place of a fault; if the points make no shape, there is none
abbrev pub place_of : WktFault → Option ℕ
place_of (UnknownWord at) = Some at
place_of (LeftOut at) = Some at
place_of (Syntax at) = Some at
place_of (Number at) = Some at
place_of (OutOfRange at) = Some at
place_of (Bad fault) = None

-- these are the first words of some text that lists points
pub record Begins (ws : List Word) : Type 0 where
  pub text : List ℕ
  pub more : List Word
  pub whole : words (tokens 0 text) ≡ ws ++ more
  pub listed : Listed
  pub spelled : SpellsListed (ws ++ more) listed

-- the tokens before `token` begin some text that lists points; with `token` they begin none
pub record StopsBefore (ts front : List Token) (token : Token) (after : List Token) : Type 0 where
  pub whole : ts ≡ front ++ token ∷ after
  pub begins : Begins (words front)
  pub stops : Begins (words front ++ token.1 ∷ []) → ⊥

-- all tokens begin some text that lists points, but list none themselves
pub record StopsAtEnd (ts : List Token) : Type 0 where
  pub begins : Begins (words ts)
  pub stops : (listed : Listed) → SpellsListed (words ts) listed → ⊥

-- the text stops being such a beginning at this place: at a token, or at the text's end
pub data FirstFault (text : List ℕ) (at : ℕ) : Type 0 where
  before_token : (front : List Token) (token : Token) (after : List Token) → token.0 ≡ at
      → StopsBefore (tokens 0 text) front token after → FirstFault text at
  at_end : length text ≡ at → StopsAtEnd (tokens 0 text) → FirstFault text at
