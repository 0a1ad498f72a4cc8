-- The tokens of a text: single brackets and commas, and the words between them and the spaces.
use Rattle.std.specs.Prelude.{ℕ, ◌+◌, ◌==◌, ◌||◌, Bool, true, false, not, List, [], ◌∷◌, take_while, if◌then◌else◌}
use Rattle.std.specs.List.{prefix_len}

abbrev pub OPENING : ℕ
OPENING = 40

abbrev pub CLOSING : ℕ
CLOSING = 41

abbrev pub COMMA : ℕ
COMMA = 44

-- a space, a tab, a line feed, a carriage return
abbrev pub is_space : ℕ → Bool
is_space b = b == 32 || b == 9 || b == 10 || b == 13

-- an opening bracket, a closing bracket, a comma
abbrev pub is_mark : ℕ → Bool
is_mark b = b == OPENING || b == CLOSING || b == COMMA

abbrev pub is_word_byte : ℕ → Bool
is_word_byte b = not (is_space b || is_mark b)

-- a token: its offset, and its bytes
abbrev pub Token : Type 0
Token = ℕ × List ℕ

-- The tokens of these bytes, the first of which is at offset `at`. If `inside` is true, they begin
-- within a word whose token is already in the list.
unfoldable pub tokens_from : Bool → ℕ → List ℕ → List Token
tokens_from inside at [] = []
tokens_from inside at (b ∷ bs) =
    if is_space b then tokens_from false (at + 1) bs
    else if is_mark b then (at, b ∷ []) ∷ tokens_from false (at + 1) bs
    else if inside then tokens_from true (at + 1) bs
    else (at, take_while is_word_byte (b ∷ bs)) ∷ tokens_from true (at + 1) bs

-- the tokens of these bytes, the first of which is at offset `at`
abbrev pub tokens : ℕ → List ℕ → List Token
tokens at bytes = tokens_from false at bytes

-- the length of the first token, if no space comes before it
abbrev pub token_len : List ℕ → ℕ
token_len [] = 0
token_len (b ∷ bs) = if is_mark b then 1 else prefix_len is_word_byte (b ∷ bs)
