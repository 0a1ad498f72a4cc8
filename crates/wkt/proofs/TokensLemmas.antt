-- The first token, and what follows it.
use Rattle.std.proofs.Common.{◌≡◌, ℕ, suc, ◌+◌, ◌<◌, Bool, true, false, take_while, List, [], ◌∷◌, length, take, drop, refl, sym, ap, ◌∙◌, arith, one-add, add-zero}
use Rattle.std.specs.List.{prefix_len}
use Rattle.wkt.specs.Tokens.{token_len, Token, tokens, tokens_from, is_space, is_mark, is_word_byte}

pub tokens-space : (at b : ℕ) (bs : List ℕ) → is_space b ≡ true → tokens at (b ∷ bs) ≡ tokens (at + 1) bs
unfolding tokens_from
tokens-space at b bs e = rw e refl

-- spaces at the front are dropped
abbrev SkipsSpaces : ℕ → List ℕ → Type 0
SkipsSpaces at bs = tokens at bs ≡ tokens (at + prefix_len is_space bs) (drop (prefix_len is_space bs) bs)

go-space : (v : Bool) (at b : ℕ) (bs : List ℕ) → is_space b ≡ v → SkipsSpaces (at + 1) bs → SkipsSpaces at (b ∷ bs)
go-space true at b bs e h =
    let n : prefix_len is_space (b ∷ bs) ≡ suc (prefix_len is_space bs) = rw (e, one-add) refl in
    tokens-space at b bs e ∙ h ∙ rw n (ap (λ (k : ℕ). tokens k (drop (prefix_len is_space bs) bs)) (omega arith))
go-space false at b bs e h =
    let n : prefix_len is_space (b ∷ bs) ≡ 0 = rw e refl in
    rw n (ap (λ (k : ℕ). tokens k (b ∷ bs)) (sym (add-zero at)))

pub tokens-spaces : (at : ℕ) (bs : List ℕ) → SkipsSpaces at bs
tokens-spaces at [] = ap (λ (k : ℕ). tokens k []) (sym (add-zero at))
tokens-spaces at (b ∷ bs) = go-space (is_space b) at b bs refl (tokens-spaces (at + 1) bs)

-- what follows the spaces does not begin with a space
go-past : (v : Bool) (b : ℕ) (bs : List ℕ) (c : ℕ) (cs : List ℕ) → is_space b ≡ v
    → (drop (prefix_len is_space bs) bs ≡ c ∷ cs → is_space c ≡ false) → drop (prefix_len is_space (b ∷ bs)) (b ∷ bs) ≡ c ∷ cs → is_space c ≡ false
go-past true b bs c cs e h k =
    let n : prefix_len is_space (b ∷ bs) ≡ suc (prefix_len is_space bs) = rw (e, one-add) refl in
    h (rw n at k)
go-past false b bs c cs e h k =
    let n : prefix_len is_space (b ∷ bs) ≡ 0 = rw e refl in
    let same : b ∷ bs ≡ c ∷ cs = rw n at k in
    let heads : b ≡ c = cc in
    rw (← heads) e

pub past_spaces : (bs : List ℕ) (c : ℕ) (cs : List ℕ) → drop (prefix_len is_space bs) bs ≡ c ∷ cs → is_space c ≡ false
past_spaces [] c cs e = absurd cc
past_spaces (b ∷ bs) c cs e = go-past (is_space b) b bs c cs refl (past_spaces bs c cs) e

-- ---- a word

inside-space : (at b : ℕ) (bs : List ℕ) → is_space b ≡ true → tokens_from true at (b ∷ bs) ≡ tokens_from false at (b ∷ bs)
unfolding tokens_from
inside-space at b bs e = rw e refl

inside-mark : (at b : ℕ) (bs : List ℕ) → is_space b ≡ false → is_mark b ≡ true → tokens_from true at (b ∷ bs) ≡ tokens_from false at (b ∷ bs)
unfolding tokens_from
inside-mark at b bs e f = rw (e, f) refl

inside-word : (at b : ℕ) (bs : List ℕ) → is_space b ≡ false → is_mark b ≡ false → tokens_from true at (b ∷ bs) ≡ tokens_from true (at + 1) bs
unfolding tokens_from
inside-word at b bs e f = rw (e, f) refl

inside-end : (at : ℕ) → tokens_from true at [] ≡ tokens_from false (at + 0) []
unfolding tokens_from
inside-end at = refl

-- within a word, no token is listed before its end
abbrev SkipsWord : ℕ → List ℕ → Type 0
SkipsWord at bs = tokens_from true at bs ≡ tokens (at + prefix_len is_word_byte bs) (drop (prefix_len is_word_byte bs) bs)

go-word : (v w : Bool) (at b : ℕ) (bs : List ℕ) → is_space b ≡ v → is_mark b ≡ w → SkipsWord (at + 1) bs → SkipsWord at (b ∷ bs)
go-word true w at b bs e f h =
    let n : prefix_len is_word_byte (b ∷ bs) ≡ 0 = rw e refl in
    inside-space at b bs e ∙ rw n (ap (λ (k : ℕ). tokens k (b ∷ bs)) (sym (add-zero at)))
go-word false true at b bs e f h =
    let n : prefix_len is_word_byte (b ∷ bs) ≡ 0 = rw (e, f) refl in
    inside-mark at b bs e f ∙ rw n (ap (λ (k : ℕ). tokens k (b ∷ bs)) (sym (add-zero at)))
go-word false false at b bs e f h =
    let n : prefix_len is_word_byte (b ∷ bs) ≡ suc (prefix_len is_word_byte bs) = rw (e, f, one-add) refl in
    inside-word at b bs e f ∙ h ∙ rw n (ap (λ (k : ℕ). tokens k (drop (prefix_len is_word_byte bs) bs)) (omega arith))

tokens-inside : (at : ℕ) (bs : List ℕ) → SkipsWord at bs
tokens-inside at [] = inside-end at
tokens-inside at (b ∷ bs) = go-word (is_space b) (is_mark b) at b bs refl refl (tokens-inside (at + 1) bs)

begins-word : (at b : ℕ) (bs : List ℕ) → is_space b ≡ false → is_mark b ≡ false → tokens at (b ∷ bs) ≡ (at, take_while is_word_byte (b ∷ bs)) ∷ tokens_from true (at + 1) bs
unfolding tokens_from
begins-word at b bs e f = rw (e, f) refl

pub word_len-suc : (b : ℕ) (bs : List ℕ) → is_space b ≡ false → is_mark b ≡ false → prefix_len is_word_byte (b ∷ bs) ≡ suc (prefix_len is_word_byte bs)
word_len-suc b bs e f = rw (e, f, one-add) refl

pub tokens-mark : (at b : ℕ) (bs : List ℕ) → is_space b ≡ false → is_mark b ≡ true → tokens at (b ∷ bs) ≡ (at, b ∷ []) ∷ tokens (at + 1) bs
unfolding tokens_from
tokens-mark at b bs e f = rw (e, f) refl

pub tokens-word : (at b : ℕ) (bs : List ℕ) → is_space b ≡ false → is_mark b ≡ false
    → tokens at (b ∷ bs) ≡ (at, take_while is_word_byte (b ∷ bs)) ∷ tokens (at + prefix_len is_word_byte (b ∷ bs)) (drop (prefix_len is_word_byte (b ∷ bs)) (b ∷ bs))
tokens-word at b bs e f =
    begins-word at b bs e f ∙ ap (λ (ts : List Token). (at, take_while is_word_byte (b ∷ bs)) ∷ ts) (tokens-inside (at + 1) bs
    ∙ rw (word_len-suc b bs e f) (ap (λ (k : ℕ). tokens k (drop (prefix_len is_word_byte bs) bs)) (omega arith)))

-- ---- the first token

go-token : (v : Bool) (at b : ℕ) (bs : List ℕ) → is_space b ≡ false → is_mark b ≡ v
    → tokens at (b ∷ bs) ≡ (at, take (token_len (b ∷ bs)) (b ∷ bs)) ∷ tokens (at + token_len (b ∷ bs)) (drop (token_len (b ∷ bs)) (b ∷ bs))
go-token true at b bs e f =
    let n : token_len (b ∷ bs) ≡ 1 = rw f refl in
    rw n (tokens-mark at b bs e f)
go-token false at b bs e f =
    let n : token_len (b ∷ bs) ≡ prefix_len is_word_byte (b ∷ bs) = rw f refl in
    rw n (tokens-word at b bs e f)

go-filled : (v : Bool) (b : ℕ) (bs : List ℕ) → is_space b ≡ false → is_mark b ≡ v → 0 < token_len (b ∷ bs)
go-filled true b bs e f =
    let n : token_len (b ∷ bs) ≡ 1 = rw f refl in
    omega arith
go-filled false b bs e f =
    let n : token_len (b ∷ bs) ≡ prefix_len is_word_byte (b ∷ bs) = rw f refl in
    omega (arith, word_len-suc b bs e f)

pub filled : (bytes rest : List ℕ) (n : ℕ) → n ≡ prefix_len is_space bytes → rest ≡ drop n bytes → 0 < length rest → 0 < token_len rest
filled bytes [] n e f h = absurd (omega arith)
filled bytes (b ∷ bs) n e f h =
    let past : drop (prefix_len is_space bytes) bytes ≡ b ∷ bs = rw (← e) (sym f) in
    go-filled (is_mark b) b bs (past_spaces bytes b bs past) refl

pub first_is : (at : ℕ) (bytes rest : List ℕ) (n : ℕ) → n ≡ prefix_len is_space bytes → rest ≡ drop n bytes → 0 < length rest
    → tokens at bytes ≡ (at + n, take (token_len rest) rest) ∷ tokens (at + n + token_len rest) (drop (token_len rest) rest)
first_is at bytes [] n e f h = absurd (omega arith)
first_is at bytes (b ∷ bs) n e f h =
    let past : drop (prefix_len is_space bytes) bytes ≡ b ∷ bs = rw (← e) (sym f) in
    let front : tokens at bytes ≡ tokens (at + n) (b ∷ bs) = tokens-spaces at bytes ∙ rw (past, e) refl in
    front ∙ go-token (is_mark b) (at + n) b bs (past_spaces bytes b bs past) refl

tokens-none : (at : ℕ) → tokens at [] ≡ []
unfolding tokens_from
tokens-none at = refl

pub none_is : (at : ℕ) (bytes rest : List ℕ) (n : ℕ) → n ≡ prefix_len is_space bytes → rest ≡ drop n bytes → length rest ≡ 0 → tokens at bytes ≡ []
none_is at bytes [] n e f h =
    let past : drop (prefix_len is_space bytes) bytes ≡ [] = rw (← e) (sym f) in
    tokens-spaces at bytes ∙ rw past (tokens-none (at + prefix_len is_space bytes))
none_is at bytes (b ∷ bs) n e f h = absurd (omega arith)
