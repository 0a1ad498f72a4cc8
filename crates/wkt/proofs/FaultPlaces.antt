-- Where a fault is: the tokens before it begin a list of points, those up to it begin none.
use Rattle.std.specs.List.{list_all}
use Rattle.std.proofs.lemmas.Bool.{and_from}
use Rattle.std.proofs.Common.{◌≡◌, ℕ, ◌+◌, not, ◌||◌, take_while, one-add, Bool, true, false, cond, ◌⊎◌, List, [], ◌∷◌, ◌++◌, codes, length, Option, Some, None, Result, Ok, Err, ℤ, pos, refl, sym, ap, subst, ◌∙◌, inl, inr, append_assoc, if◌then◌else◌}
use Rattle.plane.specs.declared.point.Point.{Point}
use Rattle.plane.specs.declared.fault.ShapeFault.{ShapeFault}
use Rattle.plane.specs.Coordinates.{is_coordinate}
use Rattle.wkt.specs.declared.fault.WktFault.{WktFault}
use Rattle.wkt.specs.declared.fault.WktFault.TheVariants.{UnknownWord, LeftOut, Syntax, Number, OutOfRange, Bad}
use Rattle.wkt.specs.declared.keyword.Kind.{Kind}
use Rattle.wkt.specs.declared.keyword.Kind.TheVariants as kinds
use Rattle.wkt.specs.FirstFaults.{place_of, Begins, FirstFault, before_token, at_end}
use Rattle.wkt.specs.Numbers.{in_limits, number_of, coordinate_of}
use Rattle.wkt.specs.Reading.{◌>>=◌, is_word, is_the_mark, is_left_out_kind, is_left_out_form, begins_with_mark, kind_of, number_of_token, is_more, made, shape_of}
use Rattle.wkt.specs.Spelling.{Word, words, Listed, one_point, two_points, ring, SpellsListed, canonical_of}
use Rattle.wkt.specs.Tokens.{Token, tokens, tokens_from, is_space, is_mark, is_word_byte, OPENING, CLOSING, COMMA}
use Rattle.wkt.proofs.Machine.{State, start, opening, point_x, point_y, point_close, line_x, line_y, line_comma, line_u, line_v, line_close, ring_open, ring_x, ring_y, ring_mark, ring_close, done, inside, at, step, finish, run, judged, number_step, reading_run}
use Rattle.wkt.proofs.PrintedNumbers.{tokens_of_word}
use Rattle.wkt.proofs.TokensLemmas.{tokens-space, tokens-mark}
use Rattle.wkt.proofs.SpellingFound.{run_found}
use Rattle.wkt.proofs.SpellingOnly.{listed_only}

-- ---- words and tokens

words_append : (ts us : List Token) → words (ts ++ us) ≡ words ts ++ words us
words_append [] us = refl
words_append (t ∷ ts) us = ap (λ ws. t.1 ∷ ws) (words_append ts us)

-- words as tokens, all with the same place
bare : List Word → List Token
bare [] = []
bare (w ∷ ws) = (0, w) ∷ bare ws

bare_words : (ws : List Word) → words (bare ws) ≡ ws
unfolding bare
bare_words [] = refl
bare_words (w ∷ ws) = ap (λ rest. w ∷ rest) (bare_words ws)

-- ---- words that are the tokens of a text

-- a mark, or at least one byte of a word
IsPlain : Word → Type 0
IsPlain [] = ⊥
IsPlain (c ∷ cs) = ((is_space c ≡ false) × (is_mark c ≡ true) × (cs ≡ [])) ⊎ (list_all is_word_byte (c ∷ cs) ≡ true)

ArePlain : List Word → Type 0
ArePlain [] = Unit {0}
ArePlain (w ∷ ws) = IsPlain w × ArePlain ws

plain_append : (ws vs : List Word) → ArePlain ws → ArePlain vs → ArePlain (ws ++ vs)
unfolding ArePlain
plain_append [] vs h k = k
plain_append (w ∷ ws) vs h k = (h.0, plain_append ws vs h.1 k)

plain_left : (ws vs : List Word) → ArePlain (ws ++ vs) → ArePlain ws
unfolding ArePlain
plain_left [] vs h = tt
plain_left (w ∷ ws) vs h = (h.0, plain_left ws vs h.1)

-- words with a space after each
joined : List Word → List ℕ
joined [] = []
joined (w ∷ ws) = w ++ 32 ∷ joined ws

go-joined : (ws : List Word) (c : ℕ) (cs : List ℕ) (k : ℕ) → IsPlain (c ∷ cs) → ((j : ℕ) → words (tokens j (joined ws)) ≡ ws) → words (tokens k ((c ∷ cs) ++ 32 ∷ joined ws)) ≡ (c ∷ cs) ∷ ws
unfolding IsPlain
go-joined ws c cs k (inr h) ih =
    ap words (tokens_of_word k c cs 32 (joined ws) h refl) ∙ ap (λ us. (c ∷ cs) ∷ words us) (tokens-space (k + length (c ∷ cs)) 32 (joined ws) refl) ∙ ap (λ vs. (c ∷ cs) ∷ vs) (ih ((k + length (c ∷ cs)) + 1))
go-joined ws c [] k (inl h) ih =
    ap words (tokens-mark k c (32 ∷ joined ws) h.0 h.1) ∙ ap (λ us. (c ∷ []) ∷ words us) (tokens-space (k + 1) 32 (joined ws) refl) ∙ ap (λ vs. (c ∷ []) ∷ vs) (ih ((k + 1) + 1))
go-joined ws c (d ∷ cs) k (inl h) ih = absurd (no_nil d cs h.2)
  where
    no_nil : (d : ℕ) (cs : List ℕ) → d ∷ cs ≡ [] → ⊥
    no_nil d cs e = cc

no_plain : IsPlain [] → ⊥
unfolding IsPlain
no_plain h = h

joined_words : (ws : List Word) (k : ℕ) → ArePlain ws → words (tokens k (joined ws)) ≡ ws
unfolding joined ArePlain tokens_from
joined_words [] k h = refl
joined_words ([] ∷ ws) k h = absurd (no_plain h.0)
joined_words ((c ∷ cs) ∷ ws) k h = go-joined ws c cs k h.0 (λ j. joined_words ws j h.1)

taken_first : (p : ℕ → Bool) (b : ℕ) (bs : List ℕ) → p b ≡ true → take_while p (b ∷ bs) ≡ b ∷ take_while p bs
taken_first p b bs e = rw (e, one-add) refl

go-taken : (v : Bool) (p : ℕ → Bool) (b : ℕ) (bs : List ℕ) → p b ≡ v → list_all p (take_while p bs) ≡ true → list_all p (take_while p (b ∷ bs)) ≡ true
go-taken true p b bs e h = rw (e, one-add) (and_from _ _ e h)
go-taken false p b bs e h = rw e refl

taken_all : (p : ℕ → Bool) (bs : List ℕ) → list_all p (take_while p bs) ≡ true
taken_all p [] = refl
taken_all p (b ∷ bs) = go-taken (p b) p b bs refl (taken_all p bs)

word_byte : (s m : Bool) → s ≡ false → m ≡ false → not (s || m) ≡ true
word_byte s m e f = rw (e, f) refl

word_plain : (b : ℕ) (bs : List ℕ) → is_space b ≡ false → is_mark b ≡ false → IsPlain (take_while is_word_byte (b ∷ bs))
unfolding IsPlain
word_plain b bs e f =
    let first : take_while is_word_byte (b ∷ bs) ≡ b ∷ take_while is_word_byte bs = taken_first is_word_byte b bs (word_byte (is_space b) (is_mark b) e f) in
    subst IsPlain (sym first) (inr (subst (λ w. list_all is_word_byte w ≡ true) first (taken_all is_word_byte (b ∷ bs))))

mark_plain : (b : ℕ) → is_space b ≡ false → is_mark b ≡ true → IsPlain (b ∷ [])
unfolding IsPlain
mark_plain b e f = inl (e, f, refl)

both_plain : (w : Word) (ts : List Token) (k : ℕ) → IsPlain w → ArePlain (words ts) → ArePlain (words ((k, w) ∷ ts))
unfolding ArePlain
both_plain w ts k h all = (h, all)

go-plain : (v w : Bool) (inside : Bool) (k b : ℕ) (bs : List ℕ) → is_space b ≡ v → is_mark b ≡ w → ((inside : Bool) (j : ℕ) → ArePlain (words (tokens_from inside j bs)))
    → ArePlain (words (cond v (tokens_from false (k + 1) bs) (cond w ((k, b ∷ []) ∷ tokens_from false (k + 1) bs)
    (cond inside (tokens_from true (k + 1) bs) ((k, take_while is_word_byte (b ∷ bs)) ∷ tokens_from true (k + 1) bs)))))
go-plain true w inside k b bs e f ih = ih false (k + 1)
go-plain false true inside k b bs e f ih = both_plain (b ∷ []) (tokens_from false (k + 1) bs) k (mark_plain b e f) (ih false (k + 1))
go-plain false false true k b bs e f ih = ih true (k + 1)
go-plain false false false k b bs e f ih = both_plain (take_while is_word_byte (b ∷ bs)) (tokens_from true (k + 1) bs) k (word_plain b bs e f) (ih true (k + 1))

tokens_plain : (bytes : List ℕ) (inside : Bool) (k : ℕ) → ArePlain (words (tokens_from inside k bytes))
unfolding tokens_from ArePlain
tokens_plain [] inside k = tt
tokens_plain (b ∷ bs) inside k = go-plain (is_space b) (is_mark b) inside k b bs refl refl (tokens_plain bs)

-- ---- the fault of a step has the place of its token

abbrev fault : {A : Type 0} → WktFault → Result A WktFault
fault e = Err e

err_is : {A : Type 0} (d e : WktFault) → fault {A = A} d ≡ fault e → d ≡ e
err_is d e h = cc

same_fault : {A : Type 0} (r : Result A WktFault) (d e : WktFault) → r ≡ Err d → r ≡ Err e → d ≡ e
same_fault r d e g h = cc

HasPlace : {A : Type 0} → Result A WktFault → ℕ → Type 0
HasPlace r k = (e : WktFault) → r ≡ Err e → place_of e ≡ Some k

placed : {A : Type 0} (r : Result A WktFault) (k : ℕ) (e : WktFault) → HasPlace r k → r ≡ Err e → place_of e ≡ Some k
unfolding HasPlace
placed r k e has h = has e h

ok_place : {A : Type 0} (x : A) (k : ℕ) → HasPlace (Ok x) k
unfolding HasPlace
ok_place x k = λ e h. absurd cc

err_place : {A : Type 0} (r : Result A WktFault) (d : WktFault) (k : ℕ) → r ≡ Err d → place_of d ≡ Some k → HasPlace r k
unfolding HasPlace
err_place r d k is p = λ e h. subst (λ f. place_of f ≡ Some k) (same_fault r d e is h) p

cond_place : {A : Type 0} (v : Bool) (r s : Result A WktFault) (k : ℕ) → HasPlace r k → HasPlace s k → HasPlace (cond v r s) k
cond_place true r s k p q = p
cond_place false r s k p q = q

bind_place : {A B : Type 0} (r : Result A WktFault) (f : A → Result B WktFault) (k : ℕ) → HasPlace r k → ((x : A) → HasPlace (f x) k) → HasPlace (r >>= f) k
unfolding HasPlace
bind_place (Ok x) f k p q = q x
bind_place (Err d) f k p q = λ e h. p e (ap (λ (z : WktFault). Err z) (err_is d e h))

limits_place : (k : ℕ) (n : Option ℤ) → HasPlace (in_limits k n) k
limits_place k None = err_place _ (Number k) k refl refl
limits_place k (Some n) = cond_place (is_coordinate n) (Ok n) (Err (OutOfRange k)) k (ok_place n k) (err_place _ (OutOfRange k) k refl refl)

number_place : (t : Token) → HasPlace (number_of_token t) t.0
unfolding number_of_token coordinate_of
number_place t = cond_place (begins_with_mark t.1) (Err (Syntax t.0)) (in_limits t.0 (number_of t.1)) t.0 (err_place _ (Syntax t.0) t.0 refl refl) (limits_place t.0 (number_of t.1))

kind_place : (t : Token) → HasPlace (kind_of t) t.0
unfolding kind_of
kind_place t =
    cond_place (is_word (codes "POINT") t.1) _ _ t.0 (ok_place kinds.Point t.0)
    (cond_place (is_word (codes "LINESTRING") t.1) _ _ t.0 (ok_place kinds.LineString t.0)
    (cond_place (is_word (codes "POLYGON") t.1) _ _ t.0 (ok_place kinds.Polygon t.0)
    (cond_place (is_left_out_kind t.1) _ _ t.0 (err_place _ (LeftOut t.0) t.0 refl refl) (err_place _ (UnknownWord t.0) t.0 refl refl))))

more_place : (t : Token) → HasPlace (is_more t) t.0
unfolding is_more
more_place t =
    cond_place (is_the_mark COMMA t.1) _ _ t.0 (ok_place true t.0)
    (cond_place (is_the_mark CLOSING t.1) _ _ t.0 (ok_place false t.0) (err_place _ (Syntax t.0) t.0 refl refl))

digits_place : (next : ℤ → State) (t : Token) → HasPlace (number_step next t) t.0
digits_place next t = bind_place (number_of_token t) (λ z. Ok (next z)) t.0 (number_place t) (λ z. ok_place (next z) t.0)

one_place : (v : Bool) (next : State) (t : Token) → HasPlace (cond v (Ok next) (Err (Syntax t.0))) t.0
one_place v next t = cond_place v (Ok next) (Err (Syntax t.0)) t.0 (ok_place next t.0) (err_place _ (Syntax t.0) t.0 refl refl)

two_place : (v w : Bool) (next : State) (t : Token) → HasPlace (cond v (Ok next) (cond w (Err (LeftOut t.0)) (Err (Syntax t.0)))) t.0
two_place v w next t =
    cond_place v (Ok next) (cond w (Err (LeftOut t.0)) (Err (Syntax t.0))) t.0 (ok_place next t.0)
    (cond_place w (Err (LeftOut t.0)) (Err (Syntax t.0)) t.0 (err_place _ (LeftOut t.0) t.0 refl refl) (err_place _ (Syntax t.0) t.0 refl refl))

step_place : (s : State) (t : Token) → HasPlace (step s t) t.0
step_place start t =
    cond_place (begins_with_mark t.1) (Err (Syntax t.0)) (kind_of t >>= λ k. Ok (opening k)) t.0 (err_place _ (Syntax t.0) t.0 refl refl)
    (bind_place (kind_of t) (λ k. Ok (opening k)) t.0 (kind_place t) (λ k. ok_place (opening k) t.0))
step_place (opening k) t = two_place (is_the_mark OPENING t.1) (is_left_out_form t.1) (inside k) t
step_place point_x t = digits_place point_y t
step_place (point_y x) t = digits_place (λ y. point_close (at x y)) t
step_place (point_close p) t = one_place (is_the_mark CLOSING t.1) (done (one_point p)) t
step_place line_x t = digits_place line_y t
step_place (line_y x) t = digits_place (λ y. line_comma (at x y)) t
step_place (line_comma p) t = one_place (is_the_mark COMMA t.1) (line_u p) t
step_place (line_u p) t = digits_place (line_v p) t
step_place (line_v p u) t = digits_place (λ v. line_close p (at u v)) t
step_place (line_close p q) t = two_place (is_the_mark CLOSING t.1) (is_the_mark COMMA t.1) (done (two_points p q)) t
step_place ring_open t = one_place (is_the_mark OPENING t.1) (ring_x []) t
step_place (ring_x ps) t = digits_place (ring_y ps) t
step_place (ring_y ps x) t = digits_place (λ y. ring_mark (ps ++ at x y ∷ [])) t
step_place (ring_mark ps) t =
    bind_place (is_more t) (λ more. if more then Ok (ring_x ps) else Ok (ring_close ps)) t.0 (more_place t)
    (λ more. cond_place more (Ok (ring_x ps)) (Ok (ring_close ps)) t.0 (ok_place (ring_x ps) t.0) (ok_place (ring_close ps) t.0))
step_place (ring_close ps) t = two_place (is_the_mark CLOSING t.1) (is_the_mark COMMA t.1) (done (ring ps)) t
step_place (done l) t = err_place _ (Syntax t.0) t.0 refl refl

finish_place : (s : State) (end : ℕ) → HasPlace (finish s end) end
finish_place start end = err_place _ (Syntax end) end refl refl
finish_place (opening k) end = err_place _ (Syntax end) end refl refl
finish_place point_x end = err_place _ (Syntax end) end refl refl
finish_place (point_y x) end = err_place _ (Syntax end) end refl refl
finish_place (point_close p) end = err_place _ (Syntax end) end refl refl
finish_place line_x end = err_place _ (Syntax end) end refl refl
finish_place (line_y x) end = err_place _ (Syntax end) end refl refl
finish_place (line_comma p) end = err_place _ (Syntax end) end refl refl
finish_place (line_u p) end = err_place _ (Syntax end) end refl refl
finish_place (line_v p u) end = err_place _ (Syntax end) end refl refl
finish_place (line_close p q) end = err_place _ (Syntax end) end refl refl
finish_place ring_open end = err_place _ (Syntax end) end refl refl
finish_place (ring_x ps) end = err_place _ (Syntax end) end refl refl
finish_place (ring_y ps x) end = err_place _ (Syntax end) end refl refl
finish_place (ring_mark ps) end = err_place _ (Syntax end) end refl refl
finish_place (ring_close ps) end = err_place _ (Syntax end) end refl refl
finish_place (done l) end = ok_place l end

-- ---- each state can be completed

record Completes (s : State) : Type 0 where
  more : List Token
  listed : Listed
  ends : run s 0 more ≡ Ok listed
  plain : ArePlain (words more)

by_step : (s next : State) (t : Token) → IsPlain t.1 → step s t ≡ Ok next → Completes next → Completes s
by_step s next t p h c = record { more = t ∷ c.more; listed = c.listed; ends = ap (λ r. r >>= λ n. run n 0 c.more) h ∙ c.ends; plain = both_plain t.1 c.more t.0 p c.plain }

zero_word : Token
zero_word = (0, 48 ∷ [])

zero_read : number_of_token zero_word ≡ Ok (pos 0)
unfolding number_of_token coordinate_of zero_word
zero_read = refl

zero_plain : IsPlain zero_word.1
unfolding IsPlain zero_word
zero_plain = inr refl

by_zero : (s : State) (next : ℤ → State) → ((t : Token) → step s t ≡ number_step next t) → Completes (next (pos 0)) → Completes s
by_zero s next steps c = by_step s (next (pos 0)) zero_word zero_plain (steps zero_word ∙ ap (λ r. r >>= λ z. Ok (next z)) zero_read) c

abbrev sign : ℕ → Token
sign b = (0, b ∷ [])

nothing_plain : ArePlain (words [])
unfolding ArePlain
nothing_plain = tt

more_closing : is_more (sign CLOSING) ≡ Ok false
unfolding is_more
more_closing = refl

complete_done : (l : Listed) → Completes (done l)
complete_done l = record { more = []; listed = l; ends = refl; plain = nothing_plain }

complete_point : (p : Point) → Completes (point_close p)
complete_point p = by_step (point_close p) (done (one_point p)) (sign CLOSING) (mark_plain CLOSING refl refl) refl (complete_done (one_point p))

complete_point_y : (x : ℤ) → Completes (point_y x)
complete_point_y x = by_zero (point_y x) (λ y. point_close (at x y)) (λ t. refl) (complete_point (at x (pos 0)))

complete_point_x : Completes point_x
complete_point_x = by_zero point_x point_y (λ t. refl) (complete_point_y (pos 0))

complete_line : (p q : Point) → Completes (line_close p q)
complete_line p q = by_step (line_close p q) (done (two_points p q)) (sign CLOSING) (mark_plain CLOSING refl refl) refl (complete_done (two_points p q))

complete_line_v : (p : Point) (u : ℤ) → Completes (line_v p u)
complete_line_v p u = by_zero (line_v p u) (λ v. line_close p (at u v)) (λ t. refl) (complete_line p (at u (pos 0)))

complete_line_u : (p : Point) → Completes (line_u p)
complete_line_u p = by_zero (line_u p) (line_v p) (λ t. refl) (complete_line_v p (pos 0))

complete_line_comma : (p : Point) → Completes (line_comma p)
complete_line_comma p = by_step (line_comma p) (line_u p) (sign COMMA) (mark_plain COMMA refl refl) refl (complete_line_u p)

complete_line_y : (x : ℤ) → Completes (line_y x)
complete_line_y x = by_zero (line_y x) (λ y. line_comma (at x y)) (λ t. refl) (complete_line_comma (at x (pos 0)))

complete_line_x : Completes line_x
complete_line_x = by_zero line_x line_y (λ t. refl) (complete_line_y (pos 0))

complete_ring_close : (ps : List Point) → Completes (ring_close ps)
complete_ring_close ps = by_step (ring_close ps) (done (ring ps)) (sign CLOSING) (mark_plain CLOSING refl refl) refl (complete_done (ring ps))

complete_ring_mark : (ps : List Point) → Completes (ring_mark ps)
complete_ring_mark ps = by_step (ring_mark ps) (ring_close ps) (sign CLOSING) (mark_plain CLOSING refl refl) (ap (λ r. r >>= λ more. if more then Ok (ring_x ps) else Ok (ring_close ps)) more_closing) (complete_ring_close ps)

complete_ring_y : (ps : List Point) (x : ℤ) → Completes (ring_y ps x)
complete_ring_y ps x = by_zero (ring_y ps x) (λ y. ring_mark (ps ++ at x y ∷ [])) (λ t. refl) (complete_ring_mark (ps ++ at x (pos 0) ∷ []))

complete_ring_x : (ps : List Point) → Completes (ring_x ps)
complete_ring_x ps = by_zero (ring_x ps) (ring_y ps) (λ t. refl) (complete_ring_y ps (pos 0))

complete_ring_open : Completes ring_open
complete_ring_open = by_step ring_open (ring_x []) (sign OPENING) (mark_plain OPENING refl refl) refl (complete_ring_x [])

complete_inside : (k : Kind) → Completes (inside k)
complete_inside kinds.Point = complete_point_x
complete_inside kinds.LineString = complete_line_x
complete_inside kinds.Polygon = complete_ring_open

complete_opening : (k : Kind) → Completes (opening k)
complete_opening k = by_step (opening k) (inside k) (sign OPENING) (mark_plain OPENING refl refl) refl (complete_inside k)

point_word : kind_of (0, codes "POINT") ≡ Ok kinds.Point
unfolding kind_of
point_word = refl

point_plain : IsPlain (codes "POINT")
unfolding IsPlain
point_plain = inr refl

complete : (s : State) → Completes s
complete start = by_step start (opening kinds.Point) (0, codes "POINT") point_plain (ap (λ r. r >>= λ k. Ok (opening k)) point_word) (complete_opening kinds.Point)
complete (opening k) = complete_opening k
complete point_x = complete_point_x
complete (point_y x) = complete_point_y x
complete (point_close p) = complete_point p
complete line_x = complete_line_x
complete (line_y x) = complete_line_y x
complete (line_comma p) = complete_line_comma p
complete (line_u p) = complete_line_u p
complete (line_v p u) = complete_line_v p u
complete (line_close p q) = complete_line p q
complete ring_open = complete_ring_open
complete (ring_x ps) = complete_ring_x ps
complete (ring_y ps x) = complete_ring_y ps x
complete (ring_mark ps) = complete_ring_mark ps
complete (ring_close ps) = complete_ring_close ps
complete (done l) = complete_done l

-- ---- where a run stops

abbrev Reaches : State → List Token → State → Type 0
Reaches s front reached = (end : ℕ) (more : List Token) → run s end (front ++ more) ≡ run reached end more

record StopsAtToken (s : State) (ts : List Token) (e : WktFault) : Type 0 where
  front : List Token
  token : Token
  after : List Token
  reached : State
  whole : ts ≡ front ++ token ∷ after
  reaches : Reaches s front reached
  fails : step reached token ≡ Err e

record StopsAtFinish (s : State) (ts : List Token) (end : ℕ) (e : WktFault) : Type 0 where
  reached : State
  reaches : Reaches s ts reached
  fails : finish reached end ≡ Err e

abbrev Stops : State → List Token → ℕ → WktFault → Type 0
Stops s ts end e = StopsAtToken s ts e ⊎ StopsAtFinish s ts end e

later : (s next : State) (t : Token) (ts : List Token) (end : ℕ) (e : WktFault) → step s t ≡ Ok next → Stops next ts end e → Stops s (t ∷ ts) end e
later s next t ts end e h (inl stop) = inl (record {
  front = t ∷ stop.front;
  token = stop.token;
  after = stop.after;
  reached = stop.reached;
  whole = ap (λ (us : List Token). t ∷ us) stop.whole;
  reaches = λ k more. ap (λ r. r >>= λ n. run n k (stop.front ++ more)) h ∙ stop.reaches k more;
  fails = stop.fails;
})
later s next t ts end e h (inr stop) = inr (record { reached = stop.reached; reaches = λ k more. ap (λ r. r >>= λ n. run n k (ts ++ more)) h ∙ stop.reaches k more; fails = stop.fails })

go-stops : (s : State) (t : Token) (ts : List Token) (end : ℕ) (e : WktFault) (r : Result State WktFault) → step s t ≡ r → ((n : State) → run n end ts ≡ Err e → Stops n ts end e) → (r >>= λ n. run n end ts) ≡ Err e
    → Stops s (t ∷ ts) end e
go-stops s t ts end e (Ok n) h ih fails = later s n t ts end e h (ih n fails)
go-stops s t ts end e (Err d) h ih fails = inl (record {
  front = [];
  token = t;
  after = ts;
  reached = s;
  whole = refl;
  reaches = λ k more. refl;
  fails = h ∙ ap (λ (f : WktFault). Err f) (err_is d e fails);
})

run_stops : (ts : List Token) (s : State) (end : ℕ) (e : WktFault) → run s end ts ≡ Err e → Stops s ts end e
run_stops [] s end e h = inr (record { reached = s; reaches = λ k more. refl; fails = h })
run_stops (t ∷ ts) s end e h = go-stops s t ts end e (step s t) refl (λ n fails. run_stops ts n end e fails) h

-- ---- what begins a list of points, and what does not

reached_begins : (front : List Token) (reached : State) → ArePlain (words front) → Reaches start front reached → Begins (words front)
reached_begins front reached plain reaches =
    let c = complete reached in
    record {
      text = joined (words front ++ words c.more);
      whole = joined_words (words front ++ words c.more) 0 (plain_append (words front) (words c.more) plain c.plain);
      more = words c.more;
      listed = c.listed;
      spelled = subst (λ ws. SpellsListed ws c.listed) (words_append front c.more) (run_found 0 (front ++ c.more) c.listed (reaches 0 c.more ∙ c.ends));
    }

made_no_place : (r : Result (List Point) ShapeFault) (e : WktFault) (k : ℕ) → made r ≡ Err e → place_of e ≡ Some k → ⊥
made_no_place (Ok ps) e k h p = absurd cc
made_no_place (Err f) e k h p = no_place (subst (λ d. place_of d ≡ Some k) (sym (err_is {A = List Point} (Bad f) e h)) p)
  where
    no_place : place_of (Bad f) ≡ Some k → ⊥
    no_place q = cc

-- tokens whose run fails at a place list no points
fails_not : (end : ℕ) (ts : List Token) (listed : Listed) (e : WktFault) (k : ℕ) → run start end ts ≡ Err e → place_of e ≡ Some k → SpellsListed (words ts) listed → ⊥
fails_not end ts listed e k h p spelled =
    made_no_place (canonical_of listed) e k (sym (listed_only end ts listed spelled) ∙ sym (reading_run end ts) ∙ ap (λ r. r >>= judged) h) p

token_begins_not : (front : List Token) (t : Token) (reached : State) (e : WktFault) → Reaches start front reached → step reached t ≡ Err e → Begins (words front ++ t.1 ∷ []) → ⊥
token_begins_not front t reached e reaches fails begins =
    fails_not 0 (front ++ t ∷ bare begins.more) begins.listed e t.0
    (reaches 0 (t ∷ bare begins.more) ∙ ap (λ r. r >>= λ n. run n 0 (bare begins.more)) fails)
    (placed (step reached t) t.0 e (step_place reached t) fails)
    (subst (λ ws. SpellsListed ws begins.listed) (sym same) begins.spelled)
  where
    same : words (front ++ t ∷ bare begins.more) ≡ (words front ++ t.1 ∷ []) ++ begins.more
    same = words_append front (t ∷ bare begins.more) ∙ ap (λ ws. words front ++ t.1 ∷ ws) (bare_words begins.more) ∙ sym (append_assoc (words front) (t.1 ∷ []) begins.more)

-- ---- the law

some_is : (a b : ℕ) (o : Option ℕ) → o ≡ Some a → o ≡ Some b → a ≡ b
some_is a b o e f = cc

front_plain : (text : List ℕ) (front : List Token) (t : Token) (after : List Token) → tokens 0 text ≡ front ++ t ∷ after → ArePlain (words front)
front_plain text front t after whole =
    plain_left (words front) (words (t ∷ after)) (subst ArePlain (words_append front (t ∷ after)) (subst (λ ts. ArePlain (words ts)) whole (tokens_plain text false 0)))

first_by_stop : (text : List ℕ) (e : WktFault) (k : ℕ) → run start (length text) (tokens 0 text) ≡ Err e → place_of e ≡ Some k → Stops start (tokens 0 text) (length text) e → FirstFault text k
first_by_stop text e k h p (inl stop) =
    before_token stop.front stop.token stop.after (some_is _ _ (place_of e) (placed (step stop.reached stop.token) stop.token.0 e (step_place stop.reached stop.token) stop.fails) p) (record {
      whole = stop.whole;
      begins = reached_begins stop.front stop.reached (front_plain text stop.front stop.token stop.after stop.whole) stop.reaches;
      stops = token_begins_not stop.front stop.token stop.reached e stop.reaches stop.fails;
    })
first_by_stop text e k h p (inr stop) =
    at_end (some_is _ _ (place_of e) (placed (finish stop.reached (length text)) (length text) e (finish_place stop.reached (length text)) stop.fails) p) (record {
      begins = reached_begins (tokens 0 text) stop.reached (tokens_plain text false 0) stop.reaches;
      stops = λ listed spelled. fails_not (length text) (tokens 0 text) listed e k h p spelled;
    })

judged_fails : (r : Result Listed WktFault) (e : WktFault) (k : ℕ) → (r >>= judged) ≡ Err e → place_of e ≡ Some k → r ≡ Err e
judged_fails (Ok l) e k h p = absurd (made_no_place (canonical_of l) e k h p)
judged_fails (Err d) e k h p = ap (λ (f : WktFault). Err f) (err_is {A = List Point} d e h)

pub fault_is_first : (text : List ℕ) (e : WktFault) (k : ℕ) → shape_of text ≡ Err e → place_of e ≡ Some k → FirstFault text k
unfolding shape_of
fault_is_first text e k h p =
    let failed : run start (length text) (tokens 0 text) ≡ Err e = judged_fails (run start (length text) (tokens 0 text)) e k (reading_run (length text) (tokens 0 text) ∙ h) p in
    first_by_stop text e k failed p (run_stops (tokens 0 text) start (length text) e failed)
