-- Reading a text token by token, with a state for what comes next, gives the same as reading it
-- field by field.
use Rattle.std.proofs.Common.{◌≡◌, ℕ, Bool, true, false, cond, List, [], ◌∷◌, ◌++◌, Result, Ok, Err, ℤ, refl, sym, ap, ◌∙◌, append_assoc, append-nil, if◌then◌else◌}
use Rattle.plane.specs.declared.point.Point.{Point}
use Rattle.wkt.specs.declared.fault.WktFault.{WktFault}
use Rattle.wkt.specs.declared.fault.WktFault.TheVariants.{LeftOut, Syntax}
use Rattle.wkt.specs.declared.keyword.Kind.{Kind}
use Rattle.wkt.specs.declared.keyword.Kind.TheVariants as kinds
use Rattle.wkt.specs.Tokens.{Token, OPENING, CLOSING, COMMA}
use Rattle.wkt.specs.Reading.{◌>>=◌, Due, pair, second, mark, with_rest, with_front, pair_of, is_the_mark, is_left_out_form, begins_with_mark, kind_of, keyword_at, opening_at, mark_at, closing_at, end_at, number_of_token, number_at, pair_at, is_more, ring_at, ring_from, made, point_at, line_string_at, polygon_at, body_at}
use Rattle.wkt.specs.Spelling.{Listed, one_point, two_points, ring, canonical_of}

-- what comes next
pub data State : Type 0 where
  start : State
  opening : Kind → State
  point_x : State
  point_y : ℤ → State
  point_close : Point → State
  line_x : State
  line_y : ℤ → State
  line_comma : Point → State
  line_u : Point → State
  line_v : Point → ℤ → State
  line_close : Point → Point → State
  ring_open : State
  ring_x : List Point → State
  ring_y : List Point → ℤ → State
  ring_mark : List Point → State
  ring_close : List Point → State
  done : Listed → State

-- what comes after the opening bracket
abbrev pub inside : Kind → State
inside kinds.Point = point_x
inside kinds.LineString = line_x
inside kinds.Polygon = ring_open

abbrev pub at : ℤ → ℤ → Point
at x y = record { x = x; y = y }

abbrev pub keyword_step : Token → Result State WktFault
keyword_step t = if begins_with_mark t.1 then Err (Syntax t.0) else (kind_of t >>= λ k. Ok (opening k))

abbrev pub opening_step : State → Token → Result State WktFault
opening_step next t =
    if is_the_mark OPENING t.1 then Ok next
    else if is_left_out_form t.1 then Err (LeftOut t.0)
    else Err (Syntax t.0)

abbrev pub mark_step : ℕ → State → Token → Result State WktFault
mark_step b next t = if is_the_mark b t.1 then Ok next else Err (Syntax t.0)

abbrev pub closing_step : State → Token → Result State WktFault
closing_step next t =
    if is_the_mark CLOSING t.1 then Ok next
    else if is_the_mark COMMA t.1 then Err (LeftOut t.0)
    else Err (Syntax t.0)

abbrev pub number_step : (ℤ → State) → Token → Result State WktFault
number_step next t = number_of_token t >>= λ z. Ok (next z)

abbrev pub more_step : List Point → Token → Result State WktFault
more_step ps t = is_more t >>= λ more. if more then Ok (ring_x ps) else Ok (ring_close ps)

-- one token
abbrev pub step : State → Token → Result State WktFault
step start t = keyword_step t
step (opening k) t = opening_step (inside k) t
step point_x t = number_step point_y t
step (point_y x) t = number_step (λ y. point_close (at x y)) t
step (point_close p) t = mark_step CLOSING (done (one_point p)) t
step line_x t = number_step line_y t
step (line_y x) t = number_step (λ y. line_comma (at x y)) t
step (line_comma p) t = mark_step COMMA (line_u p) t
step (line_u p) t = number_step (line_v p) t
step (line_v p u) t = number_step (λ v. line_close p (at u v)) t
step (line_close p q) t = closing_step (done (two_points p q)) t
step ring_open t = mark_step OPENING (ring_x []) t
step (ring_x ps) t = number_step (ring_y ps) t
step (ring_y ps x) t = number_step (λ y. ring_mark (ps ++ at x y ∷ [])) t
step (ring_mark ps) t = more_step ps t
step (ring_close ps) t = closing_step (done (ring ps)) t
step (done l) t = Err (Syntax t.0)

-- the text's end
abbrev pub finish : State → ℕ → Result Listed WktFault
finish start end = Err (Syntax end)
finish (opening k) end = Err (Syntax end)
finish point_x end = Err (Syntax end)
finish (point_y x) end = Err (Syntax end)
finish (point_close p) end = Err (Syntax end)
finish line_x end = Err (Syntax end)
finish (line_y x) end = Err (Syntax end)
finish (line_comma p) end = Err (Syntax end)
finish (line_u p) end = Err (Syntax end)
finish (line_v p u) end = Err (Syntax end)
finish (line_close p q) end = Err (Syntax end)
finish ring_open end = Err (Syntax end)
finish (ring_x ps) end = Err (Syntax end)
finish (ring_y ps x) end = Err (Syntax end)
finish (ring_mark ps) end = Err (Syntax end)
finish (ring_close ps) end = Err (Syntax end)
finish (done l) end = Ok l

-- all tokens from a state on
abbrev pub run : State → ℕ → List Token → Result Listed WktFault
run s end [] = finish s end
run s end (t ∷ ts) = step s t >>= λ next. run next end ts

-- the shape of what is listed
abbrev pub judged : Listed → Result (List Point) WktFault
judged l = made (canonical_of l)

-- ---- each field is some steps

bind_assoc : {A B C : Type 0} (r : Result A WktFault) (f : A → Result B WktFault) (g : B → Result C WktFault) → ((r >>= f) >>= g) ≡ (r >>= λ x. f x >>= g)
bind_assoc (Ok x) f g = refl
bind_assoc (Err e) f g = refl

bind_same : {A B : Type 0} (r : Result A WktFault) (f g : A → Result B WktFault) → ((x : A) → f x ≡ g x) → (r >>= f) ≡ (r >>= g)
bind_same (Ok x) f g h = h x
bind_same (Err e) f g h = refl

go-number : (r : Result ℤ WktFault) (next : ℤ → State) (end : ℕ) (ts : List Token) → ((r >>= λ z. Ok (next z)) >>= λ s. run s end ts) ≡ (with_rest r ts >>= λ n. run (next n.0) end n.1)
go-number (Ok z) next end ts = refl
go-number (Err e) next end ts = refl

-- in this state a number comes next
abbrev WantsNumber : State → (ℤ → State) → Type 0
WantsNumber s next = ((t : Token) → step s t ≡ number_step next t) × ((end : ℕ) → finish s end ≡ Err (Syntax end))

number_run : (s : State) (next : ℤ → State) → WantsNumber s next → (end : ℕ) (ts : List Token) → run s end ts ≡ (number_at end ts >>= λ n. run (next n.0) end n.1)
unfolding number_at
number_run s next wants end [] = wants.1 end
number_run s next wants end (t ∷ ts) = ap (λ r. r >>= λ n. run n end ts) (wants.0 t) ∙ go-number (number_of_token t) next end ts

-- in this state a pair comes next
pair_run : (s : State) (x_next : ℤ → State) (next : Point → State) → WantsNumber s x_next → ((x : ℤ) → WantsNumber (x_next x) (λ y. next (at x y))) → (end : ℕ) (ts : List Token)
    → run s end ts ≡ (pair_at end ts >>= λ p. run (next p.0) end p.1)
unfolding pair_at
pair_run s x_next next x_wants y_wants end ts =
    number_run s x_next x_wants end ts
    ∙ bind_same (number_at end ts) _ _ (λ x. number_run (x_next x.0) (λ y. next (at x.0 y)) (y_wants x.0) end x.1
    ∙ sym (bind_assoc (number_at end x.1) (pair_of x.0) (λ p. run (next p.0) end p.1)))
    ∙ sym (bind_assoc (number_at end ts) (λ x. number_at end x.1 >>= pair_of x.0) (λ p. run (next p.0) end p.1))

go-mark : (v : Bool) (e : WktFault) (next : State) (end : ℕ) (ts : List Token) → (cond v (Ok next) (Err e) >>= λ s. run s end ts) ≡ (cond v (Ok ts) (Err e) >>= λ rest. run next end rest)
go-mark true e next end ts = refl
go-mark false e next end ts = refl

go-two : (v w : Bool) (d e : WktFault) (next : State) (end : ℕ) (ts : List Token)
    → (cond v (Ok next) (cond w (Err d) (Err e)) >>= λ s. run s end ts) ≡ (cond v (Ok ts) (cond w (Err d) (Err e)) >>= λ rest. run next end rest)
go-two true w d e next end ts = refl
go-two false true d e next end ts = refl
go-two false false d e next end ts = refl

mark_run : (s : State) (b : ℕ) (next : State) → ((t : Token) → step s t ≡ mark_step b next t) → ((end : ℕ) → finish s end ≡ Err (Syntax end)) → (end : ℕ) (ts : List Token)
    → run s end ts ≡ (mark_at b end ts >>= λ rest. run next end rest)
unfolding mark_at
mark_run s b next steps ends end [] = ends end
mark_run s b next steps ends end (t ∷ ts) = ap (λ r. r >>= λ n. run n end ts) (steps t) ∙ go-mark (is_the_mark b t.1) (Syntax t.0) next end ts

opening_run : (k : Kind) (end : ℕ) (ts : List Token) → run (opening k) end ts ≡ (opening_at end ts >>= λ rest. run (inside k) end rest)
unfolding opening_at
opening_run k end [] = refl
opening_run k end (t ∷ ts) = go-two (is_the_mark OPENING t.1) (is_left_out_form t.1) (LeftOut t.0) (Syntax t.0) (inside k) end ts

closing_run : (s next : State) → ((t : Token) → step s t ≡ closing_step next t) → ((end : ℕ) → finish s end ≡ Err (Syntax end)) → (end : ℕ) (ts : List Token)
    → run s end ts ≡ (closing_at end ts >>= λ rest. run next end rest)
unfolding closing_at
closing_run s next steps ends end [] = ends end
closing_run s next steps ends end (t ∷ ts) = ap (λ r. r >>= λ n. run n end ts) (steps t) ∙ go-two (is_the_mark CLOSING t.1) (is_the_mark COMMA t.1) (LeftOut t.0) (Syntax t.0) next end ts

end_run : (l : Listed) (end : ℕ) (ts : List Token) → run (done l) end ts ≡ (end_at ts >>= λ u. Ok l)
end_run l end [] = refl
end_run l end (t ∷ ts) = refl

go-keyword : (v : Bool) (r : Result Kind WktFault) (e : WktFault) (end : ℕ) (ts : List Token)
    → (cond v (Err e) (r >>= λ k. Ok (opening k)) >>= λ s. run s end ts) ≡ (cond v (Err e) (with_rest r ts) >>= λ k. run (opening k.0) end k.1)
go-keyword true r e end ts = refl
go-keyword false (Ok k) e end ts = refl
go-keyword false (Err d) e end ts = refl

keyword_run : (end : ℕ) (ts : List Token) → run start end ts ≡ (keyword_at end ts >>= λ k. run (opening k.0) end k.1)
unfolding keyword_at
keyword_run end [] = refl
keyword_run end (t ∷ ts) = go-keyword (begins_with_mark t.1) (kind_of t) (Syntax t.0) end ts

-- ---- rings

abbrev in_ring : Due → List Point → State
in_ring pair ps = ring_x ps
in_ring (second x) ps = ring_y ps x
in_ring mark ps = ring_mark ps

abbrev after_ring : List Point → ℕ → List Point × List Token → Result Listed WktFault
after_ring ps end r = run (ring_close (ps ++ r.0)) end r.1

go-x : (r : Result ℤ WktFault) (ps : List Point) (end : ℕ) (ts : List Token) → ((x : ℤ) → run (ring_y ps x) end ts ≡ (ring_from (second x) end ts >>= after_ring ps end))
    → ((r >>= λ z. Ok (ring_y ps z)) >>= λ n. run n end ts) ≡ ((r >>= λ x. ring_from (second x) end ts) >>= after_ring ps end)
go-x (Ok x) ps end ts ih = ih x
go-x (Err e) ps end ts ih = refl

front_later : (r : Result (List Point × List Token) WktFault) (p : Point) (ps : List Point) (end : ℕ) → (r >>= after_ring (ps ++ p ∷ []) end) ≡ (with_front p r >>= after_ring ps end)
front_later (Ok r) p ps end = ap (λ qs. run (ring_close qs) end r.1) (append_assoc ps (p ∷ []) r.0)
front_later (Err e) p ps end = refl

go-y : (r : Result ℤ WktFault) (x : ℤ) (ps : List Point) (end : ℕ) (ts : List Token)
    → ((y : ℤ) → run (ring_mark (ps ++ at x y ∷ [])) end ts ≡ (ring_from mark end ts >>= after_ring (ps ++ at x y ∷ []) end))
    → ((r >>= λ y. Ok (ring_mark (ps ++ at x y ∷ []))) >>= λ n. run n end ts) ≡ ((r >>= λ y. with_front (at x y) (ring_from mark end ts)) >>= after_ring ps end)
go-y (Ok y) x ps end ts ih = ih y ∙ front_later (ring_from mark end ts) (at x y) ps end
go-y (Err e) x ps end ts ih = refl

go-more : (r : Result Bool WktFault) (ps : List Point) (end : ℕ) (ts : List Token) → run (ring_x ps) end ts ≡ (ring_from pair end ts >>= after_ring ps end)
    → ((r >>= λ more. if more then Ok (ring_x ps) else Ok (ring_close ps)) >>= λ n. run n end ts) ≡ ((r >>= λ more. if more then ring_from pair end ts else Ok ([], ts)) >>= after_ring ps end)
go-more (Ok true) ps end ts ih = ih
go-more (Ok false) ps end ts ih = ap (λ qs. run (ring_close qs) end ts) (sym (append-nil ps))
go-more (Err e) ps end ts ih = refl

ring_run : (due : Due) (ps : List Point) (end : ℕ) (ts : List Token) → run (in_ring due ps) end ts ≡ (ring_from due end ts >>= after_ring ps end)
unfolding ring_from
ring_run pair ps end [] = refl
ring_run (second x) ps end [] = refl
ring_run mark ps end [] = refl
ring_run pair ps end (t ∷ ts) = go-x (number_of_token t) ps end ts (λ x. ring_run (second x) ps end ts)
ring_run (second x) ps end (t ∷ ts) = go-y (number_of_token t) x ps end ts (λ y. ring_run mark (ps ++ at x y ∷ []) end ts)
ring_run mark ps end (t ∷ ts) = go-more (is_more t) ps end ts (ring_run pair ps end ts)

-- ---- what a text lists, by fields

abbrev pub point_after : Point → List Token → Result Listed WktFault
point_after p after = end_at after >>= λ u. Ok (one_point p)

abbrev pub point_pair : ℕ → Point × List Token → Result Listed WktFault
point_pair end p = mark_at CLOSING end p.1 >>= point_after p.0

abbrev pub point_inside : ℕ → List Token → Result Listed WktFault
point_inside end inside = pair_at end inside >>= point_pair end

abbrev pub point_listing : ℕ → List Token → Result Listed WktFault
point_listing end ts = opening_at end ts >>= point_inside end

abbrev pub line_after : Point → Point → List Token → Result Listed WktFault
line_after p q after = end_at after >>= λ u. Ok (two_points p q)

abbrev pub line_second : ℕ → Point → Point × List Token → Result Listed WktFault
line_second end p q = closing_at end q.1 >>= line_after p q.0

abbrev pub line_next : ℕ → Point → List Token → Result Listed WktFault
line_next end p next = pair_at end next >>= line_second end p

abbrev pub line_pair : ℕ → Point × List Token → Result Listed WktFault
line_pair end p = mark_at COMMA end p.1 >>= line_next end p.0

abbrev pub line_inside : ℕ → List Token → Result Listed WktFault
line_inside end inside = pair_at end inside >>= line_pair end

abbrev pub line_listing : ℕ → List Token → Result Listed WktFault
line_listing end ts = opening_at end ts >>= line_inside end

abbrev pub ring_end : List Point → List Token → Result Listed WktFault
ring_end ps after = end_at after >>= λ u. Ok (ring ps)

abbrev pub ring_behind : ℕ → List Point × List Token → Result Listed WktFault
ring_behind end r = closing_at end r.1 >>= ring_end r.0

abbrev pub ring_first : ℕ → List Token → Result Listed WktFault
ring_first end first = ring_at end first >>= ring_behind end

abbrev pub ring_inside : ℕ → List Token → Result Listed WktFault
ring_inside end inside = mark_at OPENING end inside >>= ring_first end

abbrev pub ring_listing : ℕ → List Token → Result Listed WktFault
ring_listing end ts = opening_at end ts >>= ring_inside end

abbrev pub listing : Kind → ℕ → List Token → Result Listed WktFault
listing kinds.Point end ts = point_listing end ts
listing kinds.LineString end ts = line_listing end ts
listing kinds.Polygon end ts = ring_listing end ts

wants : (s : State) (next : ℤ → State) → ((t : Token) → step s t ≡ number_step next t) → ((end : ℕ) → finish s end ≡ Err (Syntax end)) → WantsNumber s next
wants s next steps ends = (steps, ends)

point_run : (end : ℕ) (ts : List Token) → run (opening kinds.Point) end ts ≡ point_listing end ts
point_run end ts =
    opening_run kinds.Point end ts ∙ bind_same (opening_at end ts) (λ i. run point_x end i) (point_inside end) (λ i.
    pair_run point_x point_y point_close (wants point_x point_y (λ t. refl) (λ e. refl)) (λ x. wants (point_y x) (λ y. point_close (at x y)) (λ t. refl) (λ e. refl)) end i
    ∙ bind_same (pair_at end i) (λ p. run (point_close p.0) end p.1) (point_pair end) (λ p.
    mark_run (point_close p.0) CLOSING (done (one_point p.0)) (λ t. refl) (λ e. refl) end p.1
    ∙ bind_same (mark_at CLOSING end p.1) (λ a. run (done (one_point p.0)) end a) (point_after p.0) (λ a. end_run (one_point p.0) end a)))

line_run : (end : ℕ) (ts : List Token) → run (opening kinds.LineString) end ts ≡ line_listing end ts
line_run end ts =
    opening_run kinds.LineString end ts ∙ bind_same (opening_at end ts) (λ i. run line_x end i) (line_inside end) (λ i.
    pair_run line_x line_y line_comma (wants line_x line_y (λ t. refl) (λ e. refl)) (λ x. wants (line_y x) (λ y. line_comma (at x y)) (λ t. refl) (λ e. refl)) end i
    ∙ bind_same (pair_at end i) (λ p. run (line_comma p.0) end p.1) (line_pair end) (λ p.
    mark_run (line_comma p.0) COMMA (line_u p.0) (λ t. refl) (λ e. refl) end p.1
    ∙ bind_same (mark_at COMMA end p.1) (λ n. run (line_u p.0) end n) (line_next end p.0) (λ n.
    pair_run (line_u p.0) (line_v p.0) (line_close p.0) (wants (line_u p.0) (line_v p.0) (λ t. refl) (λ e. refl)) (λ u. wants (line_v p.0 u) (λ v. line_close p.0 (at u v)) (λ t. refl) (λ e. refl)) end n
    ∙ bind_same (pair_at end n) (λ q. run (line_close p.0 q.0) end q.1) (line_second end p.0) (λ q.
    closing_run (line_close p.0 q.0) (done (two_points p.0 q.0)) (λ t. refl) (λ e. refl) end q.1
    ∙ bind_same (closing_at end q.1) (λ a. run (done (two_points p.0 q.0)) end a) (line_after p.0 q.0) (λ a. end_run (two_points p.0 q.0) end a)))))

polygon_run : (end : ℕ) (ts : List Token) → run (opening kinds.Polygon) end ts ≡ ring_listing end ts
polygon_run end ts =
    opening_run kinds.Polygon end ts ∙ bind_same (opening_at end ts) (λ i. run ring_open end i) (ring_inside end) (λ i.
    mark_run ring_open OPENING (ring_x []) (λ t. refl) (λ e. refl) end i
    ∙ bind_same (mark_at OPENING end i) (λ f. run (ring_x []) end f) (ring_first end) (λ f.
    ring_run pair [] end f
    ∙ bind_same (ring_at end f) (after_ring [] end) (ring_behind end) (λ r.
    closing_run (ring_close r.0) (done (ring r.0)) (λ t. refl) (λ e. refl) end r.1
    ∙ bind_same (closing_at end r.1) (λ a. run (done (ring r.0)) end a) (ring_end r.0) (λ a. end_run (ring r.0) end a))))

listing_run : (k : Kind) (end : ℕ) (ts : List Token) → run (opening k) end ts ≡ listing k end ts
listing_run kinds.Point end ts = point_run end ts
listing_run kinds.LineString end ts = line_run end ts
listing_run kinds.Polygon end ts = polygon_run end ts

pub keyword_listing : (end : ℕ) (ts : List Token) → run start end ts ≡ (keyword_at end ts >>= λ k. listing k.0 end k.1)
keyword_listing end ts = keyword_run end ts ∙ bind_same (keyword_at end ts) (λ k. run (opening k.0) end k.1) (λ k. listing k.0 end k.1) (λ k. listing_run k.0 end k.1)

-- ---- the shape of what is listed

point_judged : (end : ℕ) (ts : List Token) → (point_listing end ts >>= judged) ≡ point_at end ts
unfolding point_at
point_judged end ts =
    bind_assoc (opening_at end ts) (point_inside end) judged ∙ bind_same (opening_at end ts) (λ i. point_inside end i >>= judged) _ (λ i.
    bind_assoc (pair_at end i) (point_pair end) judged ∙ bind_same (pair_at end i) (λ p. point_pair end p >>= judged) _ (λ p.
    bind_assoc (mark_at CLOSING end p.1) (point_after p.0) judged ∙ bind_same (mark_at CLOSING end p.1) (λ a. point_after p.0 a >>= judged) _ (λ a.
    bind_assoc (end_at a) (λ u. Ok (one_point p.0)) judged)))

line_judged : (end : ℕ) (ts : List Token) → (line_listing end ts >>= judged) ≡ line_string_at end ts
unfolding line_string_at
line_judged end ts =
    bind_assoc (opening_at end ts) (line_inside end) judged ∙ bind_same (opening_at end ts) (λ i. line_inside end i >>= judged) _ (λ i.
    bind_assoc (pair_at end i) (line_pair end) judged ∙ bind_same (pair_at end i) (λ p. line_pair end p >>= judged) _ (λ p.
    bind_assoc (mark_at COMMA end p.1) (line_next end p.0) judged ∙ bind_same (mark_at COMMA end p.1) (λ n. line_next end p.0 n >>= judged) _ (λ n.
    bind_assoc (pair_at end n) (line_second end p.0) judged ∙ bind_same (pair_at end n) (λ q. line_second end p.0 q >>= judged) _ (λ q.
    bind_assoc (closing_at end q.1) (line_after p.0 q.0) judged ∙ bind_same (closing_at end q.1) (λ a. line_after p.0 q.0 a >>= judged) _ (λ a.
    bind_assoc (end_at a) (λ u. Ok (two_points p.0 q.0)) judged)))))

polygon_judged : (end : ℕ) (ts : List Token) → (ring_listing end ts >>= judged) ≡ polygon_at end ts
unfolding polygon_at
polygon_judged end ts =
    bind_assoc (opening_at end ts) (ring_inside end) judged ∙ bind_same (opening_at end ts) (λ i. ring_inside end i >>= judged) _ (λ i.
    bind_assoc (mark_at OPENING end i) (ring_first end) judged ∙ bind_same (mark_at OPENING end i) (λ f. ring_first end f >>= judged) _ (λ f.
    bind_assoc (ring_at end f) (ring_behind end) judged ∙ bind_same (ring_at end f) (λ r. ring_behind end r >>= judged) _ (λ r.
    bind_assoc (closing_at end r.1) (ring_end r.0) judged ∙ bind_same (closing_at end r.1) (λ a. ring_end r.0 a >>= judged) _ (λ a.
    bind_assoc (end_at a) (λ u. Ok (ring r.0)) judged))))

body_judged : (k : Kind) (end : ℕ) (ts : List Token) → (listing k end ts >>= judged) ≡ body_at k end ts
body_judged kinds.Point end ts = point_judged end ts
body_judged kinds.LineString end ts = line_judged end ts
body_judged kinds.Polygon end ts = polygon_judged end ts

-- reading field by field is running over all tokens, then taking the shape of what is listed
pub reading_run : (end : ℕ) (ts : List Token) → (run start end ts >>= judged) ≡ (keyword_at end ts >>= λ k. body_at k.0 end k.1)
reading_run end ts =
    ap (λ r. r >>= judged) (keyword_listing end ts) ∙ bind_assoc (keyword_at end ts) (λ k. listing k.0 end k.1) judged
    ∙ bind_same (keyword_at end ts) (λ k. listing k.0 end k.1 >>= judged) (λ k. body_at k.0 end k.1) (λ k. body_judged k.0 end k.1)
