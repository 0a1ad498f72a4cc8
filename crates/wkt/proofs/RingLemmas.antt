-- Reading the points of a ring in a loop, and keeping the first of them.
use Rattle.std.proofs.Common.{◌≡◌, ℕ, zero, suc, ◌<◌, Bool, true, false, List, [], ◌∷◌, ◌++◌, take, length, Result, Ok, Err, ℤ, refl, sym, ap, ◌∙◌, append_assoc, arith, if◌then◌else◌}
use Rattle.std.proofs.lemmas.List.{take_all, take_at, length-append}
use Rattle.plane.specs.declared.point.Point.{Point}
use Rattle.wkt.specs.declared.fault.WktFault.{WktFault}
use Rattle.wkt.specs.Tokens.{Token}
use Rattle.wkt.specs.Reading.{◌>>=◌, second, mark, with_rest, with_front, pair_of, number_of_token, is_more, number_at, pair_at, more_at, ring_at, ring_from}
use Rattle.wkt.specs.declared.ring.TheConstants.{KEPT}

-- what comes after a pair: the rest of the ring after a comma, otherwise nothing
abbrev pub behind_pair : ℕ → Point → Bool × List Token → Result (List Point × List Token) WktFault
behind_pair end p more = if more.0 then with_front p (ring_at end more.1) else Ok (p ∷ [], more.1)

abbrev pub after_pair : ℕ → Point × List Token → Result (List Point × List Token) WktFault
after_pair end p = more_at end p.1 >>= behind_pair end p.0

go-mark : (end : ℕ) (p : Point) (ts : List Token) (m : Result Bool WktFault)
    → with_front p (m >>= λ more. if more then ring_at end ts else Ok ([], ts)) ≡ (with_rest m ts >>= behind_pair end p)
go-mark end p ts (Ok true) = refl
go-mark end p ts (Ok false) = refl
go-mark end p ts (Err e) = refl

at-mark : (end : ℕ) (p : Point) (ts : List Token) → with_front p (ring_from mark end ts) ≡ (more_at end ts >>= behind_pair end p)
unfolding ring_from more_at
at-mark end p [] = refl
at-mark end p (t ∷ ts) = go-mark end p ts (is_more t)

go-second : (end : ℕ) (x : ℤ) (ts : List Token) (n : Result ℤ WktFault)
    → (n >>= λ y. with_front (record { x = x; y = y }) (ring_from mark end ts)) ≡ ((with_rest n ts >>= pair_of x) >>= after_pair end)
go-second end x ts (Ok y) = at-mark end (record { x = x; y = y }) ts
go-second end x ts (Err e) = refl

at-second : (end : ℕ) (x : ℤ) (ts : List Token) → ring_from (second x) end ts ≡ ((number_at end ts >>= pair_of x) >>= after_pair end)
unfolding ring_from number_at
at-second end x [] = refl
at-second end x (t ∷ ts) = go-second end x ts (number_of_token t)

-- the second number of a pair
abbrev second_at : ℕ → ℤ × List Token → Result (Point × List Token) WktFault
second_at end x = number_at end x.1 >>= pair_of x.0

go-first : (end : ℕ) (ts : List Token) (n : Result ℤ WktFault) → (n >>= λ x. ring_from (second x) end ts) ≡ ((with_rest n ts >>= second_at end) >>= after_pair end)
go-first end ts (Ok x) = at-second end x ts
go-first end ts (Err e) = refl

-- one pair, and what comes after it
pub ring_step : (end : ℕ) (ts : List Token) → ring_at end ts ≡ (pair_at end ts >>= after_pair end)
unfolding ring_from pair_at number_at
ring_step end [] = refl
ring_step end (t ∷ ts) = go-first end ts (number_of_token t)

-- a pair with a comma after it, and one with the closing bracket
pub ring_more : (end : ℕ) (p : Point) (ts behind rest : List Token) → pair_at end ts ≡ Ok (p, behind) → more_at end behind ≡ Ok (true, rest) → ring_at end ts ≡ with_front p (ring_at end rest)
ring_more end p ts behind rest one more = ring_step end ts ∙ rw (one, more) refl

pub ring_last : (end : ℕ) (p : Point) (ts behind rest : List Token) → pair_at end ts ≡ Ok (p, behind) → more_at end behind ≡ Ok (false, rest) → ring_at end ts ≡ Ok (p ∷ [], rest)
ring_last end p ts behind rest one more = ring_step end ts ∙ rw (one, more) refl

-- ---- the points that are kept

-- what is kept of the points so far together with those still to be read
abbrev pub kept_behind : List Point → Result (List Point × List Token) WktFault → Result (List Point × List Token) WktFault
kept_behind front reading = reading >>= λ ring. Ok (take KEPT (front ++ ring.0), ring.1)

take-take_append : (n : ℕ) (xs ys : List Point) → take n (take n xs ++ ys) ≡ take n (xs ++ ys)
take-take_append zero xs ys = refl
take-take_append (suc n) [] ys = refl
take-take_append (suc n) (x ∷ xs) ys = ap (λ (zs : List Point). x ∷ zs) (take-take_append n xs ys)

keep-one : (n : ℕ) (front more : List Point) (p : Point) → take n (front ++ p ∷ more) ≡ take n (take n (front ++ p ∷ []) ++ more)
keep-one n front more p = sym (take-take_append n (front ++ p ∷ []) more ∙ ap (take n) (append_assoc front (p ∷ []) more))

kept_with_front : (front : List Point) (p : Point) (reading : Result (List Point × List Token) WktFault) → kept_behind front (with_front p reading) ≡ kept_behind (take KEPT (front ++ p ∷ [])) reading
kept_with_front front p (Ok ring) = ap (λ (ps : List Point). Ok (ps, ring.1)) (keep-one KEPT front ring.0 p)
kept_with_front front p (Err e) = refl

-- the steps of the loop; `total` is the result for the whole ring
pub goes_on : (end : ℕ) (front now : List Point) (p : Point) (ts behind rest : List Token) (total : Result (List Point × List Token) WktFault)
    → pair_at end ts ≡ Ok (p, behind) → more_at end behind ≡ Ok (true, rest) → now ≡ take KEPT (front ++ p ∷ []) → kept_behind front (ring_at end ts) ≡ total → kept_behind now (ring_at end rest) ≡ total
goes_on end front now p ts behind rest total one more keeps so_far =
    let step = ring_more end p ts behind rest one more in
    rw keeps (sym (kept_with_front front p (ring_at end rest)) ∙ ap (kept_behind front) (sym step) ∙ so_far)

pub ends : (end : ℕ) (front now : List Point) (p : Point) (ts behind rest : List Token) (total : Result (List Point × List Token) WktFault)
    → pair_at end ts ≡ Ok (p, behind) → more_at end behind ≡ Ok (false, rest) → now ≡ take KEPT (front ++ p ∷ []) → kept_behind front (ring_at end ts) ≡ total → total ≡ Ok (now, rest)
ends end front now p ts behind rest total one more keeps so_far =
    let step = ring_last end p ts behind rest one more in
    sym so_far ∙ ap (kept_behind front) step ∙ rw keeps refl

pub no_pair : (end : ℕ) (front : List Point) (ts : List Token) (e : WktFault) (total : Result (List Point × List Token) WktFault)
    → pair_at end ts ≡ Err e → kept_behind front (ring_at end ts) ≡ total → total ≡ Err e
no_pair end front ts e total none so_far =
    let step : ring_at end ts ≡ Err e = ring_step end ts ∙ rw none refl in
    sym so_far ∙ ap (kept_behind front) step

pub no_more : (end : ℕ) (front : List Point) (p : Point) (ts behind : List Token) (e : WktFault) (total : Result (List Point × List Token) WktFault)
    → pair_at end ts ≡ Ok (p, behind) → more_at end behind ≡ Err e → kept_behind front (ring_at end ts) ≡ total → total ≡ Err e
no_more end front p ts behind e total one none so_far =
    let step : ring_at end ts ≡ Err e = ring_step end ts ∙ rw (one, none) refl in
    sym so_far ∙ ap (kept_behind front) step

-- one more point, with room for it and without
pub keep_more : (points : List Point) (p : Point) → length points < KEPT → points ++ p ∷ [] ≡ take KEPT (points ++ p ∷ [])
keep_more points p lt = sym (take_all KEPT (points ++ p ∷ []) (omega (arith, length-append points (p ∷ []))))

pub keep_full : (points : List Point) (p : Point) → length points ≡ KEPT → points ≡ take KEPT (points ++ p ∷ [])
keep_full points p full = sym (take_at points (p ∷ []) KEPT full)
