-- The kept points of a ring give the same polygon, or the same fault, as all its points.
use Rattle.std.proofs.Common.{◌≡◌, ℕ, zero, suc, ◌<◌, Bool, true, false, cond, List, [], ◌∷◌, take, length, Option, Some, None, Result, Ok, Err, ℤ, refl, sym, ap, subst, if◌then◌else◌, ◌∙◌, arith, inl, inr}
use Rattle.std.specs.List.{list_all}
use Rattle.std.proofs.lemmas.Bool.{cases_lt, lt-ltb, and_from, and_parts}
use Rattle.std.proofs.lemmas.List.{take_all, length-take}
use Rattle.plane.specs.declared.point.Point.{Point}
use Rattle.plane.specs.declared.fault.ShapeFault.{ShapeFault}
use Rattle.plane.specs.declared.fault.ShapeFault.TheVariants.{TooManyPoints}
use Rattle.plane.specs.Canonical.{polygon_of}
use Rattle.plane.specs.declared.ring.TheConstants.{LISTED_LIMIT}
use Rattle.plane.specs.Coordinates.{is_coordinate}
use Rattle.plane.specs.Points.{is_in_range}
use Rattle.wkt.specs.declared.fault.WktFault.{WktFault}
use Rattle.wkt.specs.declared.fault.WktFault.TheVariants.{OutOfRange}
use Rattle.wkt.specs.Tokens.{Token, OPENING}
use Rattle.wkt.specs.Numbers.{in_limits, number_of, coordinate_of}
use Rattle.wkt.specs.Reading.{◌>>=◌, Due, pair, second, mark, with_front, made, begins_with_mark, number_of_token, is_more, opening_at, mark_at, closing_at, end_at, ring_at, ring_from, polygon_at}
use Rattle.wkt.specs.Kept.{kept, kept_polygon_at}
use Rattle.wkt.specs.declared.ring.TheConstants.{KEPT}

-- ---- every point that is read is in range

-- a coordinate that is read is in range
go-test : (v : Bool) (at : ℕ) (n x : ℤ) → is_coordinate n ≡ v → cond v (Ok n) (Err (OutOfRange at)) ≡ Ok x → is_coordinate x ≡ true
go-test true at n x e h = let same : n ≡ x = cc in rw (← same) e
go-test false at n x e h = absurd cc

go-limits : (at : ℕ) (o : Option ℤ) (x : ℤ) → in_limits at o ≡ Ok x → is_coordinate x ≡ true
go-limits at None x h = absurd cc
go-limits at (Some n) x h = go-test (is_coordinate n) at n x refl h

read_coordinate : (at : ℕ) (word : List ℕ) (x : ℤ) → coordinate_of at word ≡ Ok x → is_coordinate x ≡ true
unfolding coordinate_of
read_coordinate at word x h = go-limits at (number_of word) x h

go-mark : (v : Bool) (t : Token) (e : WktFault) (x : ℤ) → cond v (Err e) (coordinate_of t.0 t.1) ≡ Ok x → is_coordinate x ≡ true
go-mark true t e x h = absurd cc
go-mark false t e x h = read_coordinate t.0 t.1 x h

read_number : (t : Token) (x : ℤ) → number_of_token t ≡ Ok x → is_coordinate x ≡ true
unfolding number_of_token
read_number t x h = go-mark (begins_with_mark t.1) t _ x h

abbrev IsInRangeDue : Due → Type 0
IsInRangeDue pair = Unit {0}
IsInRangeDue (second x) = is_coordinate x ≡ true
IsInRangeDue mark = Unit {0}

abbrev AllInRange : List Point × List Token → Type 0
AllInRange ring = list_all is_in_range ring.0 ≡ true

abbrev ReadsInRange : ℕ → List Token → Type 0
ReadsInRange end ts = (due : Due) (ring : List Point × List Token) → IsInRangeDue due → ring_from due end ts ≡ Ok ring → AllInRange ring

abbrev pub done : {A : Type 0} → A → Result A WktFault
done x = Ok x

pub ok_is : {A : Type 0} (x y : A) → done x ≡ done y → x ≡ y
ok_is x y e = cc

go-pair : (end : ℕ) (t : Token) (ts : List Token) (ring : List Point × List Token) (n : Result ℤ WktFault) → ReadsInRange end ts → number_of_token t ≡ n
    → (n >>= λ x. ring_from (second x) end ts) ≡ Ok ring → AllInRange ring
go-pair end t ts ring (Ok x) ih e h = ih (second x) ring (read_number t x e) h
go-pair end t ts ring (Err f) ih e h = absurd cc

go-front : (p : Point) (reading : Result (List Point × List Token) WktFault) (ring : List Point × List Token) → is_in_range p ≡ true
    → ((r : List Point × List Token) → reading ≡ Ok r → AllInRange r) → with_front p reading ≡ Ok ring → AllInRange ring
go-front p (Ok r) ring inside ih h =
    subst AllInRange (ok_is (p ∷ r.0, r.1) ring h) (and_from _ _ inside (ih r refl))
go-front p (Err f) ring inside ih h = absurd cc

go-second : (end : ℕ) (x : ℤ) (t : Token) (ts : List Token) (ring : List Point × List Token) (n : Result ℤ WktFault) → ReadsInRange end ts → is_coordinate x ≡ true → number_of_token t ≡ n
    → (n >>= λ y. with_front (record { x = x; y = y }) (ring_from mark end ts)) ≡ Ok ring → AllInRange ring
go-second end x t ts ring (Ok y) ih inside e h =
    go-front (record { x = x; y = y }) (ring_from mark end ts) ring (and_from _ _ inside (read_number t y e)) (λ r k. ih mark r tt k) h
go-second end x t ts ring (Err f) ih inside e h = absurd cc

go-more : (end : ℕ) (ts : List Token) (ring : List Point × List Token) (m : Result Bool WktFault) → ReadsInRange end ts
    → (m >>= λ more. if more then ring_from pair end ts else Ok ([], ts)) ≡ Ok ring → AllInRange ring
go-more end ts ring (Ok true) ih h = ih pair ring tt h
go-more end ts ring (Ok false) ih h = subst AllInRange (ok_is ([], ts) ring h) refl
go-more end ts ring (Err f) ih h = absurd cc

ring_in_range : (end : ℕ) (ts : List Token) → ReadsInRange end ts
unfolding ring_from
ring_in_range end [] due ring inside h = absurd cc
ring_in_range end (t ∷ ts) pair ring inside h = go-pair end t ts ring (number_of_token t) (ring_in_range end ts) refl h
ring_in_range end (t ∷ ts) (second x) ring inside h = go-second end x t ts ring (number_of_token t) (ring_in_range end ts) inside refl h
ring_in_range end (t ∷ ts) mark ring inside h = go-more end ts ring (is_more t) (ring_in_range end ts) h

-- ---- one point more than a ring may list is too many, and so are more

list_all-take : (n : ℕ) (ps : List Point) → list_all is_in_range ps ≡ true → list_all is_in_range (take n ps) ≡ true
list_all-take zero ps h = refl
list_all-take (suc n) [] h = refl
list_all-take (suc n) (p ∷ ps) h = let parts = and_parts _ _ h in and_from _ _ parts.0 (list_all-take n ps parts.1)

too_many : (ps : List Point) → list_all is_in_range ps ≡ true → LISTED_LIMIT < length ps → polygon_of ps ≡ Err TooManyPoints
too_many ps h lt = rw (h, lt-ltb LISTED_LIMIT (length ps) lt) refl

polygon_kept : (ps : List Point) → list_all is_in_range ps ≡ true → polygon_of (take KEPT ps) ≡ polygon_of ps
polygon_kept ps h =
    elim (cases_lt KEPT (length ps)) [
      | inl lt ↦ too_many (take KEPT ps) (list_all-take KEPT ps h) (omega (arith, length-take KEPT ps)) ∙ sym (too_many ps h (omega arith))
      | inr le ↦ ap polygon_of (take_all KEPT ps le)
    ]

-- what follows a ring
abbrev behind_ring : ℕ → List Point × List Token → Result (List Point) WktFault
behind_ring end ring = closing_at end ring.1 >>= λ after. end_at after >>= λ u. made (polygon_of ring.0)

go-ring : (end : ℕ) (reading : Result (List Point × List Token) WktFault) → ((ring : List Point × List Token) → reading ≡ Ok ring → AllInRange ring)
    → (kept reading >>= behind_ring end) ≡ (reading >>= behind_ring end)
go-ring end (Ok ring) inside =
    ap (λ (s : Result (List Point) ShapeFault). closing_at end ring.1 >>= λ after. end_at after >>= λ u. made s) (polygon_kept ring.0 (inside ring refl))
go-ring end (Err e) inside = refl

go-inside : (end : ℕ) (first : Result (List Token) WktFault) → (first >>= λ ts. kept (ring_at end ts) >>= behind_ring end) ≡ (first >>= λ ts. ring_at end ts >>= behind_ring end)
go-inside end (Ok ts) = go-ring end (ring_at end ts) (λ ring h. ring_in_range end ts pair ring tt h)
go-inside end (Err e) = refl

go-opening : (end : ℕ) (opened : Result (List Token) WktFault)
    → (opened >>= λ inside. mark_at OPENING end inside >>= λ ts. kept (ring_at end ts) >>= behind_ring end) ≡ (opened >>= λ inside. mark_at OPENING end inside >>= λ ts. ring_at end ts >>= behind_ring end)
go-opening end (Ok inside) = go-inside end (mark_at OPENING end inside)
go-opening end (Err e) = refl

pub kept_polygon : (end : ℕ) (ts : List Token) → kept_polygon_at end ts ≡ polygon_at end ts
unfolding kept_polygon_at polygon_at
kept_polygon end ts = go-opening end (opening_at end ts)
