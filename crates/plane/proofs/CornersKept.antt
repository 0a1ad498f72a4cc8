-- The corners of a convex ring: what remains when the points on its straight sides are dropped.
use Rattle.std.specs.Prelude.{◌≡◌, ◌-◌, Bool, true, false, cond, List, [], ◌∷◌, All, Contains, length, get_or, slice_index_or, ℤ, pos, ◌≤ℤ◌, ◌<ℤ◌, refl}
use Rattle.std.proofs.Common.{arith, suc, ap, sym, ◌∙◌}
use Rattle.std.proofs.lemmas.Bool.{false≢true}
use Rattle.std.proofs.lemmas.Int.{ints}
use Rattle.std.proofs.lemmas.List.Elements.{All-nil, All-cons, All-head, All-tail, All-weaker, All-contains, All-contains_itself}
use Rattle.plane.specs.Convex.{AreOnOrLeft}
use Rattle.plane.specs.Points.{origin}
use Rattle.plane.specs.Rings.{turn, sides_to, is_on_line, turning, last_of}
use Rattle.plane.proofs.RingTests.{decides_line}
use Rattle.plane.proofs.Orders.{order_cases}
use Rattle.plane.proofs.Turns.{GoesStraight, turn-cycle, straight_keeps_left, straight_strict, straight_on_line, straight_line_on}
use native.Mathlib.Numerals.{unary_clauses}
use Rattle.plane.specs.declared.point.Point.{Point}

-- the next point: the first of the list, or `end`
abbrev pub next : List Point → Point → Point
next rest end = slice_index_or rest 0 end

-- the last point of the list, or p
abbrev pub last : Point → List Point → Point
last p [] = p
last p (q ∷ rest) = last q rest

pub last_of-last : (p : Point) (rest : List Point) → last_of (p ∷ rest) ≡ last p rest
last_of-last p [] = refl
last_of-last p (q ∷ rest) = shorter ∙ last_of-last q rest
  where
    shorter : get_or (p ∷ q ∷ rest) (suc (suc (length rest)) - 1) origin ≡ get_or (q ∷ rest) (suc (length rest) - 1) origin
    shorter = simp unary_clauses

-- each point of the path differs from the one before it
abbrev pub StepsDiffer : Point → Point → List Point → Type 0
StepsDiffer end p [] = p ≡ end → ⊥
StepsDiffer end p (q ∷ rest) = (p ≡ q → ⊥) × StepsDiffer end q rest

-- the path turns at each of the points
abbrev pub TurnsAtEach : Point → Point → List Point → Type 0
TurnsAtEach before end [] = Unit {0}
TurnsAtEach before end (p ∷ rest) = (turn before p (next rest end) ≡ pos 0 → ⊥) × TurnsAtEach p end rest

-- such a path keeps all its points
pub turning_all : (before end : Point) (rest : List Point) → TurnsAtEach before end rest → turning before end rest ≡ rest
turning_all before end [] h = refl
turning_all before end (p ∷ rest) h = go (is_on_line (before, p) (next rest end)) refl (turning_all p end rest h.1)
  where
    go : (v : Bool) → is_on_line (before, p) (next rest end) ≡ v → turning p end rest ≡ rest → cond v (turning p end rest) (p ∷ turning p end rest) ≡ p ∷ rest
    go true e f = absurd (h.0 ((decides_line (before, p) (next rest end)).0 e))
    go false e f = ap (λ l. p ∷ l) f

-- between two corners: c is the last corner, p the next point and m the one before p; the directed
-- lines from c to p and from m to p are the same, and z is strictly left of them
pub record IsUnderWay (points : List Point) (c m p z : Point) : Type 0 where
  pub keeps_left : (r : Point) → pos 0 ≤ℤ turn m p r → pos 0 ≤ℤ turn c p r
  pub on_line : (r : Point) → turn c p r ≡ pos 0 → turn m p r ≡ pos 0
  pub line_on : (r : Point) → turn m p r ≡ pos 0 → turn c p r ≡ pos 0
  pub left : pos 0 <ℤ turn c p z
  pub among : Contains points z

-- the corners that follow c, if the ring goes from c to p and its last point is m
pub record AreCorners (points : List Point) (c p m end : Point) (corners : List Point) : Type 0 where
  pub sides : AreOnOrLeft (sides_to end (c ∷ corners)) points
  pub turns : TurnsAtEach c end corners
  pub forward : (r : Point) → turn c (next corners end) r ≡ pos 0 → turn c p r ≡ pos 0
  pub closing : (r : Point) → turn (last c corners) end r ≡ pos 0 → turn m end r ≡ pos 0

pub at_once : (points : List Point) (c p z : Point) → pos 0 <ℤ turn c p z → Contains points z → IsUnderWay points c c p z
at_once points c p z left among = record { keeps_left = λ r h. h; on_line = λ r h. h; line_on = λ r h. h; left = left; among = among }

first_differs : (end p : Point) (rest : List Point) → StepsDiffer end p rest → p ≡ next rest end → ⊥
first_differs end p [] h e = h e
first_differs end p (q ∷ rest) h e = h.0 e

pub next_among : (points rest : List Point) (end : Point) → ((P : Point → Type 0) → All P points → All P rest) → ((P : Point → Type 0) → All P points → P end)
    → (P : Point → Type 0) → All P points → P (next rest end)
next_among points [] end among end_among P all = end_among P all
next_among points (q ∷ rest) end among end_among P all = All-head P q rest (among P all)

-- the path goes straight on at p
straight_on : (points : List Point) (c m p q z : Point) → IsUnderWay points c m p z → turn m p q ≡ pos 0 → All (λ r. pos 0 ≤ℤ turn p q r) points → (p ≡ q → ⊥) → GoesStraight c p q z
straight_on points c m p q z way flat left differ = record {
  straight = way.line_on q flat;
  left = way.left;
  left_after = All-contains (λ r. pos 0 ≤ℤ turn p q r) points z left way.among;
  differ = differ;
}

further : (points : List Point) (c p q z : Point) → GoesStraight c p q z → Contains points z → IsUnderWay points c p q z
further points c p q z h among = record {
  keeps_left = λ r. straight_keeps_left c p q z r h;
  on_line = λ r e. (straight_on_line c p q z r h e).1;
  line_on = λ r. straight_line_on c p q z r h;
  left = straight_strict c p q z h;
  among = among;
}

straight_step : (points : List Point) (c p q z m end : Point) (corners : List Point) → GoesStraight c p q z → AreCorners points c q m end corners → AreCorners points c p m end corners
straight_step points c p q z m end corners h after = record {
  sides = after.sides;
  turns = after.turns;
  forward = λ r e. (straight_on_line c p q z r h (after.forward r e)).0;
  closing = after.closing;
}

-- the path turns at p
pub left_of_way : (m p q : Point) → pos 0 ≤ℤ turn m p q → (turn m p q ≡ pos 0 → ⊥) → pos 0 <ℤ turn p q m
left_of_way m p q h apart = rw (turn-cycle p q m, turn-cycle q m p) (order_cases (turn m p q) (pos 0) _ (λ low. absurd (apart (even _ low h))) (λ above. above))
  where
    even : (a : ℤ) → a ≤ℤ pos 0 → pos 0 ≤ℤ a → a ≡ pos 0
    even a h k = omega (arith, ints)

corner_step : (points : List Point) (c m p q z last_point end : Point) (corners : List Point) → IsUnderWay points c m p z → (turn m p q ≡ pos 0 → ⊥) → All (λ r. pos 0 ≤ℤ turn m p r) points
    → AreCorners points p q last_point end corners → AreCorners points c p last_point end (p ∷ corners)
corner_step points c m p q z last_point end corners way apart left after = record {
  sides = All-cons (λ side. All (λ r. pos 0 ≤ℤ turn side.0 side.1 r) points) (c, p) (sides_to end (p ∷ corners))
      (All-weaker (λ r. pos 0 ≤ℤ turn m p r) (λ r. pos 0 ≤ℤ turn c p r) way.keeps_left points left) after.sides;
  turns = (λ e. apart (way.on_line q (turn-cycle c p q ∙ after.forward c (sym (turn-cycle c p (next corners end)) ∙ e))), after.turns);
  forward = λ r h. h;
  closing = after.closing;
}

-- the corners of the rest of the path
pub corners_after : (points : List Point) (end c m z : Point) (rest : List Point) → IsUnderWay points c m (next rest end) z
    → StepsDiffer end m rest → AreOnOrLeft (sides_to end (m ∷ rest)) points
    → ((P : Point → Type 0) → All P points → All P (m ∷ rest)) → ((P : Point → Type 0) → All P points → P end)
    → AreCorners points c (next rest end) (last m rest) end (turning m end rest)
corners_after points end c m z [] way differ left among end_among = record {
  sides = All-cons (λ side. All (λ r. pos 0 ≤ℤ turn side.0 side.1 r) points) (c, end) []
      (All-weaker (λ r. pos 0 ≤ℤ turn m end r) (λ r. pos 0 ≤ℤ turn c end r) way.keeps_left points (All-head (λ side. All (λ r. pos 0 ≤ℤ turn side.0 side.1 r) points) (m, end) [] left)) (All-nil _);
  turns = tt;
  forward = λ r h. h;
  closing = way.on_line;
}
corners_after points end c m z (p ∷ rest) way differ left among end_among =
    go (is_on_line (m, p) (next rest end)) refl
    (λ way. corners_after points end c p z rest way differ.1 others (λ P all. All-tail P m (p ∷ rest) (among P all)) end_among)
    (λ way. corners_after points end p p m rest way differ.1 others (λ P all. All-tail P m (p ∷ rest) (among P all)) end_among)
  where
    here : All (λ r. pos 0 ≤ℤ turn m p r) points
    here = All-head (λ side. All (λ r. pos 0 ≤ℤ turn side.0 side.1 r) points) (m, p) (sides_to end (p ∷ rest)) left

    others : AreOnOrLeft (sides_to end (p ∷ rest)) points
    others = All-tail (λ side. All (λ r. pos 0 ≤ℤ turn side.0 side.1 r) points) (m, p) (sides_to end (p ∷ rest)) left

    there : All (λ r. pos 0 ≤ℤ turn p (next rest end) r) points
    there = All-head (λ side. All (λ r. pos 0 ≤ℤ turn side.0 side.1 r) points) (p, next rest end) (sides_to end rest) others

    next_is : (P : Point → Type 0) → All P points → P (next rest end)
    next_is = next_among points rest end (λ P all. All-tail P p rest (All-tail P m (p ∷ rest) (among P all))) end_among

    go : (v : Bool) → is_on_line (m, p) (next rest end) ≡ v
        → (IsUnderWay points c p (next rest end) z → AreCorners points c (next rest end) (last p rest) end (turning p end rest))
        → (IsUnderWay points p p (next rest end) m → AreCorners points p (next rest end) (last p rest) end (turning p end rest))
        → AreCorners points c p (last p rest) end (cond v (turning p end rest) (p ∷ turning p end rest))
    go true e straight corner =
        let way_on : GoesStraight c p (next rest end) z = straight_on points c m p (next rest end) z way ((decides_line (m, p) (next rest end)).0 e) there (first_differs end p rest differ.1) in
        straight_step points c p (next rest end) z (last p rest) end (turning p end rest) way_on (straight (further points c p (next rest end) z way_on way.among))
    go false e straight corner =
        corner_step points c m p (next rest end) z (last p rest) end (turning p end rest) way apart here
        (corner (at_once points p (next rest end) m (left_of_way m p (next rest end) (next_is (λ r. pos 0 ≤ℤ turn m p r) here) apart) (All-head (Contains points) m (p ∷ rest) (among (Contains points) (All-contains_itself points)))))
      where
        apart : turn m p (next rest end) ≡ pos 0 → ⊥
        apart flat = false≢true (sym e ∙ (decides_line (m, p) (next rest end)).1 flat)
