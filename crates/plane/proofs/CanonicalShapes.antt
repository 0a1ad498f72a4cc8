-- The corners of listed points are a canonical shape.
use Rattle.std.specs.Prelude.{◌≡◌, ◌-◌, ◌<◌, ◌≤◌, not, cond, Bool, true, false, List, [], ◌∷◌, All, length, take, reverse, nat_lt, Result, Ok, Err, pos, ℤ, ◌≤ℤ◌, refl}
use Rattle.std.specs.List.{list_all}
use Rattle.std.proofs.Common.{arith, sym, subst, ◌∙◌, ⊎_elim, length-take-le}
use Rattle.std.proofs.lemmas.Bool.{true≢false, false≢true, false_from_ne_true, ltb-false}
use Rattle.std.proofs.lemmas.List.Elements.{All-nil, All-cons, All-head, All-tail, All-take}
use Rattle.plane.specs.Canonical.{point_of, in_order, segment_of, corners_of, ring_of, polygon_of, IsCanonical}
use Rattle.plane.specs.Convex.{IsConvexRing}
use Rattle.plane.specs.Points.{IsInRange, is_in_range, is_same, is_before}
use Rattle.plane.specs.Rings.{turn, first_of, last_of, has_repeat, is_flat, goes_left, from_least, turning_points}
use Rattle.plane.proofs.Least.{not_before, one_precedes}
use Rattle.plane.proofs.RingTests.{decides_all, decides_in_range, decides_same, convex_if}
use Rattle.plane.proofs.Rings.{convex_canonical}
use Rattle.plane.proofs.Rotations.{reversed_if}
use Rattle.std.proofs.lemmas.Int.{ints}
use Rattle.plane.proofs.Turns.{turn-cycle, turn_back, turn_nowhere}
use Rattle.plane.specs.declared.point.Point.{Point}
use Rattle.plane.specs.declared.ring.TheConstants.{LISTED_LIMIT}
use Rattle.plane.specs.declared.shape.TheConstants.{CORNER_LIMIT}
use Rattle.plane.specs.declared.fault.ShapeFault.{ShapeFault}
use Rattle.plane.specs.declared.fault.ShapeFault.TheVariants.{OutOfRange, SameEnds, TooManyPoints, TooFew, NotClosed, Repeated, Flat, NotConvex, TooManyCorners}

-- ---- results

abbrev Found : Type 0
Found = Result (List Point) ShapeFault

abbrev done : List Point → Found
done corners = Ok corners

done_is : (a b : List Point) → done a ≡ done b → a ≡ b
done_is a b e = cc

-- a value from a test that chooses between a result and a fault is that of the result
if_ok : (v : Bool) (r : Found) (e : ShapeFault) (corners : List Point) → cond v r (Err e) ≡ Ok corners → (v ≡ true) × (r ≡ Ok corners)
if_ok true r e corners h = (refl, h)
if_ok false r e corners h = absurd cc

unless_ok : (v : Bool) (r : Found) (e : ShapeFault) (corners : List Point) → cond v (Err e) r ≡ Ok corners → (v ≡ false) × (r ≡ Ok corners)
unless_ok true r e corners h = absurd cc
unless_ok false r e corners h = (refl, h)

unless_not_ok : (v : Bool) (r : Found) (e : ShapeFault) (corners : List Point) → cond (not v) (Err e) r ≡ Ok corners → (v ≡ true) × (r ≡ Ok corners)
unless_not_ok true r e corners h = (refl, h)
unless_not_ok false r e corners h = absurd cc

passes_point : (v : Bool) (r : Found) (e : ShapeFault) → v ≡ true → cond v r (Err e) ≡ r
passes_point v r e h = rw h refl

passes_segment : (a b c : Bool) (x y : List Point) (e f : ShapeFault) → a ≡ true → b ≡ false → c ≡ false → cond a (cond b (Err e) (done (cond c x y))) (Err f) ≡ done y
passes_segment a b c x y e f p q s = rw (p, q, s) refl

in_range_all : (points : List Point) → list_all is_in_range points ≡ true → All IsInRange points
in_range_all points h = (decides_all is_in_range IsInRange decides_in_range points).0 h

-- ---- points

pub point_canonical : (p : Point) (corners : List Point) → point_of p ≡ Ok corners → IsCanonical corners
point_canonical p corners h =
    let inside = if_ok (is_in_range p) (done (p ∷ [])) OutOfRange corners h in
    subst IsCanonical (done_is (p ∷ []) corners inside.1) (alone inside.0)
  where
    none : (a : ℤ) → a ≡ pos 0 → pos 0 ≤ℤ a
    none a e = omega (arith, ints)

    alone : is_in_range p ≡ true → IsCanonical (p ∷ [])
    alone e = record {
      in_range = All-cons IsInRange p [] ((decides_in_range p).0 e) (All-nil IsInRange);
      not_empty = omega arith;
      at_most = omega arith;
      first_least = All-nil _;
      listed = passes_point (is_in_range p) (done (p ∷ [])) OutOfRange e;
      left = All-cons (λ side. All (λ r. pos 0 ≤ℤ turn side.0 side.1 r) (p ∷ [])) (p, p) [] (All-cons (λ r. pos 0 ≤ℤ turn p p r) p [] (none _ (turn_nowhere p p)) (All-nil _)) (All-nil _);
      turn_left = λ three. absurd (omega (arith, three));
    }

-- ---- segments

-- two distinct points, the second of which is not before the first
pub ordered_canonical : (p q : Point) → IsInRange p → IsInRange q → is_same p q ≡ false → is_before q p ≡ false → IsCanonical (p ∷ q ∷ [])
ordered_canonical p q p_in q_in differ order = record {
  in_range = both;
  not_empty = omega arith;
  at_most = omega arith;
  first_least = All-cons (λ r. is_before r p ≡ false) q [] order (All-nil _);
  listed = passes_segment (list_all is_in_range (p ∷ q ∷ [])) (is_same p q) (is_before q p) (q ∷ p ∷ []) (p ∷ q ∷ []) SameEnds OutOfRange
      ((decides_all is_in_range IsInRange decides_in_range (p ∷ q ∷ [])).1 both) differ order;
  left = All-cons (λ side. All (λ r. pos 0 ≤ℤ turn side.0 side.1 r) (p ∷ q ∷ [])) (p, q) ((q, p) ∷ []) (ends p q (none _ (turn_back p q)) (none _ (turn_end p q)))
      (All-cons (λ side. All (λ r. pos 0 ≤ℤ turn side.0 side.1 r) (p ∷ q ∷ [])) (q, p) [] (ends q p (none _ (turn_end q p)) (none _ (turn_back q p))) (All-nil _));
  turn_left = λ three. absurd (omega (arith, three));
}
  where
    both : All IsInRange (p ∷ q ∷ [])
    both = All-cons IsInRange p (q ∷ []) p_in (All-cons IsInRange q [] q_in (All-nil IsInRange))

    none : (a : ℤ) → a ≡ pos 0 → pos 0 ≤ℤ a
    none a e = omega (arith, ints)

    turn_end : (a b : Point) → turn a b b ≡ pos 0
    turn_end a b = turn-cycle a b b ∙ turn-cycle b b a ∙ turn_back b a

    ends : (a b : Point) → pos 0 ≤ℤ turn a b p → pos 0 ≤ℤ turn a b q → All (λ r. pos 0 ≤ℤ turn a b r) (p ∷ q ∷ [])
    ends a b h k = All-cons (λ r. pos 0 ≤ℤ turn a b r) p (q ∷ []) h (All-cons (λ r. pos 0 ≤ℤ turn a b r) q [] k (All-nil _))

same_either_way : (p q : Point) → is_same p q ≡ false → is_same q p ≡ false
same_either_way p q e = false_from_ne_true _ (λ f. false≢true (sym e ∙ (decides_same p q).1 (sym ((decides_same q p).0 f))))

-- of two points, at most one is before the other
after_first : (p q : Point) → is_before q p ≡ true → is_before p q ≡ false
after_first p q e = ⊎_elim (λ h. absurd (true≢false (sym e ∙ not_before p q h))) (λ h. not_before q p h) (one_precedes p q)

pub reordered_canonical : (p q : Point) → IsInRange p → IsInRange q → is_same p q ≡ false → is_before q p ≡ true → IsCanonical (q ∷ p ∷ [])
reordered_canonical p q p_in q_in differ order = ordered_canonical q p q_in p_in (same_either_way p q differ) (after_first p q order)

ordered : (p q : Point) → IsInRange p → IsInRange q → is_same p q ≡ false → IsCanonical (in_order p q)
ordered p q p_in q_in differ = go (is_before q p) refl
  where
    go : (v : Bool) → is_before q p ≡ v → IsCanonical (cond v (q ∷ p ∷ []) (p ∷ q ∷ []))
    go true e = ordered_canonical q p q_in p_in (same_either_way p q differ) (after_first p q e)
    go false e = ordered_canonical p q p_in q_in differ e

pub segment_canonical : (p q : Point) (corners : List Point) → segment_of p q ≡ Ok corners → IsCanonical corners
segment_canonical p q corners h =
    let inside = if_ok (list_all is_in_range (p ∷ q ∷ [])) _ OutOfRange corners h in
    let apart = unless_ok (is_same p q) (done (in_order p q)) SameEnds corners inside.1 in
    let both : All IsInRange (p ∷ q ∷ []) = in_range_all (p ∷ q ∷ []) inside.0 in
    subst IsCanonical (done_is (in_order p q) corners apart.1)
    (ordered p q (All-head IsInRange p (q ∷ []) both) (All-head IsInRange q [] (All-tail IsInRange p (q ∷ []) both)) apart.0)

-- ---- polygons

convex_ring_canonical : (ring corners : List Point) → IsConvexRing ring → corners_of ring ≡ Ok corners → IsCanonical corners
convex_ring_canonical ring corners convex h =
    let few = unless_ok (nat_lt CORNER_LIMIT (length (turning_points (from_least ring)))) (done (turning_points (from_least ring))) TooManyCorners corners h in
    subst IsCanonical (done_is (turning_points (from_least ring)) corners few.1) (convex_canonical ring convex (ltb-false CORNER_LIMIT _ few.0))

-- a ring in the direction in which it goes left
directed_canonical : (ring corners : List Point) → All IsInRange ring → 3 ≤ length ring → length ring < LISTED_LIMIT → has_repeat ring ≡ false → is_flat ring ≡ false
    → cond (goes_left ring) (corners_of ring) (cond (goes_left (reverse ring)) (corners_of (reverse ring)) (Err NotConvex)) ≡ Ok corners → IsCanonical corners
directed_canonical ring corners in_range least most differ not_flat h = go (goes_left ring) refl h
  where
    go : (v : Bool) → goes_left ring ≡ v → cond v (corners_of ring) (cond (goes_left (reverse ring)) (corners_of (reverse ring)) (Err NotConvex)) ≡ Ok corners → IsCanonical corners
    go true left h = convex_ring_canonical ring corners (convex_if ring in_range least most (sym differ) (sym not_flat) (sym left)) h
    go false right h =
        let back = if_ok (goes_left (reverse ring)) (corners_of (reverse ring)) NotConvex corners h in
        convex_ring_canonical (reverse ring) corners
        (reversed_if ring (reverse ring) (reverse ring) in_range least most (sym differ) (sym not_flat) refl refl (sym back.0)) back.1

ring_canonical : (ring corners : List Point) → All IsInRange ring → 3 ≤ length ring → length ring < LISTED_LIMIT → ring_of ring ≡ Ok corners → IsCanonical corners
ring_canonical ring corners in_range least most h =
    let once = unless_ok (has_repeat ring) _ Repeated corners h in
    let bent = unless_ok (is_flat ring) _ Flat corners once.1 in
    directed_canonical ring corners in_range least most once.0 bent.0 bent.1

pub polygon_canonical : (listed : List Point) (corners : List Point) → polygon_of listed ≡ Ok corners → IsCanonical corners
polygon_canonical listed corners h =
    let inside = unless_not_ok (list_all is_in_range listed) _ OutOfRange corners h in
    let few = unless_ok (nat_lt LISTED_LIMIT (length listed)) _ TooManyPoints corners inside.1 in
    let enough = unless_ok (nat_lt (length listed) 4) _ TooFew corners few.1 in
    let closed = unless_not_ok (is_same (first_of listed) (last_of listed)) _ NotClosed corners enough.1 in
    let at_most : length listed ≤ LISTED_LIMIT = ltb-false LISTED_LIMIT (length listed) few.0 in
    let at_least : 4 ≤ length listed = ltb-false (length listed) 4 enough.0 in
    let count : length (take (length listed - 1) listed) ≡ length listed - 1 = length-take-le (length listed - 1) listed (omega arith) in
    ring_canonical (take (length listed - 1) listed) corners
    (All-take IsInRange (length listed - 1) listed (in_range_all listed inside.0)) (omega arith) (omega arith) closed.1
