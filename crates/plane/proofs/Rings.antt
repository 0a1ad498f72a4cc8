-- The corners of a convex ring are a canonical shape.
use Rattle.std.specs.Prelude.{◌≡◌, ℕ, ◌-◌, ◌≤◌, Bool, true, false, not, cond, List, [], ◌∷◌, ◌++◌, All, Contains, length, drop, take, replicate, ℤ, pos, ◌≤ℤ◌, ◌<ℤ◌, nat_lt, Result, Ok, Err, refl}
use Rattle.std.specs.List.{list_all}
use Rattle.std.proofs.Common.{arith, ap, sym, subst, ◌∙◌, append-nil}
use Rattle.std.proofs.lemmas.Bool.{and_left, le-ltb, false_from_ne_true}
use Rattle.std.proofs.lemmas.Int.{ints}
use Rattle.std.proofs.lemmas.List.{drop-replicate, length-append, length-replicate}
use Rattle.std.proofs.lemmas.List.Elements.{All-nil, All-cons, All-head, All-tail, All-append, All-weaker, All-contains_itself}
use Rattle.std.proofs.lemmas.List.Folds.{list_all_at}
use Rattle.std.proofs.lemmas.List.Sums.{position_or_len_is}
use Rattle.std.proofs.Math.Seq.{take-append_seam, drop-append_seam}
use Rattle.plane.specs.Canonical.{IsCanonical, ring_of, corners_of}
use Rattle.plane.specs.Convex.{Differ, AreOnOrLeft, TurnsLeft, IsConvexRing}
use Rattle.plane.specs.Places.{IsKept}
use Rattle.plane.specs.Points.{IsInRange, is_in_range, is_same, is_before, origin}
use Rattle.plane.specs.Rings.{turn, last_of, sides_to, is_on_line, is_least, is_flat, from_least, turning, turning_points}
use Rattle.plane.proofs.CornersKept.{next_among, AreCorners, StepsDiffer, TurnsAtEach, last, next, last_of-last, turning_all, corners_after, at_once, left_of_way}
use Rattle.plane.proofs.Least.{Precedes, not_before, StartsLeast, decides_least, from_least-starts, turns_at_least}
use Rattle.plane.proofs.RingTests.{decides_all, decides_in_range, decides_same, decides_line, decides_goes_left, repeats_not}
use Rattle.plane.proofs.Rotations.{from_least_convex}
use Rattle.plane.proofs.Orders.{order_cases}
use Rattle.plane.proofs.Turns.{turn-cycle, turn_back, turn_nowhere}
use Rattle.plane.specs.declared.point.Point.{Point}
use Rattle.plane.specs.declared.ring.TheConstants.{LISTED_LIMIT}
use Rattle.plane.specs.declared.shape.TheConstants.{CORNER_LIMIT}
use Rattle.plane.specs.declared.fault.ShapeFault.{ShapeFault}
use Rattle.plane.specs.declared.fault.ShapeFault.TheVariants.{TooManyCorners}

-- ---- places

pub after_corners : (new corners : List Point) → new ≡ corners → new ++ drop (length corners) (replicate CORNER_LIMIT origin) ≡ corners ++ replicate (CORNER_LIMIT - length corners) origin
after_corners new corners e = rw (e, drop-replicate) refl

pub kept_by : (corners : List Point) (n : ℕ) (places : List Point) → n ≡ length corners → length corners ≤ CORNER_LIMIT → places ≡ corners ++ replicate (CORNER_LIMIT - length corners) origin
    → IsCanonical corners → IsKept n places
kept_by corners n places e small p canonical = record {
  whole = rw (p, length-append, length-replicate) (omega (arith, small));
  at_most = rw e small;
  unused = rw (p, e, drop-append_seam) refl;
  canonical = rw (p, e, take-append_seam) canonical;
}

-- ---- what dropping points preserves

dropped-All : (P : Point → Type 0) (before end : Point) (rest : List Point) → All P rest → All P (turning before end rest)
dropped-All P before end [] all = All-nil P
dropped-All P before end (p ∷ rest) all = go (is_on_line (before, p) (next rest end)) (dropped-All P p end rest (All-tail P p rest all))
  where
    go : (v : Bool) → All P (turning p end rest) → All P (cond v (turning p end rest) (p ∷ turning p end rest))
    go true others = others
    go false others = All-cons P p (turning p end rest) (All-head P p rest all) others

dropped-Differ : (before end : Point) (rest : List Point) → Differ rest → Differ (turning before end rest)
dropped-Differ before end [] h = tt
dropped-Differ before end (p ∷ rest) h = go (is_on_line (before, p) (next rest end)) (dropped-Differ p end rest h.1)
  where
    go : (v : Bool) → Differ (turning p end rest) → Differ (cond v (turning p end rest) (p ∷ turning p end rest))
    go true others = others
    go false others = (dropped-All (λ q. p ≡ q → ⊥) p end rest h.0, others)

-- ---- facts about the ring

last_among : (P : Point → Type 0) (p : Point) (rest : List Point) → All P (p ∷ rest) → P (last p rest)
last_among P p [] all = All-head P p [] all
last_among P p (q ∷ rest) all = last_among P q rest (All-tail P p (q ∷ rest) all)

last_side : (P : Point × Point → Type 0) (end p : Point) (rest : List Point) → All P (sides_to end (p ∷ rest)) → P (last p rest, end)
last_side P end p [] all = All-head P (p, end) [] all
last_side P end p (q ∷ rest) all = last_side P end q rest (All-tail P (p, q) (sides_to end (q ∷ rest)) all)

steps_differ : (end m : Point) (rest : List Point) → Differ (m ∷ rest) → All (λ q. end ≡ q → ⊥) (m ∷ rest) → StepsDiffer end m rest
steps_differ end m [] h apart = λ e. All-head (λ q. end ≡ q → ⊥) m [] apart (sym e)
steps_differ end m (q ∷ rest) h apart = (All-head (λ r. m ≡ r → ⊥) q rest h.0, steps_differ end q rest h.1 (All-tail (λ r. end ≡ r → ⊥) m (q ∷ rest) apart))

-- ---- a ring of corners, listed with the first one again

last_of-push : (corners : List Point) (p : Point) → last_of (corners ++ p ∷ []) ≡ p
last_of-push [] p = refl
last_of-push (c ∷ corners) p = last_of-last c (corners ++ p ∷ []) ∙ go c corners
  where
    go : (c : Point) (corners : List Point) → last c (corners ++ p ∷ []) ≡ p
    go c [] = refl
    go c (d ∷ corners) = go d corners

without_last : (corners : List Point) (p : Point) → take (length (corners ++ p ∷ []) - 1) (corners ++ p ∷ []) ≡ corners
without_last corners p = ap (λ n. take n (corners ++ p ∷ [])) (count corners) ∙ take-append_seam corners (p ∷ [])
  where
    count : (corners : List Point) → length (corners ++ p ∷ []) - 1 ≡ length corners
    count corners = rw length-append (omega arith)

passes : (a b c d : Bool) (e f g h : ShapeFault) (r : Result (List Point) ShapeFault) → a ≡ true → b ≡ false → c ≡ false → d ≡ true
    → cond (not a) (Err e) (cond b (Err f) (cond c (Err g) (cond (not d) (Err h) r))) ≡ r
passes a b c d e f g h r p q s t = rw (p, q, s, t) refl

passes_ring : (a b c : Bool) (e f : ShapeFault) (r s : Result (List Point) ShapeFault) → a ≡ false → b ≡ false → c ≡ true → cond a (Err e) (cond b (Err f) (cond c r s)) ≡ r
passes_ring a b c e f r s p q t = rw (p, q, t) refl

-- corners in range, distinct, the least one first, that turn at each corner and are each on or left
-- of each side
record IsCornerRing (p x y : Point) (more : List Point) : Type 0 where
  in_range : All IsInRange (p ∷ x ∷ y ∷ more)
  at_most : length (p ∷ x ∷ y ∷ more) ≤ CORNER_LIMIT
  differ : Differ (p ∷ x ∷ y ∷ more)
  precedes : All (λ q. Precedes p q) (p ∷ x ∷ y ∷ more)
  left : AreOnOrLeft (sides_to p (p ∷ x ∷ y ∷ more)) (p ∷ x ∷ y ∷ more)
  turns : TurnsAtEach (last p (x ∷ y ∷ more)) p (p ∷ x ∷ y ∷ more)

-- a path of points that turns at each of them, each point being on or left of every side, turns
-- left at each
turns_left : (points : List Point) (end before : Point) (rest : List Point) → TurnsAtEach before end rest → AreOnOrLeft (sides_to end (before ∷ rest)) points
    → ((P : Point → Type 0) → All P points → All P rest) → ((P : Point → Type 0) → All P points → P end) → TurnsLeft before end rest
turns_left points end before [] turns left among end_among = tt
turns_left points end before (p ∷ rest) turns left among end_among = (
  above _ (next_among points rest end (λ P all. All-tail P p rest (among P all)) end_among (λ r. pos 0 ≤ℤ turn before p r) (All-head (λ side. All (λ r. pos 0 ≤ℤ turn side.0 side.1 r) points) (before, p) (sides_to end (p ∷ rest)) left)) turns.0,
  turns_left points end p rest turns.1 (All-tail (λ side. All (λ r. pos 0 ≤ℤ turn side.0 side.1 r) points) (before, p) (sides_to end (p ∷ rest)) left) (λ P all. All-tail P p rest (among P all)) end_among,
)
  where
    above : (a : ℤ) → pos 0 ≤ℤ a → (a ≡ pos 0 → ⊥) → pos 0 <ℤ a
    above a h apart = order_cases a (pos 0) _ (λ low. absurd (apart (even low))) (λ gt. gt)
      where
        even : a ≤ℤ pos 0 → a ≡ pos 0
        even low = omega (arith, ints)

corners_turn_left : (p x y : Point) (more : List Point) → IsCornerRing p x y more → TurnsLeft (last p (x ∷ y ∷ more)) p (p ∷ x ∷ y ∷ more)
corners_turn_left p x y more h =
    turns_left (p ∷ x ∷ y ∷ more) p (last p (x ∷ y ∷ more)) (p ∷ x ∷ y ∷ more) h.turns
    (All-cons (λ side. All (λ r. pos 0 ≤ℤ turn side.0 side.1 r) (p ∷ x ∷ y ∷ more)) (last p (x ∷ y ∷ more), p) (sides_to p (p ∷ x ∷ y ∷ more))
    (last_side (λ side. All (λ r. pos 0 ≤ℤ turn side.0 side.1 r) (p ∷ x ∷ y ∷ more)) p p (x ∷ y ∷ more) h.left) h.left)
    (λ P all. all) (λ P all. All-head P p (x ∷ y ∷ more) all)

starts_least : (p x y : Point) (more : List Point) → IsCornerRing p x y more → from_least (p ∷ x ∷ y ∷ more) ≡ p ∷ x ∷ y ∷ more
starts_least p x y more h =
    ap (λ n. drop n (p ∷ x ∷ y ∷ more) ++ take n (p ∷ x ∷ y ∷ more))
    (position_or_len_is (is_least (p ∷ x ∷ y ∷ more)) (p ∷ x ∷ y ∷ more) 0 origin (omega arith) (λ k low. absurd (omega (arith, low)))
    (λ _. (decides_least (p ∷ x ∷ y ∷ more) p).1 h.precedes))
    ∙ append-nil (p ∷ x ∷ y ∷ more)

turns_everywhere : (p x y : Point) (more : List Point) → IsCornerRing p x y more → turning_points (p ∷ x ∷ y ∷ more) ≡ p ∷ x ∷ y ∷ more
turns_everywhere p x y more h =
    ap (λ before. turning before p (p ∷ x ∷ y ∷ more)) (last_of-last p (x ∷ y ∷ more)) ∙ turning_all (last p (x ∷ y ∷ more)) p (p ∷ x ∷ y ∷ more) h.turns

same_corners : (p x y : Point) (more : List Point) → IsCornerRing p x y more → corners_of (p ∷ x ∷ y ∷ more) ≡ Ok (p ∷ x ∷ y ∷ more)
same_corners p x y more h =
    ap (λ ring. corners_found (turning_points ring)) (starts_least p x y more h) ∙ ap corners_found (turns_everywhere p x y more h)
    ∙ few (nat_lt CORNER_LIMIT (length (p ∷ x ∷ y ∷ more))) (le-ltb CORNER_LIMIT (length (p ∷ x ∷ y ∷ more)) h.at_most)
  where
    corners_found : List Point → Result (List Point) ShapeFault
    corners_found corners = cond (nat_lt CORNER_LIMIT (length corners)) (Err TooManyCorners) (Ok corners)

    few : (v : Bool) → v ≡ false → cond v (Err TooManyCorners) (Ok (p ∷ x ∷ y ∷ more)) ≡ Ok (p ∷ x ∷ y ∷ more)
    few v e = rw e refl

not_flat : (p x y : Point) (more : List Point) → IsCornerRing p x y more → is_flat (p ∷ x ∷ y ∷ more) ≡ false
not_flat p x y more h =
    and_left _ _ (list_all_at (is_on_line (p, x)) (p ∷ x ∷ y ∷ more) 2 origin (omega arith) (false_from_ne_true _ (λ e. h.turns.1.0 ((decides_line (p, x) y).0 e))))

corner_ring_canonical : (p x y : Point) (more : List Point) → IsCornerRing p x y more → IsCanonical (p ∷ x ∷ y ∷ more)
corner_ring_canonical p x y more h = record {
  in_range = h.in_range;
  not_empty = omega arith;
  at_most = h.at_most;
  first_least = All-weaker (λ q. Precedes p q) (λ q. is_before q p ≡ false) (λ q. not_before p q) (x ∷ y ∷ more) (All-tail (λ q. Precedes p q) p (x ∷ y ∷ more) h.precedes);
  listed =
      passes (list_all is_in_range ((p ∷ x ∷ y ∷ more) ++ p ∷ [])) (nat_lt LISTED_LIMIT (length ((p ∷ x ∷ y ∷ more) ++ p ∷ []))) (nat_lt (length ((p ∷ x ∷ y ∷ more) ++ p ∷ [])) 4)
      (is_same p (last_of ((p ∷ x ∷ y ∷ more) ++ p ∷ []))) _ _ _ _ _
      ((decides_all is_in_range IsInRange decides_in_range ((p ∷ x ∷ y ∷ more) ++ p ∷ [])).1
      (All-append IsInRange (p ∷ x ∷ y ∷ more) (p ∷ []) h.in_range (All-cons IsInRange p [] (All-head IsInRange p (x ∷ y ∷ more) h.in_range) (All-nil IsInRange))))
      (le-ltb LISTED_LIMIT _ (rw length-append (omega (arith, h.at_most))))
      (le-ltb _ 4 (rw length-append (omega arith)))
      ((decides_same p (last_of ((p ∷ x ∷ y ∷ more) ++ p ∷ []))).1 (sym (last_of-push (p ∷ x ∷ y ∷ more) p)))
      ∙ ap ring_of (without_last (p ∷ x ∷ y ∷ more) p)
      ∙ passes_ring _ _ _ _ _ _ _ (repeats_not (p ∷ x ∷ y ∷ more) h.differ) (not_flat p x y more h) ((decides_goes_left (p ∷ x ∷ y ∷ more)).1 h.left)
      ∙ same_corners p x y more h;
  left = h.left;
  turn_left = λ _. subst (λ before. TurnsLeft before p (p ∷ x ∷ y ∷ more)) (sym (last_of-last p (x ∷ y ∷ more))) (corners_turn_left p x y more h);
}

-- ---- the corners of a ring, starting at its least point

record HasCorners (p b : Point) (rest : List Point) (more : List Point) : Type 0 where
  dropped : turning_points (p ∷ b ∷ rest) ≡ p ∷ more
  are : AreCorners (p ∷ b ∷ rest) p b (last p (b ∷ rest)) p more
  more_is : more ≡ turning p p (b ∷ rest)
  turns_first : turn (last p (b ∷ rest)) p b ≡ pos 0 → ⊥
  left_first : pos 0 <ℤ turn p b (last p (b ∷ rest))

has_corners : (p b : Point) (rest : List Point) → IsConvexRing (p ∷ b ∷ rest) → All (λ q. Precedes p q) (p ∷ b ∷ rest) → HasCorners p b rest (turning p p (b ∷ rest))
has_corners p b rest h precedes = record {
  dropped = ap (λ before. turning before p (p ∷ b ∷ rest)) (last_of-last p (b ∷ rest)) ∙ first_kept (is_on_line (a, p) b) (false_from_ne_true _ (λ e. apart ((decides_line (a, p) b).0 e)));
  are = corners_after ring p p p a (b ∷ rest) (at_once ring p b a left_of_first (last_among (Contains ring) p (b ∷ rest) (All-contains_itself ring)))
      (steps_from_p h.differ) h.left (λ P all. all) (λ P all. All-head P p (b ∷ rest) all);
  more_is = refl;
  turns_first = apart;
  left_first = left_of_first;
}
  where
    ring : List Point
    ring = p ∷ b ∷ rest

    a : Point
    a = last b rest

    from_last : All (λ r. pos 0 ≤ℤ turn a p r) (p ∷ b ∷ rest)
    from_last = last_side (λ side. All (λ r. pos 0 ≤ℤ turn side.0 side.1 r) (p ∷ b ∷ rest)) p p (b ∷ rest) h.left

    to_next : All (λ r. pos 0 ≤ℤ turn p b r) (p ∷ b ∷ rest)
    to_next = All-head (λ side. All (λ r. pos 0 ≤ℤ turn side.0 side.1 r) (p ∷ b ∷ rest)) (p, b) (sides_to p (b ∷ rest)) h.left

    apart : turn a p b ≡ pos 0 → ⊥
    apart = turns_at_least (p ∷ b ∷ rest) a p b (last_among (λ q. Precedes p q) p (b ∷ rest) precedes) (last_among (λ q. p ≡ q → ⊥) b rest h.differ.0)
        (All-head (λ q. Precedes p q) b rest (All-tail (λ q. Precedes p q) p (b ∷ rest) precedes)) (All-head (λ q. p ≡ q → ⊥) b rest h.differ.0) from_last to_next h.not_flat

    left_of_first : pos 0 <ℤ turn p b a
    left_of_first = left_of_way a p b (All-head (λ r. pos 0 ≤ℤ turn a p r) b rest (All-tail (λ r. pos 0 ≤ℤ turn a p r) p (b ∷ rest) from_last)) apart

    steps_from_p : Differ (p ∷ b ∷ rest) → StepsDiffer p p (b ∷ rest)
    steps_from_p d = (All-head (λ q. p ≡ q → ⊥) b rest d.0, steps_differ p b rest d.1 d.0)

    first_kept : (v : Bool) → v ≡ false → cond v (turning p p (b ∷ rest)) (p ∷ turning p p (b ∷ rest)) ≡ p ∷ turning p p (b ∷ rest)
    first_kept v e = rw e refl

-- there are at least three corners, and they form a ring of corners
three_corners : (p b : Point) (rest more : List Point) → IsConvexRing (p ∷ b ∷ rest) → All (λ q. Precedes p q) (p ∷ b ∷ rest) → HasCorners p b rest more
    → length (p ∷ more) ≤ CORNER_LIMIT → IsCanonical (p ∷ more)
three_corners p b rest [] h precedes found small = absurd (not_zero _ found.left_first (found.are.forward (last b rest) (turn_nowhere p (last b rest))))
  where
    not_zero : (z : ℤ) → pos 0 <ℤ z → z ≡ pos 0 → ⊥
    not_zero z h e = omega (arith, ints)
three_corners p b rest (x ∷ []) h precedes found small = absurd (found.are.turns.0 (turn_back p x))
three_corners p b rest (x ∷ y ∷ more) h precedes found small = corner_ring_canonical p x y more (record {
  in_range = among IsInRange h.in_range;
  at_most = small;
  differ = (
    subst (λ l. All (λ q. p ≡ q → ⊥) l) (sym found.more_is) (dropped-All (λ q. p ≡ q → ⊥) p p (b ∷ rest) h.differ.0),
    subst Differ (sym found.more_is) (dropped-Differ p p (b ∷ rest) h.differ.1),
  );
  precedes = among (λ q. Precedes p q) precedes;
  left = All-weaker (λ side. All (λ r. pos 0 ≤ℤ turn side.0 side.1 r) (p ∷ b ∷ rest)) (λ side. All (λ r. pos 0 ≤ℤ turn side.0 side.1 r) (p ∷ x ∷ y ∷ more))
      (λ side all. among (λ r. pos 0 ≤ℤ turn side.0 side.1 r) all) (sides_to p (p ∷ x ∷ y ∷ more)) found.are.sides;
  turns = (λ e. found.turns_first (found.are.closing b (at_last (last p (x ∷ y ∷ more)) e)), found.are.turns);
})
  where
    among : (P : Point → Type 0) → All P (p ∷ b ∷ rest) → All P (p ∷ x ∷ y ∷ more)
    among P all = All-cons P p (x ∷ y ∷ more) (All-head P p (b ∷ rest) all) (subst (λ l. All P l) (sym found.more_is) (dropped-All P p p (b ∷ rest) (All-tail P p (b ∷ rest) all)))

    at_last : (c : Point) → turn c p x ≡ pos 0 → turn c p b ≡ pos 0
    at_last c e = turn-cycle c p b ∙ found.are.forward c (sym (turn-cycle c p x) ∙ e)

ring_canonical : (points : List Point) → IsConvexRing points → StartsLeast points → length (turning_points points) ≤ CORNER_LIMIT → IsCanonical (turning_points points)
ring_canonical [] h starts small = absurd (omega (arith, h.at_least))
ring_canonical (p ∷ []) h starts small = absurd (omega (arith, h.at_least))
ring_canonical (p ∷ b ∷ rest) h starts small =
    let found = has_corners p b rest h (subst (λ q. All (λ r. Precedes q r) (p ∷ b ∷ rest)) (same_first starts.ring_is) starts.precedes) in
    subst IsCanonical (sym found.dropped)
    (three_corners p b rest (turning p p (b ∷ rest)) h (subst (λ q. All (λ r. Precedes q r) (p ∷ b ∷ rest)) (same_first starts.ring_is) starts.precedes) found
    (subst (λ l. length l ≤ CORNER_LIMIT) found.dropped small))
  where
    same_first : {q : Point} {others : List Point} → p ∷ b ∷ rest ≡ q ∷ others → q ≡ p
    same_first e = cc

pub convex_canonical : (ring : List Point) → IsConvexRing ring → length (turning_points (from_least ring)) ≤ CORNER_LIMIT → IsCanonical (turning_points (from_least ring))
convex_canonical ring h small = ring_canonical (from_least ring) (from_least_convex ring h) (from_least-starts ring (omega (arith, h.at_least))) small

-- the places that the code fills with the corners of a convex ring
pub kept_corners : (ring items now : List Point) (m n : ℕ) (places : List Point) → IsConvexRing ring → items ≡ turning_points (from_least ring) → now ≡ items
    → m ≡ length items → n ≡ length items → m ≤ CORNER_LIMIT → places ≡ now ++ replicate (CORNER_LIMIT - length now) origin → IsKept n places
kept_corners ring items now m n places h found same m_is n_is small filled =
    kept_by (turning_points (from_least ring)) n places (n_is ∙ ap length found) few (filled ∙ ap (λ l. l ++ replicate (CORNER_LIMIT - length l) origin) (same ∙ found)) (convex_canonical ring h few)
  where
    few : length (turning_points (from_least ring)) ≤ CORNER_LIMIT
    few = subst (λ k. k ≤ CORNER_LIMIT) (m_is ∙ ap length found) small
