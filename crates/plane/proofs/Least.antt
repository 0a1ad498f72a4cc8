-- The least point of a ring, and why the ring turns there.
use Rattle.std.specs.Prelude.{◌≡◌, ◌+◌, ◌<◌, ◌≤◌, ◌⊎◌, true, false, not, List, [], ◌∷◌, ◌++◌, All, Contains, Decides, length, take, drop, get_or, ℤ, pos, ◌+ℤ◌, ◌-ℤ◌, ◌*ℤ◌, ◌≤ℤ◌, ◌<ℤ◌, int_lt, neg_ℤ, refl}
use Rattle.std.specs.List.{position_or_len}
use Rattle.std.specs.Ordering.{int_eq}
use Rattle.std.proofs.Common.{arith, suc, ap, sym, ◌∙◌, subst, inl, inr, ⊎_elim, add-one, drop-cons, take-append-drop}
use Rattle.std.proofs.lemmas.Bool.{true≢false, or_from, or_right, and_from, and_left, and_right, not_from_false, not-true, false_from_ne_true, cases_lt}
use Rattle.std.proofs.lemmas.Bool.Decides.{Decides-int_eq}
use Rattle.plane.proofs.Rotations.{All-swap}
use Rattle.std.proofs.lemmas.Int.{ints}
use Rattle.std.proofs.lemmas.List.Elements.{All-nil, All-cons, All-weaker}
use Rattle.std.proofs.lemmas.List.Sums.{fails_before_first, passes_at_first}
use Rattle.plane.specs.Convex.{AreOnOneLine}
use Rattle.plane.specs.Points.{is_before, origin}
use Rattle.plane.specs.Rings.{turn, is_least, from_least}
use Rattle.plane.proofs.RingTests.{decides_all}
use Rattle.plane.proofs.Orders.{le_refl, order_cases, product_positive, product_not_negative, weak_lt}
use Rattle.std.proofs.Math.IntN.{*ℤ-zero, zero-*ℤ}
use Rattle.plane.proofs.Sums.{parts, diff-mul, diff-sub, diff-add, neg-diff, same-diff}
use Rattle.plane.proofs.Turns.{from_middle, on_one_line, same_point, no_zero_product}
use Rattle.plane.specs.declared.point.Point.{Point}

-- p is q, or has the lesser x, or the same x and the lesser y
unfoldable pub Precedes : Point → Point → Type 0
Precedes p q = (p.x <ℤ q.x) ⊎ ((p.x ≡ q.x) × (p.y ≤ℤ q.y))

pub precedes_itself : (p : Point) → Precedes p p
unfolding Precedes
precedes_itself p = inr (refl, le_refl p.y)

pub precedes_trans : (p q r : Point) → Precedes p q → Precedes q r → Precedes p r
unfolding Precedes
precedes_trans p q r (inl h) (inl k) = inl (omega (arith, ints))
precedes_trans p q r (inl h) (inr k) = inl (omega (arith, ints, k.0))
precedes_trans p q r (inr h) (inl k) = inl (omega (arith, ints, h.0))
precedes_trans p q r (inr h) (inr k) = inr (h.0 ∙ k.0, omega (arith, ints, h.1, k.1))

pub one_precedes : (p q : Point) → Precedes p q ⊎ Precedes q p
unfolding Precedes
one_precedes p q =
    order_cases p.x q.x _
    (λ le. order_cases q.x p.x _
    (λ ge. order_cases p.y q.y _ (λ below. inl (inr (even _ _ le ge, below))) (λ above. inr (inr (even _ _ ge le, weak_lt _ _ above))))
    (λ less. inl (inl less)))
    (λ more. inr (inl more))
  where
    even : (a b : ℤ) → a ≤ℤ b → b ≤ℤ a → a ≡ b
    even a b h k = omega (arith, ints)

-- what the test of the order says
lt_no : (a b : ℤ) → b ≤ℤ a → int_lt a b ≡ false
lt_no a b h = grind (arith, ints)

lt_yes : (a b : ℤ) → a <ℤ b → int_lt a b ≡ true
lt_yes a b h = grind (arith, ints)

eq_no : (a b : ℤ) → b <ℤ a → int_eq a b ≡ false
eq_no a b h = false_from_ne_true _ (λ e. apart ((Decides-int_eq a b).0 e))
  where
    apart : a ≡ b → ⊥
    apart e = omega (arith, ints)

even : (a b : ℤ) → a ≤ℤ b → b ≤ℤ a → a ≡ b
even a b h k = omega (arith, ints)

pub not_before : (p q : Point) → Precedes p q → is_before q p ≡ false
unfolding Precedes
not_before p q (inl h) = or_from (int_lt q.x p.x) _ (lt_no q.x p.x (weak_lt _ _ h)) (and_left (int_eq q.x p.x) _ (eq_no q.x p.x h))
not_before p q (inr h) = or_from (int_lt q.x p.x) _ (lt_no q.x p.x (at_most _ _ h.0)) (and_right (int_eq q.x p.x) _ (lt_no q.y p.y h.1))
  where
    at_most : (a b : ℤ) → a ≡ b → a ≤ℤ b
    at_most a b e = omega (arith, ints)

before_left : (p q : Point) → q.x <ℤ p.x → is_before q p ≡ true
before_left p q h = rw (lt_yes q.x p.x h) refl

before_below : (p q : Point) → q.x ≡ p.x → q.y <ℤ p.y → is_before q p ≡ true
before_below p q e h = or_right (int_lt q.x p.x) _ (and_from _ _ ((Decides-int_eq q.x p.x).1 e) (lt_yes q.y p.y h))

pub precedes_if : (p q : Point) → is_before q p ≡ false → Precedes p q
unfolding Precedes
precedes_if p q e =
    order_cases p.x q.x _
    (λ le. order_cases q.x p.x _
    (λ ge. order_cases p.y q.y _ (λ below. inr (even _ _ le ge, below)) (λ above. absurd (true≢false (sym (before_below p q (even _ _ ge le) above) ∙ e))))
    (λ less. inl less))
    (λ more. absurd (true≢false (sym (before_left p q more) ∙ e)))

-- ---- the least point of a list

pub decides_least : (ring : List Point) (p : Point) → Decides (is_least ring p) (All (λ q. Precedes p q) ring)
decides_least ring p =
    decides_all (λ q. not (is_before q p)) (λ q. Precedes p q) (λ q. (λ e. precedes_if p q (not-true _ e), λ h. not_from_false _ (not_before p q h))) ring

-- a list that is not empty has a least point
record HasLeast (points : List Point) : Type 0 where
  least : Point
  among : Contains points least
  precedes : All (λ q. Precedes least q) points

has_least : (p : Point) (rest : List Point) → HasLeast (p ∷ rest)
has_least p [] = record { least = p; among = (0, omega arith, refl); precedes = All-cons (λ q. Precedes p q) p [] (precedes_itself p) (All-nil _) }
has_least p (q ∷ rest) = go (has_least q rest)
  where
    later : (points : List Point) (m : Point) → Contains points m → Contains (p ∷ points) m
    later points m (k, in', e) = (suc k, omega arith, e)

    go : HasLeast (q ∷ rest) → HasLeast (p ∷ q ∷ rest)
    go found = ⊎_elim
        (λ first. record {
          least = p;
          among = (0, omega arith, refl);
          precedes = All-cons (λ r. Precedes p r) p (q ∷ rest) (precedes_itself p) (All-weaker (λ r. Precedes found.least r) (λ r. Precedes p r) (λ r. precedes_trans p found.least r first) (q ∷ rest) found.precedes);
        })
        (λ other. record {
          least = found.least;
          among = later (q ∷ rest) found.least found.among;
          precedes = All-cons (λ r. Precedes found.least r) p (q ∷ rest) other found.precedes;
        })
        (one_precedes p found.least)

-- the index of the first least point is within the list
least_place : (ring : List Point) → 1 ≤ length ring → position_or_len (is_least ring) ring < length ring
least_place [] h = absurd (omega (arith, h))
least_place (p ∷ rest) h =
    let ring = p ∷ rest in
    let found = has_least p rest in
    ⊎_elim (λ in'. in') (λ past. absurd (true≢false (sym (passes found) ∙ fails found past)))
    (cases_lt (position_or_len (is_least (p ∷ rest)) (p ∷ rest)) (length (p ∷ rest)))
  where
    passes : (found : HasLeast (p ∷ rest)) → is_least (p ∷ rest) (get_or (p ∷ rest) found.among.0 found.least) ≡ true
    passes found = ap (is_least (p ∷ rest)) found.among.2 ∙ ((decides_least (p ∷ rest) found.least).1 found.precedes)

    fails : (found : HasLeast (p ∷ rest)) → length (p ∷ rest) ≤ position_or_len (is_least (p ∷ rest)) (p ∷ rest) → is_least (p ∷ rest) (get_or (p ∷ rest) found.among.0 found.least) ≡ false
    fails found past = fails_before_first (is_least (p ∷ rest)) (p ∷ rest) found.among.0 found.least (omega (arith, found.among.1))

-- the ring, starting at its least point: that point, and the others
pub record StartsLeast (ring : List Point) : Type 0 where
  pub first : Point
  pub rest : List Point
  pub ring_is : ring ≡ first ∷ rest
  pub precedes : All (λ q. Precedes first q) ring

pub from_least-starts : (ring : List Point) → 1 ≤ length ring → StartsLeast (from_least ring)
from_least-starts ring h =
    let at = position_or_len (is_least ring) ring in
    let in' : position_or_len (is_least ring) ring < length ring = least_place ring h in
    let left : drop at ring ≡ get_or ring at origin ∷ drop (at + 1) ring = rw add-one (drop-cons ring at origin in') in
    record {
      first = get_or ring at origin;
      rest = drop (at + 1) ring ++ take at ring;
      ring_is = ap (λ part. part ++ take at ring) left;
      precedes = All-swap (λ q. Precedes (get_or ring at origin) q) (take at ring) (drop at ring)
          (subst (λ points. All (λ q. Precedes (get_or ring at origin) q) points) (sym (take-append-drop at ring))
          ((decides_least ring (get_or ring at origin)).0 (passes_at_first (is_least ring) ring origin in')));
    }

-- ---- the ring turns at its least point

-- if the vector u leads to the least point and v leads away from it, no positive multiple of u is a
-- nonnegative multiple of v
least_numbers : (ux uy vx vy d e : ℤ) → (ux <ℤ pos 0) ⊎ ((ux ≡ pos 0) × (uy <ℤ pos 0)) → (pos 0 <ℤ vx) ⊎ ((vx ≡ pos 0) × (pos 0 ≤ℤ vy)) → pos 0 ≤ℤ d → pos 0 ≤ℤ e
    → e *ℤ ux ≡ d *ℤ vx → e *ℤ uy ≡ d *ℤ vy → e ≡ pos 0
least_numbers ux uy vx vy d e u v d_above e_above same_x same_y = order_cases e (pos 0) _ (λ low. even _ _ low e_above) (λ above. absurd (no above u v))
  where
    mul-neg : (a b : ℤ) → a *ℤ neg_ℤ b ≡ neg_ℤ (a *ℤ b)
    mul-neg a b = rw (parts a, parts b) (simp (diff-mul, neg-diff) (same-diff _ _ _ _ (omega arith)))

    product_negative : (a b : ℤ) → pos 0 <ℤ a → b <ℤ pos 0 → (a *ℤ b) <ℤ pos 0
    product_negative a b h k = let up : pos 0 <ℤ (a *ℤ neg_ℤ b) = product_positive a (neg_ℤ b) h (omega (arith, ints)) in omega (arith, ints, mul-neg a b)

    clash : (a b : ℤ) → a ≡ b → a <ℤ pos 0 → pos 0 ≤ℤ b → ⊥
    clash a b e h k = omega (arith, ints)

    positive : (a : ℤ) → pos 0 <ℤ a → a ≡ pos 0 → ⊥
    positive a h e = omega (arith, ints)

    no : pos 0 <ℤ e → (ux <ℤ pos 0) ⊎ ((ux ≡ pos 0) × (uy <ℤ pos 0)) → (pos 0 <ℤ vx) ⊎ ((vx ≡ pos 0) × (pos 0 ≤ℤ vy)) → ⊥
    no above (inl left) (inl right) = clash _ _ same_x (product_negative e ux above left) (product_not_negative d vx d_above (weak_lt _ _ right))
    no above (inl left) (inr up) = clash _ _ same_x (product_negative e ux above left) (rw (up.0, *ℤ-zero d) (le_refl (pos 0)))
    no above (inr down) (inl right) =
        let flat : d ≡ pos 0 = no_zero_product d vx (sym same_x ∙ ap (λ k. e *ℤ k) down.0 ∙ *ℤ-zero e) (λ z. positive vx right z) in
        clash (e *ℤ uy) (d *ℤ vy) same_y (product_negative e uy above down.1) (rw (flat, zero-*ℤ vy) (le_refl (pos 0)))
    no above (inr down) (inr up) = clash _ _ same_y (product_negative e uy above down.1) (product_not_negative d vy d_above up.1)

straight_x : (ux uy vx vy wx wy : ℤ) → (vx *ℤ wy -ℤ vy *ℤ wx) *ℤ ux +ℤ (ux *ℤ vy -ℤ uy *ℤ vx) *ℤ wx ≡ (ux *ℤ wy -ℤ uy *ℤ wx) *ℤ vx
straight_x ux uy vx vy wx wy = rw (parts ux, parts uy, parts vx, parts vy, parts wx, parts wy) (simp (diff-mul, diff-sub, diff-add) (same-diff _ _ _ _ (omega arith)))

straight_y : (ux uy vx vy wx wy : ℤ) → (vx *ℤ wy -ℤ vy *ℤ wx) *ℤ uy +ℤ (ux *ℤ vy -ℤ uy *ℤ vx) *ℤ wy ≡ (ux *ℤ wy -ℤ uy *ℤ wx) *ℤ vy
straight_y ux uy vx vy wx wy = rw (parts ux, parts uy, parts vx, parts vy, parts wx, parts wy) (simp (diff-mul, diff-sub, diff-add) (same-diff _ _ _ _ (omega arith)))

dropped : (a k b t : ℤ) → a +ℤ k *ℤ t ≡ b → k ≡ pos 0 → a ≡ b
dropped a k b t e f = without_zero _ _ _ e (ap (λ z. z *ℤ t) f ∙ zero-*ℤ t)
  where
    without_zero : (a z b : ℤ) → a +ℤ z ≡ b → z ≡ pos 0 → a ≡ b
    without_zero a z b e f = omega (arith, ints)

-- a comes before the least point p, and b after it: if the three are on one line, no point is
-- strictly left of the directed line from p to b
nothing_left : (a p b r : Point) → Precedes p a → (p ≡ a → ⊥) → Precedes p b → turn a p b ≡ pos 0 → pos 0 ≤ℤ turn a p r → pos 0 ≤ℤ turn p b r → turn p b r ≡ pos 0
unfolding Precedes
nothing_left a p b r before differ after flat d_above e_above =
    let middle_flat : (p.x -ℤ a.x) *ℤ (b.y -ℤ p.y) -ℤ (p.y -ℤ a.y) *ℤ (b.x -ℤ p.x) ≡ pos 0 = sym (from_middle a p b) ∙ flat in
    least_numbers (p.x -ℤ a.x) (p.y -ℤ a.y) (b.x -ℤ p.x) (b.y -ℤ p.y) (turn a p r) (turn p b r) (lexical before) (ahead after) d_above e_above
    (dropped _ _ _ _ (straight_x (p.x -ℤ a.x) (p.y -ℤ a.y) (b.x -ℤ p.x) (b.y -ℤ p.y) (r.x -ℤ p.x) (r.y -ℤ p.y)) middle_flat ∙ ap (λ z. z *ℤ (b.x -ℤ p.x)) (sym (from_middle a p r)))
    (dropped _ _ _ _ (straight_y (p.x -ℤ a.x) (p.y -ℤ a.y) (b.x -ℤ p.x) (b.y -ℤ p.y) (r.x -ℤ p.x) (r.y -ℤ p.y)) middle_flat ∙ ap (λ z. z *ℤ (b.y -ℤ p.y)) (sym (from_middle a p r)))
  where
    less : (x y : ℤ) → x <ℤ y → (x -ℤ y) <ℤ pos 0
    less x y h = omega (arith, ints)

    none : (x y : ℤ) → x ≡ y → x -ℤ y ≡ pos 0
    none x y e = omega (arith, ints)

    more : (x y : ℤ) → x <ℤ y → pos 0 <ℤ (y -ℤ x)
    more x y h = omega (arith, ints)

    some : (x y : ℤ) → x ≤ℤ y → pos 0 ≤ℤ (y -ℤ x)
    some x y h = omega (arith, ints)

    lexical : (p.x <ℤ a.x) ⊎ ((p.x ≡ a.x) × (p.y ≤ℤ a.y)) → ((p.x -ℤ a.x) <ℤ pos 0) ⊎ ((p.x -ℤ a.x ≡ pos 0) × ((p.y -ℤ a.y) <ℤ pos 0))
    lexical (inl h) = inl (less _ _ h)
    lexical (inr h) = inr (none _ _ h.0, order_cases a.y p.y _ (λ le. absurd (differ (same_point p a h.0 (even _ _ h.1 le)))) (λ lt. less _ _ lt))

    ahead : (p.x <ℤ b.x) ⊎ ((p.x ≡ b.x) × (p.y ≤ℤ b.y)) → (pos 0 <ℤ (b.x -ℤ p.x)) ⊎ ((b.x -ℤ p.x ≡ pos 0) × (pos 0 ≤ℤ (b.y -ℤ p.y)))
    ahead (inl h) = inl (more _ _ h)
    ahead (inr h) = inr (none _ _ (sym h.0), some _ _ h.1)

-- if all points are left of or on both lines, not all on one, the ring turns at its least point
pub turns_at_least : (points : List Point) (a p b : Point) → Precedes p a → (p ≡ a → ⊥) → Precedes p b → (p ≡ b → ⊥)
    → All (λ r. pos 0 ≤ℤ turn a p r) points → All (λ r. pos 0 ≤ℤ turn p b r) points → (AreOnOneLine points → ⊥) → turn a p b ≡ pos 0 → ⊥
turns_at_least points a p b before differ after differ' left_a left_b not_flat flat =
    not_flat (λ i d in' j e jn k f kn. on_one_line p b (get_or points i d) (get_or points j e) (get_or points k f) differ' (on i d in') (on j e jn) (on k f kn))
  where
    on : All (λ r. turn p b r ≡ pos 0) points
    on = λ k d in'. nothing_left a p b (get_or points k d) before differ after flat (left_a k d in') (left_b k d in')
