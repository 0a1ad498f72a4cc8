-- What lies in a shape is among its corners: if all corners are strictly right of a directed line,
-- so is each fraction point of the shape.
use Rattle.std.specs.Prelude.{◌≡◌, ◌⊎◌, ℕ, ◌<◌, Bool, true, false, not, ◌||◌, List, [], ◌∷◌, All, Contains, get_or, Decides, IsTrue, ◌↔◌, length, map, ℤ, pos, ◌+ℤ◌, ◌-ℤ◌, ◌*ℤ◌, neg_ℤ, ◌≤ℤ◌, ◌<ℤ◌, refl}
use Rattle.std.specs.List.{list_all, list_any}
use Rattle.std.specs.Int.{int_min, int_max}
use Rattle.std.proofs.Common.{arith, suc, ap, sym, subst, inl, inr, ◌∙◌}
use Rattle.std.proofs.lemmas.Bool.{true≢false, false≢true, not-true, not_from_false, false_from_ne_true}
use Rattle.std.proofs.lemmas.Int.{ints, clamps}
use Rattle.std.proofs.lemmas.List.Elements.{All-nil, All-cons, All-head, All-tail, All-weaker, All-contains, All-append}
use Rattle.std.proofs.Math.IntN.{*ℤ_comm, *ℤ-zero, zero-*ℤ}
use Rattle.plane.specs.Canonical.{IsCanonical}
use Rattle.plane.specs.Convex.{TurnsLeft}
use Rattle.plane.specs.Extents.{Extent, extent_of, point_extent}
use Rattle.plane.specs.Points.{is_before}
use Rattle.plane.specs.Rings.{turn, sides, sides_to, last_of, is_on_or_left, is_apart}
use Rattle.plane.specs.Rows.{Satisfies, LiesIn, Meet, FramesMeet, Covers, edge_row, edge_rows, frame_rows, negated}
use Rattle.plane.proofs.CornersKept.{last, next, last_of-last}
use Rattle.plane.proofs.Covering.{LiesBetween, rows_between, between_rows, at_point, covers_if, extent_of-IsLeastFrame, one_above}
use Rattle.plane.proofs.Least.{Precedes, precedes_if}
use Rattle.plane.proofs.Orders.{scaled, cancelled, le_refl, le_trans, order_cases, product_positive, weak_lt}
use Rattle.plane.proofs.RingTests.{decides_all, decides_left}
use Rattle.plane.proofs.ShapeRows.{left_part, right_part}
use Rattle.plane.proofs.Sums.{parts, diff-mul, diff-sub, diff-add, neg-diff, same-diff}
use Rattle.plane.proofs.Turns.{cross-products, turn-cycle}
use Rattle.plane.specs.declared.fraction.Fraction.{Fraction}
use Rattle.plane.specs.declared.point.Point.{Point}

-- ---- the turn of a side and a fraction point

-- `turn p q` of the fraction point x/w, y/w, times w
abbrev pub turn_to : Point × Point → ℤ → ℤ → ℤ → ℤ
turn_to side x y w = (side.1.x -ℤ side.0.x) *ℤ (y -ℤ w *ℤ side.0.y) -ℤ (side.1.y -ℤ side.0.y) *ℤ (x -ℤ w *ℤ side.0.x)

-- the slack of the side's row
slack : (dx dy px py x y w : ℤ) → (dy *ℤ px -ℤ dx *ℤ py) *ℤ w -ℤ (dy *ℤ x +ℤ neg_ℤ dx *ℤ y) ≡ dx *ℤ (y -ℤ w *ℤ py) -ℤ dy *ℤ (x -ℤ w *ℤ px)
slack dx dy px py x y w = rw (parts dx, parts dy, parts px, parts py, parts x, parts y, parts w) (simp (diff-mul, diff-sub, diff-add, neg-diff) (same-diff _ _ _ _ (omega arith)))

pub row_left : (side : Point × Point) (x y w : ℤ) → Satisfies x y w (edge_row side) → pos 0 ≤ℤ turn_to side x y w
row_left side x y w h = rw (← slack (side.1.x -ℤ side.0.x) (side.1.y -ℤ side.0.y) side.0.x side.0.y x y w) (below _ _ h)
  where
    below : (a b : ℤ) → a ≤ℤ b → pos 0 ≤ℤ (b -ℤ a)
    below a b h = omega (arith, ints)

pub left_row : (side : Point × Point) (x y w : ℤ) → pos 0 ≤ℤ turn_to side x y w → Satisfies x y w (edge_row side)
left_row side x y w h = below _ _ (rw (slack (side.1.x -ℤ side.0.x) (side.1.y -ℤ side.0.y) side.0.x side.0.y x y w) h)
  where
    below : (a b : ℤ) → pos 0 ≤ℤ (b -ℤ a) → a ≤ℤ b
    below a b h = omega (arith, ints)

-- the side in the other direction
turn_back_to : (px py qx qy x y w : ℤ) → (px -ℤ qx) *ℤ (y -ℤ w *ℤ qy) -ℤ (py -ℤ qy) *ℤ (x -ℤ w *ℤ qx) ≡ neg_ℤ ((qx -ℤ px) *ℤ (y -ℤ w *ℤ py) -ℤ (qy -ℤ py) *ℤ (x -ℤ w *ℤ px))
turn_back_to px py qx qy x y w = rw (parts px, parts py, parts qx, parts qy, parts x, parts y, parts w) (simp (diff-mul, diff-sub, diff-add, neg-diff) (same-diff _ _ _ _ (omega arith)))

nowhere_to : (p : Point) (x y w : ℤ) → turn_to (p, p) x y w ≡ pos 0
nowhere_to p x y w = flat (p.x -ℤ p.x) (p.y -ℤ p.y) _ _ (none p.x) (none p.y)
  where
    none : (a : ℤ) → a -ℤ a ≡ pos 0
    none a = omega (arith, ints)

    flat : (k l a b : ℤ) → k ≡ pos 0 → l ≡ pos 0 → k *ℤ a -ℤ l *ℤ b ≡ pos 0
    flat k l a b e f = rw (e, f, zero-*ℤ a, zero-*ℤ b) refl

negated_slack : (a b c x y w : ℤ) → neg_ℤ c *ℤ w -ℤ (neg_ℤ a *ℤ x +ℤ neg_ℤ b *ℤ y) ≡ (a *ℤ x +ℤ b *ℤ y) -ℤ c *ℤ w
negated_slack a b c x y w = rw (parts a, parts b, parts c, parts x, parts y, parts w) (simp (diff-mul, diff-sub, diff-add, neg-diff) (same-diff _ _ _ _ (omega arith)))

pub negated_left : (p q : Point) (x y w : ℤ) → Satisfies x y w (negated (edge_row (p, q))) → pos 0 ≤ℤ turn_to (q, p) x y w
negated_left p q x y w h = rw (turn_back_to p.x p.y q.x q.y x y w, ← slack (q.x -ℤ p.x) (q.y -ℤ p.y) p.x p.y x y w) (from _ _ ((edge_row (p, q)).a *ℤ x +ℤ (edge_row (p, q)).b *ℤ y) ((edge_row (p, q)).c *ℤ w) h (negated_slack (edge_row (p, q)).a (edge_row (p, q)).b (edge_row (p, q)).c x y w))
  where
    from : (a b u v : ℤ) → a ≤ℤ b → b -ℤ a ≡ u -ℤ v → pos 0 ≤ℤ neg_ℤ (v -ℤ u)
    from a b u v h e = omega (arith, ints)

pub left_negated : (p q : Point) (x y w : ℤ) → pos 0 ≤ℤ turn_to (q, p) x y w → Satisfies x y w (negated (edge_row (p, q)))
left_negated p q x y w h =
    from _ _ ((edge_row (p, q)).a *ℤ x +ℤ (edge_row (p, q)).b *ℤ y) ((edge_row (p, q)).c *ℤ w) (rw (turn_back_to p.x p.y q.x q.y x y w, ← slack (q.x -ℤ p.x) (q.y -ℤ p.y) p.x p.y x y w) at h) (negated_slack (edge_row (p, q)).a (edge_row (p, q)).b (edge_row (p, q)).c x y w)
  where
    from : (a b u v : ℤ) → pos 0 ≤ℤ neg_ℤ (v -ℤ u) → b -ℤ a ≡ u -ℤ v → a ≤ℤ b
    from a b u v h e = omega (arith, ints)

-- ---- what lies in a shape is on or left of each of its sides, as a ring of one or more points

abbrev pub AreLeft : List (Point × Point) → ℤ → ℤ → ℤ → Type 0
AreLeft ways x y w = All (λ side. pos 0 ≤ℤ turn_to side x y w) ways

from_rows : (ways : List (Point × Point)) (x y w : ℤ) → All (Satisfies x y w) (map edge_row ways) → AreLeft ways x y w
from_rows [] x y w all = All-nil _
from_rows (side ∷ ways) x y w all =
    All-cons (λ side. pos 0 ≤ℤ turn_to side x y w) side ways (row_left side x y w (All-head (Satisfies x y w) (edge_row side) (map edge_row ways) all))
    (from_rows ways x y w (All-tail (Satisfies x y w) (edge_row side) (map edge_row ways) all))

to_rows : (ways : List (Point × Point)) (x y w : ℤ) → AreLeft ways x y w → All (Satisfies x y w) (map edge_row ways)
to_rows [] x y w all = All-nil _
to_rows (side ∷ ways) x y w all =
    All-cons (Satisfies x y w) (edge_row side) (map edge_row ways) (left_row side x y w (All-head (λ side. pos 0 ≤ℤ turn_to side x y w) side ways all))
    (to_rows ways x y w (All-tail (λ side. pos 0 ≤ℤ turn_to side x y w) side ways all))

two : {X : Type 0} (P : X → Type 0) (a b : X) → P a → P b → All P (a ∷ b ∷ [])
two P a b h k = All-cons P a (b ∷ []) h (All-cons P b [] k (All-nil P))

edges_left : (corners : List Point) (x y w : ℤ) → All (Satisfies x y w) (edge_rows corners) → AreLeft (sides corners) x y w
edges_left [] x y w all = All-nil _
edges_left (p ∷ []) x y w all = All-cons (λ side. pos 0 ≤ℤ turn_to side x y w) (p, p) [] (rw (nowhere_to p x y w) (le_refl (pos 0))) (All-nil _)
edges_left (p ∷ q ∷ []) x y w all =
    two (λ side. pos 0 ≤ℤ turn_to side x y w) (p, q) (q, p) (row_left (p, q) x y w (All-head (Satisfies x y w) (edge_row (p, q)) (negated (edge_row (p, q)) ∷ []) all))
    (negated_left p q x y w (All-head (Satisfies x y w) (negated (edge_row (p, q))) [] (All-tail (Satisfies x y w) (edge_row (p, q)) (negated (edge_row (p, q)) ∷ []) all)))
edges_left (p ∷ q ∷ r ∷ rest) x y w all = from_rows (sides (p ∷ q ∷ r ∷ rest)) x y w all

left_edges : (corners : List Point) (x y w : ℤ) → AreLeft (sides corners) x y w → All (Satisfies x y w) (edge_rows corners)
left_edges [] x y w all = All-nil _
left_edges (p ∷ []) x y w all = All-nil _
left_edges (p ∷ q ∷ []) x y w all =
    two (Satisfies x y w) (edge_row (p, q)) (negated (edge_row (p, q))) (left_row (p, q) x y w (All-head (λ side. pos 0 ≤ℤ turn_to side x y w) (p, q) ((q, p) ∷ []) all))
    (left_negated p q x y w (All-head (λ side. pos 0 ≤ℤ turn_to side x y w) (q, p) [] (All-tail (λ side. pos 0 ≤ℤ turn_to side x y w) (p, q) ((q, p) ∷ []) all)))
left_edges (p ∷ q ∷ r ∷ rest) x y w all = to_rows (sides (p ∷ q ∷ r ∷ rest)) x y w all

pub lies_left : (corners : List Point) (x y w : ℤ) → LiesIn x y w corners → AreLeft (sides corners) x y w
lies_left corners x y w h = edges_left corners x y w (right_part (Satisfies x y w) (frame_rows (extent_of corners)) (edge_rows corners) h)

pub lies_between : (corners : List Point) (x y w : ℤ) → LiesIn x y w corners → LiesBetween x y w (extent_of corners)
lies_between corners x y w h = rows_between x y w (extent_of corners) (left_part (Satisfies x y w) (frame_rows (extent_of corners)) (edge_rows corners) h)

pub lies_if : (corners : List Point) (x y w : ℤ) → All (Satisfies x y w) (frame_rows (extent_of corners)) → AreLeft (sides corners) x y w → LiesIn x y w corners
lies_if corners x y w frame left = All-append (Satisfies x y w) (frame_rows (extent_of corners)) (edge_rows corners) frame (left_edges corners x y w left)

-- shapes that meet have frames that meet
pub meet-frames : (first second : List Point) → Meet first second → FramesMeet (extent_of first) (extent_of second)
meet-frames first second meet = record {
  x = meet.x;
  y = meet.y;
  w = meet.w;
  above_zero = meet.above_zero;
  in_first = left_part (Satisfies meet.x meet.y meet.w) (frame_rows (extent_of first)) (edge_rows first) meet.in_first;
  in_second = left_part (Satisfies meet.x meet.y meet.w) (frame_rows (extent_of second)) (edge_rows second) meet.in_second;
}

-- ---- strictly right of a directed line

-- the turn of a fraction point, as that of v and what the move from v adds
moved_to : (px py qx qy vx vy x y w : ℤ) → (qx -ℤ px) *ℤ (y -ℤ w *ℤ py) -ℤ (qy -ℤ py) *ℤ (x -ℤ w *ℤ px)
    ≡ w *ℤ ((qx -ℤ px) *ℤ (vy -ℤ py) -ℤ (qy -ℤ py) *ℤ (vx -ℤ px)) +ℤ ((qx -ℤ px) *ℤ (y -ℤ w *ℤ vy) -ℤ (qy -ℤ py) *ℤ (x -ℤ w *ℤ vx))
moved_to px py qx qy vx vy x y w = rw (parts px, parts py, parts qx, parts qy, parts vx, parts vy, parts x, parts y, parts w) (simp (diff-mul, diff-sub, diff-add) (same-diff _ _ _ _ (omega arith)))

-- if v is strictly right, so is each fraction point that is no further left than v
right_of : (p q v : Point) (x y w : ℤ) → pos 0 <ℤ w → turn p q v <ℤ pos 0 → ((q.x -ℤ p.x) *ℤ (y -ℤ w *ℤ v.y) -ℤ (q.y -ℤ p.y) *ℤ (x -ℤ w *ℤ v.x)) ≤ℤ pos 0
    → turn_to (p, q) x y w <ℤ pos 0
right_of p q v x y w above right on =
    rw (moved_to p.x p.y q.x q.y v.x v.y x y w) (sum_below _ _ (below w (turn p q v) above right) on)
  where
    sum_below : (a b : ℤ) → a <ℤ pos 0 → b ≤ℤ pos 0 → (a +ℤ b) <ℤ pos 0
    sum_below a b h k = omega (arith, ints)

    times_neg : (a b : ℤ) → a *ℤ neg_ℤ b ≡ neg_ℤ (a *ℤ b)
    times_neg a b = rw (parts a, parts b) (simp (diff-mul, neg-diff) (same-diff _ _ _ _ (omega arith)))

    below : (a b : ℤ) → pos 0 <ℤ a → b <ℤ pos 0 → (a *ℤ b) <ℤ pos 0
    below a b h k = let up : pos 0 <ℤ (a *ℤ neg_ℤ b) = product_positive a (neg_ℤ b) h (omega (arith, ints)) in omega (arith, ints, times_neg a b)

-- ---- points

point_right : (p q v : Point) (x y w : ℤ) → pos 0 <ℤ w → LiesIn x y w (v ∷ []) → turn p q v <ℤ pos 0 → turn_to (p, q) x y w <ℤ pos 0
point_right p q v x y w above inside right =
    let box = lies_between (v ∷ []) x y w inside in
    right_of p q v x y w above right (flat _ _ _ _ (none _ _ box.top box.bottom) (none _ _ box.right box.left))
  where
    none : (a b : ℤ) → a ≤ℤ b → b ≤ℤ a → a -ℤ b ≡ pos 0
    none a b h k = omega (arith, ints)

    flat : (k l a b : ℤ) → a ≡ pos 0 → b ≡ pos 0 → (k *ℤ a -ℤ l *ℤ b) ≤ℤ pos 0
    flat k l a b e f = rw (e, f, *ℤ-zero k, *ℤ-zero l) (le_refl (pos 0))

-- ---- one end

-- how the turns at two points differ
turn_from : (p q v u : Point) → turn p q u -ℤ turn p q v ≡ (q.x -ℤ p.x) *ℤ (u.y -ℤ v.y) -ℤ (q.y -ℤ p.y) *ℤ (u.x -ℤ v.x)
turn_from p q v u = rw (parts p.x, parts p.y, parts q.x, parts q.y, parts v.x, parts v.y, parts u.x, parts u.y) (simp (diff-mul, diff-sub) (same-diff _ _ _ _ (omega arith)))

no_further_left : (p q v u : Point) → turn p q u ≤ℤ turn p q v → ((q.x -ℤ p.x) *ℤ (u.y -ℤ v.y) -ℤ (q.y -ℤ p.y) *ℤ (u.x -ℤ v.x)) ≤ℤ pos 0
no_further_left p q v u h = below _ _ _ (turn_from p q v u) h
  where
    below : (a b c : ℤ) → a -ℤ b ≡ c → a ≤ℤ b → c ≤ℤ pos 0
    below a b c e h = omega (arith, ints)

product_not_positive : (a b : ℤ) → pos 0 ≤ℤ a → b ≤ℤ pos 0 → (a *ℤ b) ≤ℤ pos 0
product_not_positive a b h k = subst (λ z. (a *ℤ b) ≤ℤ z) (*ℤ-zero a) (scaled a b (pos 0) h k)

not_positive : (k c : ℤ) → pos 0 <ℤ k → (k *ℤ c) ≤ℤ pos 0 → c ≤ℤ pos 0
not_positive k c h e = cancelled k c (pos 0) h (rw (*ℤ-zero k) e)

-- ---- segments

-- k is not 0, and t is 0 or has the sign of k
abbrev Ahead : ℤ → ℤ → Type 0
Ahead k t = ((pos 0 <ℤ k) × (pos 0 ≤ℤ t)) ⊎ ((k <ℤ pos 0) × (t ≤ℤ pos 0))

ahead_not_positive : (k t c s : ℤ) → Ahead k t → k *ℤ c ≡ t *ℤ s → s ≤ℤ pos 0 → c ≤ℤ pos 0
ahead_not_positive k t c s (inl h) e below = not_positive k c h.0 (rw e (product_not_positive t s h.1 below))
ahead_not_positive k t c s (inr h) e below =
    not_positive (neg_ℤ k) c (up _ h.0) (rw (neg_times k c, e, ← neg_times t s) (product_not_positive (neg_ℤ t) s (up_weak _ h.1) below))
  where
    up : (a : ℤ) → a <ℤ pos 0 → pos 0 <ℤ neg_ℤ a
    up a h = omega (arith, ints)

    up_weak : (a : ℤ) → a ≤ℤ pos 0 → pos 0 ≤ℤ neg_ℤ a
    up_weak a h = omega (arith, ints)

    neg_times : (a b : ℤ) → neg_ℤ a *ℤ b ≡ neg_ℤ (a *ℤ b)
    neg_times a b = rw (parts a, parts b) (simp (diff-mul, neg-diff) (same-diff _ _ _ _ (omega arith)))

flat_products : (a b : ℤ) → a -ℤ b ≡ pos 0 → a ≡ b
flat_products a b e = omega (arith, ints)

-- a vector along (dx, dy) turns as (dx, dy) does
along_x : (gx gy dx dy zx zy : ℤ) → dx *ℤ zy ≡ dy *ℤ zx → dx *ℤ (gx *ℤ zy -ℤ gy *ℤ zx) ≡ zx *ℤ (gx *ℤ dy -ℤ gy *ℤ dx)
along_x gx gy dx dy zx zy e = one gx gy dx zx zy ∙ ap (λ k. gx *ℤ k -ℤ zx *ℤ (gy *ℤ dx)) e ∙ other gx gy dx dy zx
  where
    one : (gx gy dx zx zy : ℤ) → dx *ℤ (gx *ℤ zy -ℤ gy *ℤ zx) ≡ gx *ℤ (dx *ℤ zy) -ℤ zx *ℤ (gy *ℤ dx)
    one gx gy dx zx zy = rw (parts gx, parts gy, parts dx, parts zx, parts zy) (simp (diff-mul, diff-sub) (same-diff _ _ _ _ (omega arith)))

    other : (gx gy dx dy zx : ℤ) → gx *ℤ (dy *ℤ zx) -ℤ zx *ℤ (gy *ℤ dx) ≡ zx *ℤ (gx *ℤ dy -ℤ gy *ℤ dx)
    other gx gy dx dy zx = rw (parts gx, parts gy, parts dx, parts dy, parts zx) (simp (diff-mul, diff-sub) (same-diff _ _ _ _ (omega arith)))

along_y : (gx gy dx dy zx zy : ℤ) → dx *ℤ zy ≡ dy *ℤ zx → dy *ℤ (gx *ℤ zy -ℤ gy *ℤ zx) ≡ zy *ℤ (gx *ℤ dy -ℤ gy *ℤ dx)
along_y gx gy dx dy zx zy e = one gx gy dy zx zy ∙ ap (λ k. zy *ℤ (gx *ℤ dy) -ℤ gy *ℤ k) (sym e) ∙ other gx gy dx dy zy
  where
    one : (gx gy dy zx zy : ℤ) → dy *ℤ (gx *ℤ zy -ℤ gy *ℤ zx) ≡ zy *ℤ (gx *ℤ dy) -ℤ gy *ℤ (dy *ℤ zx)
    one gx gy dy zx zy = rw (parts gx, parts gy, parts dy, parts zx, parts zy) (simp (diff-mul, diff-sub) (same-diff _ _ _ _ (omega arith)))

    other : (gx gy dx dy zy : ℤ) → zy *ℤ (gx *ℤ dy) -ℤ gy *ℤ (dx *ℤ zy) ≡ zy *ℤ (gx *ℤ dy -ℤ gy *ℤ dx)
    other gx gy dx dy zy = rw (parts gx, parts gy, parts dx, parts dy, parts zy) (simp (diff-mul, diff-sub) (same-diff _ _ _ _ (omega arith)))

-- from its end v, the segment to u goes towards the fraction point
abbrev Towards : Point → Point → ℤ → ℤ → ℤ → Type 0
Towards v u x y w = Ahead (u.x -ℤ v.x) (x -ℤ w *ℤ v.x) ⊎ Ahead (u.y -ℤ v.y) (y -ℤ w *ℤ v.y)

end_right : (p q v u : Point) (x y w : ℤ) → pos 0 <ℤ w → turn p q v <ℤ pos 0 → turn p q u ≤ℤ turn p q v → turn_to (v, u) x y w ≡ pos 0 → Towards v u x y w → turn_to (p, q) x y w <ℤ pos 0
end_right p q v u x y w above right most line (inl ahead) =
    right_of p q v x y w above right (ahead_not_positive _ _ _ _ ahead (along_x (q.x -ℤ p.x) (q.y -ℤ p.y) (u.x -ℤ v.x) (u.y -ℤ v.y) (x -ℤ w *ℤ v.x) (y -ℤ w *ℤ v.y) (flat_products _ _ line)) (no_further_left p q v u most))
end_right p q v u x y w above right most line (inr ahead) =
    right_of p q v x y w above right (ahead_not_positive _ _ _ _ ahead (along_y (q.x -ℤ p.x) (q.y -ℤ p.y) (u.x -ℤ v.x) (u.y -ℤ v.y) (x -ℤ w *ℤ v.x) (y -ℤ w *ℤ v.y) (flat_products _ _ line)) (no_further_left p q v u most))

-- the fraction point is on the segment, seen from both ends
record IsAlong (a b : Point) (x y w : ℤ) : Type 0 where
  there : turn_to (a, b) x y w ≡ pos 0
  back : turn_to (b, a) x y w ≡ pos 0
  from_a : Towards a b x y w
  from_b : Towards b a x y w

along_right : (p q a b : Point) (x y w : ℤ) → pos 0 <ℤ w → IsAlong a b x y w → turn p q a <ℤ pos 0 → turn p q b <ℤ pos 0 → turn_to (p, q) x y w <ℤ pos 0
along_right p q a b x y w above is right_a right_b =
    order_cases (turn p q b) (turn p q a) _ (λ le. end_right p q a b x y w above right_a le is.there is.from_a)
    (λ gt. end_right p q b a x y w above right_b (weak _ _ gt) is.back is.from_b)
  where
    weak : (a b : ℤ) → a <ℤ b → a ≤ℤ b
    weak a b h = omega (arith, ints)

ahead_from_low : (a b w x : ℤ) → a <ℤ b → (w *ℤ a) ≤ℤ x → Ahead (b -ℤ a) (x -ℤ w *ℤ a)
ahead_from_low a b w x h k = inl (more a b h, rest (w *ℤ a) x k)
  where
    more : (a b : ℤ) → a <ℤ b → pos 0 <ℤ (b -ℤ a)
    more a b h = omega (arith, ints)

    rest : (a b : ℤ) → a ≤ℤ b → pos 0 ≤ℤ (b -ℤ a)
    rest a b h = omega (arith, ints)

ahead_from_high : (a b w x : ℤ) → a <ℤ b → x ≤ℤ (w *ℤ b) → Ahead (a -ℤ b) (x -ℤ w *ℤ b)
ahead_from_high a b w x h k = inr (less a b h, rest x (w *ℤ b) k)
  where
    less : (a b : ℤ) → a <ℤ b → (a -ℤ b) <ℤ pos 0
    less a b h = omega (arith, ints)

    rest : (a b : ℤ) → a ≤ℤ b → (a -ℤ b) ≤ℤ pos 0
    rest a b h = omega (arith, ints)

min_first : (a b : ℤ) → a ≤ℤ b → int_min a b ≡ a
min_first a b h = omega (arith, ints, clamps)

max_second : (a b : ℤ) → a ≤ℤ b → int_max a b ≡ b
max_second a b h = omega (arith, ints, clamps)

back_zero : (a b x y w : ℤ) → pos 0 ≤ℤ a → pos 0 ≤ℤ b → b ≡ neg_ℤ a → (a ≡ pos 0) × (b ≡ pos 0)
back_zero a b x y w h k e = (omega (arith, ints), omega (arith, ints))

segment_right : (p q a b : Point) (x y w : ℤ) → pos 0 <ℤ w → Precedes a b → LiesIn x y w (a ∷ b ∷ []) → turn p q a <ℤ pos 0 → turn p q b <ℤ pos 0 → turn_to (p, q) x y w <ℤ pos 0
unfolding Precedes
segment_right p q a b x y w above order inside right_a right_b = go order
  where
    box : LiesBetween x y w (extent_of (a ∷ b ∷ []))
    box = lies_between (a ∷ b ∷ []) x y w inside

    left : AreLeft ((a, b) ∷ (b, a) ∷ []) x y w
    left = lies_left (a ∷ b ∷ []) x y w inside

    flat : (turn_to (a, b) x y w ≡ pos 0) × (turn_to (b, a) x y w ≡ pos 0)
    flat = back_zero (turn_to (a, b) x y w) (turn_to (b, a) x y w) x y w
        (All-head (λ side. pos 0 ≤ℤ turn_to side x y w) (a, b) ((b, a) ∷ []) left)
        (All-head (λ side. pos 0 ≤ℤ turn_to side x y w) (b, a) [] (All-tail (λ side. pos 0 ≤ℤ turn_to side x y w) (a, b) ((b, a) ∷ []) left))
        (turn_back_to a.x a.y b.x b.y x y w)

    by_x : a.x <ℤ b.x → turn_to (p, q) x y w <ℤ pos 0
    by_x h = along_right p q a b x y w above (record {
      there = flat.0;
      back = flat.1;
      from_a = inl (ahead_from_low a.x b.x w x h (subst (λ z. (w *ℤ z) ≤ℤ x) (min_first a.x b.x (weak_lt _ _ h)) box.left));
      from_b = inl (ahead_from_high a.x b.x w x h (subst (λ z. x ≤ℤ (w *ℤ z)) (max_second a.x b.x (weak_lt _ _ h)) box.right));
    }) right_a right_b

    by_y : a.y <ℤ b.y → turn_to (p, q) x y w <ℤ pos 0
    by_y h = along_right p q a b x y w above (record {
      there = flat.0;
      back = flat.1;
      from_a = inr (ahead_from_low a.y b.y w y h (subst (λ z. (w *ℤ z) ≤ℤ y) (min_first a.y b.y (weak_lt _ _ h)) box.bottom));
      from_b = inr (ahead_from_high a.y b.y w y h (subst (λ z. y ≤ℤ (w *ℤ z)) (max_second a.y b.y (weak_lt _ _ h)) box.top));
    }) right_a right_b

    -- both ends are the same point
    at_end : a.x ≡ b.x → b.y ≤ℤ a.y → a.y ≤ℤ b.y → turn_to (p, q) x y w <ℤ pos 0
    at_end same low high =
        let same_y : a.y ≡ b.y = even _ _ high low in
        right_of p q a x y w above right_a (nothing _ _ _ _
        (none _ _ (subst (λ z. y ≤ℤ (w *ℤ z)) (max_same a.y b.y same_y) box.top) (subst (λ z. (w *ℤ z) ≤ℤ y) (min_same a.y b.y same_y) box.bottom))
        (none _ _ (subst (λ z. x ≤ℤ (w *ℤ z)) (max_same a.x b.x same) box.right) (subst (λ z. (w *ℤ z) ≤ℤ x) (min_same a.x b.x same) box.left)))
      where
        even : (a b : ℤ) → a ≤ℤ b → b ≤ℤ a → a ≡ b
        even a b h k = omega (arith, ints)

        min_same : (a b : ℤ) → a ≡ b → int_min a b ≡ a
        min_same a b e = omega (arith, ints, clamps)

        max_same : (a b : ℤ) → a ≡ b → int_max a b ≡ a
        max_same a b e = omega (arith, ints, clamps)

        none : (a b : ℤ) → a ≤ℤ b → b ≤ℤ a → a -ℤ b ≡ pos 0
        none a b h k = omega (arith, ints)

        nothing : (k l a b : ℤ) → a ≡ pos 0 → b ≡ pos 0 → (k *ℤ a -ℤ l *ℤ b) ≤ℤ pos 0
        nothing k l a b e f = rw (e, f, *ℤ-zero k, *ℤ-zero l) (le_refl (pos 0))

    go : (a.x <ℤ b.x) ⊎ ((a.x ≡ b.x) × (a.y ≤ℤ b.y)) → turn_to (p, q) x y w <ℤ pos 0
    go (inl h) = by_x h
    go (inr h) = order_cases b.y a.y _ (λ le. at_end h.0 le h.1) (λ lt. by_y lt)

-- ---- polygons

-- a point of the list at which the turn is greatest
record HasMost (p q : Point) (points : List Point) : Type 0 where
  most : Point
  among : Contains points most
  above : All (λ c. turn p q c ≤ℤ turn p q most) points

has_most : (p q c : Point) (rest : List Point) → HasMost p q (c ∷ rest)
has_most p q c [] = record { most = c; among = (0, omega arith, refl); above = All-cons (λ d. turn p q d ≤ℤ turn p q c) c [] (le_refl _) (All-nil _) }
has_most p q c (d ∷ rest) = go (has_most p q d rest)
  where
    later : (points : List Point) (m : Point) → Contains points m → Contains (c ∷ points) m
    later points m (k, in', e) = (suc k, omega arith, e)

    go : HasMost p q (d ∷ rest) → HasMost p q (c ∷ d ∷ rest)
    go found = order_cases (turn p q c) (turn p q found.most) _
        (λ le. record {
          most = found.most;
          among = later (d ∷ rest) found.most found.among;
          above = All-cons (λ e. turn p q e ≤ℤ turn p q found.most) c (d ∷ rest) le found.above;
        })
        (λ gt. record {
          most = c;
          among = (0, omega arith, refl);
          above = All-cons (λ e. turn p q e ≤ℤ turn p q c) c (d ∷ rest) (le_refl _)
              (All-weaker (λ e. turn p q e ≤ℤ turn p q found.most) (λ e. turn p q e ≤ℤ turn p q c) (λ e h. le_trans _ _ _ h (weak_lt _ _ gt)) (d ∷ rest) found.above);
        })

-- the neighbours of v in a ring that turns left at v: P holds for both points, Q for both sides
record HasNeighbours (P : Point → Type 0) (Q : Point × Point → Type 0) (v : Point) : Type 0 where
  before : Point
  after : Point
  P_before : P before
  P_after : P after
  Q_before : Q (before, v)
  Q_after : Q (v, after)
  turns : pos 0 <ℤ turn before v after

next_P : (P : Point → Type 0) (end : Point) (rest : List Point) → All P rest → P end → P (next rest end)
next_P P end [] all h = h
next_P P end (p ∷ rest) all h = All-head P p rest all

neighbours : (P : Point → Type 0) (Q : Point × Point → Type 0) (before end : Point) (rest : List Point) → All P rest → P before → P end → TurnsLeft before end rest
    → All Q (sides_to end (before ∷ rest)) → All (HasNeighbours P Q) rest
neighbours P Q before end [] all P_before P_end turns ways = All-nil _
neighbours P Q before end (v ∷ rest) all P_before P_end turns ways =
    let others : All Q (sides_to end (v ∷ rest)) = All-tail Q (before, v) (sides_to end (v ∷ rest)) ways in
    All-cons (HasNeighbours P Q) v rest (record {
      before = before;
      after = next rest end;
      P_before = P_before;
      P_after = next_P P end rest (All-tail P v rest all) P_end;
      Q_before = All-head Q (before, v) (sides_to end (v ∷ rest)) ways;
      Q_after = All-head Q (v, next rest end) (sides_to end rest) others;
      turns = turns.0;
    }) (neighbours P Q v end rest (All-tail P v rest all) (All-head P v rest all) P_end turns.1 others)

last_P : (P : Point → Type 0) (p : Point) (rest : List Point) → All P (p ∷ rest) → P (last p rest)
last_P P p [] all = All-head P p [] all
last_P P p (q ∷ rest) all = last_P P q rest (All-tail P p (q ∷ rest) all)

last_Q : (Q : Point × Point → Type 0) (end p : Point) (rest : List Point) → All Q (sides_to end (p ∷ rest)) → Q (last p rest, end)
last_Q Q end p [] all = All-head Q (p, end) [] all
last_Q Q end p (q ∷ rest) all = last_Q Q end q rest (All-tail Q (p, q) (sides_to end (q ∷ rest)) all)

ring_neighbours : (P : Point → Type 0) (Q : Point × Point → Type 0) (p : Point) (rest : List Point) → All P (p ∷ rest) → TurnsLeft (last_of (p ∷ rest)) p (p ∷ rest) → All Q (sides (p ∷ rest))
    → All (HasNeighbours P Q) (p ∷ rest)
ring_neighbours P Q p rest all turns ways =
    neighbours P Q (last p rest) p (p ∷ rest) all (last_P P p rest all) (All-head P p rest all) (subst (λ b. TurnsLeft b p (p ∷ rest)) (last_of-last p rest) turns)
    (All-cons Q (last p rest, p) (sides_to p (p ∷ rest)) (last_Q Q p p rest ways) ways)

seen_back : (ux uy vx vy x y w : ℤ) → (vx -ℤ ux) *ℤ (y -ℤ w *ℤ uy) -ℤ (vy -ℤ uy) *ℤ (x -ℤ w *ℤ ux) ≡ (x -ℤ w *ℤ vx) *ℤ (uy -ℤ vy) -ℤ (y -ℤ w *ℤ vy) *ℤ (ux -ℤ vx)
seen_back ux uy vx vy x y w = rw (parts ux, parts uy, parts vx, parts vy, parts x, parts y, parts w) (simp (diff-mul, diff-sub, diff-add) (same-diff _ _ _ _ (omega arith)))

-- if the turn is greatest at v, and v is strictly right, so is what is left of both sides at v
corner_right : (p q u v t : Point) (x y w : ℤ) → pos 0 <ℤ w → turn p q v <ℤ pos 0 → turn p q u ≤ℤ turn p q v → turn p q t ≤ℤ turn p q v → pos 0 ≤ℤ turn_to (u, v) x y w → pos 0 ≤ℤ turn_to (v, t) x y w
    → pos 0 <ℤ turn u v t → turn_to (p, q) x y w <ℤ pos 0
corner_right p q u v t x y w above right most_u most_t left_u left_t turns =
    let gx = q.x -ℤ p.x in
    let gy = q.y -ℤ p.y in
    let zx = x -ℤ w *ℤ v.x in
    let zy = y -ℤ w *ℤ v.y in
    let back : pos 0 ≤ℤ (zx *ℤ (u.y -ℤ v.y) -ℤ zy *ℤ (u.x -ℤ v.x)) = subst (λ k. pos 0 ≤ℤ k) (seen_back u.x u.y v.x v.y x y w) left_u in
    let one : (turn_to (v, t) x y w *ℤ (gx *ℤ (u.y -ℤ v.y) -ℤ gy *ℤ (u.x -ℤ v.x))) ≤ℤ pos 0 = product_not_positive _ _ left_t (no_further_left p q v u most_u) in
    let two : ((gx *ℤ (t.y -ℤ v.y) -ℤ gy *ℤ (t.x -ℤ v.x)) *ℤ (zx *ℤ (u.y -ℤ v.y) -ℤ zy *ℤ (u.x -ℤ v.x))) ≤ℤ pos 0 =
    flipped (zx *ℤ (u.y -ℤ v.y) -ℤ zy *ℤ (u.x -ℤ v.x)) (gx *ℤ (t.y -ℤ v.y) -ℤ gy *ℤ (t.x -ℤ v.x)) (product_not_positive _ _ back (no_further_left p q v t most_t)) in
    let same : turn_to (v, t) x y w *ℤ (gx *ℤ (u.y -ℤ v.y) -ℤ gy *ℤ (u.x -ℤ v.x)) +ℤ (gx *ℤ (t.y -ℤ v.y) -ℤ gy *ℤ (t.x -ℤ v.x)) *ℤ (zx *ℤ (u.y -ℤ v.y) -ℤ zy *ℤ (u.x -ℤ v.x)) ≡ (gx *ℤ zy -ℤ gy *ℤ zx) *ℤ turn v t u =
    cross-products gx gy (t.x -ℤ v.x) (t.y -ℤ v.y) zx zy (u.x -ℤ v.x) (u.y -ℤ v.y) in
    let on : (turn u v t *ℤ (gx *ℤ zy -ℤ gy *ℤ zx)) ≤ℤ pos 0 =
    subst (λ k. k ≤ℤ pos 0) (same ∙ ap (λ k. (gx *ℤ zy -ℤ gy *ℤ zx) *ℤ k) (sym (turn-cycle u v t)) ∙ *ℤ_comm (gx *ℤ zy -ℤ gy *ℤ zx) (turn u v t)) (at_most_zero _ _ one two) in
    right_of p q v x y w above right (not_positive (turn u v t) _ turns on)
  where
    at_most_zero : (a b : ℤ) → a ≤ℤ pos 0 → b ≤ℤ pos 0 → (a +ℤ b) ≤ℤ pos 0
    at_most_zero a b h k = omega (arith, ints)

    flipped : (a b : ℤ) → (a *ℤ b) ≤ℤ pos 0 → (b *ℤ a) ≤ℤ pos 0
    flipped a b h = rw (*ℤ_comm b a) h

polygon_right : (p q c : Point) (rest : List Point) (x y w : ℤ) → pos 0 <ℤ w → TurnsLeft (last_of (c ∷ rest)) c (c ∷ rest) → LiesIn x y w (c ∷ rest) → All (λ r. turn p q r <ℤ pos 0) (c ∷ rest) → turn_to (p, q) x y w <ℤ pos 0
polygon_right p q c rest x y w above turns inside right =
    let found = has_most p q c rest in
    let around : HasNeighbours (λ r. turn p q r ≤ℤ turn p q found.most) (λ side. pos 0 ≤ℤ turn_to side x y w) found.most =
    All-contains (HasNeighbours (λ r. turn p q r ≤ℤ turn p q found.most) (λ side. pos 0 ≤ℤ turn_to side x y w)) (c ∷ rest) found.most
    (ring_neighbours (λ r. turn p q r ≤ℤ turn p q found.most) (λ side. pos 0 ≤ℤ turn_to side x y w) c rest found.above turns (lies_left (c ∷ rest) x y w inside)) found.among in
    corner_right p q around.before found.most around.after x y w above (All-contains (λ r. turn p q r <ℤ pos 0) (c ∷ rest) found.most right found.among)
    around.P_before around.P_after around.Q_before around.Q_after around.turns

-- ---- any shape

pub shape_right : (p q : Point) (corners : List Point) (x y w : ℤ) → IsCanonical corners → pos 0 <ℤ w → LiesIn x y w corners → All (λ r. turn p q r <ℤ pos 0) corners → turn_to (p, q) x y w <ℤ pos 0
shape_right p q [] x y w is above inside right = absurd (omega (arith, is.not_empty))
shape_right p q (a ∷ []) x y w is above inside right = point_right p q a x y w above inside (All-head (λ r. turn p q r <ℤ pos 0) a [] right)
shape_right p q (a ∷ b ∷ []) x y w is above inside right =
    segment_right p q a b x y w above (precedes_if a b (All-head (λ r. is_before r a ≡ false) b [] is.first_least)) inside (All-head (λ r. turn p q r <ℤ pos 0) a (b ∷ []) right)
    (All-head (λ r. turn p q r <ℤ pos 0) b [] (All-tail (λ r. turn p q r <ℤ pos 0) a (b ∷ []) right))
shape_right p q (a ∷ b ∷ c ∷ rest) x y w is above inside right = polygon_right p q a (b ∷ c ∷ rest) x y w above (is.turn_left (omega arith)) inside right

-- ---- a side with all corners of the other shape strictly on its right

decides_right : (side : Point × Point) (r : Point) → Decides (not (is_on_or_left side r)) (turn side.0 side.1 r <ℤ pos 0)
decides_right side r = (
  λ e. order_cases (pos 0) (turn side.0 side.1 r) _ (λ le. absurd (true≢false (sym ((decides_left side r).1 le) ∙ not-true _ e))) (λ lt. lt),
  λ lt. not_from_false _ (false_from_ne_true _ (λ e. clash _ ((decides_left side r).0 e) lt)),
)
  where
    clash : (a : ℤ) → pos 0 ≤ℤ a → a <ℤ pos 0 → ⊥
    clash a h k = omega (arith, ints)

apart_ways : (ways : List (Point × Point)) (corners : List Point) (x y w : ℤ) → IsCanonical corners → pos 0 <ℤ w → LiesIn x y w corners → AreLeft ways x y w
    → list_any (λ side. list_all (λ r. not (is_on_or_left side r)) corners) ways ≡ true → ⊥
apart_ways [] corners x y w is above inside left e = false≢true e
apart_ways (side ∷ ways) corners x y w is above inside left e = go (list_all (λ r. not (is_on_or_left side r)) corners) refl (apart_ways ways corners x y w is above inside) e
  where
    clash : (a : ℤ) → pos 0 ≤ℤ a → a <ℤ pos 0 → ⊥
    clash a h k = omega (arith, ints)

    go : (v : Bool) → list_all (λ r. not (is_on_or_left side r)) corners ≡ v → (AreLeft ways x y w → list_any (λ side. list_all (λ r. not (is_on_or_left side r)) corners) ways ≡ true → ⊥)
        → (v || list_any (λ side. list_all (λ r. not (is_on_or_left side r)) corners) ways) ≡ true → ⊥
    go true f others e = clash _ (All-head (λ side. pos 0 ≤ℤ turn_to side x y w) side ways left)
        (shape_right side.0 side.1 corners x y w is above inside
        ((decides_all (λ r. not (is_on_or_left side r)) (λ r. turn side.0 side.1 r <ℤ pos 0) (decides_right side) corners).0 f))
    go false f others e = others (All-tail (λ side. pos 0 ≤ℤ turn_to side x y w) side ways left) e

pub apart_not : (first second : List Point) → IsCanonical second → is_apart first second ≡ true → Meet first second → ⊥
apart_not first second is e meet = apart_ways (sides first) second meet.x meet.y meet.w is meet.above_zero meet.in_second (lies_left first meet.x meet.y meet.w meet.in_first) e

-- ---- a point with whole coordinates

whole_turn : (side : Point × Point) (r : Point) → turn_to side r.x r.y (pos 1) ≡ turn side.0 side.1 r
whole_turn side r = same side.0.x side.0.y side.1.x side.1.y r.x r.y
  where
    same : (px py qx qy x y : ℤ) → (qx -ℤ px) *ℤ (y -ℤ pos 1 *ℤ py) -ℤ (qy -ℤ py) *ℤ (x -ℤ pos 1 *ℤ px) ≡ (qx -ℤ px) *ℤ (y -ℤ py) -ℤ (qy -ℤ py) *ℤ (x -ℤ px)
    same px py qx qy x y = λ i. (qx -ℤ px) *ℤ (y -ℤ one py i) -ℤ (qy -ℤ py) *ℤ (x -ℤ one px i)
      where
        one : (a : ℤ) → pos 1 *ℤ a ≡ a
        one a = omega (arith, ints)

decides_whole : (r : Point) (side : Point × Point) → Decides (is_on_or_left side r) (pos 0 ≤ℤ turn_to side r.x r.y (pos 1))
decides_whole r side = rw (whole_turn side r) (decides_left side r)

-- a point lies in a shape if the shape's frame covers it and it is on or left of each side
pub whole_lies : (corners : List Point) (r : Point) (frame : Extent) (v : Bool) → frame ≡ extent_of corners → Covers frame (point_extent r) → v ≡ list_all (λ side. is_on_or_left side r) (sides corners)
    → IsTrue v ↔ LiesIn r.x r.y (pos 1) corners
whole_lies corners r frame v frame_is covers told = (
  λ t. lies_if corners r.x r.y (pos 1)
      (subst (λ e. All (Satisfies r.x r.y (pos 1)) (frame_rows e)) frame_is (covers r.x r.y (pos 1) one_above (between_rows r.x r.y (pos 1) (point_extent r) (at_point r.x r.y (point_extent r) (le_refl _) (le_refl _) (le_refl _) (le_refl _)))))
      ((decides_all (λ side. is_on_or_left side r) (λ side. pos 0 ≤ℤ turn_to side r.x r.y (pos 1)) (decides_whole r) (sides corners)).0 (sym told ∙ t)),
  λ inside. told ∙ (decides_all (λ side. is_on_or_left side r) (λ side. pos 0 ≤ℤ turn_to side r.x r.y (pos 1)) (decides_whole r) (sides corners)).1 (lies_left corners r.x r.y (pos 1) inside),
)

pub whole_outside : (corners : List Point) (r : Point) (frame : Extent) (v : Bool) → frame ≡ extent_of corners → v ≡ false → (Covers frame (point_extent r) → IsTrue false) → IsTrue v ↔ LiesIn r.x r.y (pos 1) corners
whole_outside corners r frame v frame_is is_false covers = (
  λ t. absurd (false≢true (sym is_false ∙ t)),
  λ inside. absurd (false≢true (covers (subst (λ e. Covers e (point_extent r)) (sym frame_is) (spanned (lies_between corners r.x r.y (pos 1) inside))))),
)
  where
    low : (a b : ℤ) → (pos 1 *ℤ a) ≤ℤ b → a ≤ℤ b
    low a b h = omega (arith, ints)

    high : (a b : ℤ) → a ≤ℤ (pos 1 *ℤ b) → a ≤ℤ b
    high a b h = omega (arith, ints)

    spanned : LiesBetween r.x r.y (pos 1) (extent_of corners) → Covers (extent_of corners) (point_extent r)
    spanned box = covers_if (extent_of corners) (point_extent r) (record { low_below = low _ _ box.left; high_above = high _ _ box.right }) (record { low_below = low _ _ box.bottom; high_above = high _ _ box.top })

-- each corner of a shape lies in it
pub corners_lie : (corners : List Point) → IsCanonical corners → All (λ r. LiesIn r.x r.y (pos 1) corners) corners
corners_lie corners is = λ k d in'.
    let covered : Covers (extent_of corners) (point_extent (get_or corners k d)) = (extent_of-IsLeastFrame corners (extent_of corners) is.not_empty refl).covers k d in' in
    (whole_lies corners (get_or corners k d) (extent_of corners) (list_all (λ side. is_on_or_left side (get_or corners k d)) (sides corners)) refl covered refl).0
    ((decides_all (λ side. is_on_or_left side (get_or corners k d)) (λ side. pos 0 ≤ℤ turn side.0 side.1 (get_or corners k d)) (λ side. decides_left side (get_or corners k d)) (sides corners)).1
    (All-weaker (λ side. All (λ r. pos 0 ≤ℤ turn side.0 side.1 r) corners) (λ side. pos 0 ≤ℤ turn side.0 side.1 (get_or corners k d)) (λ side all. all k d in') (sides corners) is.left))

pub covers_point : (frame e : Extent) (r : Point) → e ≡ point_extent r → Covers frame e → Covers frame (point_extent r)
covers_point frame e r is = subst (λ k. Covers frame k) is

pub point_covers : (frame e : Extent) (r : Point) → e ≡ point_extent r → Covers frame (point_extent r) → Covers frame e
point_covers frame e r is = subst (λ k. Covers frame k) (sym is)

-- a corner of one shape that lies in another is a common point
pub common_corner : (shape other items : List Point) (i : ℕ) (d : Point) (p : Fraction) → IsCanonical shape → items ≡ shape → i < length items
    → p.x ≡ (get_or items i d).x → p.y ≡ (get_or items i d).y → p.w ≡ pos 1 → LiesIn (get_or items i d).x (get_or items i d).y (pos 1) other → LiesIn p.x p.y p.w shape × LiesIn p.x p.y p.w other
common_corner shape other items i d p is same in' x_is y_is w_is inside = rw (x_is, y_is, w_is) (
  subst (λ l. LiesIn (get_or items i d).x (get_or items i d).y (pos 1) l) same (corners_lie items (subst IsCanonical (sym same) is) i d in'),
  inside,
)

-- ---- shapes that do not meet

pub none_met : (first second : List Point) → (Meet first second → ⊥) → (false ≡ true) ↔ Meet first second
none_met first second refused = (λ e. absurd (false≢true e), λ meet. absurd (refused meet))

pub frames_apart : (first second : List Point) (e f : Extent) → e ≡ extent_of first → f ≡ extent_of second → (FramesMeet e f → false ≡ true) → Meet first second → ⊥
frames_apart first second e f e_is f_is refused meet =
    false≢true (refused (subst (λ k. FramesMeet k f) (sym e_is) (subst (λ k. FramesMeet (extent_of first) k) (sym f_is) (meet-frames first second meet))))

pub apart_first : (first second ring points : List Point) (v : Bool) → ring ≡ first → points ≡ second → IsCanonical second → v ≡ is_apart ring points → v ≡ true → Meet first second → ⊥
apart_first first second ring points v at_ring at_points is told e =
    apart_not first second is ((λ i. is_apart (sym at_ring i) (sym at_points i)) ∙ sym told ∙ e)

pub apart_second : (first second ring points : List Point) (v : Bool) → ring ≡ second → points ≡ first → IsCanonical first → v ≡ is_apart ring points → v ≡ true → Meet first second → ⊥
apart_second first second ring points v at_ring at_points is told e meet =
    apart_first second first ring points v at_ring at_points is told e (record { x = meet.x; y = meet.y; w = meet.w; above_zero = meet.above_zero; in_first = meet.in_second; in_second = meet.in_first })
