-- Which frames cover or meet others.
use Rattle.std.specs.Prelude.{◌≡◌, ◌≤◌, List, [], ◌∷◌, All, length, ℤ, pos, negsuc, ◌+ℤ◌, ◌*ℤ◌, neg_ℤ, ◌≤ℤ◌, ◌<ℤ◌, Bool, false, IsTrue, ◌↔◌}
use Rattle.std.specs.Int.{int_min, int_max}
use Rattle.std.proofs.Common.{arith, sym, ◌∙◌, subst}
use Rattle.std.proofs.lemmas.Int.{ints, clamps}
use Rattle.std.proofs.lemmas.List.Elements.{All-nil, All-cons, All-head, All-tail, All-weaker}
use Rattle.std.proofs.Math.IntN.{*ℤ_comm}
use Rattle.plane.specs.Coordinates.{IsCoordinate}
use Rattle.plane.specs.Extents.{Extent, IsFrame, Overlap, Spans, joined, point_extent, extent_of, whole_extent}
use Rattle.plane.specs.Rows.{Satisfies, frame_rows, FramesMeet, Covers, IsLeastCover, IsLeastFrame}
use Rattle.std.proofs.lemmas.Bool.{false≢true}
use Rattle.plane.proofs.Frames.{narrow, reads_narrow}
use Rattle.plane.proofs.Orders.{scaled, cancelled, le_trans, le_refl}
use Rattle.plane.proofs.Sums.{parts, diff-mul, neg-diff, same-diff}
use Rattle.plane.specs.declared.point.Point.{Point}
use Rattle.plane.specs.declared.rows.Row.{Row}

-- the fraction point x/w, y/w is between the ends of the extent
pub record LiesBetween (x y w : ℤ) (e : Extent) : Type 0 where
  pub right : x ≤ℤ (w *ℤ e.x1)
  pub left : (w *ℤ e.x0) ≤ℤ x
  pub top : y ≤ℤ (w *ℤ e.y1)
  pub bottom : (w *ℤ e.y0) ≤ℤ y

flipped : (c w : ℤ) → neg_ℤ c *ℤ w ≡ neg_ℤ (w *ℤ c)
flipped c w = rw (parts c, parts w) (simp (diff-mul, neg-diff) (same-diff _ _ _ _ (omega arith)))

right_row : (x y w c : ℤ) → (pos 1 *ℤ x +ℤ pos 0 *ℤ y) ≤ℤ (c *ℤ w) → x ≤ℤ (w *ℤ c)
right_row x y w c h = omega (arith, ints, *ℤ_comm w c)

row_right : (x y w c : ℤ) → x ≤ℤ (w *ℤ c) → (pos 1 *ℤ x +ℤ pos 0 *ℤ y) ≤ℤ (c *ℤ w)
row_right x y w c h = omega (arith, ints, *ℤ_comm w c)

left_row : (x y w c : ℤ) → (negsuc 0 *ℤ x +ℤ pos 0 *ℤ y) ≤ℤ (neg_ℤ c *ℤ w) → (w *ℤ c) ≤ℤ x
left_row x y w c h = omega (arith, ints, flipped c w)

row_left : (x y w c : ℤ) → (w *ℤ c) ≤ℤ x → (negsuc 0 *ℤ x +ℤ pos 0 *ℤ y) ≤ℤ (neg_ℤ c *ℤ w)
row_left x y w c h = omega (arith, ints, flipped c w)

top_row : (x y w c : ℤ) → (pos 0 *ℤ x +ℤ pos 1 *ℤ y) ≤ℤ (c *ℤ w) → y ≤ℤ (w *ℤ c)
top_row x y w c h = omega (arith, ints, *ℤ_comm w c)

row_top : (x y w c : ℤ) → y ≤ℤ (w *ℤ c) → (pos 0 *ℤ x +ℤ pos 1 *ℤ y) ≤ℤ (c *ℤ w)
row_top x y w c h = omega (arith, ints, *ℤ_comm w c)

bottom_row : (x y w c : ℤ) → (pos 0 *ℤ x +ℤ negsuc 0 *ℤ y) ≤ℤ (neg_ℤ c *ℤ w) → (w *ℤ c) ≤ℤ y
bottom_row x y w c h = omega (arith, ints, flipped c w)

row_bottom : (x y w c : ℤ) → (w *ℤ c) ≤ℤ y → (pos 0 *ℤ x +ℤ negsuc 0 *ℤ y) ≤ℤ (neg_ℤ c *ℤ w)
row_bottom x y w c h = omega (arith, ints, flipped c w)

pub rows_between : (x y w : ℤ) (e : Extent) → All (Satisfies x y w) (frame_rows e) → LiesBetween x y w e
rows_between x y w e all = record {
  right = right_row x y w e.x1 (all 0 (row_of e) (omega arith));
  left = left_row x y w e.x0 (all 1 (row_of e) (omega arith));
  top = top_row x y w e.y1 (all 2 (row_of e) (omega arith));
  bottom = bottom_row x y w e.y0 (all 3 (row_of e) (omega arith));
}
  where
    row_of : Extent → Row
    row_of e = record { a = pos 0; b = pos 0; c = pos 0 }

four : (P : Row → Type 0) (a b c d : Row) → P a → P b → P c → P d → All P (a ∷ b ∷ c ∷ d ∷ [])
four P a b c d h k l m = All-cons P a (b ∷ c ∷ d ∷ []) h (All-cons P b (c ∷ d ∷ []) k (All-cons P c (d ∷ []) l (All-cons P d [] m (All-nil P))))

pub between_rows : (x y w : ℤ) (e : Extent) → LiesBetween x y w e → All (Satisfies x y w) (frame_rows e)
between_rows x y w e h = four (Satisfies x y w) _ _ _ _ (row_right x y w e.x1 h.right) (row_left x y w e.x0 h.left) (row_top x y w e.y1 h.top) (row_bottom x y w e.y0 h.bottom)

weak : (w : ℤ) → pos 0 <ℤ w → pos 0 ≤ℤ w
weak w h = omega (arith, ints)

-- ---- covering

pub covers_if : (e f : Extent) → Spans e.x0 e.x1 f.x0 f.x1 → Spans e.y0 e.y1 f.y0 f.y1 → Covers e f
covers_if e f xs ys = λ x y w above all. between_rows x y w e (wider x y w above (rows_between x y w f all))
  where
    wider : (x y w : ℤ) → pos 0 <ℤ w → LiesBetween x y w f → LiesBetween x y w e
    wider x y w above h = record {
      right = le_trans _ _ _ h.right (scaled w _ _ (weak w above) xs.high_above);
      left = le_trans _ _ _ (scaled w _ _ (weak w above) xs.low_below) h.left;
      top = le_trans _ _ _ h.top (scaled w _ _ (weak w above) ys.high_above);
      bottom = le_trans _ _ _ (scaled w _ _ (weak w above) ys.low_below) h.bottom;
    }

-- a point with whole coordinates is between the ends of the extent
pub at_point : (x y : ℤ) (e : Extent) → e.x0 ≤ℤ x → x ≤ℤ e.x1 → e.y0 ≤ℤ y → y ≤ℤ e.y1 → LiesBetween x y (pos 1) e
at_point x y e a b c d = record { right = one_high x e.x1 b; left = one_low x e.x0 a; top = one_high y e.y1 d; bottom = one_low y e.y0 c }
  where
    one_high : (x c : ℤ) → x ≤ℤ c → x ≤ℤ (pos 1 *ℤ c)
    one_high x c h = omega (arith, ints)

    one_low : (x c : ℤ) → c ≤ℤ x → (pos 1 *ℤ c) ≤ℤ x
    one_low x c h = omega (arith, ints)

pub one_above : pos 0 <ℤ pos 1
one_above = record { lt = tt }

pub record SpansBoth (e f : Extent) : Type 0 where
  pub xs : Spans e.x0 e.x1 f.x0 f.x1
  pub ys : Spans e.y0 e.y1 f.y0 f.y1

pub covers_only : (e f : Extent) → f.x0 ≤ℤ f.x1 → f.y0 ≤ℤ f.y1 → Covers e f → SpansBoth e f
covers_only e f x_order y_order h =
    let low = rows_between f.x0 f.y0 (pos 1) e (h f.x0 f.y0 (pos 1) one_above (between_rows f.x0 f.y0 (pos 1) f (at_point f.x0 f.y0 f (le_refl _) x_order (le_refl _) y_order))) in
    let high = rows_between f.x1 f.y1 (pos 1) e (h f.x1 f.y1 (pos 1) one_above (between_rows f.x1 f.y1 (pos 1) f (at_point f.x1 f.y1 f x_order (le_refl _) y_order (le_refl _)))) in
    record {
      xs = record { low_below = from_low _ _ low.left; high_above = from_high _ _ high.right };
      ys = record { low_below = from_low _ _ low.bottom; high_above = from_high _ _ high.top };
    }
  where
    from_low : (a b : ℤ) → (pos 1 *ℤ a) ≤ℤ b → a ≤ℤ b
    from_low a b h = omega (arith, ints)

    from_high : (a b : ℤ) → a ≤ℤ (pos 1 *ℤ b) → a ≤ℤ b
    from_high a b h = omega (arith, ints)

pub whole_covers : (e : Extent) → IsFrame e → Covers whole_extent e
whole_covers e h = covers_if whole_extent e (record { low_below = h.x0_in_range.low; high_above = h.x1_in_range.high }) (record { low_below = h.y0_in_range.low; high_above = h.y1_in_range.high })

spans-joined : (g e f : Extent) → SpansBoth g e → SpansBoth g f → Covers g (joined e f)
spans-joined g e f h k = covers_if g (joined e f) (both g.x0 g.x1 e.x0 e.x1 f.x0 f.x1 h.xs k.xs) (both g.y0 g.y1 e.y0 e.y1 f.y0 f.y1 h.ys k.ys)
  where
    both : (a b c d l m : ℤ) → Spans a b c d → Spans a b l m → Spans a b (int_min c l) (int_max d m)
    both a b c d l m h k = record { low_below = omega (arith, ints, clamps, h.low_below, k.low_below); high_above = omega (arith, ints, clamps, h.high_above, k.high_above) }

joined-covers_left : (e f : Extent) → Covers (joined e f) e
joined-covers_left e f = covers_if (joined e f) e (left e.x0 e.x1 f.x0 f.x1) (left e.y0 e.y1 f.y0 f.y1)
  where
    left : (a b c d : ℤ) → Spans (int_min a c) (int_max b d) a b
    left a b c d = record { low_below = omega (arith, ints, clamps); high_above = omega (arith, ints, clamps) }

joined-covers_right : (e f : Extent) → Covers (joined e f) f
joined-covers_right e f = covers_if (joined e f) f (right e.x0 e.x1 f.x0 f.x1) (right e.y0 e.y1 f.y0 f.y1)
  where
    right : (a b c d : ℤ) → Spans (int_min a c) (int_max b d) c d
    right a b c d = record { low_below = omega (arith, ints, clamps); high_above = omega (arith, ints, clamps) }

pub joined-IsLeastCover : (e f : Extent) → IsFrame e → IsFrame f → IsLeastCover (joined e f) e f
joined-IsLeastCover e f h k = record {
  covers_first = joined-covers_left e f;
  covers_second = joined-covers_right e f;
  least = λ g frame ge gf. spans-joined g e f (covers_only g e h.x_order h.y_order ge) (covers_only g f k.x_order k.y_order gf);
}

-- ---- the least frame of points

point_spans : (g : Extent) (p : Point) → Covers g (point_extent p) → SpansBoth g (point_extent p)
point_spans g p h = covers_only g (point_extent p) (le_refl p.x) (le_refl p.y) h

extent_spans : (g : Extent) (p : Point) (rest : List Point) → All (λ q. Covers g (point_extent q)) (p ∷ rest) → SpansBoth g (extent_of (p ∷ rest))
extent_spans g p [] all = point_spans g p (All-head (λ q. Covers g (point_extent q)) p [] all)
extent_spans g p (q ∷ rest) all =
    both (point_extent p) (extent_of (q ∷ rest)) (point_spans g p (All-head (λ q. Covers g (point_extent q)) p (q ∷ rest) all)) (extent_spans g q rest (All-tail (λ q. Covers g (point_extent q)) p (q ∷ rest) all))
  where
    one : (a b c d l m : ℤ) → Spans a b c d → Spans a b l m → Spans a b (int_min c l) (int_max d m)
    one a b c d l m h k = record { low_below = omega (arith, ints, clamps, h.low_below, k.low_below); high_above = omega (arith, ints, clamps, h.high_above, k.high_above) }

    both : (e f : Extent) → SpansBoth g e → SpansBoth g f → SpansBoth g (joined e f)
    both e f h k = record { xs = one g.x0 g.x1 e.x0 e.x1 f.x0 f.x1 h.xs k.xs; ys = one g.y0 g.y1 e.y0 e.y1 f.y0 f.y1 h.ys k.ys }

extent_covers : (p : Point) (rest : List Point) → All (λ q. Covers (extent_of (p ∷ rest)) (point_extent q)) (p ∷ rest)
extent_covers p [] = All-cons (λ q. Covers (point_extent p) (point_extent q)) p [] (λ x y w above all. all) (All-nil _)
extent_covers p (q ∷ rest) =
    All-cons (λ r. Covers (joined (point_extent p) (extent_of (q ∷ rest))) (point_extent r)) p (q ∷ rest) (joined-covers_left (point_extent p) (extent_of (q ∷ rest)))
    (All-weaker (λ r. Covers (extent_of (q ∷ rest)) (point_extent r)) (λ r. Covers (joined (point_extent p) (extent_of (q ∷ rest))) (point_extent r))
    (λ r h x y w above all. joined-covers_right (point_extent p) (extent_of (q ∷ rest)) x y w above (h x y w above all)) (q ∷ rest) (extent_covers q rest))

pub extent_of-IsLeastFrame : (points : List Point) (frame : Extent) → 1 ≤ length points → frame ≡ extent_of points → IsLeastFrame frame points
extent_of-IsLeastFrame [] frame h e = absurd (omega (arith, h))
extent_of-IsLeastFrame (p ∷ rest) frame h e = subst (λ f. IsLeastFrame f (p ∷ rest)) (sym e) (record {
  covers = extent_covers p rest;
  least = λ g is all. let spans = extent_spans g p rest all in covers_if g (extent_of (p ∷ rest)) spans.xs spans.ys;
})

-- ---- meeting

pub frames_meet_if : (e f : Extent) → IsFrame e → IsFrame f → Overlap e.x0 e.x1 f.x0 f.x1 → Overlap e.y0 e.y1 f.y0 f.y1 → FramesMeet e f
frames_meet_if e f h k xs ys = record {
  x = int_max e.x0 f.x0;
  y = int_max e.y0 f.y0;
  w = pos 1;
  above_zero = one_above;
  in_first = between_rows _ _ (pos 1) e (at_point _ _ e (first e.x0 f.x0) (below e.x0 f.x0 e.x1 h.x_order xs.above_low) (first e.y0 f.y0) (below e.y0 f.y0 e.y1 h.y_order ys.above_low));
  in_second = between_rows _ _ (pos 1) f (at_point _ _ f (second e.x0 f.x0) (below e.x0 f.x0 f.x1 xs.below_high k.x_order) (second e.y0 f.y0) (below e.y0 f.y0 f.y1 ys.below_high k.y_order));
}
  where
    first : (a b : ℤ) → a ≤ℤ int_max a b
    first a b = omega (arith, ints, clamps)

    second : (a b : ℤ) → b ≤ℤ int_max a b
    second a b = omega (arith, ints, clamps)

    below : (a b c : ℤ) → a ≤ℤ c → b ≤ℤ c → int_max a b ≤ℤ c
    below a b c h k = omega (arith, ints, clamps)

pub record OverlapBoth (e f : Extent) : Type 0 where
  pub xs : Overlap e.x0 e.x1 f.x0 f.x1
  pub ys : Overlap e.y0 e.y1 f.y0 f.y1

pub frames_meet_only : (e f : Extent) → FramesMeet e f → OverlapBoth e f
frames_meet_only e f meet =
    let first = rows_between meet.x meet.y meet.w e meet.in_first in
    let second = rows_between meet.x meet.y meet.w f meet.in_second in
    record {
      xs = record { below_high = cancelled meet.w _ _ meet.above_zero (le_trans _ _ _ first.left second.right); above_low = cancelled meet.w _ _ meet.above_zero (le_trans _ _ _ second.left first.right) };
      ys = record { below_high = cancelled meet.w _ _ meet.above_zero (le_trans _ _ _ first.bottom second.top); above_low = cancelled meet.w _ _ meet.above_zero (le_trans _ _ _ second.bottom first.top) };
    }

-- ---- the tests of the code, on 32-bit numbers

overlap_reads : (a b c d : ℤ) → IsCoordinate a → IsCoordinate b → IsCoordinate c → IsCoordinate d → Overlap (narrow a) (narrow b) (narrow c) (narrow d) ↔ Overlap a b c d
overlap_reads a b c d ha hb hc hd = rw (reads_narrow a ha, reads_narrow b hb, reads_narrow c hc, reads_narrow d hd) (λ o. o, λ o. o)

spans_reads : (a b c d : ℤ) → IsCoordinate a → IsCoordinate b → IsCoordinate c → IsCoordinate d → Spans (narrow a) (narrow b) (narrow c) (narrow d) ↔ Spans a b c d
spans_reads a b c d ha hb hc hd = rw (reads_narrow a ha, reads_narrow b hb, reads_narrow c hc, reads_narrow d hd) (λ o. o, λ o. o)

pub meet_by_y : (first second e f : Extent) (v : Bool) → e ≡ first → f ≡ second → IsFrame e → IsFrame f
    → Overlap (narrow e.x0) (narrow e.x1) (narrow f.x0) (narrow f.x1) → (IsTrue v ↔ Overlap (narrow e.y0) (narrow e.y1) (narrow f.y0) (narrow f.y1)) → IsTrue v ↔ FramesMeet first second
meet_by_y first second e f v p q h k xs ys = rw (← p, ← q) (
  λ t. frames_meet_if e f h k ((overlap_reads _ _ _ _ h.x0_in_range h.x1_in_range k.x0_in_range k.x1_in_range).0 xs) ((overlap_reads _ _ _ _ h.y0_in_range h.y1_in_range k.y0_in_range k.y1_in_range).0 (ys.0 t)),
  λ meet. ys.1 ((overlap_reads _ _ _ _ h.y0_in_range h.y1_in_range k.y0_in_range k.y1_in_range).1 (frames_meet_only e f meet).ys),
)

pub meet_not : (first second e f : Extent) (v : Bool) → e ≡ first → f ≡ second → IsFrame e → IsFrame f → v ≡ false
    → (Overlap (narrow e.x0) (narrow e.x1) (narrow f.x0) (narrow f.x1) → IsTrue false) → IsTrue v ↔ FramesMeet first second
meet_not first second e f v p q h k is_false xs = rw (← p, ← q) (
  λ t. absurd (false≢true (sym is_false ∙ t)),
  λ meet. absurd (false≢true (xs ((overlap_reads _ _ _ _ h.x0_in_range h.x1_in_range k.x0_in_range k.x1_in_range).1 (frames_meet_only e f meet).xs))),
)

pub covers_by_y : (first second e f : Extent) (v : Bool) → e ≡ first → f ≡ second → IsFrame e → IsFrame f
    → Spans (narrow e.x0) (narrow e.x1) (narrow f.x0) (narrow f.x1) → (IsTrue v ↔ Spans (narrow e.y0) (narrow e.y1) (narrow f.y0) (narrow f.y1)) → IsTrue v ↔ Covers first second
covers_by_y first second e f v p q h k xs ys = subst (λ a. IsTrue v ↔ Covers a second) p (subst (λ b. IsTrue v ↔ Covers e b) q ((
  λ t. covers_if e f ((spans_reads _ _ _ _ h.x0_in_range h.x1_in_range k.x0_in_range k.x1_in_range).0 xs) ((spans_reads _ _ _ _ h.y0_in_range h.y1_in_range k.y0_in_range k.y1_in_range).0 (ys.0 t)),
  λ covers. ys.1 ((spans_reads _ _ _ _ h.y0_in_range h.y1_in_range k.y0_in_range k.y1_in_range).1 (covers_only e f k.x_order k.y_order covers).ys),
)))

pub covers_not : (first second e f : Extent) (v : Bool) → e ≡ first → f ≡ second → IsFrame e → IsFrame f → v ≡ false
    → (Spans (narrow e.x0) (narrow e.x1) (narrow f.x0) (narrow f.x1) → IsTrue false) → IsTrue v ↔ Covers first second
covers_not first second e f v p q h k is_false xs = subst (λ a. IsTrue v ↔ Covers a second) p (subst (λ b. IsTrue v ↔ Covers e b) q ((
  λ t. absurd (false≢true (sym is_false ∙ t)),
  λ covers. absurd (false≢true (xs ((spans_reads _ _ _ _ h.x0_in_range h.x1_in_range k.x0_in_range k.x1_in_range).1 (covers_only e f k.x_order k.y_order covers).xs))),
)))

pub least_cover : (first second e f result : Extent) → e ≡ first → f ≡ second → IsFrame e → IsFrame f → result ≡ joined first second → IsLeastCover result first second
least_cover first second e f result p q h k r = rw r (subst (λ a. IsLeastCover (joined a second) a second) p (subst (λ b. IsLeastCover (joined e b) e b) q (joined-IsLeastCover e f h k)))
