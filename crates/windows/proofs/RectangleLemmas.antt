-- A shape with a corner in a rectangle meets it.
use Rattle.std.specs.Prelude.{◌≡◌, ℕ, ◌<◌, ◌↔◌, Bool, true, List, [], ◌∷◌, All, Contains, IsTrue, length, get_or, ℤ, pos, ◌-ℤ◌, ◌*ℤ◌, neg_ℤ, ◌≤ℤ◌, refl}
use Rattle.std.proofs.Common.{arith, sym, subst, ◌∙◌}
use Rattle.std.proofs.lemmas.Int.{ints}
use Rattle.std.proofs.lemmas.List.Elements.{All-nil, All-cons, All-contains}
use Rattle.std.proofs.Math.IntN.{*ℤ_comm, *ℤ-zero, zero-*ℤ}
use Rattle.plane.specs.Canonical.{IsCanonical}
use Rattle.plane.specs.Equality.{same_shape_decides}
use Rattle.plane.specs.Coordinates.{IsCoordinate}
use Rattle.plane.specs.Extents.{Extent, extent_of, point_extent}
use Rattle.plane.specs.Rings.{sides}
use Rattle.plane.specs.Rows.{LiesIn, Meet, Satisfies, frame_rows}
use Rattle.plane.proofs.Covering.{at_point, between_rows, one_above}
use Rattle.plane.proofs.Frames.{narrow, reads_narrow}
use Rattle.plane.proofs.Hulls.{corners_lie, lies_if, turn_to}
use Rattle.plane.proofs.Orders.{mul-sub, neg-mul-neg, product_not_negative}
use Rattle.plane.specs.declared.point.Point.{Point}
use Rattle.windows.specs.Rectangles.{HasCornerIn, IsBetween, IsWithin, rectangle_of, is_upright}

-- a number that is not below 0 times one that is not above 0
not_above : (l b : ℤ) → pos 0 ≤ℤ l → b ≤ℤ pos 0 → (l *ℤ b) ≤ℤ pos 0
not_above l b up below =
    let h : pos 0 ≤ℤ (l *ℤ (pos 0 -ℤ b)) = product_not_negative l (pos 0 -ℤ b) up (turned b below) in
    let k : pos 0 ≤ℤ (l *ℤ pos 0 -ℤ l *ℤ b) = rw (mul-sub l b (pos 0)) at h in
    let m : pos 0 ≤ℤ (pos 0 -ℤ l *ℤ b) = rw (*ℤ-zero l) at k in
    back (l *ℤ b) m
  where
    turned : (c : ℤ) → c ≤ℤ pos 0 → pos 0 ≤ℤ (pos 0 -ℤ c)
    turned c h = omega (arith, ints)

    back : (c : ℤ) → pos 0 ≤ℤ (pos 0 -ℤ c) → c ≤ℤ pos 0
    back c h = omega (arith, ints)

-- the turn of a side along an axis, by the signs of its parts
rightwards : (k l a b : ℤ) → pos 0 ≤ℤ k → l ≡ pos 0 → pos 0 ≤ℤ a → pos 0 ≤ℤ (k *ℤ a -ℤ l *ℤ b)
rightwards k l a b along none beside = rw (none, zero-*ℤ b) (less _ (product_not_negative k a along beside))
  where
    less : (c : ℤ) → pos 0 ≤ℤ c → pos 0 ≤ℤ (c -ℤ pos 0)
    less c h = omega (arith, ints)

upwards : (k l a b : ℤ) → k ≡ pos 0 → pos 0 ≤ℤ l → b ≤ℤ pos 0 → pos 0 ≤ℤ (k *ℤ a -ℤ l *ℤ b)
upwards k l a b none along beside = rw (none, zero-*ℤ a) (less _ (not_above l b along beside))
  where
    less : (c : ℤ) → c ≤ℤ pos 0 → pos 0 ≤ℤ (pos 0 -ℤ c)
    less c h = omega (arith, ints)

leftwards : (k l a b : ℤ) → k ≤ℤ pos 0 → l ≡ pos 0 → a ≤ℤ pos 0 → pos 0 ≤ℤ (k *ℤ a -ℤ l *ℤ b)
leftwards k l a b along none beside = rw (none, zero-*ℤ b, ← neg-mul-neg k a) (less _ (product_not_negative (neg_ℤ k) (neg_ℤ a) (turned k along) (turned a beside)))
  where
    less : (c : ℤ) → pos 0 ≤ℤ c → pos 0 ≤ℤ (c -ℤ pos 0)
    less c h = omega (arith, ints)

    turned : (c : ℤ) → c ≤ℤ pos 0 → pos 0 ≤ℤ neg_ℤ c
    turned c h = omega (arith, ints)

downwards : (k l a b : ℤ) → k ≡ pos 0 → l ≤ℤ pos 0 → pos 0 ≤ℤ b → pos 0 ≤ℤ (k *ℤ a -ℤ l *ℤ b)
downwards k l a b none along beside = rw (none, zero-*ℤ a, *ℤ_comm l b) (less _ (not_above b l beside along))
  where
    less : (c : ℤ) → c ≤ℤ pos 0 → pos 0 ≤ℤ (pos 0 -ℤ c)
    less c h = omega (arith, ints)

none : (c : ℤ) → c -ℤ c ≡ pos 0
none c = omega (arith, ints)

-- a difference, and one with a factor of 1, by the order of its parts
over : (a b c : ℤ) → a ≤ℤ b → b ≤ℤ c → pos 0 ≤ℤ (c -ℤ a)
over a b c h k = omega (arith, ints)

under : (a b c : ℤ) → a ≤ℤ b → b ≤ℤ c → (a -ℤ c) ≤ℤ pos 0
under a b c h k = omega (arith, ints)

over_one : (a b : ℤ) → a ≤ℤ b → pos 0 ≤ℤ (b -ℤ pos 1 *ℤ a)
over_one a b h = omega (arith, ints)

under_one : (a b : ℤ) → a ≤ℤ b → (a -ℤ pos 1 *ℤ b) ≤ℤ pos 0
under_one a b h = omega (arith, ints)

-- a point in a frame is on or left of each side of the rectangle
left_of_sides : (e : Extent) (p : Point) → IsWithin p e → All (λ side. pos 0 ≤ℤ turn_to side p.x p.y (pos 1)) (sides (rectangle_of e))
left_of_sides e p is =
    let a : Point = record { x = e.x0; y = e.y0 } in
    let b : Point = record { x = e.x1; y = e.y0 } in
    let c : Point = record { x = e.x1; y = e.y1 } in
    let d : Point = record { x = e.x0; y = e.y1 } in
    All-cons Left (a, b) ((b, c) ∷ (c, d) ∷ (d, a) ∷ []) (rightwards (e.x1 -ℤ e.x0) (e.y0 -ℤ e.y0) (p.y -ℤ pos 1 *ℤ e.y0) (p.x -ℤ pos 1 *ℤ e.x0) (over e.x0 p.x e.x1 is.across.above is.across.below) (none e.y0) (over_one e.y0 p.y is.up.above))
    (All-cons Left (b, c) ((c, d) ∷ (d, a) ∷ []) (upwards (e.x1 -ℤ e.x1) (e.y1 -ℤ e.y0) (p.y -ℤ pos 1 *ℤ e.y0) (p.x -ℤ pos 1 *ℤ e.x1) (none e.x1) (over e.y0 p.y e.y1 is.up.above is.up.below) (under_one p.x e.x1 is.across.below))
    (All-cons Left (c, d) ((d, a) ∷ []) (leftwards (e.x0 -ℤ e.x1) (e.y1 -ℤ e.y1) (p.y -ℤ pos 1 *ℤ e.y1) (p.x -ℤ pos 1 *ℤ e.x1) (under e.x0 p.x e.x1 is.across.above is.across.below) (none e.y1) (under_one p.y e.y1 is.up.below))
    (All-cons Left (d, a) [] (downwards (e.x0 -ℤ e.x0) (e.y0 -ℤ e.y1) (p.y -ℤ pos 1 *ℤ e.y1) (p.x -ℤ pos 1 *ℤ e.x0) (none e.x0) (under e.y0 p.y e.y1 is.up.above is.up.below) (over_one e.x0 p.x is.across.above)) (All-nil Left))))
  where
    Left : Point × Point → Type 0
    Left side = pos 0 ≤ℤ turn_to side p.x p.y (pos 1)

-- numbers as the code reads them
pub read_between : (low number high a b : ℤ) → IsCoordinate low → IsCoordinate number → IsCoordinate high → a ≡ low → b ≡ high
    → IsBetween (narrow a) (narrow number) (narrow b) → IsBetween low number high
read_between low number high a b h k l e f is = record {
  above = rw (e, reads_narrow low h, reads_narrow number k) at is.above;
  below = rw (f, reads_narrow high l, reads_narrow number k) at is.below;
}

-- a shape with a corner in the frame of a rectangle meets it
pub meets_rectangle : (shape box : List Point) (frame : Extent) → IsCanonical shape → frame ≡ extent_of box → is_upright box ≡ true → HasCornerIn shape frame → Meet shape box
meets_rectangle shape box frame is framed told has =
    let p = has.corner in
    let same : box ≡ rectangle_of frame = (same_shape_decides box (rectangle_of (extent_of box))).0 told ∙ (λ i. rectangle_of (sym framed i)) in
    record {
      x = p.x;
      y = p.y;
      w = pos 1;
      above_zero = one_above;
      in_first = All-contains (λ r. LiesIn r.x r.y (pos 1) shape) shape p (corners_lie shape is) has.listed;
      in_second = lies_if box p.x p.y (pos 1)
          (subst (λ f. All (Satisfies p.x p.y (pos 1)) (frame_rows f)) framed (between_rows p.x p.y (pos 1) frame (at_point p.x p.y frame has.within.across.above has.within.across.below has.within.up.above has.within.up.below)))
          (subst (λ corners. All (λ side. pos 0 ≤ℤ turn_to side p.x p.y (pos 1)) (sides corners)) (sym same) (left_of_sides frame p has.within));
    }
