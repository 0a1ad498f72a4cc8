-- The box of bounds in order is a shape.
use Rattle.std.specs.Prelude.{◌≡◌, ℤ, pos, neg_ℤ, ◌-ℤ◌, ◌*ℤ◌, ◌≤ℤ◌, ◌<ℤ◌, int_le, int_lt, Bool, true, false, ◌&&◌, ◌||◌, List, [], ◌∷◌, None, Some, Ok, if◌then◌else◌}
use Rattle.std.proofs.Common.{refl, sym, ap, ◌∙◌, arith}
use Rattle.std.specs.Int.{int_max, int_min}
use Rattle.std.specs.Ordering.{int_eq}
use Rattle.std.proofs.Math.IntN.{*ℤ_comm, *ℤ-zero, zero-*ℤ}
use Rattle.std.proofs.lemmas.Int.{clamps, ints}
use Rattle.plane.specs.Canonical.{polygon_of, ring_of}
use Rattle.plane.specs.Coordinates.{IsCoordinate, is_coordinate}
use Rattle.plane.specs.Points.{is_before, is_in_range, is_same}
use Rattle.plane.specs.Rings.{from_least, goes_left, has_repeat, is_flat, is_on_line, is_on_or_left, turning_points}
use Rattle.plane.specs.declared.point.Point.{Point}
use Rattle.plane.specs.declared.point.TheConstants.{LIMIT}
use Rattle.map_asks.specs.Windows.{box_corners, box_point, box_polygon, box_segment, box_shape, clipped, corner, is_crossed, thin_corners, thin_shape, wide_corners, wide_shape, window_of}
use Rattle.map_asks.specs.declared.windows.Bounds.{Bounds}
use Rattle.map_asks.specs.declared.windows.Window.TheVariants.{Nothing, Shape}
use Rattle.plane.proofs.Orders.{mul-sub, neg-mul-neg, product_positive}

-- ---- a ring of four points, by the tests that are made of it

record IsRing (p q r t : Point) : Type 0 where
  -- no two are the same
  pq : is_same p q ≡ false
  pr : is_same p r ≡ false
  pt : is_same p t ≡ false
  qr : is_same q r ≡ false
  qt : is_same q t ≡ false
  rt : is_same r t ≡ false
  -- none is before the first
  pp : is_before p p ≡ false
  qp : is_before q p ≡ false
  rp : is_before r p ≡ false
  tp : is_before t p ≡ false
  -- each is on or left of each side
  first_p : is_on_or_left (p, q) p ≡ true
  first_q : is_on_or_left (p, q) q ≡ true
  first_r : is_on_or_left (p, q) r ≡ true
  first_t : is_on_or_left (p, q) t ≡ true
  second_p : is_on_or_left (q, r) p ≡ true
  second_q : is_on_or_left (q, r) q ≡ true
  second_r : is_on_or_left (q, r) r ≡ true
  second_t : is_on_or_left (q, r) t ≡ true
  third_p : is_on_or_left (r, t) p ≡ true
  third_q : is_on_or_left (r, t) q ≡ true
  third_r : is_on_or_left (r, t) r ≡ true
  third_t : is_on_or_left (r, t) t ≡ true
  fourth_p : is_on_or_left (t, p) p ≡ true
  fourth_q : is_on_or_left (t, p) q ≡ true
  fourth_r : is_on_or_left (t, p) r ≡ true
  fourth_t : is_on_or_left (t, p) t ≡ true
  -- they turn at each
  begins : is_on_line (p, q) p ≡ true
  goes_on : is_on_line (p, q) q ≡ true
  pqr : is_on_line (p, q) r ≡ false
  qrt : is_on_line (q, r) t ≡ false
  rtp : is_on_line (r, t) p ≡ false
  tpq : is_on_line (t, p) q ≡ false

module _ (p q r t : Point) (is : IsRing p q r t) where
  no_repeat : has_repeat (p ∷ q ∷ r ∷ t ∷ []) ≡ false
  no_repeat = rw (is.pq, is.pr, is.pt, is.qr, is.qt, is.rt) refl

  not_flat : is_flat (p ∷ q ∷ r ∷ t ∷ []) ≡ false
  not_flat = rw (is.begins, is.goes_on, is.pqr) refl

  left : goes_left (p ∷ q ∷ r ∷ t ∷ []) ≡ true
  left = rw (
    is.first_p,
    is.first_q,
    is.first_r,
    is.first_t,
    is.second_p,
    is.second_q,
    is.second_r,
    is.second_t,
    is.third_p,
    is.third_q,
    is.third_r,
    is.third_t,
    is.fourth_p,
    is.fourth_q,
    is.fourth_r,
    is.fourth_t,
  ) refl

  at_least : from_least (p ∷ q ∷ r ∷ t ∷ []) ≡ p ∷ q ∷ r ∷ t ∷ []
  at_least = rw (is.pp, is.qp, is.rp, is.tp) refl

  turns : turning_points (p ∷ q ∷ r ∷ t ∷ []) ≡ p ∷ q ∷ r ∷ t ∷ []
  turns = rw (is.tpq, is.pqr, is.qrt, is.rtp) refl

  ring_is : ring_of (p ∷ q ∷ r ∷ t ∷ []) ≡ Ok (p ∷ q ∷ r ∷ t ∷ [])
  ring_is = rw (no_repeat, not_flat, left, at_least, turns) refl

-- ---- tests of numbers

same_is : (a : ℤ) → int_eq a a ≡ true
same_is a = grind (arith, ints)

not_same : (a b : ℤ) → a <ℤ b → int_eq a b ≡ false
not_same a b h = grind (arith, ints)

not_same_back : (a b : ℤ) → a <ℤ b → int_eq b a ≡ false
not_same_back a b h = grind (arith, ints)

not_below : (a b : ℤ) → a ≤ℤ b → int_lt b a ≡ false
not_below a b h = grind (arith, ints)

is_below : (a b : ℤ) → a <ℤ b → int_lt a b ≡ true
is_below a b h = grind (arith, ints)

-- ---- turns along a box

none : (c : ℤ) → c -ℤ c ≡ pos 0
none c = omega (arith, ints)

less_none : (c : ℤ) → c -ℤ pos 0 ≡ c
less_none c = omega (arith, ints)

over : (a b : ℤ) → a <ℤ b → pos 0 <ℤ (b -ℤ a)
over a b h = omega (arith, ints)

negated : (a b : ℤ) → neg_ℤ (b -ℤ a) ≡ a -ℤ b
negated a b = omega (arith, ints)

-- along the x axis nothing is beside what lies on the side
along_none : (d y z v : ℤ) → (d *ℤ (z -ℤ z)) -ℤ ((y -ℤ y) *ℤ v) ≡ pos 0
along_none d y z v = rw (none z, none y, zero-*ℤ v, *ℤ-zero d) (omega (arith, ints))

along_some : (a b c d y v : ℤ) → a <ℤ b → c <ℤ d → pos 0 <ℤ (((b -ℤ a) *ℤ (d -ℤ c)) -ℤ ((y -ℤ y) *ℤ v))
along_some a b c d y v h k = rw (none y, zero-*ℤ v, less_none ((b -ℤ a) *ℤ (d -ℤ c))) (product_positive (b -ℤ a) (d -ℤ c) (over a b h) (over c d k))

along_back : (a b c d y v : ℤ) → a <ℤ b → c <ℤ d → pos 0 <ℤ (((a -ℤ b) *ℤ (c -ℤ d)) -ℤ ((y -ℤ y) *ℤ v))
along_back a b c d y v h k =
    let same : (a -ℤ b) *ℤ (c -ℤ d) ≡ (b -ℤ a) *ℤ (d -ℤ c) = rw (← negated a b, ← negated c d) (neg-mul-neg (b -ℤ a) (d -ℤ c)) in
    rw same (along_some a b c d y v h k)

across_none : (x a d z : ℤ) → ((x -ℤ x) *ℤ a) -ℤ (d *ℤ (z -ℤ z)) ≡ pos 0
across_none x a d z = rw (none x, none z, zero-*ℤ a, *ℤ-zero d) (omega (arith, ints))

turned : (k c d : ℤ) → pos 0 -ℤ (k *ℤ (c -ℤ d)) ≡ k *ℤ (d -ℤ c)
turned k c d = omega (arith, ints, mul-sub k d c, mul-sub k c d)

across_some : (a b c d x e : ℤ) → a <ℤ b → c <ℤ d → pos 0 <ℤ (((x -ℤ x) *ℤ e) -ℤ ((b -ℤ a) *ℤ (c -ℤ d)))
across_some a b c d x e h k = rw (none x, zero-*ℤ e, turned (b -ℤ a) c d) (product_positive (b -ℤ a) (d -ℤ c) (over a b h) (over c d k))

across_back : (a b c d x e : ℤ) → a <ℤ b → c <ℤ d → pos 0 <ℤ (((x -ℤ x) *ℤ e) -ℤ ((a -ℤ b) *ℤ (d -ℤ c)))
across_back a b c d x e h k =
    let same : pos 0 -ℤ ((a -ℤ b) *ℤ (d -ℤ c)) ≡ (b -ℤ a) *ℤ (d -ℤ c) = ap (λ (z : ℤ). pos 0 -ℤ z) (*ℤ_comm (a -ℤ b) (d -ℤ c)) ∙ turned (d -ℤ c) a b ∙ *ℤ_comm (d -ℤ c) (b -ℤ a) in
    rw (none x, zero-*ℤ e, same) (product_positive (b -ℤ a) (d -ℤ c) (over a b h) (over c d k))

on : (a : ℤ) → a ≡ pos 0 → (int_le (pos 0) a ≡ true) × (int_eq a (pos 0) ≡ true)
on a h = (rw h refl, rw h refl)

off : (a : ℤ) → pos 0 <ℤ a → (int_le (pos 0) a ≡ true) × (int_eq a (pos 0) ≡ false)
off a h = (grind (arith, ints), grind (arith, ints))

-- ---- the shapes of a box

inside : (a : ℤ) → IsCoordinate a → is_coordinate a ≡ true
inside a h = grind (arith, ints)

in_range : (x y : ℤ) → IsCoordinate x → IsCoordinate y → is_in_range (corner x y) ≡ true
in_range x y h k = rw (inside x h, inside y k) refl

le_of : (a b : ℤ) → a <ℤ b → a ≤ℤ b
le_of a b h = omega (arith, ints)

le_same : (a : ℤ) → a ≤ℤ a
le_same a = omega (arith, ints)

box_ring : (w s e n : ℤ) → w <ℤ e → s <ℤ n → IsRing (corner w s) (corner e s) (corner e n) (corner w n)
box_ring w s e n h k = record {
  pq = rw (not_same w e h) refl;
  pr = rw (not_same w e h) refl;
  pt = rw (same_is w, not_same s n k) refl;
  qr = rw (same_is e, not_same s n k) refl;
  qt = rw (not_same_back w e h) refl;
  rt = rw (not_same_back w e h) refl;
  pp = rw (not_below w w (le_same w), not_below s s (le_same s)) refl;
  qp = rw (not_below w e (le_of w e h), is_below w e h) refl;
  rp = rw (not_below w e (le_of w e h), is_below w e h) refl;
  tp = rw (not_below w w (le_same w), not_below s n (le_of s n k)) refl;
  first_p = (on _ (along_none (e -ℤ w) s s (w -ℤ w))).0;
  first_q = (on _ (along_none (e -ℤ w) s s (e -ℤ w))).0;
  first_r = (off _ (along_some w e s n s (e -ℤ w) h k)).0;
  first_t = (off _ (along_some w e s n s (w -ℤ w) h k)).0;
  second_p = (off _ (across_some s n w e e (s -ℤ s) k h)).0;
  second_q = (on _ (across_none e (s -ℤ s) (n -ℤ s) e)).0;
  second_r = (on _ (across_none e (n -ℤ s) (n -ℤ s) e)).0;
  second_t = (off _ (across_some s n w e e (n -ℤ s) k h)).0;
  third_p = (off _ (along_back w e s n n (w -ℤ e) h k)).0;
  third_q = (off _ (along_back w e s n n (e -ℤ e) h k)).0;
  third_r = (on _ (along_none (w -ℤ e) n n (e -ℤ e))).0;
  third_t = (on _ (along_none (w -ℤ e) n n (w -ℤ e))).0;
  fourth_p = (on _ (across_none w (s -ℤ n) (s -ℤ n) w)).0;
  fourth_q = (off _ (across_back s n w e w (s -ℤ n) k h)).0;
  fourth_r = (off _ (across_back s n w e w (n -ℤ n) k h)).0;
  fourth_t = (on _ (across_none w (n -ℤ n) (s -ℤ n) w)).0;
  begins = (on _ (along_none (e -ℤ w) s s (w -ℤ w))).1;
  goes_on = (on _ (along_none (e -ℤ w) s s (e -ℤ w))).1;
  pqr = (off _ (along_some w e s n s (e -ℤ w) h k)).1;
  qrt = (off _ (across_some s n w e e (n -ℤ s) k h)).1;
  rtp = (off _ (along_back w e s n n (w -ℤ e) h k)).1;
  tpq = (off _ (across_back s n w e w (s -ℤ n) k h)).1;
}

closed_ring : (p q r t : Point) → is_in_range p ≡ true → is_in_range q ≡ true → is_in_range r ≡ true → is_in_range t ≡ true → is_same p p ≡ true
    → polygon_of (p ∷ q ∷ r ∷ t ∷ p ∷ []) ≡ ring_of (p ∷ q ∷ r ∷ t ∷ [])
closed_ring p q r t ip iq ir it same = rw (ip, iq, ir, it, same) refl

and_false : (x : Bool) → (x && false) ≡ false
and_false true = refl
and_false false = refl

-- the coordinates of a box are in range and in order
record IsBox (b : Bounds) : Type 0 where
  west : IsCoordinate b.west
  south : IsCoordinate b.south
  east : IsCoordinate b.east
  north : IsCoordinate b.north
  across : b.west ≤ℤ b.east
  up : b.south ≤ℤ b.north

below : (a b : ℤ) → a ≤ℤ b → int_eq a b ≡ false → a <ℤ b
below a b h e = grind (arith, ints)

ends_in_order : (b : Bounds) → IsBox b → is_before (corner b.east b.north) (corner b.west b.south) ≡ false
ends_in_order b is = rw (not_below b.west b.east is.across, not_below b.south b.north is.up) (and_false _)

same_corner : (x y : ℤ) → is_same (corner x y) (corner x y) ≡ true
same_corner x y = rw (same_is x, same_is y) refl

rectangle_is : (w s e n : ℤ) → IsCoordinate w → IsCoordinate s → IsCoordinate e → IsCoordinate n → w <ℤ e → s <ℤ n
    → polygon_of (corner w s ∷ corner e s ∷ corner e n ∷ corner w n ∷ corner w s ∷ []) ≡ Ok (corner w s ∷ corner e s ∷ corner e n ∷ corner w n ∷ [])
rectangle_is w s e n iw is ie in_n h k =
    closed_ring (corner w s) (corner e s) (corner e n) (corner w n) (in_range w s iw is) (in_range e s ie is) (in_range e n ie in_n) (in_range w n iw in_n) (same_corner w s)
    ∙ ring_is (corner w s) (corner e s) (corner e n) (corner w n) (box_ring w s e n h k)

otherwise : {A : Type 0} (x : Bool) (first second : A) → x ≡ false → (if x then first else second) ≡ second
otherwise x first second h = rw h refl

box_is : (b : Bounds) (x y : Bool) → int_eq b.west b.east ≡ x → int_eq b.south b.north ≡ y → IsBox b → box_shape b ≡ Ok (box_corners b)
unfolding box_point box_segment box_polygon
box_is b true true ex ey is = rw (ex, ey) (rw (in_range b.west b.south is.west is.south) refl)
box_is b true false ex ey is = rw (ex, ey) (rw (in_range b.west b.south is.west is.south, in_range b.east b.north is.east is.north, ends_in_order b is) refl)
box_is b false true ex ey is = rw (ex, ey) (rw (in_range b.west b.south is.west is.south, in_range b.east b.north is.east is.north, ends_in_order b is) refl)
box_is b false false ex ey is =
    otherwise (int_eq b.west b.east) (thin_shape b) (wide_shape b) ex ∙ otherwise (int_eq b.south b.north) (box_segment b) (box_polygon b) ey
    ∙ rectangle_is b.west b.south b.east b.north is.west is.south is.east is.north (below b.west b.east is.across ex) (below b.south b.north is.up ey)
    ∙ ap (λ (c : List Point). Ok c) (sym (otherwise (int_eq b.west b.east) (thin_corners b) (wide_corners b) ex ∙ otherwise (int_eq b.south b.north)
    (corner b.west b.south ∷ corner b.east b.north ∷ []) (corner b.west b.south ∷ corner b.east b.south ∷ corner b.east b.north ∷ corner b.west b.north ∷ []) ey))

-- ---- the window

in_order : (w s e n : ℤ) → (int_lt e w || int_lt n s) ≡ false → (w ≤ℤ e) × (s ≤ℤ n)
in_order w s e n h = (grind (arith, ints), grind (arith, ints))

clipped_box : (b : Bounds) → is_crossed (clipped b) ≡ false → IsBox (clipped b)
clipped_box b h =
    let order = in_order (clipped b).west (clipped b).south (clipped b).east (clipped b).north h in
    record {
      west = record { low = above b.west; high = through _ _ _ order.0 (under b.east) };
      south = record { low = above b.south; high = through _ _ _ order.1 (under b.north) };
      east = record { low = through _ _ _ (above b.west) order.0; high = under b.east };
      north = record { low = through _ _ _ (above b.south) order.1; high = under b.north };
      across = order.0;
      up = order.1;
    }
  where
    above : (a : ℤ) → (pos 0 -ℤ LIMIT) ≤ℤ int_max a (pos 0 -ℤ LIMIT)
    above a = grind (arith, ints, clamps)

    under : (a : ℤ) → int_min a LIMIT ≤ℤ LIMIT
    under a = grind (arith, ints, clamps)

    through : (a b c : ℤ) → a ≤ℤ b → b ≤ℤ c → a ≤ℤ c
    through a b c h k = omega (arith, ints)

pub crossed_has_none : (b : Bounds) → is_crossed b ≡ true → window_of b ≡ None
crossed_has_none b h = rw h refl

pub beyond_is_nothing : (b : Bounds) → is_crossed b ≡ false → is_crossed (clipped b) ≡ true → window_of b ≡ Some Nothing
beyond_is_nothing b h k = rw (h, k) refl

pub window_is : (b : Bounds) → is_crossed b ≡ false → is_crossed (clipped b) ≡ false → window_of b ≡ Some (Shape (box_corners (clipped b)))
window_is b h k = rw (h, k) (rw (box_is (clipped b) (int_eq (clipped b).west (clipped b).east) (int_eq (clipped b).south (clipped b).north) refl refl (clipped_box b k)) refl)
