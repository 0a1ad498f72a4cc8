-- The rows of shapes, as the code makes them.
use Rattle.std.specs.Prelude.{◌≡◌, ℕ, Option, Some, None, IfSome, IfNone, IsSome, ◌↔◌, ◌<ℤ◌, List, [], ◌∷◌, ◌++◌, All, length, map, slice_index_or, ◌≤◌, ◌<◌, ◌^◌, ℤ, pos, ◌-ℤ◌, ◌*ℤ◌, neg_ℤ, unsigned_abs, refl}
use Rattle.std.proofs.Common.{arith, suc, lit<, lit≤, ◌∙◌, ap, sym, subst}
use Rattle.std.proofs.lemmas.Int.{ints}
use Rattle.plane.specs.Bounds.{IsSmallRow}
use Rattle.plane.specs.Coordinates.{IsCoordinate}
use Rattle.plane.specs.Points.{IsInRange}
use Rattle.std.proofs.lemmas.List.{length-append}
use Rattle.std.proofs.lemmas.List.Elements.{All-nil, All-cons, All-head, All-tail, All-append}
use Rattle.plane.specs.Elimination.{HasFrame}
use Rattle.plane.specs.Extents.{Extent, IsFrame, point_extent, extent_of}
use Rattle.plane.specs.Rings.{sides_to}
use Rattle.plane.specs.declared.shape.TheConstants.{CORNER_LIMIT}
use Rattle.plane.specs.Rows.{edge_row, edge_rows, frame_rows, negated, rows_of, Satisfies, LiesIn, Meet}
use Rattle.std.proofs.lemmas.Bool.{false≢true}
use Rattle.plane.specs.declared.fraction.Fraction.{Fraction}
use Rattle.plane.proofs.Orders.{size-cross, le_refl}
use Rattle.plane.proofs.Frames.{narrow, reads_narrow, IsFrame-joined}
use Rattle.plane.proofs.Long.{long, reads_long}
use Rattle.plane.proofs.Wide.{read, reads}
use Rattle.plane.specs.declared.point.Point.{Point}
use Rattle.plane.specs.declared.rows.Row.{Row}

pub coordinate_size : (z : ℤ) → IsCoordinate z → unsigned_abs z ≤ 10000000
coordinate_size z h = omega (arith, ints, h.low, h.high)

pub coordinate_read : (z k r : ℤ) → IsCoordinate z → k ≡ z → r ≡ narrow k → read r ≡ z
coordinate_read z k r h e f = ap read (f ∙ ap narrow e ∙ reads_narrow z h) ∙ reads z 10000000 (coordinate_size z h) (lit< tt)

pub negated_read : (z r : ℤ) (n : ℕ) → unsigned_abs z ≤ n → n < 2 ^ 127 → read r ≡ z → read (pos 0 -ℤ read r) ≡ neg_ℤ z
negated_read z r n h k e = ap (λ x. read (pos 0 -ℤ x)) e ∙ reads (pos 0 -ℤ z) n (size z n h) k ∙ minus z
  where
    size : (z : ℤ) (n : ℕ) → unsigned_abs z ≤ n → unsigned_abs (pos 0 -ℤ z) ≤ n
    size z n h = omega (arith, ints)

    minus : (z : ℤ) → pos 0 -ℤ z ≡ neg_ℤ z
    minus z = omega (arith, ints)

abbrev pub row : ℤ → ℤ → ℤ → Row
row a b c = record { a = a; b = b; c = c }

pub same_row : (a b c a' b' c' : ℤ) → a ≡ a' → b ≡ b' → c ≡ c' → row a b c ≡ row a' b' c'
same_row a b c a' b' c' p q r = cc

-- the numbers that the code computes for an edge, in 64 bits and then in 128
pub record IsEdge (p q : Point) (dx dy x y c wide_dy wide_dx wide_c : ℤ) : Type 0 where
  pub dx_is : dx ≡ narrow q.x -ℤ narrow p.x
  pub dx_size : unsigned_abs dx ≤ 20000000
  pub dy_is : dy ≡ narrow q.y -ℤ narrow p.y
  pub dy_size : unsigned_abs dy ≤ 20000000
  pub x_is : x ≡ narrow p.x
  pub y_is : y ≡ narrow p.y
  pub c_is : c ≡ long dy *ℤ long x -ℤ long dx *ℤ long y
  pub wide_dy_is : wide_dy ≡ long dy
  pub wide_dx_is : wide_dx ≡ long (pos 0 -ℤ long dx)
  pub wide_c_is : wide_c ≡ long c

pub edge_is : (p q : Point) (dx dy x y c wide_dy wide_dx wide_c : ℤ) → IsInRange p → IsInRange q → IsEdge p q dx dy x y c wide_dy wide_dx wide_c
    → row (read wide_dy) (read wide_dx) (read wide_c) ≡ edge_row (p, q)
edge_is p q dx dy x y c wide_dy wide_dx wide_c h k e =
    let dx_read : long dx ≡ q.x -ℤ p.x = reads_long dx 20000000 e.dx_size (lit< tt) ∙ e.dx_is ∙ difference q.x p.x k.x_in_range h.x_in_range in
    let dy_read : long dy ≡ q.y -ℤ p.y = reads_long dy 20000000 e.dy_size (lit< tt) ∙ e.dy_is ∙ difference q.y p.y k.y_in_range h.y_in_range in
    let x_read : long x ≡ p.x = ap long (e.x_is ∙ reads_narrow p.x h.x_in_range) ∙ reads_long p.x 10000000 (coordinate_size p.x h.x_in_range) (lit< tt) in
    let y_read : long y ≡ p.y = ap long (e.y_is ∙ reads_narrow p.y h.y_in_range) ∙ reads_long p.y 10000000 (coordinate_size p.y h.y_in_range) (lit< tt) in
    let dx_size = size q.x p.x k.x_in_range h.x_in_range in
    let dy_size = size q.y p.y k.y_in_range h.y_in_range in
    let c_read : c ≡ (q.y -ℤ p.y) *ℤ p.x -ℤ (q.x -ℤ p.x) *ℤ p.y = e.c_is ∙ products _ _ _ _ _ _ _ _ dy_read x_read dx_read y_read in
    let c_size = size-cross (q.y -ℤ p.y) p.x (q.x -ℤ p.x) p.y 20000000 10000000 20000000 10000000 dy_size (coordinate_size p.x h.x_in_range) dx_size (coordinate_size p.y h.y_in_range) in
    same_row _ _ _ _ _ _
    (ap read (e.wide_dy_is ∙ dy_read) ∙ reads (q.y -ℤ p.y) 20000000 dy_size (lit< tt))
    (ap read (e.wide_dx_is ∙ ap (λ z. long (pos 0 -ℤ z)) dx_read ∙ reads_long (pos 0 -ℤ (q.x -ℤ p.x)) 20000000 (minus_size (q.x -ℤ p.x) dx_size) (lit< tt))
    ∙ reads (pos 0 -ℤ (q.x -ℤ p.x)) 20000000 (minus_size (q.x -ℤ p.x) dx_size) (lit< tt) ∙ minus (q.x -ℤ p.x))
    (ap read (e.wide_c_is ∙ ap long c_read ∙ reads_long ((q.y -ℤ p.y) *ℤ p.x -ℤ (q.x -ℤ p.x) *ℤ p.y) 400000000000000 c_size (lit< tt)) ∙ reads ((q.y -ℤ p.y) *ℤ p.x -ℤ (q.x -ℤ p.x) *ℤ p.y) 400000000000000 c_size (lit< tt))
  where
    difference : (a b : ℤ) → IsCoordinate a → IsCoordinate b → narrow a -ℤ narrow b ≡ a -ℤ b
    difference a b h k = rw (reads_narrow a h, reads_narrow b k) refl

    size : (a b : ℤ) → IsCoordinate a → IsCoordinate b → unsigned_abs (a -ℤ b) ≤ 20000000
    size a b h k = omega (arith, ints, h.low, h.high, k.low, k.high)

    minus_size : (z : ℤ) → unsigned_abs z ≤ 20000000 → unsigned_abs (pos 0 -ℤ z) ≤ 20000000
    minus_size z h = omega (arith, ints)

    minus : (z : ℤ) → pos 0 -ℤ z ≡ neg_ℤ z
    minus z = omega (arith, ints)

    products : (a b c d a' b' c' d' : ℤ) → a ≡ a' → b ≡ b' → c ≡ c' → d ≡ d' → a *ℤ b -ℤ c *ℤ d ≡ a' *ℤ b' -ℤ c' *ℤ d'
    products a b c d a' b' c' d' p q r s = cc

pub edge_small : (p q : Point) → IsInRange p → IsInRange q → IsSmallRow (edge_row (p, q))
edge_small p q h k = record {
  a_small = difference q.y p.y k.y_in_range h.y_in_range;
  b_small = negated (q.x -ℤ p.x) (difference q.x p.x k.x_in_range h.x_in_range);
  c_small = size-cross (q.y -ℤ p.y) p.x (q.x -ℤ p.x) p.y 20000000 10000000 20000000 10000000
      (difference q.y p.y k.y_in_range h.y_in_range) (coordinate_size p.x h.x_in_range) (difference q.x p.x k.x_in_range h.x_in_range) (coordinate_size p.y h.y_in_range);
}
  where
    difference : (a b : ℤ) → IsCoordinate a → IsCoordinate b → unsigned_abs (a -ℤ b) ≤ 20000000
    difference a b h k = omega (arith, ints, h.low, h.high, k.low, k.high)

    negated : (z : ℤ) → unsigned_abs z ≤ 20000000 → unsigned_abs (neg_ℤ z) ≤ 20000000
    negated z h = omega (arith, ints)

pub edge_is_small : (p q : Point) (dx dy x y c wide_dy wide_dx wide_c : ℤ) → IsInRange p → IsInRange q → IsEdge p q dx dy x y c wide_dy wide_dx wide_c
    → IsSmallRow (row (read wide_dy) (read wide_dx) (read wide_c))
edge_is_small p q dx dy x y c wide_dy wide_dx wide_c h k e = subst IsSmallRow (sym (edge_is p q dx dy x y c wide_dy wide_dx wide_c h k e)) (edge_small p q h k)

pub negated_small : (r : Row) → IsSmallRow r → IsSmallRow (negated r)
negated_small r h = record { a_small = same r.a 20000000 h.a_small; b_small = same r.b 20000000 h.b_small; c_small = same r.c 400000000000000 h.c_small }
  where
    same : (z : ℤ) (n : ℕ) → unsigned_abs z ≤ n → unsigned_abs (neg_ℤ z) ≤ n
    same z n h = omega (arith, ints)

two_small : (a b : Row) → IsSmallRow a → IsSmallRow b → All IsSmallRow (a ∷ b ∷ [])
two_small a b h k = All-cons IsSmallRow a (b ∷ []) h (All-cons IsSmallRow b [] k (All-nil IsSmallRow))

four_small : (a b c d : Row) → IsSmallRow a → IsSmallRow b → IsSmallRow c → IsSmallRow d → All IsSmallRow (a ∷ b ∷ c ∷ d ∷ [])
four_small a b c d h k l m = All-cons IsSmallRow a (b ∷ c ∷ d ∷ []) h (All-cons IsSmallRow b (c ∷ d ∷ []) k (two_small c d l m))

pub frame_rows_small : (e : Extent) → IsFrame e → All IsSmallRow (frame_rows e)
frame_rows_small e h =
    four_small _ _ _ _ (record { a_small = lit≤ tt; b_small = lit≤ tt; c_small = wide e.x1 h.x1_in_range })
    (record { a_small = lit≤ tt; b_small = lit≤ tt; c_small = wide_negated e.x0 h.x0_in_range })
    (record { a_small = lit≤ tt; b_small = lit≤ tt; c_small = wide e.y1 h.y1_in_range })
    (record { a_small = lit≤ tt; b_small = lit≤ tt; c_small = wide_negated e.y0 h.y0_in_range })
  where
    wide : (z : ℤ) → IsCoordinate z → unsigned_abs z ≤ 400000000000000
    wide z h = omega (arith, ints, h.low, h.high)

    wide_negated : (z : ℤ) → IsCoordinate z → unsigned_abs (neg_ℤ z) ≤ 400000000000000
    wide_negated z h = omega (arith, ints, h.low, h.high)

first_in : (rest : List Point) (end : Point) → All IsInRange rest → IsInRange end → IsInRange (slice_index_or rest 0 end)
first_in [] end all h = h
first_in (p ∷ rest) end all h = All-head IsInRange p rest all

sides_small : (end : Point) (ring : List Point) → IsInRange end → All IsInRange ring → All IsSmallRow (map edge_row (sides_to end ring))
sides_small end [] h all = All-nil IsSmallRow
sides_small end (p ∷ rest) h all =
    let others : All IsInRange rest = All-tail IsInRange p rest all in
    All-cons IsSmallRow _ _ (edge_small p _ (All-head IsInRange p rest all) (first_in rest end others h)) (sides_small end rest h others)

edge_rows_small : (corners : List Point) → All IsInRange corners → All IsSmallRow (edge_rows corners)
edge_rows_small [] all = All-nil IsSmallRow
edge_rows_small (p ∷ []) all = All-nil IsSmallRow
edge_rows_small (p ∷ q ∷ []) all =
    let small : IsSmallRow (edge_row (p, q)) = edge_small p q (All-head IsInRange p (q ∷ []) all) (All-head IsInRange q [] (All-tail IsInRange p (q ∷ []) all)) in
    two_small _ _ small (negated_small (edge_row (p, q)) small)
edge_rows_small (p ∷ q ∷ r ∷ rest) all = sides_small p (p ∷ q ∷ r ∷ rest) (All-head IsInRange p (q ∷ r ∷ rest) all) all

pub point_frame-IsFrame : (p : Point) → IsInRange p → IsFrame (point_extent p)
point_frame-IsFrame p h = record {
  x0_in_range = h.x_in_range;
  y0_in_range = h.y_in_range;
  x1_in_range = h.x_in_range;
  y1_in_range = h.y_in_range;
  x_order = le_refl p.x;
  y_order = le_refl p.y;
}

pub extent-IsFrame : (corners : List Point) → 1 ≤ length corners → All IsInRange corners → IsFrame (extent_of corners)
extent-IsFrame [] some all = absurd (omega (arith, some))
extent-IsFrame (p ∷ []) some all = point_frame-IsFrame p (All-head IsInRange p [] all)
extent-IsFrame (p ∷ q ∷ rest) some all =
    IsFrame-joined (point_extent p) (extent_of (q ∷ rest)) (point_frame-IsFrame p (All-head IsInRange p (q ∷ rest) all))
    (extent-IsFrame (q ∷ rest) (omega arith) (All-tail IsInRange p (q ∷ rest) all))

pub rows_of_small : (corners : List Point) → 1 ≤ length corners → All IsInRange corners → All IsSmallRow (rows_of corners)
rows_of_small corners some all = All-append IsSmallRow (frame_rows (extent_of corners)) (edge_rows corners) (frame_rows_small (extent_of corners) (extent-IsFrame corners some all)) (edge_rows_small corners all)

length-sides_to : (end : Point) (ring : List Point) → length (map edge_row (sides_to end ring)) ≡ length ring
length-sides_to end [] = refl
length-sides_to end (p ∷ rest) = ap suc (length-sides_to end rest)

pub length-rows_of : (corners : List Point) → length corners ≤ CORNER_LIMIT → length (rows_of corners) ≤ 20
length-rows_of [] h = lit≤ tt
length-rows_of (p ∷ []) h = lit≤ tt
length-rows_of (p ∷ q ∷ []) h = lit≤ tt
length-rows_of (p ∷ q ∷ r ∷ rest) h = rw length-append (rw (length-sides_to p (p ∷ q ∷ r ∷ rest)) (omega arith))

-- two lists of rows, the first of them a shape's, start with a frame
pub rows-HasFrame : (e : Extent) (edges others : List Row) → HasFrame ((frame_rows e ++ edges) ++ others)
rows-HasFrame e edges others = record {
  long = omega arith;
  right = λ d. record { lt = tt };
  top = λ d. (refl, record { lt = tt });
  bottom = λ d. (refl, record { lt = tt });
}

pub left_part : {X : Type 0} (P : X → Type 0) (xs ys : List X) → All P (xs ++ ys) → All P xs
left_part P [] ys all = All-nil P
left_part P (x ∷ xs) ys all = All-cons P x xs (All-head P x (xs ++ ys) all) (left_part P xs ys (All-tail P x (xs ++ ys) all))

pub right_part : {X : Type 0} (P : X → Type 0) (xs ys : List X) → All P (xs ++ ys) → All P ys
right_part P [] ys all = all
right_part P (x ∷ xs) ys all = right_part P xs ys (All-tail P x (xs ++ ys) all)

-- a common point of all rows of two shapes lies in both shapes
pub common : (first second : List Point) (rows : List Row) (r : Option Fraction) → rows ≡ rows_of first ++ rows_of second
    → IfSome r (λ p. All (Satisfies p.x p.y p.w) rows) → IfSome r (λ p. LiesIn p.x p.y p.w first × LiesIn p.x p.y p.w second)
common first second rows None e h = tt
common first second rows (Some p) e h =
    let all : All (Satisfies p.x p.y p.w) (rows_of first ++ rows_of second) = rw e at h in
    (left_part (Satisfies p.x p.y p.w) (rows_of first) (rows_of second) all, right_part (Satisfies p.x p.y p.w) (rows_of first) (rows_of second) all)

pub without : (first second : List Point) (rows : List Row) (r : Option Fraction) → rows ≡ rows_of first ++ rows_of second
    → IfNone r ((x y w : ℤ) → pos 0 <ℤ w → All (Satisfies x y w) rows → ⊥) → IfNone r (Meet first second → ⊥)
without first second rows (Some p) e h = tt
without first second rows None e h = λ meet.
    h meet.x meet.y meet.w meet.above_zero (rw e (All-append (Satisfies meet.x meet.y meet.w) (rows_of first) (rows_of second) meet.in_first meet.in_second))

pub found : (first second : List Point) (r : Option Fraction) → IfSome r (λ p. LiesIn p.x p.y p.w first × LiesIn p.x p.y p.w second) → IfNone r (Meet first second → ⊥)
    → IsSome r ↔ Meet first second
found first second (Some p) h k = (λ _. record { x = p.x; y = p.y; w = p.w; above_zero = p.above_zero; in_first = h.0; in_second = h.1 }, λ _. refl)
found first second None h k = (λ e. absurd (false≢true e), λ meet. absurd (k meet))

pub both_rows : (none some all rows xs ys : List Row) → rows ≡ all → all ≡ some ++ ys → some ≡ none ++ xs → none ≡ [] → rows ≡ xs ++ ys
both_rows none some all rows xs ys p q r s = p ∙ q ∙ ap (λ z. z ++ ys) (r ∙ ap (λ z. z ++ xs) s)

pub rows_small : (first second : List Point) (rows : List Row) → rows ≡ rows_of first ++ rows_of second → All IsSmallRow (rows_of first) → All IsSmallRow (rows_of second) → All IsSmallRow rows
rows_small first second rows e h k = rw e (All-append IsSmallRow (rows_of first) (rows_of second) h k)

pub rows_frame : (first second : List Point) (rows : List Row) → rows ≡ rows_of first ++ rows_of second → HasFrame rows
rows_frame first second rows e = rw e (rows-HasFrame (extent_of first) (edge_rows first) (rows_of second))

pub count_of_first : (none rows xs : List Row) → rows ≡ none ++ xs → none ≡ [] → length xs ≤ 20 → length rows ≤ 20
count_of_first none rows xs e f h = rw (e, f) h
