-- Frames: the least frame of two, and the 32-bit numbers that the code keeps.
use Rattle.std.specs.Prelude.{◌≡◌, ℕ, ◌+◌, ◌<◌, ◌≤◌, List, [], ◌∷◌, length, drop, get_or, ℤ, ◌≤ℤ◌, refl, FitsSigned}
use Rattle.std.specs.Int.{int_min, int_max}
use Rattle.std.proofs.Common.{arith, sym, ap, ◌∙◌, add-one, drop-cons, to_z, of_z}
use Rattle.plane.specs.declared.point.Point.{Point}
use Rattle.std.proofs.lemmas.List.{drop_all}
use Rattle.std.proofs.lemmas.Int.{ints, clamps, to_z-of_z}
use Rattle.plane.specs.Coordinates.{IsCoordinate}
use Rattle.plane.specs.Extents.{Extent, IsFrame, joined, point_extent, extent_of}
use mir.Syntax.{w32}

abbrev pub narrow : ℤ → ℤ
narrow z = to_z w32 (of_z w32 z)

pub reads_narrow : (z : ℤ) → IsCoordinate z → narrow z ≡ z
reads_narrow z h = to_z-of_z w32 z (fits z h)
  where
    fits : (z : ℤ) → IsCoordinate z → FitsSigned w32 z
    fits z h = omega (arith, ints, h.low, h.high)

pub coordinate-min : (a b : ℤ) → IsCoordinate a → IsCoordinate b → IsCoordinate (int_min a b)
coordinate-min a b h k = omega (arith, ints, clamps)

pub coordinate-max : (a b : ℤ) → IsCoordinate a → IsCoordinate b → IsCoordinate (int_max a b)
coordinate-max a b h k = omega (arith, ints, clamps)

pub min_reads : (a b r : ℤ) → IsCoordinate a → IsCoordinate b → r ≡ int_min (narrow a) (narrow b) → narrow r ≡ int_min a b
min_reads a b r h k e = rw (e, reads_narrow a h, reads_narrow b k) (reads_narrow (int_min a b) (coordinate-min a b h k))

pub max_reads : (a b r : ℤ) → IsCoordinate a → IsCoordinate b → r ≡ int_max (narrow a) (narrow b) → narrow r ≡ int_max a b
max_reads a b r h k e = rw (e, reads_narrow a h, reads_narrow b k) (reads_narrow (int_max a b) (coordinate-max a b h k))

pub IsFrame-joined : (e f : Extent) → IsFrame e → IsFrame f → IsFrame (joined e f)
IsFrame-joined e f h k = record {
  x0_in_range = coordinate-min _ _ h.x0_in_range k.x0_in_range;
  y0_in_range = coordinate-min _ _ h.y0_in_range k.y0_in_range;
  x1_in_range = coordinate-max _ _ h.x1_in_range k.x1_in_range;
  y1_in_range = coordinate-max _ _ h.y1_in_range k.y1_in_range;
  x_order = order e.x0 e.x1 f.x0 f.x1 h.x_order;
  y_order = order e.y0 e.y1 f.y0 f.y1 h.y_order;
}
  where
    order : (a b c d : ℤ) → a ≤ℤ b → int_min a c ≤ℤ int_max b d
    order a b c d h = omega (arith, ints, clamps)

abbrev pub extent : ℤ → ℤ → ℤ → ℤ → Extent
extent a b c d = record { x0 = a; y0 = b; x1 = c; y1 = d }

-- extents with equal numbers are equal
pub same_extent : (a b c d a' b' c' d' : ℤ) → a ≡ a' → b ≡ b' → c ≡ c' → d ≡ d' → extent a b c d ≡ extent a' b' c' d'
same_extent a b c d a' b' c' d' p q r s = cc

-- an extent joined with points, one by one
abbrev pub extended : Extent → List Point → Extent
extended e [] = e
extended e (p ∷ rest) = extended (joined e (point_extent p)) rest

min-assoc : (a b c : ℤ) → int_min (int_min a b) c ≡ int_min a (int_min b c)
min-assoc a b c = omega (arith, ints, clamps)

max-assoc : (a b c : ℤ) → int_max (int_max a b) c ≡ int_max a (int_max b c)
max-assoc a b c = omega (arith, ints, clamps)

joined-assoc : (e f g : Extent) → joined (joined e f) g ≡ joined e (joined f g)
joined-assoc e f g = same_extent _ _ _ _ _ _ _ _ (min-assoc e.x0 f.x0 g.x0) (min-assoc e.y0 f.y0 g.y0) (max-assoc e.x1 f.x1 g.x1) (max-assoc e.y1 f.y1 g.y1)

pub extended-joined : (e : Extent) (p : Point) (rest : List Point) → extended e (p ∷ rest) ≡ joined e (extent_of (p ∷ rest))
extended-joined e p [] = refl
extended-joined e p (q ∷ rest) = extended-joined (joined e (point_extent p)) q rest ∙ joined-assoc e (point_extent p) (extent_of (q ∷ rest))

joined_itself : (e : Extent) → joined e e ≡ e
joined_itself e = same_extent _ _ _ _ _ _ _ _ (min_itself e.x0) (min_itself e.y0) (max_itself e.x1) (max_itself e.y1)
  where
    min_itself : (a : ℤ) → int_min a a ≡ a
    min_itself a = omega (arith, ints, clamps)

    max_itself : (a : ℤ) → int_max a a ≡ a
    max_itself a = omega (arith, ints, clamps)

-- starting with the first point, this gives the least extent that contains all points
pub extended_all : (points : List Point) (d : Point) → 1 ≤ length points → extended (point_extent (get_or points 0 d)) points ≡ extent_of points
extended_all [] d h = absurd (omega (arith, h))
extended_all (p ∷ []) d h = joined_itself (point_extent p)
extended_all (p ∷ q ∷ rest) d h = ap (λ e. extended e (q ∷ rest)) (joined_itself (point_extent p)) ∙ extended-joined (point_extent p) q rest

pub extended_more : (e : Extent) (points : List Point) (i : ℕ) (d : Point) → i < length points → extended e (drop i points) ≡ extended (joined e (point_extent (get_or points i d))) (drop (i + 1) points)
extended_more e points i d in' = let left : drop i points ≡ get_or points i d ∷ drop (i + 1) points = rw add-one (drop-cons points i d in') in ap (extended e) left

pub extended_none : (e : Extent) (points : List Point) (i : ℕ) → length points ≤ i → extended e (drop i points) ≡ e
extended_none e points i end = ap (extended e) (drop_all i points end)

pub extended_done : (points shape : List Point) (i : ℕ) (d : Point) (first frame : Extent) → length points ≤ i → 1 ≤ length shape → first ≡ point_extent (get_or points 0 d) → points ≡ shape
    → extended frame (drop i points) ≡ extended first points → frame ≡ extent_of shape
extended_done points shape i d first frame end some is same told =
    let long : 1 ≤ length points = rw same some in
    sym (extended_none frame points i end) ∙ told ∙ ap (λ e. extended e points) is ∙ extended_all points d long ∙ ap extent_of same
