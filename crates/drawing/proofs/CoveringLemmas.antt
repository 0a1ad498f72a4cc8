-- The frame of marks covers that of each mark.
use Rattle.std.proofs.Common.{List, [], ◌∷◌, All, ℤ, ◌≤ℤ◌, arith}
use Rattle.std.specs.Int.{int_min, int_max}
use Rattle.std.specs.List.{fold}
use Rattle.std.proofs.lemmas.Int.{ints, clamps}
use Rattle.std.proofs.lemmas.List.Elements.{All-cons, All-nil}
use Rattle.plane.specs.Extents.{Extent, extent_of, joined}
use Rattle.plane.specs.Rows.{Covers}
use Rattle.plane.proofs.Covering.{covers_if}
use Rattle.drawing.specs.declared.marks.Mark.{Mark}
use Rattle.drawing.specs.Marks.{mark_shape}
use Rattle.drawing.specs.Pictures.{area_of, with_mark}

min_first : (a b : ℤ) → int_min a b ≤ℤ a
min_first a b = omega (arith, ints, clamps)

min_second : (a b : ℤ) → int_min a b ≤ℤ b
min_second a b = omega (arith, ints, clamps)

max_first : (a b : ℤ) → a ≤ℤ int_max a b
max_first a b = omega (arith, ints, clamps)

max_second : (a b : ℤ) → b ≤ℤ int_max a b
max_second a b = omega (arith, ints, clamps)

covers_first : (e f : Extent) → Covers (joined e f) e
covers_first e f =
    covers_if (joined e f) e (record { low_below = min_first e.x0 f.x0; high_above = max_first e.x1 f.x1 }) (record { low_below = min_first e.y0 f.y0; high_above = max_first e.y1 f.y1 })

covers_second : (e f : Extent) → Covers (joined e f) f
covers_second e f =
    covers_if (joined e f) f (record { low_below = min_second e.x0 f.x0; high_above = max_second e.x1 f.x1 }) (record { low_below = min_second e.y0 f.y0; high_above = max_second e.y1 f.y1 })

covers_on : (e f g : Extent) → Covers e f → Covers f g → Covers e g
covers_on e f g first second = λ x y w above inside. first x y w above (second x y w above inside)

covers_start : (e : Extent) (marks : List Mark) → Covers (fold with_mark e marks) e
covers_start e [] = λ x y w above inside. inside
covers_start e (m ∷ ms) = covers_on (fold with_mark (with_mark e m) ms) (with_mark e m) e (covers_start (with_mark e m) ms) (covers_first e (extent_of (mark_shape m)))

covers_each : (e : Extent) (marks : List Mark) → All (λ m. Covers (fold with_mark e marks) (extent_of (mark_shape m))) marks
covers_each e [] = All-nil (λ m. Covers e (extent_of (mark_shape m)))
covers_each e (m ∷ ms) =
    All-cons (λ n. Covers (fold with_mark (with_mark e m) ms) (extent_of (mark_shape n))) m ms
    (covers_on (fold with_mark (with_mark e m) ms) (with_mark e m) (extent_of (mark_shape m)) (covers_start (with_mark e m) ms) (covers_second e (extent_of (mark_shape m))))
    (covers_each (with_mark e m) ms)

pub area_covers : (marks : List Mark) → All (λ m. Covers (area_of marks) (extent_of (mark_shape m))) marks
area_covers [] = All-nil (λ m. Covers (area_of []) (extent_of (mark_shape m)))
area_covers (m ∷ ms) = covers_each (extent_of (mark_shape m)) (m ∷ ms)
