-- When two points, frames or shapes are equal: Boolean tests, and that each of them decides `≡`.
use Rattle.std.specs.Prelude.{◌≡◌, Bool, true, ◌&&◌, ℤ, List}
use Rattle.std.specs.Bool.{Decides}
use Rattle.std.specs.Cmp.{first_so, second_so, signed_Decides}
use Rattle.std.specs.Cmp.Lexicographic.{pointwise, pointwise_decides}
use Rattle.std.specs.Ordering.{int_eq}
use Rattle.std.proofs.Common.{refl, subst}
use Rattle.plane.specs.Extents.{Extent}
use Rattle.plane.specs.Points.{is_same}
use Rattle.plane.specs.declared.point.Point.{Point}

-- a test that is true of each value and itself, and only of equal values, decides `≡`
pub decides_by : {X : Type 0} (test : X → X → Bool) → ((a : X) → test a a ≡ true)
    → ((a b : X) → test a b ≡ true → a ≡ b) → (a b : X) → Decides (test a b) (a ≡ b)
decides_by test itself told a b = (told a b, λ e. subst (λ c. test a c ≡ true) e (itself a))

-- if two tests are true, so is their conjunction
pub both_so : (p q : Bool) → p ≡ true → q ≡ true → (p && q) ≡ true
both_so p q h k = λ i. h i && k i

equal_itself : (a : ℤ) → int_eq a a ≡ true
equal_itself a = (signed_Decides a a).1 refl

is_same-itself : (p : Point) → is_same p p ≡ true
is_same-itself p = both_so _ _ (equal_itself p.x) (equal_itself p.y)

point_by : (p q : Point) → p.x ≡ q.x → p.y ≡ q.y → p ≡ q
point_by p q h k = λ i. record { x = h i; y = k i }

is_same-told : (p q : Point) → is_same p q ≡ true → p ≡ q
is_same-told p q e =
    point_by p q ((signed_Decides p.x q.x).0 (first_so (int_eq p.x q.x) (int_eq p.y q.y) e))
    ((signed_Decides p.y q.y).0 (second_so (int_eq p.x q.x) (int_eq p.y q.y) e))

pub is_same_decides : (p q : Point) → Decides (is_same p q) (p ≡ q)
is_same_decides = decides_by is_same is_same-itself is_same-told

-- two shapes are compared by their corners
abbrev pub same_shape : List Point → List Point → Bool
same_shape = pointwise is_same

pub same_shape_decides : (a b : List Point) → Decides (same_shape a b) (a ≡ b)
same_shape_decides = pointwise_decides is_same_decides

pub same_shape-itself : (a : List Point) → same_shape a a ≡ true
same_shape-itself a = (same_shape_decides a a).1 refl

-- two frames are compared by their ends
abbrev pub same_frame : Extent → Extent → Bool
same_frame e f = int_eq e.x0 f.x0 && int_eq e.y0 f.y0 && int_eq e.x1 f.x1 && int_eq e.y1 f.y1

same_frame-itself : (e : Extent) → same_frame e e ≡ true
same_frame-itself e = both_so _ _ (both_so _ _ (both_so _ _ (equal_itself e.x0) (equal_itself e.y0))
    (equal_itself e.x1)) (equal_itself e.y1)

frame_by : (e f : Extent) → e.x0 ≡ f.x0 → e.y0 ≡ f.y0 → e.x1 ≡ f.x1 → e.y1 ≡ f.y1 → e ≡ f
frame_by e f p q r s = λ i. record { x0 = p i; y0 = q i; x1 = r i; y1 = s i }

same_frame-told : (e f : Extent) → same_frame e f ≡ true → e ≡ f
same_frame-told e f so =
    let three = first_so (int_eq e.x0 f.x0 && int_eq e.y0 f.y0 && int_eq e.x1 f.x1)
    (int_eq e.y1 f.y1) so in
    let two = first_so (int_eq e.x0 f.x0 && int_eq e.y0 f.y0) (int_eq e.x1 f.x1) three in
    frame_by e f ((signed_Decides e.x0 f.x0).0 (first_so (int_eq e.x0 f.x0) (int_eq e.y0 f.y0) two))
    ((signed_Decides e.y0 f.y0).0 (second_so (int_eq e.x0 f.x0) (int_eq e.y0 f.y0) two))
    ((signed_Decides e.x1 f.x1).0
    (second_so (int_eq e.x0 f.x0 && int_eq e.y0 f.y0) (int_eq e.x1 f.x1) three))
    ((signed_Decides e.y1 f.y1).0
    (second_so (int_eq e.x0 f.x0 && int_eq e.y0 f.y0 && int_eq e.x1 f.x1) (int_eq e.y1 f.y1)
    so))

pub same_frame_decides : (e f : Extent) → Decides (same_frame e f) (e ≡ f)
same_frame_decides = decides_by same_frame same_frame-itself same_frame-told
