-- A frame that is joined with another does not shrink.
use Rattle.std.specs.Prelude.{◌≤◌, ℤ, ◌-ℤ◌, ◌≤ℤ◌, unsigned_abs}
use Rattle.std.specs.Int.{int_min, int_max}
use Rattle.std.proofs.Common.{arith}
use Rattle.std.proofs.lemmas.Int.{ints, clamps}
use Rattle.std.proofs.lemmas.Nat.{mul-le}
use Rattle.plane.specs.Extents.{Extent, IsFrame, joined}
use Rattle.frame_keys.specs.Measures.{width, height, area, margin}

wider : (a b c d : ℤ) → a ≤ℤ b → unsigned_abs (b -ℤ a) ≤ unsigned_abs (int_max b d -ℤ int_min a c)
wider a b c d h = omega (arith, ints, clamps)

pub width_grows : (key other : Extent) → IsFrame key → width key ≤ width (joined key other)
width_grows key other h = wider key.x0 key.x1 other.x0 other.x1 h.x_order

pub height_grows : (key other : Extent) → IsFrame key → height key ≤ height (joined key other)
height_grows key other h = wider key.y0 key.y1 other.y0 other.y1 h.y_order

pub area_grows : (key other : Extent) → IsFrame key → area key ≤ area (joined key other)
area_grows key other h = mul-le _ _ _ _ (width_grows key other h) (height_grows key other h)

pub margin_grows : (key other : Extent) → IsFrame key → margin key ≤ margin (joined key other)
margin_grows key other h = omega (arith, width_grows key other h, height_grows key other h)
