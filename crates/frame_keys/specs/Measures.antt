-- How large frames are.
use Rattle.std.specs.Prelude.{ℕ, ◌+◌, ◌*◌, ℤ, ◌-ℤ◌, unsigned_abs}
use Rattle.std.specs.Int.{int_min, int_max}
use Rattle.plane.specs.Extents.{Extent}

abbrev pub width : Extent → ℕ
width e = unsigned_abs (e.x1 -ℤ e.x0)

abbrev pub height : Extent → ℕ
height e = unsigned_abs (e.y1 -ℤ e.y0)

abbrev pub area : Extent → ℕ
area e = width e * height e

-- half the perimeter
abbrev pub margin : Extent → ℕ
margin e = width e + height e

-- the length that two stretches of an axis share; 0 where they share nothing
abbrev pub shared : ℤ → ℤ → ℤ → ℤ → ℕ
shared low high other_low other_high =
    let from = int_max low other_low in
    let to = int_min high other_high in
    unsigned_abs (int_max to from -ℤ from)

-- how much of the plane two frames share
abbrev pub overlap : Extent → Extent → ℕ
overlap e f = shared e.x0 e.x1 f.x0 f.x1 * shared e.y0 e.y1 f.y0 f.y1
