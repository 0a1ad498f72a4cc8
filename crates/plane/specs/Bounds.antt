-- The ranges of the numbers of an elimination: each product of two of them is below 2 ^ 127.
use Rattle.std.specs.Prelude.{◌≤◌, ℤ, pos, ◌<ℤ◌, unsigned_abs}
use Rattle.plane.specs.declared.rows.Row.{Row}

-- the numbers of a row of a shape
pub record IsSmallRow (row : Row) : Type 0 where
  pub a_small : unsigned_abs row.a ≤ 20000000
  pub b_small : unsigned_abs row.b ≤ 20000000
  pub c_small : unsigned_abs row.c ≤ 400000000000000

-- the numbers of a row without x
pub record IsLevel (b c : ℤ) : Type 0 where
  pub b_small : unsigned_abs b ≤ 800000000000000
  pub c_small : unsigned_abs c ≤ 16000000000000000000000

-- the numbers of a bound on one unknown
pub record IsBound (scale most : ℤ) : Type 0 where
  pub above_zero : pos 0 <ℤ scale
  pub scale_small : unsigned_abs scale ≤ 800000000000000
  pub most_small : unsigned_abs most ≤ 16000000000000000000000

-- the numbers of a height
pub record IsHeight (y w : ℤ) : Type 0 where
  pub above_zero : pos 0 <ℤ w
  pub w_small : unsigned_abs w ≤ 800000000000000
  pub y_small : unsigned_abs y ≤ 16000000000000000000000
