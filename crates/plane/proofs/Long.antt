-- Cross products of differences of coordinates, as the operations of the code see them in 64 bits.
use Rattle.std.specs.Prelude.{◌≡◌, ℕ, ◌+◌, ◌*◌, ◌≤◌, ◌<◌, ◌^◌, ℤ, ◌-ℤ◌, ◌*ℤ◌, unsigned_abs, refl, FitsSigned}
use Rattle.std.proofs.Common.{arith, lit<, to_z, of_z}
use Rattle.std.proofs.lemmas.Int.{to_z-of_z, fits_signed_from_abs}
use Rattle.plane.proofs.Orders.{size-mul, size-cross}
use mir.Syntax.{w64}

abbrev pub long : ℤ → ℤ
long z = to_z w64 (of_z w64 z)

fits : (z : ℤ) (n : ℕ) → unsigned_abs z ≤ n → n < 2 ^ 63 → FitsSigned w64 z
fits z n h k = fits_signed_from_abs w64 z (omega arith)

pub reads_long : (z : ℤ) (n : ℕ) → unsigned_abs z ≤ n → n < 2 ^ 63 → long z ≡ z
reads_long z n h k = to_z-of_z w64 z (fits z n h k)

-- four differences of coordinates
pub record AreDifferences (a b c d : ℤ) : Type 0 where
  pub a_size : unsigned_abs a ≤ 20000000
  pub b_size : unsigned_abs b ≤ 20000000
  pub c_size : unsigned_abs c ≤ 20000000
  pub d_size : unsigned_abs d ≤ 20000000

reads-product : (a b : ℤ) → unsigned_abs a ≤ 20000000 → unsigned_abs b ≤ 20000000 → long (long a *ℤ long b) ≡ a *ℤ b
reads-product a b h k =
    rw (reads_long a 20000000 h (lit< tt), reads_long b 20000000 k (lit< tt)) (reads_long (a *ℤ b) (20000000 * 20000000) (size-mul a b 20000000 20000000 h k) (lit< tt))

abbrev pub cross : ℤ → ℤ → ℤ → ℤ → ℤ
cross a b c d = long (long a *ℤ long b) -ℤ long (long c *ℤ long d)

module _ (a b c d : ℤ) (h : AreDifferences a b c d) where
  cross-is : cross a b c d ≡ a *ℤ b -ℤ c *ℤ d
  cross-is = rw (reads-product a b h.a_size h.b_size, reads-product c d h.c_size h.d_size) refl

  size : unsigned_abs (a *ℤ b -ℤ c *ℤ d) ≤ 20000000 * 20000000 + 20000000 * 20000000
  size = size-cross a b c d 20000000 20000000 20000000 20000000 h.a_size h.b_size h.c_size h.d_size

  pub fits-cross : FitsSigned w64 (cross a b c d)
  fits-cross = rw cross-is (fits (a *ℤ b -ℤ c *ℤ d) (20000000 * 20000000 + 20000000 * 20000000) size (lit< tt))

  pub reads-cross : long (cross a b c d) ≡ a *ℤ b -ℤ c *ℤ d
  reads-cross = rw cross-is (reads_long (a *ℤ b -ℤ c *ℤ d) (20000000 * 20000000 + 20000000 * 20000000) size (lit< tt))
