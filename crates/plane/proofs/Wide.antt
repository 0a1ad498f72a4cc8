-- Numbers of 128 bits, as the operations of the code see them.
use Rattle.std.specs.Prelude.{◌≡◌, ℕ, ◌+◌, ◌*◌, ◌≤◌, ◌<◌, ◌^◌, ℤ, ◌-ℤ◌, ◌*ℤ◌, ◌≤ℤ◌, ◌↔◌, IsTrue, unsigned_abs, refl, FitsSigned}
use Rattle.std.specs.Int.Signed.{le_z, le_z_yes}
use Rattle.std.proofs.Common.{arith, sym, subst, T, to_z, of_z}
use Rattle.std.proofs.lemmas.Int.{to_z-of_z, fits_signed_from_abs}
use Rattle.plane.proofs.Orders.{size-mul, size-cross}
use mir.Syntax.{w128}
use mathlib.Core.Bool.{Bool, true, false}

abbrev pub read : ℤ → ℤ
read z = to_z w128 (of_z w128 z)

pub reads : (z : ℤ) (n : ℕ) → unsigned_abs z ≤ n → n < 2 ^ 127 → read z ≡ z
reads z n h k = to_z-of_z w128 z (fits_signed_from_abs w128 z (omega arith))

pub reads-product : (a b : ℤ) (m n : ℕ) → unsigned_abs a ≤ m → unsigned_abs b ≤ n → m < 2 ^ 127 → n < 2 ^ 127 → m * n < 2 ^ 127 → read (read a *ℤ read b) ≡ a *ℤ b
reads-product a b m n h k m_fits n_fits fits = rw (reads a m h m_fits, reads b n k n_fits) (reads (a *ℤ b) (m * n) (size-mul a b m n h k) fits)

from_T : (b : Bool) → T b → b ≡ true
from_T true t = refl
from_T false t = absurd t

pub le_test : (x y : ℤ) → IsTrue (le_z x y) ↔ (x ≤ℤ y)
le_test x y = (λ t. le_z_yes (subst T (sym t) tt), λ h. from_T _ h.le)

-- products of numbers up to m and n, compared with products of numbers up to k and l
pub le_test-products : (a b d e : ℤ) (m n k l : ℕ) → unsigned_abs a ≤ m → unsigned_abs b ≤ n → unsigned_abs d ≤ k → unsigned_abs e ≤ l
    → m < 2 ^ 127 → n < 2 ^ 127 → m * n < 2 ^ 127 → k < 2 ^ 127 → l < 2 ^ 127 → k * l < 2 ^ 127
    → IsTrue (le_z (read (read a *ℤ read b)) (read (read d *ℤ read e))) ↔ ((a *ℤ b) ≤ℤ (d *ℤ e))
le_test-products a b d e m n k l ha hb hd he fm fn fmn fk fl fkl =
    rw (reads-product a b m n ha hb fm fn fmn, reads-product d e k l hd he fk fl fkl) (le_test (a *ℤ b) (d *ℤ e))

pub fits : (z : ℤ) (n : ℕ) → unsigned_abs z ≤ n → n < 2 ^ 127 → FitsSigned w128 z
fits z n h k = fits_signed_from_abs w128 z (omega arith)

pub fits-product : (a b : ℤ) (m n : ℕ) → unsigned_abs a ≤ m → unsigned_abs b ≤ n → m < 2 ^ 127 → n < 2 ^ 127 → m * n < 2 ^ 127 → FitsSigned w128 (read a *ℤ read b)
fits-product a b m n h k m_fits n_fits is = rw (reads a m h m_fits, reads b n k n_fits) (fits (a *ℤ b) (m * n) (size-mul a b m n h k) is)

-- differences of products of numbers up to m and n, and up to k and l
pub record IsCross (a b c d : ℤ) (m n k l : ℕ) : Type 0 where
  pub a_size : unsigned_abs a ≤ m
  pub b_size : unsigned_abs b ≤ n
  pub c_size : unsigned_abs c ≤ k
  pub d_size : unsigned_abs d ≤ l
  pub m_fits : m < 2 ^ 127
  pub n_fits : n < 2 ^ 127
  pub k_fits : k < 2 ^ 127
  pub l_fits : l < 2 ^ 127
  pub fits : m * n + k * l < 2 ^ 127

abbrev pub cross : ℤ → ℤ → ℤ → ℤ → ℤ
cross a b c d = read (read a *ℤ read b) -ℤ read (read c *ℤ read d)

cross-is : (a b c d : ℤ) (m n k l : ℕ) → IsCross a b c d m n k l → cross a b c d ≡ a *ℤ b -ℤ c *ℤ d
cross-is a b c d m n k l h =
    rw (reads-product a b m n h.a_size h.b_size h.m_fits h.n_fits (omega (arith, h.fits)), reads-product c d k l h.c_size h.d_size h.k_fits h.l_fits (omega (arith, h.fits))) refl

pub fits-cross : (a b c d : ℤ) (m n k l : ℕ) → IsCross a b c d m n k l → FitsSigned w128 (cross a b c d)
fits-cross a b c d m n k l h = rw (cross-is a b c d m n k l h) (fits (a *ℤ b -ℤ c *ℤ d) (m * n + k * l) (size-cross a b c d m n k l h.a_size h.b_size h.c_size h.d_size) h.fits)

pub reads-cross : (a b c d : ℤ) (m n k l : ℕ) → IsCross a b c d m n k l → read (cross a b c d) ≡ a *ℤ b -ℤ c *ℤ d
reads-cross a b c d m n k l h = rw (cross-is a b c d m n k l h) (reads (a *ℤ b -ℤ c *ℤ d) (m * n + k * l) (size-cross a b c d m n k l h.a_size h.b_size h.c_size h.d_size) h.fits)

pub size-reads_cross : (a b c d : ℤ) (m n k l : ℕ) → IsCross a b c d m n k l → unsigned_abs (read (cross a b c d)) ≤ m * n + k * l
size-reads_cross a b c d m n k l h = rw (reads-cross a b c d m n k l h) (size-cross a b c d m n k l h.a_size h.b_size h.c_size h.d_size)

-- products of r and b, and of s and a, compared
pub le_test-reached : (p q a b r s : ℤ) (m n : ℕ) → r ≡ p → s ≡ q → unsigned_abs r ≤ m → unsigned_abs s ≤ m → unsigned_abs a ≤ n → unsigned_abs b ≤ n
    → m < 2 ^ 127 → n < 2 ^ 127 → m * n < 2 ^ 127
    → IsTrue (le_z (read (read r *ℤ read b)) (read (read s *ℤ read a))) ↔ ((p *ℤ b) ≤ℤ (q *ℤ a))
le_test-reached p q a b r s m n e f hr hs ha hb fm fn fmn = rw (← e, ← f) (le_test-products r b s a m n m n hr hb hs ha fm fn fmn fm fn fmn)
