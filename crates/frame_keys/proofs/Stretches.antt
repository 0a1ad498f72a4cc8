-- What two stretches of an axis share, computed with 32-bit numbers.
use Rattle.std.specs.Prelude.{◌≡◌, ◌≤◌, ℤ, ◌-ℤ◌, unsigned_abs, FitsSigned}
use Rattle.std.specs.Int.{int_min, int_max}
use Rattle.std.proofs.Common.{arith, ap, ◌∙◌}
use Rattle.std.proofs.lemmas.Int.{ints, to_z-of_z}
use Rattle.plane.proofs.Frames.{narrow, reads_narrow, coordinate-min, coordinate-max, min_reads, max_reads}
use Rattle.plane.specs.Coordinates.{IsCoordinate}
use Rattle.plane.specs.Extents.{Extent, IsFrame}
use Rattle.frame_keys.specs.Measures.{shared}
use mir.Syntax.{w32}

difference_fits : (a b : ℤ) → IsCoordinate a → IsCoordinate b → FitsSigned w32 (a -ℤ b)
difference_fits a b h k = omega (arith, ints, h.low, h.high, k.low, k.high)

difference_small : (a b : ℤ) → IsCoordinate a → IsCoordinate b → unsigned_abs (a -ℤ b) ≤ 20000000
difference_small a b h k = omega (arith, ints, h.low, h.high, k.low, k.high)

-- the ends of two stretches
pub record AreEnds (low high other_low other_high : ℤ) : Type 0 where
  pub low_in : IsCoordinate low
  pub high_in : IsCoordinate high
  pub other_low_in : IsCoordinate other_low
  pub other_high_in : IsCoordinate other_high

start_in : (a b c d : ℤ) → AreEnds a b c d → IsCoordinate (int_max a c)
start_in a b c d ends = coordinate-max a c ends.low_in ends.other_low_in

last_in : (a b c d : ℤ) → AreEnds a b c d → IsCoordinate (int_max (int_min b d) (int_max a c))
last_in a b c d ends = coordinate-max _ _ (coordinate-min b d ends.high_in ends.other_high_in) (start_in a b c d ends)

-- what the code computes of them
pub record AreRead (a b c d from to last : ℤ) : Type 0 where
  pub ends : AreEnds a b c d
  pub from_is : from ≡ int_max (narrow a) (narrow c)
  pub to_is : to ≡ int_min (narrow b) (narrow d)
  pub last_is : last ≡ int_max (narrow to) (narrow from)

reads_from : (a b c d from to last : ℤ) → AreRead a b c d from to last → narrow from ≡ int_max a c
reads_from a b c d from to last r = max_reads a c from r.ends.low_in r.ends.other_low_in r.from_is

reads_last : (a b c d from to last : ℤ) → AreRead a b c d from to last → narrow last ≡ int_max (int_min b d) (int_max a c)
reads_last a b c d from to last r =
    rw (r.last_is, min_reads b d to r.ends.high_in r.ends.other_high_in r.to_is, reads_from a b c d from to last r) (reads_narrow _ (last_in a b c d r.ends))

pub shared_fits : (a b c d from to last : ℤ) → AreRead a b c d from to last → FitsSigned w32 (narrow last -ℤ narrow from)
shared_fits a b c d from to last r = rw (reads_from a b c d from to last r, reads_last a b c d from to last r) (difference_fits _ _ (last_in a b c d r.ends) (start_in a b c d r.ends))

pub shared_reads : (a b c d from to last : ℤ) → AreRead a b c d from to last → unsigned_abs (narrow (narrow last -ℤ narrow from)) ≡ shared a b c d
shared_reads a b c d from to last r =
    ap unsigned_abs (to_z-of_z w32 _ (shared_fits a b c d from to last r)) ∙ (λ i. unsigned_abs (reads_last a b c d from to last r i -ℤ reads_from a b c d from to last r i))

pub shared_small : (a b c d : ℤ) → AreEnds a b c d → shared a b c d ≤ 20000000
shared_small a b c d ends = difference_small _ _ (last_in a b c d ends) (start_in a b c d ends)

reads_end : (p a : ℤ) → p ≡ a → IsCoordinate a → narrow p ≡ a
reads_end p a e h = ap narrow e ∙ reads_narrow a h

-- ends that were read from frames
pub shared_ends : (p q r s a b c d : ℤ) → p ≡ a → q ≡ b → r ≡ c → s ≡ d → AreEnds a b c d → shared (narrow p) (narrow q) (narrow r) (narrow s) ≡ shared a b c d
shared_ends p q r s a b c d e f g h ends = λ i. shared (reads_end p a e ends.low_in i) (reads_end q b f ends.high_in i) (reads_end r c g ends.other_low_in i) (reads_end s d h ends.other_high_in i)

pub across_ends : (e f : Extent) → IsFrame e → IsFrame f → AreEnds e.x0 e.x1 f.x0 f.x1
across_ends e f h k = record { low_in = h.x0_in_range; high_in = h.x1_in_range; other_low_in = k.x0_in_range; other_high_in = k.x1_in_range }

pub up_ends : (e f : Extent) → IsFrame e → IsFrame f → AreEnds e.y0 e.y1 f.y0 f.y1
up_ends e f h k = record { low_in = h.y0_in_range; high_in = h.y1_in_range; other_low_in = k.y0_in_range; other_high_in = k.y1_in_range }
