-- When two frames meet, as the code tests it.
use Rattle.std.specs.Prelude.{◌≡◌, ◌↔◌, Bool, true, false, IsTrue, ◌&&◌, ℕ, ◌*◌, ◌%◌, ℤ, ◌≤ℤ◌, bit_or}
use Rattle.std.specs.Int.Bits.{or_zero_r}
use Rattle.std.specs.Int.Signed.{le_z}
use Rattle.std.proofs.Common.{arith, refl}
use Rattle.std.proofs.lemmas.Bool.{false≢true}
use Rattle.plane.proofs.Covering.{frames_meet_if, frames_meet_only}
use Rattle.plane.proofs.Frames.{narrow, reads_narrow}
use Rattle.plane.proofs.Wide.{le_test}
use Rattle.plane.specs.Coordinates.{IsCoordinate}
use Rattle.plane.specs.Extents.{Extent, IsFrame, Overlap}
use Rattle.plane.specs.Rows.{FramesMeet}

both_tests : (a b c d : ℤ) (p q : Bool) → (IsTrue p ↔ (a ≤ℤ d)) → (IsTrue q ↔ (c ≤ℤ b)) → IsTrue (p && q) ↔ Overlap a b c d
both_tests a b c d true q h k = (λ t. record { below_high = h.0 refl; above_low = k.0 t }, λ o. k.1 o.above_low)
both_tests a b c d false q h k = (λ t. absurd (false≢true t), λ o. absurd (false≢true (h.1 o.below_high)))

pub overlap_test : (a b c d : ℤ) → IsCoordinate a → IsCoordinate b → IsCoordinate c → IsCoordinate d → IsTrue (le_z (narrow a) (narrow d) && le_z (narrow c) (narrow b)) ↔ Overlap a b c d
overlap_test a b c d ha hb hc hd = rw (reads_narrow a ha, reads_narrow b hb, reads_narrow c hc, reads_narrow d hd) (both_tests a b c d (le_z a d) (le_z c b) (le_test a d) (le_test c b))

-- along both axes
meet_by_both : (e f : Extent) (a b : Bool) → IsFrame e → IsFrame f → (IsTrue a ↔ Overlap e.x0 e.x1 f.x0 f.x1) → (IsTrue b ↔ Overlap e.y0 e.y1 f.y0 f.y1) → IsTrue (a && b) ↔ FramesMeet e f
meet_by_both e f true b h k xs ys = (λ t. frames_meet_if e f h k (xs.0 refl) (ys.0 t), λ meet. ys.1 (frames_meet_only e f meet).ys)
meet_by_both e f false b h k xs ys = (λ t. absurd (false≢true t), λ meet. absurd (false≢true (xs.1 (frames_meet_only e f meet).xs)))

pub meet_test : (e f : Extent) (a b : Bool) → IsFrame e → IsFrame f → (IsTrue a ↔ Overlap (narrow e.x0) (narrow e.x1) (narrow f.x0) (narrow f.x1)) → (IsTrue b ↔ Overlap (narrow e.y0) (narrow e.y1) (narrow f.y0) (narrow f.y1)) → IsTrue (a && b) ↔ FramesMeet e f
meet_test e f a b h k xs ys = meet_by_both e f a b h k
    (rw (reads_narrow e.x0 h.x0_in_range, reads_narrow e.x1 h.x1_in_range, reads_narrow f.x0 k.x0_in_range, reads_narrow f.x1 k.x1_in_range) at xs)
    (rw (reads_narrow e.y0 h.y0_in_range, reads_narrow e.y1 h.y1_in_range, reads_narrow f.y0 k.y0_in_range, reads_narrow f.y1 k.y1_in_range) at ys)

-- a mask with a bit that is 0 put somewhere
pub or_nothing : (mask bit n : ℕ) → bit ≡ 0 → bit_or mask (bit * n % 65536) ≡ mask
or_nothing mask bit n e =
    let none : bit * n % 65536 ≡ 0 = rw e (omega arith) in
    rw none (or_zero_r mask)
