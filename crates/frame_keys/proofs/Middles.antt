-- Middles, computed with 32-bit numbers.
use Rattle.std.specs.Prelude.{◌≡◌, ℕ, ◌<◌, ◌^◌, ℤ, Bool}
use Rattle.std.proofs.Common.{ap, sym, ◌∙◌}
use Rattle.std.proofs.lemmas.Int.{to_z-of_z}
use Rattle.plane.proofs.Frames.{narrow}
use Rattle.plane.specs.Extents.{Extent}
use Rattle.frame_keys.specs.Splits.{middle, is_behind}
use Rattle.frame_keys.specs.declared.split.Axis.{Axis}
use lib.Signed.{mag}
use mir.Syntax.{w32}

pub reads_middle : (z : ℤ) (axis : Axis) (key : Extent) → mag z < 2 ^ 31 → z ≡ middle axis key → narrow z ≡ middle axis key
reads_middle z axis key fits e = to_z-of_z w32 z (record { sfits = fits }) ∙ e

pub test_reads : (z at : ℤ) (i place : ℕ) (axis : Axis) (key : Extent) (test told : Bool) → mag z < 2 ^ 31 → z ≡ middle axis key → test ≡ is_behind (narrow z) i at place → test ≡ told
    → is_behind (middle axis key) i at place ≡ told
test_reads z at i place axis key test told fits e is so = sym (ap (λ m. is_behind m i at place) (reads_middle z axis key fits e)) ∙ sym is ∙ so
