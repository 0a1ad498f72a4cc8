use Rattle.std.specs.Prelude.{◌≡◌}
use Rattle.plane.proofs.Covering.{least_cover}
use Rattle.plane.proofs.Frames.{narrow, extent, min_reads, max_reads, IsFrame-joined, same_extent}
use Rattle.plane.specs.Extents.{joined}
use Rattle.plane.proofs.frame.hull.Goals as goal

pub invariant_of-result : goal.invariant_of-result
invariant_of-result c =
    let e = c.first.invariant in
    let f = c.second.invariant in
    rw (
      min_reads _ _ _ e.x0_in_range f.x0_in_range c.min.ensures.value,
      min_reads _ _ _ e.y0_in_range f.y0_in_range c.min-2.ensures.value,
      max_reads _ _ _ e.x1_in_range f.x1_in_range c.max.ensures.value,
      max_reads _ _ _ e.y1_in_range f.y1_in_range c.max-2.ensures.value,
    )
    (IsFrame-joined _ _ e f)

pub returns : goal.returns
returns c =
    let e = c.first.invariant in
    let f = c.second.invariant in
    let value : extent (narrow c.min.result) (narrow c.min-2.result) (narrow c.max.result) (narrow c.max-2.result) ≡ joined c.args.first c.args.second =
    rw (← c.first.view_is, ← c.second.view_is)
    (same_extent _ _ _ _ _ _ _ _ (min_reads _ _ _ e.x0_in_range f.x0_in_range c.min.ensures.value) (min_reads _ _ _ e.y0_in_range f.y0_in_range c.min-2.ensures.value)
    (max_reads _ _ _ e.x1_in_range f.x1_in_range c.max.ensures.value) (max_reads _ _ _ e.y1_in_range f.y1_in_range c.max-2.ensures.value)) in
    record { value = value; least = least_cover _ _ _ _ _ c.first.view_is c.second.view_is e f value }
