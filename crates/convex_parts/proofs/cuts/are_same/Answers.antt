use Rattle.std.proofs.lemmas.Bool.Decides.{Decides-at}
use Rattle.plane.specs.Equality.{same_shape, same_shape_decides}
use Rattle.convex_parts.proofs.cuts.are_same.Goals as goal

pub returns : goal.returns
returns c = Decides-at c.eq.result (same_shape c.args.points.now c.args.others.now) c.eq.ensures (same_shape_decides c.args.points.now c.args.others.now)
