use Rattle.std.proofs.lemmas.Bool.Decides.{Decides-at}
use Rattle.plane.specs.Equality.{is_same_decides}
use Rattle.plane.specs.Points.{is_same}
use Rattle.convex_parts.proofs.turns.are_equal.Goals as goal

pub returns : goal.returns
returns c = Decides-at c.eq.result (is_same c.args.p c.args.q) c.eq.ensures (is_same_decides c.args.p c.args.q)
