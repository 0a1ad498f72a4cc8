use Rattle.std.proofs.Common.{◌∙◌, ap}
use Rattle.convex_parts.specs.Paths.{along, closed}
use Rattle.convex_parts.proofs.Runs.{turned_at}
use Rattle.convex_parts.proofs.rings.begin_at_least.Goals as goal

pub returns : goal.returns
returns c = λ f. ap (λ l. along f (closed l)) c.rotate_left.ensures.after ∙ turned_at f c.args.points.now c.least_index-least.result
