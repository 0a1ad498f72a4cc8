use Rattle.convex_parts.proofs.Runs.{spent_at}
use Rattle.convex_parts.proofs.cuts.is_spent.Goals as goal

pub returns-then-ring-eq3 : goal.returns-then-ring-eq3
returns-then-ring-eq3 c = λ so f h. spent_at f h c.args.ring.now c.if-ring-eq3.true (c.are_equal.ensures.0 so)
