use Rattle.std.proofs.lemmas.Bool.{false≢true}
use Rattle.plane.proofs.Orders.{end_within}
use Rattle.plane.proofs.elimination.lowest.Goals as goal

pub returns-else-is_within-clause-none : goal.returns-else-is_within-clause-none
returns-else-is_within-clause-none c =
    let low = c.args.gap.lower.in_range in
    let high = c.args.gap.upper.in_range in
    (λ y w above in'. false≢true (c.if-is_within.ensures.1
    (rw (c.foot-height.ensures.y, c.foot-height.ensures.w) (end_within _ _ _ _ y w low.above_zero high.above_zero above in'.above in'.below))))
