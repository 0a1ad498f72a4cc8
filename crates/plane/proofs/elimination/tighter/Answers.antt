use Rattle.std.specs.Prelude.{refl}
use Rattle.plane.proofs.Orders.{tighter_implies, at_most_otherwise}
use Rattle.plane.proofs.elimination.tighter.Goals as goal

pub returns-then-is_tighter-clause-second : goal.returns-then-is_tighter-clause-second
returns-then-is_tighter-clause-second c =
    let a = c.args.first.in_range in
    let b = c.args.second.in_range in
    (λ t w above. tighter_implies c.args.first.scale c.args.first.most c.args.second.scale c.args.second.most t w a.above_zero b.above_zero above (c.if-is_tighter.ensures.0 refl))

pub returns-else-is_tighter-clause-first : goal.returns-else-is_tighter-clause-first
returns-else-is_tighter-clause-first c =
    let a = c.args.first.in_range in
    let b = c.args.second.in_range in
    (λ t w above. tighter_implies c.args.second.scale c.args.second.most c.args.first.scale c.args.first.most t w b.above_zero a.above_zero above
    (at_most_otherwise _ _ c.if-is_tighter.ensures.1))
