use Rattle.convex_parts.proofs.Runs.{chosen_outer, chosen_hole}
use Rattle.convex_parts.proofs.rings.directed.Goals as goal

pub returns-in_ok-opposite : goal.returns-in_ok-opposite
returns-in_ok-opposite g c = λ f h. chosen_outer f h c.args.listed.now c.in_ok-opposite.field-0.items c.args.is_hole c.if-is_hole.false c.in_ok-opposite.ensures c.if-is_clockwise.ensures

pub returns-in_ok-opposite-2 : goal.returns-in_ok-opposite-2
returns-in_ok-opposite-2 g c = λ f h. chosen_hole f h c.args.listed.now c.in_ok-opposite-2.field-0.items c.args.is_hole c.if-is_hole-2.true c.in_ok-opposite-2.ensures c.if-is_clockwise.ensures
