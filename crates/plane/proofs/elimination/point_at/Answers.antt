use Rattle.std.proofs.Common.{lit<}
use Rattle.plane.proofs.Orders.{product_positive}
use Rattle.plane.proofs.Wide.{reads-product}
use Rattle.plane.proofs.elimination.point_at.Goals as goal

pub invariant_of-result : goal.invariant_of-result
invariant_of-result c = record {
  above_zero =
      rw (reads-product c.args.height.w c.args.row.a 800000000000000 20000000 c.args.height.in_range.w_small c.requires.small.a_small (lit< tt) (lit< tt) (lit< tt))
      (product_positive _ _ c.args.height.in_range.above_zero c.requires.above);
}

pub returns-clause-y : goal.returns-clause-y
returns-clause-y c = reads-product c.args.height.y c.args.row.a 16000000000000000000000 20000000 c.args.height.in_range.y_small c.requires.small.a_small (lit< tt) (lit< tt) (lit< tt)
