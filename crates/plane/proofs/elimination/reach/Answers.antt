use Rattle.plane.proofs.Narrowing.{cross_reach}
use Rattle.plane.proofs.Wide.{fits-cross, reads-cross, size-reads_cross}
use Rattle.plane.proofs.elimination.reach.Goals as goal

pub overflow_sub-result : goal.overflow_sub-result
overflow_sub-result c = fits-cross _ _ _ _ _ _ _ _ (cross_reach c.args.row c.args.height.y c.args.height.w c.requires c.args.height.in_range)

pub returns-clause-value : goal.returns-clause-value
returns-clause-value c = reads-cross _ _ _ _ _ _ _ _ (cross_reach c.args.row c.args.height.y c.args.height.w c.requires c.args.height.in_range)

pub returns-clause-size : goal.returns-clause-size
returns-clause-size c = size-reads_cross _ _ _ _ _ _ _ _ (cross_reach c.args.row c.args.height.y c.args.height.w c.requires c.args.height.in_range)
