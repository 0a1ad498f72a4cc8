use Rattle.std.specs.Prelude.{◌<◌, length}
use Rattle.std.proofs.Common.{arith}
use Rattle.std.proofs.lemmas.List.Elements.{All-nil}
use Rattle.plane.proofs.Narrowing.{best_more, all_satisfied}
use Rattle.plane.proofs.elimination.furthest.Goals as goal

pub loop-row-init : goal.loop-row-init
loop-row-init c =
    let first : 0 < length c.args.rows.now = omega (arith, c.requires.frame.long) in
    record {
      small = c.requires.small 0 _ first;
      right = c.requires.frame.right _;
      allows = c.requires.allowed 0 _ first;
      closest = All-nil _;
    }

pub loop-row-preserved : goal.loop-row-preserved
loop-row-preserved c = best_more _ _ _ _ _ c.loop-row.best _ c.loop-row-test.true c.requires.small c.requires.allowed c.loop-row.invariant c.closer-best.ensures

pub returns : goal.returns
returns c = all_satisfied _ c.loop-row.row-index c.loop-row.best _ _ _ _ _ c.loop-row-test.false c.loop-row.invariant c.requires.allowed c.point_at.ensures.x c.point_at.ensures.y c.point_at.ensures.w
