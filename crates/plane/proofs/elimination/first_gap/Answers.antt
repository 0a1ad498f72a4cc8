use Rattle.std.specs.Prelude.{◌<◌, length}
use Rattle.std.proofs.Common.{arith}
use Rattle.plane.proofs.Narrowing.{top_holds, bottom_holds}
use Rattle.plane.proofs.elimination.first_gap.Goals as goal

pub returns : goal.returns
returns c =
    let frame = c.requires.frame in
    let third : 2 < length c.args.rows.now = omega (arith, frame.long) in
    let fourth : 3 < length c.args.rows.now = omega (arith, frame.long) in
    (λ x y w above all. record {
      above = bottom_holds _ c.flat_level.result c.bound_below.result x y w c.flat_level.ensures.b c.flat_level.ensures.c c.bound_below.ensures.scale c.bound_below.ensures.most (frame.bottom _).0 (all 3 _ fourth);
      below = top_holds _ c.flat_level-2.result c.bound_above.result x y w c.flat_level-2.ensures.b c.flat_level-2.ensures.c c.bound_above.ensures.scale c.bound_above.ensures.most (frame.top _).0 (all 2 _ third);
    })
