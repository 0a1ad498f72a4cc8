use Rattle.std.proofs.Common.{lit<}
use Rattle.plane.proofs.Wide.{le_test-products}
use Rattle.plane.proofs.elimination.is_within.Goals as goal

pub returns : goal.returns
returns c =
    let a = c.args.bound.in_range in
    let b = c.args.height.in_range in
    le_test-products c.args.bound.scale c.args.height.y c.args.bound.most c.args.height.w
    800000000000000 16000000000000000000000 16000000000000000000000 800000000000000
    a.scale_small b.y_small a.most_small b.w_small (lit< tt) (lit< tt) (lit< tt) (lit< tt) (lit< tt) (lit< tt)
