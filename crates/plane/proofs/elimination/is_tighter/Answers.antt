use Rattle.std.proofs.Common.{lit<}
use Rattle.plane.proofs.Wide.{le_test-products}
use Rattle.plane.proofs.elimination.is_tighter.Goals as goal

pub returns : goal.returns
returns c =
    let a = c.args.first.in_range in
    let b = c.args.second.in_range in
    le_test-products c.args.first.most c.args.second.scale c.args.second.most c.args.first.scale
    16000000000000000000000 800000000000000 16000000000000000000000 800000000000000
    a.most_small b.scale_small b.most_small a.scale_small (lit< tt) (lit< tt) (lit< tt) (lit< tt) (lit< tt) (lit< tt)
