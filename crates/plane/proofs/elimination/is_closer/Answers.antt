use Rattle.std.proofs.Common.{lit<}
use Rattle.plane.proofs.Wide.{fits-product, le_test-reached}
use Rattle.plane.proofs.elimination.is_closer.Goals as goal

pub overflow_mul-result : goal.overflow_mul-result
overflow_mul-result c = fits-product c.reach.result c.args.second.a 640000000000000000000000000000 20000000 c.reach.ensures.size c.requires.second.a_small (lit< tt) (lit< tt) (lit< tt)

pub overflow_mul-result-2 : goal.overflow_mul-result-2
overflow_mul-result-2 c = fits-product c.reach-2.result c.args.first.a 640000000000000000000000000000 20000000 c.reach-2.ensures.size c.requires.first.a_small (lit< tt) (lit< tt) (lit< tt)

pub returns : goal.returns
returns c =
    le_test-reached _ _ c.args.first.a c.args.second.a c.reach.result c.reach-2.result 640000000000000000000000000000 20000000
    c.reach.ensures.value c.reach-2.ensures.value c.reach.ensures.size c.reach-2.ensures.size c.requires.first.a_small c.requires.second.a_small (lit< tt) (lit< tt) (lit< tt)
