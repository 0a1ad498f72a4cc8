use Rattle.std.proofs.Common.{lit<}
use Rattle.plane.proofs.Narrowing.{cross_b, cross_c}
use Rattle.plane.proofs.Wide.{fits-cross, fits-product, reads-cross, size-reads_cross}
use Rattle.plane.proofs.elimination.combined.Goals as goal

pub overflow_sub-result : goal.overflow_sub-result
overflow_sub-result c = fits-cross _ _ _ _ _ _ _ _ (cross_b c.args.first c.args.second c.requires.first c.requires.second)

pub overflow_mul-result-3 : goal.overflow_mul-result-3
overflow_mul-result-3 c = fits-product c.args.first.a c.args.second.c 20000000 400000000000000 c.requires.first.a_small c.requires.second.c_small (lit< tt) (lit< tt) (lit< tt)

pub overflow_mul-result-4 : goal.overflow_mul-result-4
overflow_mul-result-4 c = fits-product c.args.second.a c.args.first.c 20000000 400000000000000 c.requires.second.a_small c.requires.first.c_small (lit< tt) (lit< tt) (lit< tt)

pub overflow_sub-result-2 : goal.overflow_sub-result-2
overflow_sub-result-2 c = fits-cross _ _ _ _ _ _ _ _ (cross_c c.args.first c.args.second c.requires.first c.requires.second)

pub invariant_of-result : goal.invariant_of-result
invariant_of-result c = record {
  in_range = record {
    b_small = size-reads_cross _ _ _ _ _ _ _ _ (cross_b c.args.first c.args.second c.requires.first c.requires.second);
    c_small = size-reads_cross _ _ _ _ _ _ _ _ (cross_c c.args.first c.args.second c.requires.first c.requires.second);
  };
}

pub returns-clause-b : goal.returns-clause-b
returns-clause-b c = reads-cross _ _ _ _ _ _ _ _ (cross_b c.args.first c.args.second c.requires.first c.requires.second)

pub returns-clause-c : goal.returns-clause-c
returns-clause-c c = reads-cross _ _ _ _ _ _ _ _ (cross_c c.args.first c.args.second c.requires.first c.requires.second)
