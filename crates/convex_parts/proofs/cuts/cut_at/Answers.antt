use Rattle.std.proofs.Common.{arith}
use Rattle.convex_parts.proofs.Runs.{cut_read}
use Rattle.convex_parts.proofs.cuts.cut_at.Goals as goal

pub returns-clause-some : goal.returns-clause-some
returns-clause-some g c = λ f h.
    cut_read f h c.args.ring.now.items c.as_slice-2.result.now c.args.at c.run_end-end.result (omega arith) (omega arith) c.as_slice-2.ensures.value _ _ (c.in_ok-part.ensures f) c.pass_by.ensures.items
