use Rattle.std.proofs.Common.{◌<◌, arith}
use Rattle.volumes.proofs.ReadingLemmas.{sorted_chain}
use Rattle.volumes.proofs.reading.rise.Goals as goal

pub returns : goal.returns
returns c = λ rises. sorted_chain c.args.features.now (λ k p. c.loop-i.invariant k (omega (arith, p, c.loop-i-test.false)))
