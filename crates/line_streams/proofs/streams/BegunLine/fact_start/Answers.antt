use Rattle.std.proofs.Common.{arith}
use Rattle.line_streams.proofs.LineLemmas.{some_start}
use Rattle.line_streams.proofs.streams.BegunLine.fact_start.Goals as goal

pub returns : goal.returns
returns g c = some_start c.self.inside.bytes.items _ c.self.view_is (omega (arith, c.self.invariant.1, c.self.inside.bytes.ok.0)) c.self.invariant.2
