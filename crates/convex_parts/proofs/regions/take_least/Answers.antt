use Rattle.std.proofs.Common.{◌<◌, length, arith}
use Rattle.std.proofs.lemmas.Grind.{common_steps}
use Rattle.convex_parts.proofs.Holes.{along_all-remove}
use Rattle.convex_parts.proofs.regions.take_least.Goals as goal

pub returns-clause-some : goal.returns-clause-some
returns-clause-some g c = λ f.
    let within : c.least_index-least.result < length c.args.holes.now.items = grind (arith, common_steps) in
    let taken = along_all-remove (λ ring. ring.items) f c.args.holes.now.items c.least_index-least.result c.remove.result within in cc
