use Rattle.std.proofs.Common.{◌∙◌}
use Rattle.wkt.proofs.SpellingOnly.{only}
use Rattle.wkt.proofs.read.read_shape.Goals as goal

pub returns-clause-taken : goal.returns-clause-taken
returns-clause-taken c = λ corners spelled. c.read.ensures ∙ only _ corners spelled
