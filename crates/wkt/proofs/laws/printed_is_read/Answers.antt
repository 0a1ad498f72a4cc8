use Rattle.wkt.specs.Printing.{printed}
use Rattle.wkt.proofs.PrintedShapes.{printed_is_read}
use Rattle.wkt.proofs.SpellingFound.{found}
use Rattle.wkt.proofs.laws.printed_is_read.Goals as goal

pub returns : goal.returns
returns c = record { read = printed_is_read; spells = λ corners h. found (printed corners) corners (printed_is_read corners h) }
