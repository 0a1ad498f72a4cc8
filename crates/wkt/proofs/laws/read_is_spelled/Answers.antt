use Rattle.wkt.proofs.CanonicalShapes.{shape_canonical}
use Rattle.wkt.proofs.SpellingFound.{found}
use Rattle.wkt.proofs.SpellingOnly.{only, one}
use Rattle.wkt.proofs.laws.read_is_spelled.Goals as goal

pub returns : goal.returns
returns c = record { found = found; only = only; one = one; canonical = shape_canonical }
