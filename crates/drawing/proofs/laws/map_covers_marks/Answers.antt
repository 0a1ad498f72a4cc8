use Rattle.drawing.proofs.CoveringLemmas.{area_covers}
use Rattle.drawing.proofs.laws.map_covers_marks.Goals as goal

pub returns : goal.returns
returns c = area_covers
