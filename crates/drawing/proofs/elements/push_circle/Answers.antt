use Rattle.drawing.proofs.ElementLemmas.{joined_three}
use Rattle.drawing.proofs.elements.push_circle.Goals as goal

pub returns-clause-items : goal.returns-clause-items
returns-clause-items c = joined_three _ _ _ _ _ _ _ c.push_bytes.ensures.items c.push_place.ensures.items c.push_bytes-2.ensures.items
