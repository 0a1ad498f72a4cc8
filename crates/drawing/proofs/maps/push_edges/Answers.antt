use Rattle.drawing.proofs.ElementLemmas.{joined_four}
use Rattle.drawing.proofs.maps.push_edges.Goals as goal

pub returns-clause-items : goal.returns-clause-items
returns-clause-items c = joined_four _ _ _ _ _ _ _ _ _ c.push_bytes.ensures.items c.push_sides.ensures.items c.push_levels.ensures.items c.push_bytes-2.ensures.items
