use Rattle.plane.proofs.ShapeRows.{rows_of_small, length-rows_of}
use Rattle.plane.proofs.shape_rows.push_rows.Goals as goal

pub returns-clause-small : goal.returns-clause-small
returns-clause-small c = rows_of_small _ c.corners.ensures.canonical.not_empty c.corners.ensures.canonical.in_range

pub returns-clause-count : goal.returns-clause-count
returns-clause-count c = length-rows_of _ c.corners.ensures.canonical.at_most
