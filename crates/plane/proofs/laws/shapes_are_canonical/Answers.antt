use Rattle.plane.proofs.CanonicalShapes.{point_canonical, segment_canonical, polygon_canonical}
use Rattle.plane.proofs.laws.shapes_are_canonical.Goals as goal

pub returns : goal.returns
returns c = record { point = point_canonical; segment = segment_canonical; polygon = polygon_canonical }
