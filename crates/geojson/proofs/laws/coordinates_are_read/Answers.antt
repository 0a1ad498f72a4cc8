use Rattle.geojson.proofs.ReadBack.{position_read, points_read, ring_read}
use Rattle.geojson.proofs.laws.coordinates_are_read.Goals as goal

pub returns : goal.returns
returns c = record { point = position_read; line = points_read; ring = ring_read }
