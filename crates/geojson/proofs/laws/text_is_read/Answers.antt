use Rattle.geojson.proofs.TextLemmas.{geometry_document}
use Rattle.geojson.proofs.laws.text_is_read.Goals as goal

pub returns : goal.returns
returns c = geometry_document
