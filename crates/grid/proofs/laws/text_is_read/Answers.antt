use Rattle.grid.proofs.RoundTrip.{text_is_read}
use Rattle.grid.proofs.laws.text_is_read.Goals as goal

pub returns : goal.returns
returns c = text_is_read
