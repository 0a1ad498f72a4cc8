use Rattle.wkt.proofs.FaultPlaces.{fault_is_first}
use Rattle.wkt.proofs.laws.fault_is_first.Goals as goal

pub returns : goal.returns
returns c = fault_is_first
