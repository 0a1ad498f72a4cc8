-- The codes of the faults.
use Rattle.std.specs.Prelude.{ℕ, List, codes}
use Rattle.plain_world.specs.FaultCodes.{fault_code}
use Rattle.plain_world.specs.declared.faults.Fault.{Fault}
use Rattle.plain_world.specs.declared.faults.Fault.TheVariants as world
use Rattle.hall.specs.declared.faults.HallFault.{HallFault}
use Rattle.hall.specs.declared.faults.HallFault.TheVariants as faults
use Rattle.hall.specs.declared.faults.OpenFault.{OpenFault}
use Rattle.hall.specs.declared.faults.OpenFault.TheVariants as opening
use Rattle.hall.specs.declared.faults.CloseFault.{CloseFault}
use Rattle.hall.specs.declared.faults.CloseFault.TheVariants as closing

-- for a refusal of the world, the world's own code
abbrev pub hall_code : HallFault → List ℕ
hall_code faults.NoSubject = codes "H1"
hall_code faults.NoPlace = codes "H2"
hall_code faults.Closed = codes "H3"
hall_code faults.Held = codes "H4"
hall_code (faults.Core fault) = fault_code fault
hall_code (faults.Memory refused) = codes "H6"
hall_code faults.NotRead = codes "H7"

-- for a refusal of the world, the world's own code
abbrev pub open_code : OpenFault → List ℕ
open_code opening.NoPlace = codes "H2"
open_code (opening.Core fault) = fault_code fault
open_code (opening.Memory refused) = codes "H6"
open_code (opening.Policies refused) = codes "H6"

-- the hall's fault for a refusal of its world
abbrev pub hall_fault : Fault → HallFault
hall_fault world.NoSubject = faults.NoSubject
hall_fault world.NoPlace = faults.NoPlace
hall_fault other = faults.Core other

abbrev pub close_code : CloseFault → List ℕ
close_code (closing.Mismatch seat place) = codes "C1"
close_code closing.SeatOut = codes "C2"
close_code closing.Memory = codes "H6"
