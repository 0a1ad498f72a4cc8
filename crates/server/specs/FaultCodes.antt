-- The codes and texts of faults.
use Rattle.std.specs.Prelude.{ℕ, List, codes}
use Rattle.hall.specs.FaultCodes.{hall_code, open_code, close_code}
use Rattle.server.specs.declared.keeping.StoreFault.{StoreFault}
use Rattle.server.specs.declared.keeping.StoreFault.TheVariants as stores
use Rattle.server.specs.declared.faults.ServerFault.{ServerFault}
use Rattle.server.specs.declared.faults.ServerFault.TheVariants as faults

abbrev pub store_code : StoreFault → List ℕ
store_code stores.InUse = codes "Q1"
store_code stores.Failed = codes "Q2"
store_code stores.Damaged = codes "Q3"
store_code stores.NoNumber = codes "Q4"
store_code stores.Memory = codes "H6"

abbrev pub server_code : ServerFault → List ℕ
server_code faults.Bind = codes "cannot bind"
server_code faults.BindWeb = codes "cannot bind"
server_code (faults.Write failed) = codes "cannot write"
server_code (faults.Channel refused) = codes "H6"
server_code faults.NoWorker = codes "cannot start a worker"
server_code (faults.Open fault) = open_code fault
server_code (faults.Hall fault) = hall_code fault
server_code (faults.Close fault) = close_code fault
server_code (faults.Store fault) = store_code fault
