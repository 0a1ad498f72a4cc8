-- The world's fault for a fault of its store.
use Rattle.feature_store.specs.declared.stores.StoreFault.{StoreFault}
use Rattle.feature_store.specs.declared.stores.StoreFault.TheVariants as store
use Rattle.plain_world.specs.declared.faults.Fault.{Fault}
use Rattle.plain_world.specs.declared.faults.Fault.TheVariants.{StoreFull, Memory}

abbrev pub fault_of_store : StoreFault → Fault
fault_of_store store.Full = StoreFull
fault_of_store (store.Memory refused) = Memory refused
