-- The codes of the faults of the store.
use Rattle.std.specs.Prelude.{ℕ, List, codes}
use Rattle.feature_store.specs.declared.stores.StoreFault.{StoreFault}
use Rattle.feature_store.specs.declared.stores.StoreFault.TheVariants.{Full, Memory}

abbrev pub store_code : StoreFault → List ℕ
store_code Full = codes "F1"
store_code (Memory refused) = codes "F2"
