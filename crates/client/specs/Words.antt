-- How the faults of a talk are shown.
use Rattle.std.specs.Prelude.{ℕ, List, codes}
use Rattle.client.specs.declared.faults.TalkFault.{TalkFault}
use Rattle.client.specs.declared.faults.TalkFault.TheVariants as faults

abbrev pub fault_word : TalkFault → List ℕ
fault_word (faults.Input failed) = codes "V1"
fault_word (faults.Output failed) = codes "cannot write"
fault_word (faults.Gone how) = codes "the server is gone"
fault_word (faults.Memory refused) = codes "V4"
fault_word faults.TooManyLines = codes "V3"
