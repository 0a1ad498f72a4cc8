-- The codes of the faults.
use Rattle.std.specs.Prelude.{ℕ, List, codes}
use Rattle.audit_trail.specs.declared.trails.TrailFault.{TrailFault}
use Rattle.audit_trail.specs.declared.trails.TrailFault.TheVariants.{Full, Memory, NoRecord}

abbrev pub trail_code : TrailFault → List ℕ
trail_code Full = codes "G1"
trail_code (Memory refused) = codes "G2"
trail_code NoRecord = codes "G3"
