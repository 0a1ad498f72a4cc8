use Rattle.std.proofs.Common.{◌≡◌}
use Rattle.policy_documents.specs.Equality.{same_zone, same_zones}
use Rattle.policy_documents.proofs.RowLemmas.{same_from}
use Rattle.policy_documents.proofs.documents.same_zones.Given as goal

abbrev pub invariant-loop-index : goal.invariant-loop-index
invariant-loop-index g l = same_from same_zone l.index l.document.zones l.other.zones ≡ same_zones l.document.zones l.other.zones
