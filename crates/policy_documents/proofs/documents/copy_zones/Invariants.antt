use Rattle.std.proofs.Common.{◌≡◌, ◌++◌}
use Rattle.policy_documents.proofs.documents.copy_zones.Given as goal

abbrev pub invariant-loop-key : goal.invariant-loop-key
invariant-loop-key g l = l.zones.entries ≡ l.copies.entries ++ l.key-iterator
