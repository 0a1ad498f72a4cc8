use Rattle.std.proofs.Common.{◌≡◌, take}
use Rattle.policy_documents.proofs.matches.copy_target.Given as goal

abbrev pub invariant-loop-part : goal.invariant-loop-part
invariant-loop-part g l = l.copies.items ≡ take l.part-index l.part-items
