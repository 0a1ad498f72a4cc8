use Rattle.std.proofs.Common.{◌≡◌, take}
use Rattle.policy_documents.proofs.matches.copy_alternatives.Given as goal

abbrev pub invariant-loop-matches : goal.invariant-loop-matches
invariant-loop-matches g l = l.copies.items ≡ take l.matches-index l.matches-items
