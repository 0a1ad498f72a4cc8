use Rattle.std.proofs.Common.{◌≡◌, take}
use Rattle.policy_documents.proofs.nodes.copy_rules.Given as goal

abbrev pub invariant-loop-rule : goal.invariant-loop-rule
invariant-loop-rule g l = l.copies.items ≡ take l.rule-index l.rule-items
