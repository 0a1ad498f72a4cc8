use Rattle.std.proofs.Common.{ap, sym}
use Rattle.policy_documents.proofs.RuleLemmas.{found_rule-at, found_rule-past}
use Rattle.policy_documents.proofs.documents.rule_at.Goals as goal

pub returns-then-index-rules : goal.returns-then-index-rules
returns-then-index-rules g c = sym (rw (ap (λ r. r.name) c.rule.view_is) (found_rule-at _ _ _ _ c.if-index-rules.true c.index-rules-index.is))

pub returns-else-index-rules : goal.returns-else-index-rules
returns-else-index-rules g c = sym (found_rule-past _ _ c.if-index-rules.false)
