use Rattle.policy_documents.proofs.EqualLemmas.{exact_rule}
use Rattle.policy_documents.proofs.rules.RulePartialEq.eq.Goals as goal

pub returns-clause-exact : goal.returns-clause-exact
returns-clause-exact g c = exact_rule c.is_same.result c.args.self.now c.args.other.now c.is_same.ensures
