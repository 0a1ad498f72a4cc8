use Rattle.std.proofs.Common.{ap, sym, ◌∙◌}
use Rattle.std.specs.Result.{result_ok}
use Rattle.policy_documents.proofs.RuleLemmas.{rule_named-found_rule}
use Rattle.policy_documents.proofs.documents.Document.rule_name.Goals as goal

pub returns : goal.returns
returns g c = rw (← c.self.view_is) (c.ok.ensures.value ∙ ap result_ok c.rule_in.ensures ∙ sym (rule_named-found_rule c.args.number _ c.if-number-eq0.false))
