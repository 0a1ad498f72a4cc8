use Rattle.std.proofs.Common.{◌≡◌, ◌∙◌, Bool, List, ◌++◌, OnOk, ap, subst, sym}
use Rattle.policy_documents.specs.Views.{node_view}
use Rattle.configuration.specs.Summaries.{node_permits}
use Rattle.configuration.proofs.PermitLemmas.{policy_permits, set_permits}
use Rattle.configuration.proofs.summaries.+permits.Goals as goal

pub put_permits-returns-in-Set : goal.put_permits-returns-in-Set
put_permits-returns-in-Set g t c =
    let whole = ap (λ n. node_permits (node_view n)) c.in-Set.is ∙ set_permits _ c.in-Set.name c.in-Set.combine c.in-Set.target c.in-Set.of in
    subst (λ (flags : List Bool). OnOk c.put_permits_below.result (c.put_permits_below.new.flags.items ≡ c.args.flags.now.items ++ flags)) (sym whole) c.put_permits_below.ensures

pub put_permits-returns-in-Policy : goal.put_permits-returns-in-Policy
put_permits-returns-in-Policy g t c =
    let whole = ap (λ n. node_permits (node_view n)) c.in-Policy.is ∙ policy_permits _ c.in-Policy.name c.in-Policy.combine c.in-Policy.target c.in-Policy.rules in
    subst (λ (flags : List Bool). OnOk c.put_rule_permits.result (c.put_rule_permits.new.flags.items ≡ c.args.flags.now.items ++ flags)) (sym whole) c.put_rule_permits.ensures
