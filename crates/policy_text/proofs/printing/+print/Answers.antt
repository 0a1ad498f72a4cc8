use Rattle.std.proofs.Common.{map, sym, ap, ◌∙◌}
use Rattle.std.proofs.lemmas.Result.{IfOk-weaker}
use Rattle.serde_json.specs.View.{view}
use Rattle.policy_text.specs.Printed.{node_data, rule_data}
use Rattle.policy_documents.specs.Views.{node_view}
use Rattle.policy_documents.proofs.NodeLemmas.{node_view-Set, node_view-Policy, mapped_more}
use Rattle.policy_text.proofs.PutMembers.{set-put, policy-put}
use Rattle.policy_text.proofs.printing.+print.Goals as goal

pub node_value-returns-in_ok-children-in-Set : goal.node_value-returns-in_ok-children-in-Set
node_value-returns-in_ok-children-in-Set g t c =
    let n = c.in-Set in
    IfOk-weaker c.form_value.result _ _ (λ v told. told
    ∙ set-put node_view (record { name = n.name; combine = n.combine; target = n.target }) n.of.items (map view c.in_ok-children-in-Set.children.items) c.in_ok-children-in-Set.ensures
    ∙ ap node_data (sym (ap node_view n.is ∙ node_view-Set _ n.name n.combine n.target n.of))) c.form_value.ensures

pub node_value-returns-in_ok-children-in-Policy : goal.node_value-returns-in_ok-children-in-Policy
node_value-returns-in_ok-children-in-Policy g t c =
    let n = c.in-Policy in
    let rules = c.in_ok-children-in-Policy.ensures ∙ ap (map rule_data) c.deref.ensures.value in
    IfOk-weaker c.form_value-in-Policy.result _ _ (λ v told. told
    ∙ policy-put (record { name = n.name; combine = n.combine; target = n.target }) n.rules.items (map view c.in_ok-children-in-Policy.children.items) rules
    ∙ ap node_data (sym (ap node_view n.is ∙ node_view-Policy _ n.name n.combine n.target n.rules))) c.form_value-in-Policy.ensures

pub node_values-loop-node-preserved : goal.node_values-loop-node-preserved
node_values-loop-node-preserved g t c =
    mapped_more view (λ n. node_data (node_view n)) _ _ _ _ _ _ c.in_ok-try_push.ensures.items c.loop-node-test.true c.loop-node.invariant
    (c.in_ok-node_value.ensures ∙ ap (λ n. node_data (node_view n)) c.node-item.is)
