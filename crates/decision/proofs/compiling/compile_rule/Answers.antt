use Rattle.policy_documents.specs.Documents.{RuleData}
use Rattle.decision.proofs.CompileLemmas.{target-never, when-never, rule-kept}
use Rattle.decision.proofs.compiling.compile_rule.Goals as goal

pub returns-in_default : goal.returns-in_default
returns-in_default g c =
    let r = c.rule.inside in
    let rule : RuleData = record { name = r.name; effect = r.effect; target = r.target; when = r.when } in
    rw (← c.rule.view_is) (target-never _ c.args.known.now c.args.number rule c.args.steps.now.items (rw c.in_default.is at c.in_ok-target.ensures))

pub returns-in_default-2 : goal.returns-in_default-2
returns-in_default-2 g c =
    let r = c.rule.inside in
    let rule : RuleData = record { name = r.name; effect = r.effect; target = r.target; when = r.when } in
    rw (← c.rule.view_is) (when-never _ c.args.known.now c.args.number rule c.args.steps.now.items (rw c.in_default-2.is at c.in_ok-when.ensures))

pub returns : goal.returns
returns g c =
    let r = c.rule.inside in
    let rule : RuleData = record { name = r.name; effect = r.effect; target = r.target; when = r.when } in
    rw (← c.rule.view_is) (rule-kept _ c.args.known.now c.args.number rule c.in-Some.target c.in-Some-2.when c.args.steps.now.items c.try_push.new.self.items
    (rw c.in-Some.is at c.in_ok-target.ensures) (rw c.in-Some-2.is at c.in_ok-when.ensures) c.in_ok-try_push.ensures.items)
