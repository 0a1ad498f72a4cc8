use Rattle.std.proofs.Common.{◌+◌, List, map, take, sym, ap, ◌∙◌, subst, arith, length-take-le}
use Rattle.std.proofs.lemmas.List.{take_all}
use Rattle.policy_documents.specs.Documents.{RuleData}
use Rattle.combining.specs.Deciding.{rule_part}
use Rattle.combining.proofs.GatherLemmas.{own_rule, sizes_of-rules}
use Rattle.decision.specs.Compiled.{Appends, AllStandFor}
use Rattle.decision.proofs.CompileLemmas.{all-none, all-more}
use Rattle.decision.proofs.compiling.compile_rules.Goals as goal

pub loop-rule-init : goal.loop-rule-init
loop-rule-init g c = record { appended = all-none _ c.args.known.now c.args.next c.args.steps.now.items; number = omega arith }

pub loop-rule-preserved : goal.loop-rule-preserved
loop-rule-preserved g c =
    let i = c.loop-rule.rule-index in
    let xs = c.args.rules.now in
    record {
      appended = all-more _ c.args.known.now rule_part own_rule c.args.next xs i c.rule-item.result c.loop-rule.number c.args.steps.now.items c.loop-rule.steps.items c.compile_rule.new.steps.items
          c.loop-rule-test.true c.rule-item.is
          (λ q met. c.loop-rule.invariant.number ∙ ap (λ n. c.args.next + n) (sym (sizes_of-rules q met (take i xs) ∙ length-take-le i xs (omega (arith, c.loop-rule-test.true)))))
          c.loop-rule.invariant.appended c.in_ok-compile_rule.ensures;
      number = omega (arith, c.loop-rule.invariant.number);
    }

pub returns : goal.returns
returns g c =
    subst (λ (rules : List RuleData). Appends _ c.args.known.now (λ q met. AllStandFor q met c.args.next (map (rule_part q met) rules)) c.args.steps.now.items c.loop-rule.steps.items)
    (take_all _ _ c.loop-rule-test.false) c.loop-rule.invariant.appended
