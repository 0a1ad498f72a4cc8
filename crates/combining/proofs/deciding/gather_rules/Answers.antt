use Rattle.std.proofs.Common.{◌+◌, take, arith, ap, ◌∙◌, sym, length-take-le}
use Rattle.combining.specs.Deciding.{rule_part}
use Rattle.combining.specs.Gathering.{part_verdict}
use Rattle.combining.proofs.GatherLemmas.{gathered-more, own_rule, sizes_of-rules}
use Rattle.combining.proofs.deciding.gather_rules.Goals as goal

pub loop-rule-preserved : goal.loop-rule-preserved
loop-rule-preserved g c =
    let q = c.args.question.now in
    let met = c.args.met.now in
    let i = c.loop-rule.rule-index in
    let xs = c.args.rules.now in
    let number = c.loop-rule.invariant.number ∙ ap (λ n. c.args.next + n) (sym (sizes_of-rules q met (take i xs) ∙ length-take-le i xs (omega (arith, c.loop-rule-test.true)))) in
    record {
      gathered = c.with-gathered.ensures ∙ gathered-more q met (rule_part q met) (own_rule q met) c.args.combine c.args.next xs i c.rule-item.result c.loop-rule.gathered c.decide_rule-verdict.result
          c.loop-rule-test.true c.rule-item.is c.loop-rule.invariant.gathered (c.decide_rule-verdict.ensures ∙ ap (λ n. part_verdict q met n (rule_part q met c.rule-item.result)) number);
      number = omega (arith, c.loop-rule.invariant.number);
    }
