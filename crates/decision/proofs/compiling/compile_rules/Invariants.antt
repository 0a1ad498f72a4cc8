use Rattle.std.proofs.Common.{◌≡◌, ◌+◌, map, take}
use Rattle.combining.specs.Deciding.{rule_part}
use Rattle.decision.specs.Compiled.{Appends, AllStandFor}
use Rattle.decision.proofs.compiling.compile_rules.Given as goal

abbrev pub invariant-loop-rule : goal.invariant-loop-rule
invariant-loop-rule g l = record {
  appended : Appends _ l.known (λ q met. AllStandFor q met l.fn.next (map (rule_part q met) (take l.rule-index l.rules))) l.fn.steps.items l.steps.items;
  number : l.number ≡ l.next + l.rule-index;
}
