use Rattle.std.proofs.Common.{◌≡◌, ◌+◌, map, take}
use Rattle.combining.specs.Deciding.{rule_part}
use Rattle.combining.specs.Gathering.{gathered_of}
use Rattle.combining.proofs.deciding.gather_rules.Given as goal

abbrev pub invariant-loop-rule : goal.invariant-loop-rule
invariant-loop-rule g l = record {
  gathered : l.gathered ≡ gathered_of l.question l.met l.combine l.next (map (rule_part l.question l.met) (take l.rule-index l.rules));
  number : l.number ≡ l.next + l.rule-index;
}
