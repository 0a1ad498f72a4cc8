use Rattle.std.proofs.Common.{◌≡◌, ◌++◌, map, take}
use Rattle.configuration.specs.Summaries.{is_permit}
use Rattle.configuration.proofs.summaries.put_rule_permits.Given as goal

abbrev pub invariant-loop-rule : goal.invariant-loop-rule
invariant-loop-rule g l = l.flags.items ≡ l.fn.flags.items ++ map is_permit (take l.rule-index l.rules.items)
