use Rattle.std.proofs.Common.{◌≡◌, map, take}
use Rattle.serde_json.specs.View.{view}
use Rattle.audit_trail.specs.JsonLines.{numeral}
use Rattle.audit_trail.proofs.json_lines.numbers_value.Given as goal

abbrev pub invariant-loop-number : goal.invariant-loop-number
invariant-loop-number l = map view l.values.items ≡ map numeral (take l.number-index l.numbers)
