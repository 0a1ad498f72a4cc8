use Rattle.std.proofs.Common.{◌≡◌, map, take}
use Rattle.serde_json.specs.View.{view}
use Rattle.audit_trail.specs.JsonLines.{change_data}
use Rattle.audit_trail.proofs.json_lines.changes_value.Given as goal

abbrev pub invariant-loop-change : goal.invariant-loop-change
invariant-loop-change l = map view l.values.items ≡ map change_data (take l.change-index l.changes)
