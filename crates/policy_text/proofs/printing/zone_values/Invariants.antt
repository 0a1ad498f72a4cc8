use Rattle.std.proofs.Common.{◌≡◌, map, ◌++◌}
use Rattle.serde_json.specs.View.{view}
use Rattle.policy_text.specs.Printed.{zone_data}
use Rattle.policy_documents.specs.Views.{zone_of}
use Rattle.policy_text.proofs.printing.zone_values.Given as goal

abbrev pub invariant-loop-key : goal.invariant-loop-key
invariant-loop-key g l = map view l.values.items ++ map zone_data (map zone_of l.key-iterator) ≡ map zone_data (map zone_of l.zones.entries)
