use Rattle.std.proofs.Common.{◌≡◌, [], map}
use Rattle.serde_json.specs.View.{items_view}
use Rattle.policy_documents.specs.Views.{zone_of}
use Rattle.policy_text.specs.Reading.{zones_at}
use Rattle.policy_text.proofs.ZoneReadLemmas.{zones_left}
use Rattle.policy_text.proofs.areas.zones_at.Given as goal

abbrev pub invariant-loop-index : goal.invariant-loop-index
invariant-loop-index g l = zones_left l.index (map zone_of l.zones.entries) l.items ≡ zones_at 0 [] (items_view l.items)
