use Rattle.std.proofs.Common.{◌≡◌, map}
use Rattle.serde_json.specs.View.{items_view}
use Rattle.policy_documents.specs.Views.{zone_of}
use Rattle.policy_text.specs.SeenViews.{seen_view}
use Rattle.policy_text.specs.Reading.{each_at, rule_at}
use Rattle.policy_text.proofs.EachLemmas.{behind, left_at}
use Rattle.policy_text.proofs.reading.rules_at.Given as goal

abbrev pub invariant-loop-index : goal.invariant-loop-index
invariant-loop-index g l =
    behind l.rules.items (left_at (rule_at (map zone_of l.zones.entries)) l.path l.index (seen_view l.seen) l.items)
    ≡ each_at (rule_at (map zone_of l.zones.entries)) l.path 0 (seen_view l.fn.seen) (items_view l.items)
