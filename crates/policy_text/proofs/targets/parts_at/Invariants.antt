use Rattle.std.proofs.Common.{◌≡◌, map}
use Rattle.serde_json.specs.View.{items_view}
use Rattle.policy_documents.specs.Views.{zone_of}
use Rattle.policy_text.specs.Reading.{each_at}
use Rattle.policy_text.proofs.EachLemmas.{behind, left_at}
use Rattle.policy_text.proofs.targets.parts_at.Given as goal

abbrev pub invariant-loop-index : goal.invariant-loop-index
invariant-loop-index g l =
    behind l.parts.items (left_at (g.T.Part.reads (map zone_of l.zones.entries)) l.path l.index l.tests l.items) ≡ each_at (g.T.Part.reads (map zone_of l.zones.entries)) l.path 0 l.fn.tests (items_view l.items)
