use Rattle.std.proofs.Common.{map, sym, ap, ◌∙◌, Ok}
use Rattle.serde_json.specs.View.{view, items_view}
use Rattle.policy_documents.specs.Views.{zone_of}
use Rattle.policy_text.specs.SeenViews.{seen_view, head_view}
use Rattle.policy_documents.proofs.NodeLemmas.{node_view-Policy}
use Rattle.policy_text.proofs.NodeReadLemmas.{policy_at-read}
use Rattle.policy_text.proofs.reading.policy_at.Goals as goal

pub returns : goal.returns
returns g c =
    policy_at-read (map zone_of c.args.zones.now.entries) c.args.path (seen_view c.args.seen.now) (view c.args.value.now) (head_view c.in_ok-head.head) (seen_view c.head_at.new.seen) (seen_view c.rules_at.new.seen) (items_view c.in_ok-head.items.now)
    c.with.result _ c.in_ok-head.ensures c.with.ensures c.in_ok-rules.ensures ∙ ap (λ n. Ok (n, seen_view c.rules_at.new.seen)) (sym (node_view-Policy _ _ _ _ _))
