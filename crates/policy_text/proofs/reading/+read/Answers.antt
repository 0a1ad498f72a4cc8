use Rattle.std.proofs.Common.{arith, map, sym, ap, ◌∙◌, subst, Ok, ◌+◌, ◌-◌, [], ◌∷◌}
use Rattle.std.proofs.lemmas.List.{map-append}
use Rattle.serde_json.specs.View.{view, items_view}
use Rattle.policy_documents.specs.Views.{zone_of, node_view}
use Rattle.policy_text.specs.SeenViews.{seen_view, head_view}
use Rattle.policy_text.specs.Reading.{Fails, Gives, node_at}
use Rattle.policy_documents.proofs.NodeLemmas.{node_view-Set}
use Rattle.policy_text.proofs.NodeReadLemmas.{node_at-zero, node_at-set, node_at-policy, set_at-read, set_at-fails}
use Rattle.policy_text.proofs.EachLemmas.{Gives-residual, behind, left_at, left_at-more, left_at-fails, left_at-end}
use Rattle.policy_text.proofs.reading.+read.Goals as goal

pub node_at-returns-then-levels-eq0 : goal.node_at-returns-then-levels-eq0
node_at-returns-then-levels-eq0 g t c = node_at-zero (map zone_of c.args.zones.now.entries) c.args.path (seen_view c.args.seen.now) (view c.args.value.now) c.args.levels c.if-levels-eq0.true

pub node_at-returns-then-has_key : goal.node_at-returns-then-has_key
node_at-returns-then-has_key g t c =
    subst (Gives _ c.set_at.result)
    (node_at-set (map zone_of c.args.zones.now.entries) c.args.path (seen_view c.args.seen.now) (view c.args.value.now) c.args.levels (c.args.levels - 1) (omega (arith, c.if-levels-eq0.false)) c.if-has_key.ensures)
    c.set_at.ensures

pub node_at-returns-else-has_key : goal.node_at-returns-else-has_key
node_at-returns-else-has_key g t c =
    subst (Gives _ c.policy_at.result)
    (node_at-policy (map zone_of c.args.zones.now.entries) c.args.path (seen_view c.args.seen.now) (view c.args.value.now) c.args.levels (c.args.levels - 1) (omega (arith, c.if-levels-eq0.false)) c.if-has_key.ensures)
    c.policy_at.ensures

pub set_at-returns : goal.set_at-returns
set_at-returns g t c =
    set_at-read (map zone_of c.args.zones.now.entries) c.args.path (seen_view c.args.seen.now) (view c.args.value.now) (head_view c.in_ok-head.head) (seen_view c.head_at.new.seen) (seen_view c.nodes_at.new.seen) (items_view c.in_ok-head.items.now)
    (node_at (map zone_of c.args.zones.now.entries) c.args.below) c.with.result _ c.in_ok-head.ensures c.with.ensures c.in_ok-of.ensures ∙ ap (λ n. Ok (n, seen_view c.nodes_at.new.seen)) (sym (node_view-Set _ _ _ _ _))

pub nodes_at-returns-in_err-node : goal.nodes_at-returns-in_err-node
nodes_at-returns-in_err-node g t c =
    Gives-residual _ _ _ _ c.from_residual.ensures.1 (subst (Fails c.in_err-node.field-0.0) c.loop-index.invariant
    (left_at-fails (node_at (map zone_of c.args.zones.now.entries) c.args.levels) c.args.path (map node_view c.loop-index.nodes.items) c.loop-index.index (seen_view c.loop-index.seen) c.args.items.now
    c.index-items-index.result c.in_err-node.field-0.0 c.loop-index-test.true c.index-items-index.is (rw (← c.with.ensures) c.in_err-node.ensures)))

pub nodes_at-returns : goal.nodes_at-returns
nodes_at-returns g t c =
    sym c.loop-index.invariant ∙ left_at-end (node_at (map zone_of c.args.zones.now.entries) c.args.levels) c.args.path (map node_view c.loop-index.nodes.items) c.loop-index.index (seen_view c.loop-index.seen) c.args.items.now c.loop-index-test.false

pub nodes_at-loop-index-preserved : goal.nodes_at-loop-index-preserved
nodes_at-loop-index-preserved g t c =
    ap (λ xs. behind xs (left_at (node_at (map zone_of c.args.zones.now.entries) c.args.levels) c.args.path (c.loop-index.index + 1) (seen_view c.node_at.new.seen) c.args.items.now))
    (ap (map node_view) c.in_ok-try_push.ensures.items ∙ map-append node_view c.loop-index.nodes.items (c.in_ok-node.node ∷ []))
    ∙ left_at-more (node_at (map zone_of c.args.zones.now.entries) c.args.levels) c.args.path (map node_view c.loop-index.nodes.items) c.loop-index.index (seen_view c.loop-index.seen) (seen_view c.node_at.new.seen) c.args.items.now
    c.index-items-index.result (node_view c.in_ok-node.node) c.loop-index-test.true c.index-items-index.is (rw (← c.with.ensures) c.in_ok-node.ensures) ∙ c.loop-index.invariant

pub set_at-returns-in_err-of : goal.set_at-returns-in_err-of
set_at-returns-in_err-of g t c =
    Gives-residual _ _ _ _ c.from_residual-in_err-of.ensures.1
    (set_at-fails (map zone_of c.args.zones.now.entries) c.args.path (seen_view c.args.seen.now) (view c.args.value.now) (head_view c.in_ok-head.head) (seen_view c.head_at.new.seen) (seen_view c.head_at.new.seen) (items_view c.in_ok-head.items.now)
    (node_at (map zone_of c.args.zones.now.entries) c.args.below) c.with.result c.in_err-of.field-0.0 c.in_ok-head.ensures c.with.ensures c.in_err-of.ensures)
