use Rattle.std.proofs.Common.{rules, ◌+◌, map, take, arith, ap, ◌∙◌, sym}
use Rattle.std.proofs.lemmas.List.{take_all}
use Rattle.policy_documents.specs.Views.{node_view}
use Rattle.policy_documents.proofs.NodeLemmas.{node_view-Set, node_view-Policy}
use Rattle.combining.specs.Gathering.{gathered_of, part_verdict, node_part, settled_verdict}
use Rattle.combining.proofs.PlacedLemmas.{parts_of-map}
use Rattle.combining.proofs.GatherLemmas.{total-more, total-some, sizes_of-total, gathered-more, own_node, settled-set, settled-policy, left-set, left-policy}
use denote.Param.Weighed.{at_most}
use Rattle.combining.proofs.deciding.+decide.Goals as goal

pub decide_node-returns-then-not-target_holds : goal.decide_node-returns-then-not-target_holds
decide_node-returns-then-not-target_holds g t c =
    rw (c.in-Set.is, node_view-Set) (sym (left-set c.args.question.now c.args.met.now c.args.next (record { name = c.in-Set.name; combine = c.in-Set.combine; target = c.in-Set.target }) _ c.if-not-target_holds.ensures))

pub decide_node-returns-then-not-target_holds-2 : goal.decide_node-returns-then-not-target_holds-2
decide_node-returns-then-not-target_holds-2 g t c =
    rw (c.in-Policy.is, node_view-Policy) (sym (left-policy c.args.question.now c.args.met.now c.args.next (record { name = c.in-Policy.name; combine = c.in-Policy.combine; target = c.in-Policy.target }) _ c.if-not-target_holds-2.ensures))

pub decide_node-returns-else-not-target_holds : goal.decide_node-returns-else-not-target_holds
decide_node-returns-else-not-target_holds g t c =
    let q = c.args.question.now in
    let met = c.args.met.now in
    rw (c.in-Set.is, node_view-Set, ← c.deref.ensures.value)
    (c.settle.ensures ∙ ap (settled_verdict c.in-Set.combine) (c.gather_nodes.ensures ∙ ap (gathered_of q met c.in-Set.combine c.args.next) (sym (parts_of-map q met node_view c.deref.result.now)))
    ∙ settled-set q met c.args.next (record { name = c.in-Set.name; combine = c.in-Set.combine; target = c.in-Set.target }) _ c.if-not-target_holds.ensures)

pub decide_node-returns-else-not-target_holds-2 : goal.decide_node-returns-else-not-target_holds-2
decide_node-returns-else-not-target_holds-2 g t c =
    let q = c.args.question.now in
    let met = c.args.met.now in
    rw (c.in-Policy.is, node_view-Policy, ← c.deref-in-Policy.ensures.value)
    (c.settle-in-Policy.ensures ∙ ap (settled_verdict c.in-Policy.combine) c.gather_rules.ensures
    ∙ settled-policy q met c.args.next (record { name = c.in-Policy.name; combine = c.in-Policy.combine; target = c.in-Policy.target }) _ c.if-not-target_holds-2.ensures)

pub gather_nodes-decide_node-verdict-requires : goal.gather_nodes-decide_node-verdict-requires
gather_nodes-decide_node-verdict-requires g t c κs within =
    (search (rules, at_most), (search rules, omega (arith, c.requires, c.loop-node.invariant.next, total-some node_view c.args.nodes.now c.loop-node.node-index c.node-item.result c.loop-node-test.true c.node-item.is)))

pub gather_nodes-rule_count-next-requires : goal.gather_nodes-rule_count-next-requires
gather_nodes-rule_count-next-requires g t c = omega (arith, c.requires, total-some node_view c.args.nodes.now c.loop-node.node-index c.node-item.result c.loop-node-test.true c.node-item.is)

pub gather_nodes-overflow_add-next : goal.gather_nodes-overflow_add-next
gather_nodes-overflow_add-next g t c =
    omega (arith, c.requires, c.loop-node.invariant.next, c.rule_count-next.ensures, total-some node_view c.args.nodes.now c.loop-node.node-index c.node-item.result c.loop-node-test.true c.node-item.is)

pub gather_nodes-loop-node-preserved : goal.gather_nodes-loop-node-preserved
gather_nodes-loop-node-preserved g t c =
    let q = c.args.question.now in
    let met = c.args.met.now in
    let i = c.loop-node.node-index in
    let xs = c.args.nodes.now in
    let x = c.node-item.result in
    let before = c.loop-node.invariant.next ∙ ap (λ n. c.args.next + n) (sym (sizes_of-total node_view q met (take i xs))) in
    record {
      gathered = c.with-gathered.ensures ∙ gathered-more q met (λ node. node_part q met (node_view node)) (λ node. own_node q met (node_view node)) c.args.combine c.args.next xs i x c.loop-node.gathered c.decide_node-verdict.result
          c.loop-node-test.true c.node-item.is c.loop-node.invariant.gathered (c.decide_node-verdict.ensures ∙ ap (λ n. part_verdict q met n (node_part q met (node_view x))) before);
      next = omega (arith, c.loop-node.invariant.next, c.rule_count-next.ensures, total-more node_view xs i x c.loop-node-test.true c.node-item.is);
    }

pub gather_nodes-returns : goal.gather_nodes-returns
gather_nodes-returns g t c =
    let q = c.args.question.now in
    let met = c.args.met.now in
    c.loop-node.invariant.gathered ∙ ap (λ nodes. gathered_of q met c.args.combine c.args.next (map (λ node. node_part q met (node_view node)) nodes)) (take_all _ _ c.loop-node-test.false)
