use Rattle.std.proofs.Common.{rules, ◌+◌, List, map, take, arith, sym, ap, ◌∙◌, subst}
use Rattle.std.proofs.lemmas.List.{take_all}
use Rattle.policy_documents.specs.Views.{node_view}
use Rattle.policy_documents.proofs.NodeLemmas.{node_view-Set, node_view-Policy}
use Rattle.combining.specs.Gathering.{node_part}
use Rattle.combining.proofs.GatherLemmas.{total-more, total-some, sizes_of-total, own_node}
use Rattle.decision.specs.Compiled.{Appends, AllStandFor}
use Rattle.decision.proofs.CompileLemmas.{all-more, set-never, set-kept}
use denote.Param.Weighed.{at_most}
use Rattle.decision.proofs.compiling.+compile.Goals as goal

pub compile_node-returns-in-Set : goal.compile_node-returns-in-Set
compile_node-returns-in-Set g t c = rw (c.in-Set.is, node_view-Set, ← c.deref.ensures.value) (c.compile_set.ensures c.in-Set.name)

pub compile_node-returns-in-Policy : goal.compile_node-returns-in-Policy
compile_node-returns-in-Policy g t c = rw (c.in-Policy.is, node_view-Policy, ← c.deref-in-Policy.ensures.value) (c.compile_policy.ensures c.in-Policy.name)

pub compile_set-returns-in_default : goal.compile_set-returns-in_default
compile_set-returns-in_default g t c name =
    set-never _ c.args.known.now node_view c.args.next (record { name = name; combine = c.args.combine; target = c.args.target.now }) c.args.of.now c.args.steps.now.items (rw c.in_default.is at c.in_ok-target.ensures)

pub compile_set-returns : goal.compile_set-returns
compile_set-returns g t c name =
    set-kept _ c.args.known.now node_view c.args.next (record { name = name; combine = c.args.combine; target = c.args.target.now }) c.args.of.now c.in-Some.target
    c.args.steps.now.items c.compile_nodes.new.steps.items c.close_node.new.steps.items (rw c.in-Some.is at c.in_ok-target.ensures)
    (rw c.in_ok-place.ensures.1 at c.in_ok-compile_nodes.ensures) (rw c.in_ok-place.ensures.0 at c.close_node.ensures)

pub compile_nodes-compile_node-requires : goal.compile_nodes-compile_node-requires
compile_nodes-compile_node-requires g t c κs within =
    (search (rules, at_most), (search rules, (search rules, omega (arith, c.requires, c.loop-node.invariant.next, total-some node_view c.args.nodes.now c.loop-node.node-index c.node-item.result c.loop-node-test.true c.node-item.is))))

pub compile_nodes-rule_count-next-requires : goal.compile_nodes-rule_count-next-requires
compile_nodes-rule_count-next-requires g t c = omega (arith, c.requires, total-some node_view c.args.nodes.now c.loop-node.node-index c.node-item.result c.loop-node-test.true c.node-item.is)

pub compile_nodes-overflow_add-next : goal.compile_nodes-overflow_add-next
compile_nodes-overflow_add-next g t c =
    omega (arith, c.requires, c.loop-node.invariant.next, c.rule_count-next.ensures, total-some node_view c.args.nodes.now c.loop-node.node-index c.node-item.result c.loop-node-test.true c.node-item.is)

pub compile_nodes-loop-node-preserved : goal.compile_nodes-loop-node-preserved
compile_nodes-loop-node-preserved g t c =
    let i = c.loop-node.node-index in
    let xs = c.args.nodes.now in
    let x = c.node-item.result in
    record {
      appended = all-more _ c.args.known.now (λ q met node. node_part q met (node_view node)) (λ q met node. own_node q met (node_view node)) c.args.next xs i x c.loop-node.next c.args.steps.now.items c.loop-node.steps.items
          c.compile_node.new.steps.items c.loop-node-test.true c.node-item.is
          (λ q met. c.loop-node.invariant.next ∙ ap (λ n. c.args.next + n) (sym (sizes_of-total node_view q met (take i xs))))
          c.loop-node.invariant.appended c.in_ok-compile_node.ensures;
      next = omega (arith, c.loop-node.invariant.next, c.rule_count-next.ensures, total-more node_view xs i x c.loop-node-test.true c.node-item.is);
    }

pub compile_nodes-returns : goal.compile_nodes-returns
compile_nodes-returns g t c =
    subst (λ (nodes : List _). Appends _ c.args.known.now (λ q met. AllStandFor q met c.args.next (map (λ node. node_part q met (node_view node)) nodes)) c.args.steps.now.items c.loop-node.steps.items)
    (take_all _ _ c.loop-node-test.false) c.loop-node.invariant.appended
