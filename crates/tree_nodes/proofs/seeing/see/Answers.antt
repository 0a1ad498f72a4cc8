use Rattle.std.proofs.Common.{arith, length-append}
use Rattle.tree_theory.specs.Nodes.{followed}
use Rattle.tree_nodes.proofs.VisitLemmas.{seen_all, followed_few}
use Rattle.tree_nodes.proofs.seeing.see.Goals as goal

pub push_children-requires : goal.push_children-requires
push_children-requires g c =
    let few = followed_few c.args.node.now c.args.memo in
    let long = length-append c.args.progress.now.stack (followed c.args.node.now c.args.memo) in
    rw c.go_right.ensures (omega (arith, few, long, c.requires.stack))

pub add_matching-requires : goal.add_matching-requires
add_matching-requires g c = rw (c.push_children.ensures.is, c.go_right.ensures) c.requires.found

pub returns : goal.returns
returns g c = seen_all _ _ _ _ _ _ _ _ _ c.go_right.ensures c.push_children.ensures c.add_matching.ensures.matching c.add_matching.ensures.most
