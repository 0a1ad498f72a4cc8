use Rattle.tree_nodes.proofs.Adoptions.{adopted_next}
use Rattle.tree_nodes.proofs.setters.adopt.Goals as goal

pub loop-child-preserved : goal.loop-child-preserved
loop-child-preserved g c = adopted_next _ _ _ c.args.children.now c.loop-child.child-index _ _ c.loop-child-test.true c.loop-child.invariant c.set_parent.ensures.changed c.set_parent.ensures.places
