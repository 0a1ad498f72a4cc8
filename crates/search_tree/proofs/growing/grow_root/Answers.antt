use Rattle.std.proofs.Common.{sym}
use Rattle.tree_nodes.specs.Bodies.{plain_body}
use Rattle.search_tree.proofs.GrowSteps.{same_full, may_rise, root_low, grown_done}
use Rattle.search_tree.proofs.growing.grow_root.Goals as goal

pub put_below-requires-clause-rise : goal.put_below-requires-clause-rise
put_below-requires-clause-rise g c = may_rise _ _ c.requires.full c.requires.level

pub returns-clause-ok : goal.returns-clause-ok
returns-clause-ok g c =
    let full = same_full _ _ c.requires.full c.in-Some.node.now (sym c.in-Some.ensures.value) in
    grown_done _ _ _ _ _ c.args.seq full (root_low _ _ full c.requires.level) (plain_body c.in_ok-left.field-0.left) (plain_body c.in_ok-left.field-0.right) c.in_ok-left.ensures.halved c.in_ok-left.ensures.picked _ _ _ _ _ _ c.in_ok-one.ensures c.in_ok-two.ensures c.put_below.ensures
