use Rattle.std.proofs.Common.{sym, ◌∙◌}
use Rattle.tree_nodes.specs.Bodies.{plain_body}
use Rattle.search_tree.proofs.SplitSteps.{split_done}
use Rattle.search_tree.proofs.splitting.split_node.Goals as goal

pub returns-clause-ok : goal.returns-clause-ok
returns-clause-ok g c = split_done _ _ _ _ _ _ _ _ c.in-Some.node.now c.in_ok-right.right (plain_body c.in_ok-left.field-0.left) (plain_body c.in_ok-left.field-0.right) c.deref.result.now (sym c.in-Some.ensures.value) (sym c.place.ensures ∙ c.in-Some-parent_of.ensures.some) c.in_ok-left.ensures.halved c.in_ok-left.ensures.picked c.in_ok-right.ensures (c.deref.ensures.value ∙ (c.in_ok-moved.ensures.items ∙ c.children.ensures.value)) c.put_over-right.ensures.put c.put_over-right.ensures.more c.leave_left.ensures
