use Rattle.std.proofs.Common.{◌∙◌}
use Rattle.search_tree.proofs.Openings.{closed_sound, closed_call}
use Rattle.search_tree.proofs.tree.Tree.close_search.Goals as goal

pub invariant_of-self : goal.invariant_of-self
invariant_of-self g c = rw c.drop_progress.ensures (closed_sound _ _ c.self.invariant c.leave.ensures.left)

pub returns : goal.returns
returns g c = rw (← c.self.view_is, c.drop_progress.ensures) (closed_call _ _ c.self.invariant c.leave.ensures.left (λ ran. c.leave.ensures.count (c.leave.ensures.ran ∙ ran)) (λ rests. c.leave.ensures.none (c.leave.ensures.ran ∙ rests)))
