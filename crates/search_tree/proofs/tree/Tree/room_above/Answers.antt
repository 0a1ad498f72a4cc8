use Rattle.std.proofs.Common.{sym, ◌∙◌}
use Rattle.search_tree.proofs.CaseLemmas.{begins_there, looks_above, unmarked}
use Rattle.search_tree.proofs.tree.Tree.room_above.Goals as goal

pub returns-in-Some-parent_of-clause-first : goal.returns-in-Some-parent_of-clause-first
returns-in-Some-parent_of-clause-first g c = rw (← c.self.view_is) (λ change comes. begins_there _ _ change c.args.left c.in-Some-parent_of.parent (record { node = c.in-Some.node.now; is = sym c.in-Some.ensures.value; linked = sym c.place.ensures ∙ c.in-Some-parent_of.ensures.some }) ((rw (← c.self.view_is) at c.room_at.ensures.first) change comes))

pub returns-in-Some-parent_of-clause-higher : goal.returns-in-Some-parent_of-clause-higher
returns-in-Some-parent_of-clause-higher g c = rw (← c.self.view_is) (λ level from. looks_above _ _ c.self.invariant level c.args.left c.in-Some-parent_of.parent c.room_at.result from (record { node = c.in-Some.node.now; is = sym c.in-Some.ensures.value; linked = sym c.place.ensures ∙ c.in-Some-parent_of.ensures.some }) (rw (← c.self.view_is) at c.requires) (rw (← c.self.view_is) at c.room_at.ensures.looks))

pub returns-in-None-clause-higher : goal.returns-in-None-clause-higher
returns-in-None-clause-higher g c = rw (← c.self.view_is) (λ level from. absurd (unmarked _ _ c.args.left c.in-Some.node.now (sym c.in-Some.ensures.value) (rw c.place.ensures at c.in-None.ensures.none) level from))
