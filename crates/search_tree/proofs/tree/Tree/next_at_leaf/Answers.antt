use Rattle.std.proofs.Common.{sym}
use Rattle.search_tree.proofs.NextLemmas.{free_here, held_by, held_here}
use Rattle.search_tree.proofs.tree.Tree.next_at_leaf.Goals as goal

pub returns-in-Some-holder_of-clause-may : goal.returns-in-Some-holder_of-clause-may
returns-in-Some-holder_of-clause-may g c = rw (← c.self.view_is) (held_by _ _ c.self.invariant c.attached.result.now.numbers c.args.item c.in-Some-holder_of.number c.in-Some-holder_of.ensures.held)

pub returns-in-Some-holder_of-clause-first : goal.returns-in-Some-holder_of-clause-first
returns-in-Some-holder_of-clause-first g c = rw (← c.self.view_is) (held_here _ _ c.self.invariant c.args.at c.args.item c.in-Some.node.now (sym c.in-Some.ensures.value) (rw (← c.self.view_is) at c.requires) c.attached.result.now.numbers c.attached.ensures c.in-Some-holder_of.number c.in-Some-holder_of.ensures.held)

pub next_when_free-requires : goal.next_when_free-requires
next_when_free-requires g c =
    rw (← c.self.view_is) (c.in-Some.node.now, free_here _ _ c.self.invariant c.args.at c.args.item c.in-Some.node.now (sym c.in-Some.ensures.value) (rw (← c.self.view_is) at c.requires) c.attached.result.now.numbers c.attached.ensures c.in-None.ensures.free)
