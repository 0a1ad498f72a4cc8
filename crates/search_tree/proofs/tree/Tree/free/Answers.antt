use Rattle.search_tree.proofs.TendSteps.{freed_sound, freed_same, freed_call, freed_slots, freed_step}
use Rattle.search_tree.proofs.tree.Tree.free.Goals as goal

pub invariant_of-self : goal.invariant_of-self
invariant_of-self g c = freed_sound _ _ _ c.args.at (rw (← c.self.view_is) at c.requires) c.remove.ensures.changes c.self.invariant

pub returns-clause-contents : goal.returns-clause-contents
returns-clause-contents g c = rw (← c.self.view_is) (freed_same _ _ _ c.args.at (rw (← c.self.view_is) at c.requires) c.remove.ensures.changes c.self.invariant)

pub returns-clause-tended : goal.returns-clause-tended
returns-clause-tended g c = rw (← c.self.view_is) (freed_call _ _ _ c.args.at (rw (← c.self.view_is) at c.requires) c.remove.ensures.changes c.self.invariant c.remove.result c.remove.ensures.value c.remove.ensures.taken c.remove.ensures.slots)

pub returns-clause-step : goal.returns-clause-step
returns-clause-step g c = rw (← c.self.view_is) (freed_step _ _ _ c.args.at (rw (← c.self.view_is) at c.requires) c.remove.ensures.changes c.self.invariant)

pub returns-clause-freed : goal.returns-clause-freed
returns-clause-freed g c = rw (← c.self.view_is) (freed_slots _ _ _ c.args.at (rw (← c.self.view_is) at c.requires) c.remove.ensures.changes c.self.invariant c.remove.result c.remove.ensures.value c.remove.ensures.taken)
