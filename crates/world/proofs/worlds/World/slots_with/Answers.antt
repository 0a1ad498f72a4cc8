use Rattle.world.proofs.worlds.World.slots_with.Goals as goal

pub returns-clause-all : goal.returns-clause-all
returns-clause-all g c = rw (← c.self.view_is) c.slots_with.ensures.all

pub returns-clause-only : goal.returns-clause-only
returns-clause-only g c = rw (← c.self.view_is) c.slots_with.ensures.only
