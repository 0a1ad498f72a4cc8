use Rattle.world.proofs.TendLemmas.{tended_same}
use Rattle.world.proofs.worlds.World.tend_next.Goals as goal

pub returns-clause-plain : goal.returns-clause-plain
returns-clause-plain g c = tended_same 0 _ _ _ c.tend-tended.ensures.happens
