use Rattle.plain_world.proofs.worlds.PlainWorld.finish.Goals as goal

pub finish_search-requires : goal.finish_search-requires
finish_search-requires g c = rw (c.prepare_for.ensures) c.requires
