use Rattle.plain_world.proofs.FindingLemmas.{names_kept}
use Rattle.plain_world.proofs.worlds.PlainWorld.answer.Goals as goal

pub answer_from-requires-clause-rise : goal.answer_from-requires-clause-rise
answer_from-requires-clause-rise g c = rw (c.as_slice.ensures.value) c.in_ok-ids.ensures.rises

pub answer_from-requires-clause-all : goal.answer_from-requires-clause-all
answer_from-requires-clause-all g c =
    rw (c.as_slice.ensures.value) (names_kept c.args.window c.args.self.now.state.features _ _ c.in_ok-ids.ensures.keeps c.requires)
