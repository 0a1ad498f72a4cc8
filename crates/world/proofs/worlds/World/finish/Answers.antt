use Rattle.world.proofs.TendedLemmas.{tended_finished, tended_finish_refused}
use Rattle.world.proofs.WorldLemmas.{finds_all}
use Rattle.world.proofs.worlds.World.finish.Goals as goal

pub finish-requires : goal.finish-requires
finish-requires g c = record {
  found = λ s is ready. finds_all c.self.inside.plain c.self.inside.index c.args.number s c.found.result.now c.self.invariant.world.serves is ready c.found.ensures.complete;
}

pub invariant_of-self : goal.invariant_of-self
invariant_of-self g c = tended_finish_refused c.self.inside.plain c.finish.new.self c.self.inside.index c.self.inside.walks c.self.inside.kept c.self.invariant c.args.seat c.args.number _ c.in_err-answer.ensures.happens

pub invariant_of-self-2 : goal.invariant_of-self-2
invariant_of-self-2 g c = tended_finished c.self.inside.plain c.finish.new.self c.self.inside.index c.self.inside.walks c.self.inside.kept c.self.invariant c.close_search.new.self c.args.seat c.args.number c.in_ok-answer.answer c.in_ok-answer.ensures.happens c.close_search.ensures

pub returns-clause-metered : goal.returns-clause-metered
returns-clause-metered g c =
    let metered = c.finish.ensures.metered in
    rw (← c.self.view_is, ← c.found.ensures.value) metered
