use Rattle.std.proofs.Common.{refl}
use Rattle.std.proofs.lemmas.Result.{err_from_is_err_and}
use Rattle.search_tree.specs.Cases.TakesStep.{begins_anew, climbs, descends, is_held, places, wants_memory}
use Rattle.search_tree.proofs.AdvanceLemmas.{if_ok, makes_room}
use Rattle.search_tree.proofs.tree.Tree.make_step.Goals as goal

pub returns-in-Make-clause-ok : goal.returns-in-Make-clause-ok
returns-in-Make-clause-ok g c = if_ok c.make_room.result (λ made given. given (c.args.key, c.args.item)) c.make_room.ensures.ok

pub returns-in-Restart-clause-first : goal.returns-in-Restart-clause-first
returns-in-Restart-clause-first g c = rw c.restart.ensures.step (begins_anew c.in-Restart.ensures.first refl c.restart.ensures.at)

pub returns-in-Climb-clause-first : goal.returns-in-Climb-clause-first
returns-in-Climb-clause-first g c = climbs c.in-Climb.ensures.first refl

pub returns-in_ok-descend-in-Descend-clause-first : goal.returns-in_ok-descend-in-Descend-clause-first
returns-in_ok-descend-in-Descend-clause-first g c = descends c.in-Descend.ensures.first.1 (rw (c.in-Descend.ensures.first.0, c.key_of.ensures) at c.in_ok-descend-in-Descend.ensures.step)

pub returns-in_err-descend-in-Descend-clause-first : goal.returns-in_err-descend-in-Descend-clause-first
returns-in_err-descend-in-Descend-clause-first g c =
    let p = err_from_is_err_and c.from_residual.result c.from_residual.ensures.1 in
    rw (p.1, p.2) (wants_memory c.in-Descend.ensures.first.1 c.in_err-descend-in-Descend.ensures.err)

pub returns-in-Hold-clause-first : goal.returns-in-Hold-clause-first
returns-in-Hold-clause-first g c = is_held c.in-Hold.ensures.first.1 c.in-Hold.ensures.first.2 refl

pub returns-in-Place-clause-first : goal.returns-in-Place-clause-first
returns-in-Place-clause-first g c = places c.in-Place.ensures.first.1 c.in-Place.ensures.first.2 c.place.ensures.step refl

pub returns-in-Make-clause-first : goal.returns-in-Make-clause-first
returns-in-Make-clause-first g c = makes_room g.C.KeyClass.class c.args.self.now c.make_room.new.self c.args.at _ _ _ _ (c.args.key, c.args.item) c.in-Make.room _ c.in-Make.ensures.first c.make_room.ensures.made
