use Rattle.std.proofs.Common.{arith, refl, ap, Option}
use Rattle.plain_world.specs.Answers.{DenialData}
use Rattle.plain_world.specs.Events.{Ended}
use Rattle.plain_world.specs.declared.outcomes.Outcome.TheVariants as outcomes
use Rattle.plain_world.proofs.EventLemmas.{handed_on}
use Rattle.plain_world.proofs.SoundLemmas.{keeps_added}
use Rattle.plain_world.proofs.worlds.PlainWorld.turn_away.Goals as goal

pub invariant_of-self-in_err-denial : goal.invariant_of-self-in_err-denial
invariant_of-self-in_err-denial g c = rw (c.in_ok-entry.ensures.records) c.self.invariant

pub returns-in_err-denial : goal.returns-in_err-denial
returns-in_err-denial g c =
    handed_on Ended c.from_residual-in_err-denial.result _ _ _ _ c.from_residual-in_err-denial.ensures.1
    (rw (← c.self.view_is, c.in_ok-entry.ensures.records, c.in_ok-entry.ensures.first) refl)

pub put-requires-clause-limit : goal.put-requires-clause-limit
put-requires-clause-limit g c =
    let below = rw (← c.self.view_is) at c.requires.below in
    rw (c.in_ok-entry.ensures.records) (omega (arith, below, c.self.invariant.records))

pub invariant_of-self-2 : goal.invariant_of-self-2
invariant_of-self-2 g c =
    let seated = rw (← c.self.view_is) at c.requires.seated in
    let judged = rw (← c.self.view_is) at c.requires.judged in
    let below = rw (← c.self.view_is) at c.requires.below in
    rw (c.put.ensures.records, c.in_ok-entry.ensures.records, c.in_ok-entry.ensures.entry, c.turned_away-told.ensures, c.in_ok-list.ensures)
    (keeps_added _ _ _ _ _ _ c.self.invariant below (seated, (c.args.question.now, judged)))

pub returns : goal.returns
returns g c =
    rw (← c.self.view_is, c.put.ensures.records, c.in_ok-entry.ensures.records, c.in_ok-entry.ensures.entry, c.turned_away-told.ensures, c.in_ok-list.ensures, c.put.ensures.first, c.in_ok-entry.ensures.first, c.end.ensures)
    (ap (λ (d : Option DenialData). Ended (outcomes.Refused c.args.refusal.now d)) (rw (c.shared.ensures) at c.in_ok-denial.ensures), refl)
