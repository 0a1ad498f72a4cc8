use Rattle.std.proofs.Common.{◌≡◌, sym, ap, ◌∙◌, refl}
use Rattle.plain_world.specs.Answers.{AnswerData}
use Rattle.plain_world.specs.Events.{Rows}
use Rattle.plain_world.specs.Admitting.{may_finish}
use Rattle.plain_world.proofs.AdmittedLemmas.{finisher}
use Rattle.plain_world.proofs.EventLemmas.{admitted}
use Rattle.plain_world.proofs.SoundLemmas.{keeps_added}
use Rattle.plain_world.proofs.worlds.PlainWorld.finish_search.Goals as goal

pub answer-requires : goal.answer-requires
answer-requires g c =
    let who = finisher c.args.seat c.args.number c.args.self.now (c.in_ok-subject.subject, c.in_ok-subject.running) (sym c.may_finish.ensures.value ∙ c.in_ok-subject.was) in
    c.requires.found c.in_ok-subject.running who.running who.ready

pub invariant_of-self-2 : goal.invariant_of-self-2
invariant_of-self-2 g c =
    let seated = rw (← c.self.view_is) at c.in_ok-subject.ensures.seated in
    let below = rw (← c.self.view_is) at c.in_ok-subject.ensures.below in
    let listed = rw (← c.self.view_is) at c.in_ok-answer.ensures.told.0 in
    let told = c.in_ok-answer.ensures.told.1 in
    let es : c.in_ok-answer.answer.subject ≡ c.in_ok-subject.subject = ap (λ (a : AnswerData). a.subject) told in
    let ew : c.in_ok-answer.answer.window ≡ c.in_ok-subject.running.window = ap (λ (a : AnswerData). a.window) told in
    rw (c.put.ensures.records, c.in_ok-entry.ensures.records, c.in_ok-entry.ensures.entry, c.in_ok-told.ensures, es, ew)
    (keeps_added _ _ _ _ _ _ c.self.invariant below (seated, (c.in_ok-answer.answer.rows, listed, refl, refl)))

pub returns-clause-happens : goal.returns-clause-happens
returns-clause-happens g c =
    let e = sym c.may_finish.ensures.value ∙ c.in_ok-subject.was in
    let told = c.in_ok-answer.ensures.told.1 in
    let es : c.in_ok-answer.answer.subject ≡ c.in_ok-subject.subject = ap (λ (a : AnswerData). a.subject) told in
    let ew : c.in_ok-answer.answer.window ≡ c.in_ok-subject.running.window = ap (λ (a : AnswerData). a.window) told in
    admitted (may_finish c.args.seat c.args.number c.args.self.now) (c.in_ok-subject.subject, c.in_ok-subject.running) _ _ _ _ e (
      c.in_ok-answer.answer.rows,
      c.in_ok-answer.ensures.told.0,
      ap Rows told,
      rw (← c.self.view_is, c.put.ensures.records, c.in_ok-entry.ensures.records, c.in_ok-entry.ensures.entry, c.in_ok-told.ensures, c.put.ensures.first, c.in_ok-entry.ensures.first, c.forget.ensures, es, ew) refl,
    )
