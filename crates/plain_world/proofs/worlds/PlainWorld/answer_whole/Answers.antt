use Rattle.std.proofs.Common.{◌≡◌, sym, ap, ◌∙◌}
use Rattle.audit_trail.specs.Legal.{subject_of}
use Rattle.plain_world.specs.Answers.{AnswerData}
use Rattle.plain_world.proofs.FindingLemmas.{names_kept}
use Rattle.plain_world.proofs.RunLemmas.{given_ok}
use Rattle.plain_world.proofs.worlds.PlainWorld.answer_whole.Goals as goal

pub answer_from-requires-clause-rise : goal.answer_from-requires-clause-rise
answer_from-requires-clause-rise g c = rw (c.as_slice.ensures.value) c.put_in_order.ensures.rises

pub answer_from-requires-clause-all : goal.answer_from-requires-clause-all
answer_from-requires-clause-all g c =
    rw (c.as_slice.ensures.value) (names_kept c.args.window c.args.self.now.state.features _ _ c.put_in_order.ensures.keeps c.requires)

pub returns-clause-answer : goal.returns-clause-answer
returns-clause-answer g c =
    let told = c.in_ok-answer.ensures.told in
    let es : c.in_ok-answer.answer.subject ≡ c.in_ok-subject.subject = ap (λ (a : AnswerData). a.subject) told.1 in
    let ew : c.in_ok-answer.answer.window ≡ c.args.window = ap (λ (a : AnswerData). a.window) told.1 in
    let seated = given_ok (subject_of c.args.seat c.args.self.now.seats) c.in_ok-subject.subject (sym c.subject_at.ensures ∙ c.in_ok-subject.was) in
    record { seated = rw es seated; sought = ew; decider = ap (λ (a : AnswerData). a.decider) told.1; listed = rw (es, ew) told.0 }
