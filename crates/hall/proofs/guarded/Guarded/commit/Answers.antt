use Rattle.std.proofs.Common.{◌<◌, Some, ap, subst, sym, ◌∙◌}
use Rattle.features.specs.declared.actors.Subject.{Subject}
use Rattle.chronicle.specs.Noting.{IsJudged}
use Rattle.decision.specs.Deciders.{DeciderData}
use Rattle.hall.proofs.Governed.{decider_stays}
use Rattle.hall.proofs.Level.{one_more, policy_at}
use Rattle.hall.proofs.Lasts.{pushed_last}
use Rattle.hall.proofs.Seating.{one_subject}
use Rattle.hall.proofs.guarded.Guarded.commit.Goals as goal

pub returns-clause-receipt : goal.returns-clause-receipt
returns-clause-receipt g c =
    let done = c.in_ok-outcome.ensures.ok in
    let own = one_subject c.args.seat c.args.self.now.chronicle.seats done.subject c.args.subject.now done.seated c.in_ok-is_seat_of.ensures in
    let last = rw done.told at c.note-receipt.ensures.last in
    rw (← own) (pushed_last c.args.self.now.chronicle.records _ _ last)

pub invariant_of-self-2-clause-edition : goal.invariant_of-self-2-clause-edition
invariant_of-self-2-clause-edition g c =
    let old = c.args.self.now in
    let done = c.in_ok-outcome.ensures.ok in
    let stays = decider_stays old.chronicle.state done.subject c.args.changes.now c.in_ok-outcome.outcome in
    rw done.told (subst (λ (d : DeciderData). 0 < d.edition) (sym stays) old.edition)

pub note-receipt-requires-clause-policy : goal.note-receipt-requires-clause-policy
note-receipt-requires-clause-policy g c =
    let old = c.args.self.now in
    let done = c.in_ok-outcome.ensures.ok in
    let stays = decider_stays old.chronicle.state done.subject c.args.changes.now c.in_ok-outcome.outcome in
    rw done.told (policy_at old.chronicle c.args.lobby.now.tray old.seen c.requires.level old.present ∙ ap Some (sym stays))

pub returns-clause-judged : goal.returns-clause-judged
returns-clause-judged g c =
    let old = c.args.self.now.chronicle in
    let done = c.in_ok-outcome.ensures.ok in
    let own = one_subject c.args.seat old.seats done.subject c.args.subject.now done.seated c.in_ok-is_seat_of.ensures in
    record {
      state = old.state;
      judged = subst (λ (s : Subject). IsJudged s c.args.changes.now old.state c.in_ok-outcome.outcome) own done.judged;
    }

pub note-receipt-requires-clause-told : goal.note-receipt-requires-clause-told
note-receipt-requires-clause-told g c =
    let old = c.args.self.now in
    one_more c.args.lobby.now.tray old.seen old.chronicle _ _ c.requires.level old.present (ap (λ d. d.records) c.in_ok-outcome.ensures.ok.told)
