use Rattle.std.proofs.Common.{ap}
use Rattle.hall.proofs.Lasts.{pushed_last}
use Rattle.hall.proofs.Level.{one_more}
use Rattle.hall.proofs.Seating.{one_subject}
use Rattle.hall.proofs.guarded.Guarded.search_whole.Goals as goal

pub returns-clause-subject : goal.returns-clause-subject
returns-clause-subject g c =
    one_subject c.args.seat c.take_in.new.self.chronicle.seats _ c.args.subject.now c.in_ok-answer.ensures.ok.seated c.in_ok-is_seat_of.ensures

pub returns-clause-receipt : goal.returns-clause-receipt
returns-clause-receipt g c =
    let last = rw c.in_ok-answer.ensures.ok.told at c.note-receipt.ensures.last in
    pushed_last c.take_in.new.self.chronicle.records _ _ last

pub note-receipt-requires-clause-told : goal.note-receipt-requires-clause-told
note-receipt-requires-clause-told g c =
    let old = c.take_in.new.self in
    one_more c.take_in.new.lobby.tray old.seen old.chronicle _ _ c.in_ok-take_in.ensures.level old.present (ap (λ d. d.records) c.in_ok-answer.ensures.ok.told)
