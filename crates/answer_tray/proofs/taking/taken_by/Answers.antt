use Rattle.std.specs.Arc.{arc_value}
use Rattle.plain_world.specs.Answering.{IsLegalAnswer}
use Rattle.chronicle.proofs.TrailLemmas.{item_seen}
use Rattle.answer_tray.proofs.TrayLemmas.{here, one_taken}
use Rattle.answer_tray.proofs.taking.taken_by.Goals as goal

pub take_in-requires : goal.take_in-requires
take_in-requires g c =
    let old = c.args.chronicle.now in
    let legal = here arc_value (IsLegalAnswer old.seats old.state) c.args.answers.now c.loop-place.place c.index-answers-place.result c.loop-place-test.true c.index-answers-place.is c.requires in
    rw (c.loop-place.invariant, c.in-Ok.ensures) legal

pub loop-place-preserved : goal.loop-place-preserved
loop-place-preserved g c =
    let entry = c.index-answers-place.result in
    let at = item_seen arc_value c.args.answers.now c.loop-place.place entry c.loop-place-test.true c.index-answers-place.is in
    one_taken c.args.chronicle.now c.loop-place.chronicle c.take_in.new.self _ c.loop-place.place (arc_value entry) c.loop-place.invariant (rw c.in-Ok.ensures at c.in_default.ensures.ok) at
