use Rattle.std.proofs.Common.{◌≡◌, ◌+◌, ◌++◌, ◌∷◌, [], Some, ap, subst, sym, ◌∙◌, take, map, length, List, arith}
use Rattle.std.specs.Arc.{arc_value}
use Rattle.audit_trail.specs.Records.{RecordData}
use Rattle.chronicle.proofs.TrailLemmas.{numbered, one_appended, same_front}
use Rattle.chronicle.proofs.governing.append_records.Goals as goal

pub loop-index-preserved : goal.loop-index-preserved
loop-index-preserved g c =
    let trail = c.args.trail.now in
    let before = c.args.rolled.now.items in
    let old = c.loop-index.rolled.items in
    let index = c.loop-index.index in
    let owner = c.in_ok-another.field-0 in
    let r : RecordData = arc_value c.in-Some.record.now in
    let there = numbered trail (c.first.result + c.from.result) index (Some r) (omega (arith, c.first.ensures.value, c.from.ensures)) c.in-Some.ensures.value in
    let grown = c.push_reserved.ensures.items ∙ ap (λ xs. xs ++ owner ∷ []) c.make_slot.ensures.items in
    record {
      appended = ap (map arc_value) grown ∙ one_appended arc_value before old owner trail.records index r c.loop-index.invariant.appended there c.in_ok-another.ensures;
      front = ap (take (length before)) grown ∙ same_front arc_value before old owner (take index trail.records) c.loop-index.invariant.appended c.loop-index.invariant.front;
    }
