use Rattle.std.proofs.Common.{◌≡◌, ◌+◌, ◌-◌, ◌++◌, ◌∷◌, [], Some, ℕ, List, ap, arith, drop, length, map, min, refl, sym, ◌∙◌, take}
use Rattle.std.specs.Vec.{vec_capacity, vec_len}
use Rattle.std.proofs.lemmas.List.{length-drop, take_min}
use Rattle.std.specs.Arc.{arc_value}
use Rattle.audit_trail.specs.Records.{RecordData}
use Rattle.chronicle.proofs.ListLemmas.{slice_get-drop}
use Rattle.chronicle.proofs.TrailLemmas.{one_appended}
use Rattle.chronicle.proofs.chronicles.Chronicle.copy_from.Goals as goal

pub loop-index-preserved : goal.loop-index-preserved
loop-index-preserved g c =
    let records = c.args.self.now.records in
    let before = c.args.into.now.items in
    let old = c.loop-index.into.items in
    let index = c.loop-index.index in
    let owner = c.in_ok-another.field-0 in
    let r : RecordData = arc_value c.in-Some.record.now in
    let there = slice_get-drop c.args.place records index (c.args.place + index) refl ∙ sym c.in-Some.ensures.value in
    record {
      copied = ap (map arc_value) c.push_reserved.ensures.items ∙ one_appended arc_value before old owner (drop c.args.place records) index r c.loop-index.invariant.copied there c.in_ok-another.ensures;
      filled = omega (arith, c.push_reserved.ensures.len, c.loop-index.invariant.filled);
      room = c.push_reserved.ensures.capacity ∙ c.loop-index.invariant.room;
    }

pub returns-clause-ok : goal.returns-clause-ok
returns-clause-ok g c =
    let behind = drop c.args.place c.args.self.now.records in
    let most = min c.args.most (vec_capacity c.args.into.now - vec_len c.args.into.now) in
    let all : c.loop-index.index ≡ min most (length behind) =
    omega (arith, c.loop-index-test.false, c.loop-index.auto.index-end, c.most_copied-count.ensures, c.room_in.ensures, c.len.ensures, length-drop c.args.place c.args.self.now.records) in
    c.loop-index.invariant.copied ∙ ap (λ (xs : List RecordData). map arc_value c.args.into.now.items ++ xs) (ap (λ (n : ℕ). take n behind) all ∙ take_min most behind)
