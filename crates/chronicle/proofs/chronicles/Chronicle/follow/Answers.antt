use Rattle.std.proofs.Common.{◌≡◌, ◌≢◌, ◌≤◌, Bool, false, IsTrue, map, take, None, Some, [], slice_get, length, List, ◌+◌, sym, ap, subst, ◌∙◌, arith}
use Rattle.std.proofs.lemmas.List.{length-map}
use Rattle.std.proofs.lemmas.Bool.{ltb-false}
use Rattle.std.proofs.lemmas.Option.{slice_get_past}
use Rattle.std.specs.Arc.{arc_value}
use Rattle.audit_trail.specs.Records.{RecordData}
use Rattle.audit_trail.specs.Calls.{calls_of}
use Rattle.chronicle.specs.Comparing.{AreTold}
use Rattle.chronicle.proofs.TrailLemmas.{item_seen, record_passed, record_told, record_parts}
use Rattle.chronicle.proofs.chronicles.Chronicle.follow.Goals as goal
use Rattle.chronicle.proofs.chronicles.Chronicle.follow.Goals.{then-seat+in-Some-get+then-eq, else-seat}

not_next : (b : Bool) (x y : RecordData) → b ≡ false → (x ≡ y → IsTrue b) → Some x ≢ Some y
not_next b x y e exact = λ same. absurd (refuted b e (exact (some_same x y same)))
  where
    some_same : (x y : RecordData) → Some x ≡ Some y → x ≡ y
    some_same x y e = cc

    refuted : (b : Bool) → b ≡ false → IsTrue b → ⊥
    refuted b e h = cc

pub returns-in_default-get-clause-err : goal.returns-in_default-get-clause-err
returns-in_default-get-clause-err g c =
    let records = c.args.self.now.records in
    let receipts : List RecordData = map arc_value c.args.receipts.now in
    let r : RecordData = arc_value c.in-Some.record.now in
    let there = sym c.in-Some.ensures.value in
    let own : r.seat ≡ c.args.seat = cc (c.seat.ensures, c.deref.ensures, c.if-seat.true) in
    let past : length c.args.receipts.now ≤ c.loop-place.told = ltb-false c.loop-place.told (length c.args.receipts.now) (sym c.in_default-get.ensures.lookup.0) in
    let missing : slice_get receipts c.loop-place.told ≡ None = slice_get_past receipts c.loop-place.told (simp length-map past) in
    record_parts records c.loop-place.place c.loop-place.told c.args.seat [] receipts r there own c.loop-place.invariant (λ e. cc)

pub returns-else-eq-clause-err : goal.returns-else-eq-clause-err
returns-else-eq-clause-err g c =
    let records = c.args.self.now.records in
    let receipts : List RecordData = map arc_value c.args.receipts.now in
    let r : RecordData = arc_value c.in-Some.record.now in
    let receipt : RecordData = arc_value c.in-Some-get.receipt.now in
    let there = sym c.in-Some.ensures.value in
    let own : r.seat ≡ c.args.seat = cc (c.seat.ensures, c.deref.ensures, c.if-seat.true) in
    let next : slice_get receipts c.loop-place.told ≡ Some receipt =
    item_seen arc_value c.args.receipts.now c.loop-place.told c.in-Some-get.receipt.now (omega (arith, c.in-Some-get.ensures.lookup.3.0)) c.in-Some-get.ensures.lookup.1 in
    let exact : receipt ≡ r → IsTrue c.eq.result = λ e. c.eq.ensures.exact.1 (c.deref-then-seat.ensures ∙ e ∙ sym c.deref-then-seat-2.ensures) in
    record_parts records c.loop-place.place c.loop-place.told c.args.seat [] receipts r there own c.loop-place.invariant
    (λ e. not_next c.eq.result receipt r c.if-eq.false exact (sym next ∙ e))

pub loop-place-preserved : goal.loop-place-preserved
loop-place-preserved g c =
    let records = c.args.self.now.records in
    let receipts : List RecordData = map arc_value c.args.receipts.now in
    let r : RecordData = arc_value c.in-Some.record.now in
    let there = sym c.in-Some.ensures.value in
    let seat : c.seat.result ≡ r.seat = c.seat.ensures ∙ ap (λ (x : RecordData). x.seat) c.deref.ensures in
    let seen = calls_of c.args.seat (take (c.loop-place.place + 1) records) in
    elim c.if-seat.branch [
      | then-seat+in-Some-get+then-eq w ↦
          let receipt : RecordData = arc_value w.in-Some-get.receipt.now in
          let next : slice_get receipts c.loop-place.told ≡ Some receipt =
          item_seen arc_value c.args.receipts.now c.loop-place.told w.in-Some-get.receipt.now (omega (arith, w.in-Some-get.ensures.lookup.3.0)) w.in-Some-get.ensures.lookup.1 in
          let same : receipt ≡ r = sym w.deref-then-seat.ensures ∙ w.eq.ensures.exact.0 w.if-eq.true ∙ w.deref-then-seat-2.ensures in
          subst (λ (k : _). AreTold k seen receipts) (sym w.told-is)
          (record_told records c.loop-place.place c.loop-place.told c.args.seat [] receipts r there (sym seat ∙ w.if-seat.true) c.loop-place.invariant (next ∙ ap Some same))
      | else-seat w ↦
          subst (λ (k : _). AreTold k seen receipts) (sym w.told-is)
          (record_passed records c.loop-place.place c.loop-place.told c.args.seat [] receipts r there (λ e. w.if-seat.false (seat ∙ e)) c.loop-place.invariant)
    ]
