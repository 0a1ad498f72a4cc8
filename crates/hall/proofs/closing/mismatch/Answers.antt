use Rattle.std.proofs.Common.{◌≡◌, ◌<◌, ◌≤◌, List, length, take, get_or, map, ap, sym, subst, ◌∙◌}
use Rattle.std.specs.Prelude.{All}
use Rattle.std.specs.Arc.{arc_value}
use Rattle.std.proofs.lemmas.List.{take_all, take_more}
use Rattle.std.proofs.lemmas.List.Elements.{All-push}
use Rattle.hall.specs.Seats.{SeatData, IsKeptBy}
use Rattle.hall.proofs.closing.mismatch.Goals as goal

pub loop-seat-preserved : goal.loop-seat-preserved
loop-seat-preserved g c =
    let xs = c.args.seats.now.items in
    let i = c.loop-seat.seat-index in
    let s : SeatData = c.seat-item.result in
    let records = c.args.chronicle.now.records in
    let lt : i < length xs = subst (λ (l : List SeatData). i < length l) c.deref-seat-items.ensures.value c.loop-seat-test.true in
    let here : get_or xs i s ≡ s = sym (c.seat-item.is ∙ ap (λ (l : List SeatData). get_or l i s) c.deref-seat-items.ensures.value) in
    let kept : IsKeptBy records s = rw (← c.seat.view_is) (c.in-None.ensures.same ∙ ap (λ l. map arc_value l) c.as_slice.ensures.value) in
    rw (take_more xs i s lt, here) (All-push (IsKeptBy records) (take i xs) s c.loop-seat.invariant kept)

pub returns-clause-same : goal.returns-clause-same
returns-clause-same g c =
    let xs = c.args.seats.now.items in
    let i = c.loop-seat.seat-index in
    let le : length xs ≤ i = subst (λ (l : List SeatData). length l ≤ i) c.deref-seat-items.ensures.value c.loop-seat-test.false in
    subst (λ (l : List SeatData). All (IsKeptBy c.args.chronicle.now.records) l) (take_all i xs le) c.loop-seat.invariant
