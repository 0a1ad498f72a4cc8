use Rattle.drawing.proofs.DrawingLemmas.{draws_all, draws_front, draws_unflushed}
use Rattle.drawing.proofs.drawings.draw.Goals as goal

pub returns-in_err-write_document : goal.returns-in_err-write_document
returns-in_err-write_document g c =
    let is = rw c.as_slice-2.ensures.value at c.area_of-area.ensures in
    let same = rw c.as_slice.ensures.value at c.in_ok-classes.ensures in
    let front = rw (c.as_slice-3.ensures.value, c.as_slice-4.ensures.value) at c.in_err-write_document.ensures in
    draws_front _ _ c.in_ok-marks-3.marks.items _ _ _ _ _ _ c.area_of-area.result c.in_ok-classes.classes.items c.in_ok-marks.ensures.items c.in_ok-marks-2.ensures c.in_ok-marks-3.ensures is same
    c.from_residual-in_err-write_document.result _ c.from_residual-in_err-write_document.ensures.1 front

pub returns-in_err-flush : goal.returns-in_err-flush
returns-in_err-flush g c =
    let is = rw c.as_slice-2.ensures.value at c.area_of-area.ensures in
    let same = rw c.as_slice.ensures.value at c.in_ok-classes.ensures in
    let written = rw (c.as_slice-3.ensures.value, c.as_slice-4.ensures.value) at c.in_ok-write_document.ensures in
    draws_unflushed _ _ c.in_ok-marks-3.marks.items _ _ _ _ _ _ c.area_of-area.result c.in_ok-classes.classes.items c.in_ok-marks.ensures.items c.in_ok-marks-2.ensures c.in_ok-marks-3.ensures is same
    c.from_residual-in_err-flush.result _ _ c.from_residual-in_err-flush.ensures.1 written c.in_err-flush.ensures

pub returns : goal.returns
returns g c =
    let is = rw c.as_slice-2.ensures.value at c.area_of-area.ensures in
    let same = rw c.as_slice.ensures.value at c.in_ok-classes.ensures in
    let written = rw (c.as_slice-3.ensures.value, c.as_slice-4.ensures.value) at c.in_ok-write_document.ensures in
    draws_all _ _ c.in_ok-marks-3.marks.items _ _ _ _ _ _ c.area_of-area.result c.in_ok-classes.classes.items c.in_ok-marks.ensures.items c.in_ok-marks-2.ensures c.in_ok-marks-3.ensures is same
    _ written c.in_ok-flush.ensures
