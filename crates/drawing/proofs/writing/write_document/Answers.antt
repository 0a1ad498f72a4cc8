use Rattle.drawing.specs.Pictures.{body_text, head_text}
use Rattle.drawing.proofs.WritingLemmas.{took_first, took_then}
use Rattle.drawing.proofs.writing.write_document.Goals as goal

pub returns-in_err-write_head : goal.returns-in_err-write_head
returns-in_err-write_head g c =
    took_first c.from_residual.result c.from_residual.ensures.0 _ _ (head_text c.args.area) (body_text c.args.area c.args.classes.now c.args.marks.now) c.in_err-write_head.ensures

pub returns : goal.returns
returns g c =
    took_then c.write_body.result _ _ _ (head_text c.args.area) (body_text c.args.area c.args.classes.now c.args.marks.now) c.in_ok-write_head.ensures c.write_body.ensures
