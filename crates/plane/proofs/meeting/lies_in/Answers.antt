use Rattle.std.specs.Prelude.{refl}
use Rattle.std.specs.List.{list_all}
use Rattle.std.proofs.Common.{◌∙◌, ap}
use Rattle.plane.specs.Rings.{sides, is_on_or_left}
use Rattle.plane.proofs.Hulls.{whole_lies, whole_outside, covers_point, point_covers}
use Rattle.plane.proofs.meeting.lies_in.Goals as goal

pub returns-then-covers : goal.returns-then-covers
returns-then-covers c =
    whole_lies c.args.shape.now c.args.point c.args.frame c.is_left_of_sides.result c.requires.frame (covers_point c.args.frame c.point_frame.result c.args.point c.point_frame.ensures (c.if-covers.ensures.0 refl))
    (c.is_left_of_sides.ensures ∙ ap (λ ring. list_all (λ side. is_on_or_left side c.args.point) (sides ring)) c.corners.ensures.value)

pub returns-else-covers : goal.returns-else-covers
returns-else-covers c =
    whole_outside c.args.shape.now c.args.point c.args.frame c.covers.result c.requires.frame c.if-covers.false (λ covers. c.if-covers.ensures.1 (point_covers c.args.frame c.point_frame.result c.args.point c.point_frame.ensures covers))
