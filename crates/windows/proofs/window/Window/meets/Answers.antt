use Rattle.std.proofs.Common.{ap, refl, sym, subst, ◌∙◌}
use Rattle.plane.specs.Extents.{extent_of}
use Rattle.plane.specs.Rows.{Meet}
use Rattle.plane.proofs.Hulls.{frames_apart, none_met}
use Rattle.windows.specs.Rectangles.{HasCornerIn, is_upright}
use Rattle.windows.proofs.RectangleLemmas.{meets_rectangle}
use Rattle.windows.proofs.window.Window.meets.Goals as goal

pub returns-then-not-frames_meet : goal.returns-then-not-frames_meet
returns-then-not-frames_meet c =
    none_met c.args.shape.now c.args.self.now
    (frames_apart c.args.shape.now c.args.self.now c.frame_of.result c.self.inside.frame c.frame_of.ensures.value (c.self.invariant.framed ∙ ap extent_of c.self.view_is) c.if-not-frames_meet.ensures.1)

pub returns-then-has_corner_in : goal.returns-then-has_corner_in
returns-then-has_corner_in c =
    let met : Meet c.args.shape.now c.args.self.now = meets_rectangle c.args.shape.now c.args.self.now c.self.inside.frame c.corners.ensures.canonical (c.self.invariant.framed ∙ ap extent_of c.self.view_is)
    (sym (ap is_upright c.self.view_is) ∙ sym c.self.invariant.told ∙ c.if-self.true)
    (subst (λ points. HasCornerIn points c.self.inside.frame) c.corners.ensures.value (c.has_corner_in.ensures c.if-has_corner_in.true)) in
    (λ t. met, λ meet. refl)
