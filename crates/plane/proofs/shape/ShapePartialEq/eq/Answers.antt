use Rattle.std.proofs.lemmas.Bool.Decides.{Decides-at}
use Rattle.std.proofs.Common.{◌∙◌}
use Rattle.plane.specs.Equality.{same_shape, same_shape_decides}
use Rattle.plane.proofs.shape.ShapePartialEq.eq.Goals as goal

pub returns-clause-exact : goal.returns-clause-exact
returns-clause-exact c =
    Decides-at c.eq.result (same_shape c.args.self.now c.args.other.now) (c.eq.ensures ∙ (λ i. same_shape (c.corners.ensures.value i) (c.corners-2.ensures.value i))) (same_shape_decides c.args.self.now c.args.other.now)
