use Rattle.std.specs.Prelude.{refl}
use Rattle.plane.proofs.Covering.{covers_by_y, covers_not}
use Rattle.plane.proofs.frame.covers.Goals as goal

pub returns-then-spans : goal.returns-then-spans
returns-then-spans c = covers_by_y _ _ _ _ _ c.first.view_is c.second.view_is c.first.invariant c.second.invariant (c.if-spans.ensures.0 refl) c.spans-then-spans.ensures

pub returns-else-spans : goal.returns-else-spans
returns-else-spans c = covers_not _ _ _ _ _ c.first.view_is c.second.view_is c.first.invariant c.second.invariant c.if-spans.false c.if-spans.ensures.1
