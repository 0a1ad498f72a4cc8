use Rattle.plane.proofs.Rings.{after_corners}
use Rattle.plane.proofs.shape.places_of.Goals as goal

pub returns : goal.returns
returns c = after_corners _ _ c.copy_from_slice.ensures.after
