-- The corners of a shape that is kept.
use Rattle.std.specs.Prelude.{List, [], ◌∷◌}
use Rattle.plane.specs.declared.point.Point.{Point}
use Rattle.kept_shapes.specs.declared.shapes.Held.{Held}
use Rattle.kept_shapes.specs.declared.shapes.Held.TheVariants.{Spot, Line, Ring}

abbrev pub corners_held : {A : Type 0} → Held A → List Point
corners_held (Spot corner) = corner ∷ []
corners_held (Line from to) = from ∷ to ∷ []
corners_held (Ring corners) = corners.items
