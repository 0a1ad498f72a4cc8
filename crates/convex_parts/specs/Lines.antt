-- The segments of a line.
use Rattle.std.specs.Prelude.{List, [], ◌∷◌, if◌then◌else◌}
use Rattle.plane.specs.Points.{is_same}
use Rattle.plane.specs.Canonical.{in_order}
use Rattle.plane.specs.declared.point.Point.{Point}

-- from each point to the next, where they differ
abbrev pub steps_from : Point → List Point → List (List Point)
steps_from p [] = []
steps_from p (q ∷ rest) = if is_same p q then steps_from q rest else in_order p q ∷ steps_from q rest

abbrev pub steps_of : List Point → List (List Point)
steps_of [] = []
steps_of (p ∷ rest) = steps_from p rest
