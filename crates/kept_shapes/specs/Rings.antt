-- Which shapes of a list of changes are rings: those of more than two corners.
use Rattle.std.specs.Prelude.{◌≡◌, ◌++◌, List, [], ◌∷◌, length, nat_lt, if◌then◌else◌}
use Rattle.plane.specs.declared.point.Point.{Point}
use Rattle.features.specs.declared.rows.Change.{Change}
use Rattle.features.specs.declared.rows.Change.TheVariants.{Add, Reshape, Delete}

-- a shape of more than two corners is kept in a list of its own
abbrev pub rings_of : List Point → List (List Point)
rings_of corners = if nat_lt 2 (length corners) then corners ∷ [] else []

abbrev pub rings_by : Change → List (List Point)
rings_by (Add id class shape) = rings_of shape
rings_by (Reshape id known shape) = rings_of shape
rings_by (Delete id known) = []

abbrev pub rings_in : List Change → List (List Point)
rings_in [] = []
rings_in (change ∷ changes) = rings_by change ++ rings_in changes

-- the rings begin with these
pub record Begins (first rings : List (List Point)) : Type 0 where
  pub rest : List (List Point)
  pub told : rings ≡ first ++ rest
