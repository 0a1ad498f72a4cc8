-- A region, given by its rings, and the parts that it is cut into.
use Rattle.std.specs.Prelude.{◌≡◌, List, [], ◌∷◌, ℤ, pos, ◌+ℤ◌, ◌-ℤ◌, neg_ℤ, int_lt, if◌then◌else◌}
use Rattle.plane.specs.declared.point.Point.{Point}
use Rattle.convex_parts.specs.Paths.{along, closed, AddsOnLines, doubled_area}

-- along all the rings
abbrev pub along_all : (Point → Point → ℤ) → List (List Point) → ℤ
along_all f [] = pos 0
along_all f (ring ∷ rest) = along f ring +ℤ along_all f rest

-- along the ring, counter-clockwise, in whichever direction it is listed
abbrev pub around : (Point → Point → ℤ) → List Point → ℤ
around f ring =
    if int_lt (along doubled_area ring) (pos 0) then neg_ℤ (along f ring) else along f ring

-- the same for all the rings
abbrev pub around_all : (Point → Point → ℤ) → List (List Point) → ℤ
around_all f [] = pos 0
around_all f (ring ∷ rest) = around f ring +ℤ around_all f rest

-- the first ring less the others, which are its holes
abbrev pub around_region : (Point → Point → ℤ) → List (List Point) → ℤ
around_region f [] = pos 0
around_region f (outer ∷ holes) = around f outer -ℤ around_all f holes

-- along the sides of all the parts, each given by its corners
abbrev pub around_parts : (Point → Point → ℤ) → List (List Point) → ℤ
around_parts f [] = pos 0
around_parts f (part ∷ rest) = along f (closed part) +ℤ around_parts f rest

-- Whatever adds up along lines is the same along the sides of the parts as along the region's
-- rings: their area, and how often they go round any point.
abbrev pub AddUpTo : List (List Point) → List (List Point) → Type 0
AddUpTo rings parts = (f : Point → Point → ℤ) → AddsOnLines f
    → around_parts f parts ≡ around_region f rings
