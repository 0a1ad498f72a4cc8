-- How a shape keeps its corners: in an array of `CORNER_LIMIT` places, the rest at the origin.
use Rattle.std.specs.Prelude.{◌≡◌, ℕ, ◌-◌, ◌≤◌, List, ◌++◌, length, take, drop, replicate}
use Rattle.std.proofs.Common.{arith, take-append-drop, length-take-le}
use Rattle.plane.specs.Points.{origin}
use Rattle.plane.specs.Canonical.{IsCanonical}
use Rattle.plane.specs.declared.point.Point.{Point}
use Rattle.plane.specs.declared.shape.TheConstants.{CORNER_LIMIT}
use Rattle.plane.specs.declared.shape.Shape.TheInside.{Inside}

pub record IsKept (count : ℕ) (places : List Point) : Type 0 where
  pub whole : length places ≡ CORNER_LIMIT
  pub at_most : count ≤ CORNER_LIMIT
  pub unused : drop count places ≡ replicate (CORNER_LIMIT - count) origin
  pub canonical : IsCanonical (take count places)

abbrev pub places_of : List Point → Inside
places_of corners = record {
  places = corners ++ replicate (CORNER_LIMIT - length corners) origin;
  count = length corners;
}

-- `n` corners, in these places
abbrev kept_as : ℕ → List Point → Inside
kept_as n l = record { places = l; count = n }

same_places : (m n : ℕ) (l k : List Point) → m ≡ n → l ≡ k → kept_as m l ≡ kept_as n k
same_places m n l k e f = cc

pub places_of-take : (s : Inside) → IsKept s.count s.places → places_of (take s.count s.places) ≡ s
places_of-take s kept =
    let len : length (take s.count s.places) ≡ s.count =
    length-take-le s.count s.places (omega (arith, kept.at_most, kept.whole)) in
    let all : take s.count s.places ++ replicate (CORNER_LIMIT - s.count) origin ≡ s.places =
    rw (← kept.unused) (take-append-drop s.count s.places) in
    same_places (length (take s.count s.places)) s.count _ _ len (rw len all)
