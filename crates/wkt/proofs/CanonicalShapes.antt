-- The corners that are read are canonical.
use Rattle.std.specs.Prelude.{◌≡◌, ℕ, List, Ok}
use Rattle.plane.specs.Canonical.{IsCanonical}
use Rattle.plane.proofs.CanonicalShapes.{point_canonical, segment_canonical, polygon_canonical}
use Rattle.plane.specs.declared.point.Point.{Point}
use Rattle.wkt.specs.Reading.{shape_of}
use Rattle.wkt.specs.Spelling.{Listed, one_point, two_points, ring, canonical_of, Spells}
use Rattle.wkt.proofs.SpellingFound.{found}

listed_canonical : (listed : Listed) (corners : List Point) → canonical_of listed ≡ Ok corners → IsCanonical corners
listed_canonical (one_point p) corners h = point_canonical p corners h
listed_canonical (two_points p q) corners h = segment_canonical p q corners h
listed_canonical (ring ps) corners h = polygon_canonical ps corners h

pub spelled_canonical : (text : List ℕ) (corners : List Point) → Spells text corners → IsCanonical corners
spelled_canonical text corners spelled = listed_canonical spelled.listed corners spelled.canonical

pub shape_canonical : (text : List ℕ) (corners : List Point) → shape_of text ≡ Ok corners → IsCanonical corners
shape_canonical text corners h = spelled_canonical text corners (found text corners h)
