-- What the reader keeps of a ring: at most one point more than a ring may list.
use Rattle.std.specs.Prelude.{ℕ, List, take, Result, Ok}
use Rattle.plane.specs.declared.point.Point.{Point}
use Rattle.plane.specs.Canonical.{polygon_of}
use Rattle.wkt.specs.declared.fault.WktFault.{WktFault}
use Rattle.wkt.specs.declared.ring.TheConstants.{KEPT}
use Rattle.wkt.specs.Tokens.{Token, OPENING}
use Rattle.wkt.specs.Reading.{◌>>=◌, opening_at, mark_at, closing_at, end_at, ring_at, made}

abbrev pub kept : Result (List Point × List Token) WktFault
    → Result (List Point × List Token) WktFault
kept reading = reading >>= λ ring. Ok (take KEPT ring.0, ring.1)

-- the polygon of the points that are kept
unfoldable pub kept_polygon_at : ℕ → List Token → Result (List Point) WktFault
kept_polygon_at end ts = do
  inside ← opening_at end ts
  first ← mark_at OPENING end inside
  ring ← kept (ring_at end first)
  after ← closing_at end ring.1
  _ ← end_at after
  made (polygon_of ring.0)
