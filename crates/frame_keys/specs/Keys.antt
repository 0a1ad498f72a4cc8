-- Frames as keys of a search tree.
use Rattle.std.specs.Prelude.{List}
use Rattle.plane.specs.Extents.{Extent, Spans, extent_of, joined}
use Rattle.plane.specs.Rows.{FramesMeet, Meet}
use Rattle.plane.specs.declared.point.Point.{Point}
use Rattle.tree_theory.specs.KeyClasses.{Class}

-- no end of the inner extent is beyond the outer one's; said of the ends, so that it makes sense
-- for all extents
pub record Encloses (outer inner : Extent) : Type 0 where
  pub across : Spans outer.x0 outer.x1 inner.x0 inner.x1
  pub up : Spans outer.y0 outer.y1 inner.y0 inner.y1

-- a shape behind the key may meet the query: the key meets the query's frame
abbrev pub MayMeet : Extent → List Point → Type 0
MayMeet key query = FramesMeet key (extent_of query)

-- the class of keys: a key is a frame, items and queries are shapes
abbrev pub frames : Class Extent (List Point) (List Point)
frames = record {
  Covers = Encloses;
  Consistent = MayMeet;
  Matches = Meet;
  key_of = extent_of;
  united = joined;
}
