-- The layers of a map.
use Rattle.std.specs.Prelude.{Bool, true, false, List, [], ◌∷◌}
use Rattle.plane.specs.declared.point.Point.{Point}
use Rattle.drawing.specs.declared.marks.Mark.{Mark}
use Rattle.drawing.specs.declared.marks.Mark.TheVariants.{Window, Row}
use Rattle.drawing.specs.declared.layers.Layer.{Layer}
use Rattle.drawing.specs.declared.layers.Layer.TheVariants.{Polygons, Segments, Points, Windows}

-- The layers, the lowest first. So no feature hides one that lies on it: a polygon is below what is
-- a segment or a point.
abbrev pub layers : List Layer
layers = Polygons ∷ Segments ∷ Points ∷ Windows ∷ []

-- the layer of a feature with these corners
abbrev pub shape_layer : List Point → Layer
shape_layer [] = Points
shape_layer (p ∷ []) = Points
shape_layer (p ∷ q ∷ []) = Segments
shape_layer (p ∷ q ∷ r ∷ rest) = Polygons

-- the one layer that a mark is on
abbrev pub layer_of : Mark → Layer
layer_of (Window corners) = Windows
layer_of (Row feature) = shape_layer feature.shape

abbrev pub same_layer : Layer → Layer → Bool
same_layer Polygons Polygons = true
same_layer Segments Segments = true
same_layer Points Points = true
same_layer Windows Windows = true
same_layer first second = false

abbrev pub is_on : Layer → Mark → Bool
is_on layer mark = same_layer (layer_of mark) layer
