-- A whole drawing.
use Rattle.std.specs.Prelude.{ℕ, ◌==◌, ◌&&◌, not, nat_lt, List, [], ◌∷◌, ◌++◌, codes, length, if◌then◌else◌}
use Rattle.std.specs.List.{flat_map, fold, prefix_len}
use Rattle.std.specs.Str.{bytes_eq}
use Rattle.plane.specs.Extents.{Extent, extent_of, joined, whole_extent}
use Rattle.drawing.specs.declared.layers.Layer.{Layer}
use Rattle.drawing.specs.declared.marks.Mark.{Mark}
use Rattle.drawing.specs.declared.marks.Mark.TheVariants.{Window, Row}
use Rattle.drawing.specs.declared.pictures.TheConstants.{COLOURS}
use Rattle.drawing.specs.Elements.{class_text, edges_text, outline_text, row_text, view_text, window_text}
use Rattle.drawing.specs.Layers.{is_on, layers}
use Rattle.drawing.specs.Marks.{mark_shape}

-- an extent, extended by a mark
abbrev pub with_mark : Extent → Mark → Extent
with_mark e mark = joined e (extent_of (mark_shape mark))

-- the least extent that contains all marks; without marks, that of all points
abbrev pub area_of : List Mark → Extent
area_of [] = whole_extent
area_of (mark ∷ marks) = fold with_mark (extent_of (mark_shape mark)) (mark ∷ marks)

-- the place of a class among the classes, or their number if it is not there
abbrev pub place_of : List (List ℕ) → List ℕ → ℕ
place_of classes class = prefix_len (λ known. not (bytes_eq known class)) classes

-- the colour of the class at this place
abbrev pub colour_at : ℕ → List ℕ
colour_at place =
    if place == 0 then codes "#1f77b4"
    else if place == 1 then codes "#ff7f0e"
    else if place == 2 then codes "#2ca02c"
    else if place == 3 then codes "#d62728"
    else if place == 4 then codes "#9467bd"
    else if place == 5 then codes "#8c564b"
    else if place == 6 then codes "#e377c2"
    else if place == 7 then codes "#17becf"
    else codes "#7f7f7f"

abbrev pub colour_of : List (List ℕ) → List ℕ → List ℕ
colour_of classes class = colour_at (place_of classes class)

-- a class that is not there is added, if there is a colour left for it
abbrev pub with_name : List (List ℕ) → List ℕ → List (List ℕ)
with_name classes class = if place_of classes class == length classes && nat_lt
    (place_of classes class) COLOURS then classes ++ class ∷ [] else classes

abbrev pub with_class : List (List ℕ) → Mark → List (List ℕ)
with_class classes (Window corners) = classes
with_class classes (Row feature) = with_name classes feature.class

-- the first classes of the marks, in the order in which they come
abbrev pub classes_of : List Mark → List (List ℕ)
classes_of marks = fold with_class [] marks

-- the element of a mark
abbrev pub mark_text : List (List ℕ) → Mark → List ℕ
mark_text classes (Window corners) = window_text corners
mark_text classes (Row feature) = row_text (colour_of classes feature.class) feature

-- the elements of a layer: those of its marks, in their order
abbrev pub mark_text_on : List (List ℕ) → Layer → Mark → List ℕ
mark_text_on classes layer mark = if is_on layer mark then mark_text classes mark else []

abbrev pub layer_text : List (List ℕ) → List Mark → Layer → List ℕ
layer_text classes marks layer = flat_map (mark_text_on classes layer) marks

-- the element of a class in the legend
abbrev pub entry_text : List (List ℕ) → List ℕ → List ℕ
entry_text classes class = class_text (colour_of classes class) class

-- the start of the document: a page, and on it the map, whose y goes up
abbrev pub start_text : List ℕ
start_text =
    codes "<svg xmlns=\"http://www.w3.org/2000/svg\" version=\"1.1\" width=\"1420\" height=\"1000\" viewBox=\"0 0 1420 1000\">\n"
    ++ codes "<rect width=\"1420\" height=\"1000\" fill=\"#ffffff\"/>\n"
    ++ codes "<svg x=\"40\" y=\"40\" width=\"920\" height=\"920\" overflow=\"visible\" viewBox=\""

abbrev pub map_text : Extent → List ℕ
map_text area = view_text area ++ codes "\">\n" ++ outline_text area
    ++ codes "<g transform=\"scale(1 -1)\" fill-opacity=\"0.4\" stroke-width=\"0.3%\">\n"

abbrev pub head_text : Extent → List ℕ
head_text area = start_text ++ map_text area

-- the end of the map, the coordinates at its edges, and the start of the legend
abbrev pub around_text : Extent → List ℕ
around_text area = codes "</g>\n</svg>\n" ++ edges_text area
    ++ codes "<text font-family=\"monospace\" font-size=\"20\" x=\"1020\" y=\"40\">\n"

-- the end of the document
abbrev pub end_text : List ℕ
end_text = codes "</text>\n</svg>\n"

abbrev pub legend_text : Extent → List (List ℕ) → List ℕ
legend_text area classes = around_text area ++ (flat_map (entry_text classes) classes ++ end_text)

-- the marks, layer by layer, and what is beside the map
abbrev pub body_text : Extent → List (List ℕ) → List Mark → List ℕ
body_text area classes marks = flat_map (layer_text classes marks) layers
    ++ legend_text area classes

-- the document that shows marks in this frame, with the colours of these classes
abbrev pub document_text : Extent → List (List ℕ) → List Mark → List ℕ
document_text area classes marks = head_text area ++ body_text area classes marks

-- the document that shows these marks
abbrev pub svg_of : List Mark → List ℕ
svg_of marks = document_text (area_of marks) (classes_of marks) marks
