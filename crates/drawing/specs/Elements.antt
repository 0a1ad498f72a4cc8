-- The elements of a drawing, as bytes.
use Rattle.std.specs.Prelude.{ℕ, ℤ, pos, neg_ℤ, ◌+ℤ◌, ◌-ℤ◌, ◌*ℤ◌, int_div, List, [], ◌∷◌, ◌++◌, codes, decimal}
use Rattle.std.specs.Fmt.{signed_decimal}
use Rattle.std.specs.Int.{int_max}
use Rattle.std.specs.List.{flat_map}
use Rattle.plane.specs.Extents.{Extent}
use Rattle.plane.specs.declared.point.Point.{Point}
use Rattle.features.specs.declared.rows.Feature.{Feature}

-- an attribute whose value is a number; the name has the space, the sign and the first quote
abbrev pub attribute : List ℕ → ℤ → List ℕ
attribute name n = name ++ signed_decimal n ++ codes "\""

-- a place, as two attributes
abbrev pub place_text : List ℕ → List ℕ → Point → List ℕ
place_text x y p = attribute x p.x ++ attribute y p.y

abbrev pub circle_text : Point → List ℕ
circle_text p = codes "<circle r=\"0.6%\"" ++ place_text (codes " cx=\"") (codes " cy=\"")
    p ++ codes "/>"

abbrev pub line_text : Point → Point → List ℕ
line_text p q = codes "<line" ++ place_text (codes " x1=\"") (codes " y1=\"") p ++ place_text
    (codes " x2=\"") (codes " y2=\"") q ++ codes "/>"

-- a corner of a polygon
abbrev pub corner_text : Point → List ℕ
corner_text p = signed_decimal p.x ++ codes "," ++ signed_decimal p.y ++ codes " "

abbrev pub polygon_text : List Point → List ℕ
polygon_text corners = codes "<polygon points=\"" ++ flat_map corner_text corners ++ codes "\"/>"

-- the figure of the shape with these corners
abbrev pub figure_text : List Point → List ℕ
figure_text [] = []
figure_text (p ∷ []) = circle_text p
figure_text (p ∷ q ∷ []) = line_text p q
figure_text (p ∷ q ∷ r ∷ rest) = polygon_text (p ∷ q ∷ r ∷ rest)

abbrev pub word_text : List ℕ → List ℕ
word_text name = codes " " ++ name

-- the id, the class and the office of a feature
abbrev pub title_text : Feature → List ℕ
title_text feature = codes "<title>" ++ decimal feature.id ++ word_text feature.class ++ word_text
    feature.office ++ codes "</title>"

abbrev pub paint_text : List ℕ → List ℕ
paint_text colour = codes "<g fill=\"" ++ colour ++ codes "\" stroke=\"" ++ colour ++ codes "\">"

-- the element of a feature, in this colour
abbrev pub row_text : List ℕ → Feature → List ℕ
row_text colour feature = paint_text colour ++ title_text feature ++ figure_text feature.shape
    ++ codes "</g>\n"

-- the element of a window
abbrev pub window_text : List Point → List ℕ
window_text corners = codes "<g fill=\"none\" stroke=\"#000000\" stroke-dasharray=\"1% 1%\">"
    ++ figure_text corners ++ codes "</g>\n"

-- the element of a class in the legend
abbrev pub class_text : List ℕ → List ℕ → List ℕ
class_text colour class = codes "<tspan x=\"1020\" dy=\"28\" fill=\"" ++ colour ++ codes
    "\">" ++ class ++ codes "</tspan>\n"

-- what a map of this extent shows: one unit more at each side
abbrev pub left_of : Extent → ℤ
left_of e = e.x0 -ℤ pos 1

abbrev pub right_of : Extent → ℤ
right_of e = e.x1 +ℤ pos 1

abbrev pub lower_of : Extent → ℤ
lower_of e = e.y0 -ℤ pos 1

abbrev pub upper_of : Extent → ℤ
upper_of e = e.y1 +ℤ pos 1

abbrev pub width_of : Extent → ℤ
width_of e = right_of e -ℤ left_of e

abbrev pub height_of : Extent → ℤ
height_of e = upper_of e -ℤ lower_of e

-- the picture's coordinate of the upper side: it goes down
abbrev pub top_of : Extent → ℤ
top_of e = neg_ℤ (upper_of e)

abbrev pub pair_text : ℤ → ℤ → List ℕ
pair_text a b = signed_decimal a ++ codes " " ++ signed_decimal b

abbrev pub view_text : Extent → List ℕ
view_text e = pair_text (left_of e) (top_of e) ++ codes " " ++ pair_text (width_of e) (height_of e)

-- the outline of what a map shows
abbrev pub outline_text : Extent → List ℕ
outline_text e = codes "<rect" ++ attribute (codes " x=\"") (left_of e) ++ attribute (codes " y=\"")
    (top_of e) ++ attribute (codes " width=\"") (width_of e) ++ attribute (codes " height=\"")
    (height_of e) ++ codes " fill=\"none\" stroke=\"#7f7f7f\" stroke-width=\"0.1%\"/>\n"

-- The map is in the middle of a square of 920 units of the page, from 40 to 960, which its longer
-- side fills. So the edges of a side of `length` are `460 * length / side` units from the middle,
-- which is at 500.
abbrev pub longer_of : Extent → ℤ
longer_of e = int_max (width_of e) (height_of e)

-- ten units before the lower edge of a side
abbrev pub before_edge : ℤ → ℤ → ℤ
before_edge side length = int_div (pos 490 *ℤ side -ℤ pos 460 *ℤ length) side

-- 24 units behind the upper edge of a side, with room for the height of a letter
abbrev pub behind_edge : ℤ → ℤ → ℤ
behind_edge side length = int_div (pos 524 *ℤ side +ℤ pos 460 *ℤ length) side

-- the coordinate of an edge at the left or the right, beside its middle
abbrev pub upright_text : ℤ → ℤ → List ℕ
upright_text place x = codes "<text transform=\"translate(" ++ signed_decimal place ++ codes
    " 500) rotate(-90)\">x=" ++ signed_decimal x ++ codes "</text>\n"

-- the coordinate of an edge above or below, beside its middle
abbrev pub level_text : ℤ → ℤ → List ℕ
level_text place y = codes "<text transform=\"translate(500 " ++ signed_decimal place ++ codes
    ")\">y=" ++ signed_decimal y ++ codes "</text>\n"

-- the coordinates of the edges, the width's and the height's
abbrev pub sides_text : Extent → List ℕ
sides_text e = upright_text (before_edge (longer_of e) (width_of e)) (left_of e)
    ++ upright_text (behind_edge (longer_of e) (width_of e)) (right_of e)

abbrev pub levels_text : Extent → List ℕ
levels_text e = level_text (behind_edge (longer_of e) (height_of e)) (lower_of e)
    ++ level_text (before_edge (longer_of e) (height_of e)) (upper_of e)

abbrev pub edges_text : Extent → List ℕ
edges_text e = codes "<g font-family=\"monospace\" font-size=\"20\" text-anchor=\"middle\">\n"
    ++ sides_text e ++ levels_text e ++ codes "</g>\n"
