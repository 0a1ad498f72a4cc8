-- The text of a geometry is the text of its value, and JSON reads it as that value.
use Rattle.std.proofs.Common.{◌≡◌, ℕ, ◌≤◌, true, false, List, [], ◌∷◌, ◌++◌, Some, All, codes, refl, sym, ap, ◌∙◌, append_assoc, arith}
use Rattle.std.specs.List.{flat_map}
use Rattle.std.proofs.lemmas.List.{append-nil}
use Rattle.std.proofs.lemmas.List.Elements.{All-head, All-tail, All-cons}
use Rattle.std.proofs.lemmas.Grind.{flat_map-append}
use Rattle.plane.specs.Points.{IsInRange}
use Rattle.geojson.proofs.NumberLemmas.{is_number}
use Rattle.json.specs.Json.{array, document}
use Rattle.json.specs.Print.{print, print_from, escape_byte}
use Rattle.json.specs.Token.{Token}
use Rattle.json.specs.Token as token
use Rattle.json.specs.Tree.{json_tokens, items_tokens, HasNumbers, ItemsHaveNumbers, depth, items_depth}
use Rattle.json.proofs.Printed.Trees.{document-print}
use Rattle.plane.specs.declared.point.Point.{Point}
use Rattle.grid.specs.declared.grids.Axis.TheVariants.{X, Y}
use Rattle.grid.specs.declared.grids.Grid.{Grid}
use Rattle.geojson.specs.Texts.{position_text, following_text, point_head, line_head, ring_head, geometry_text}
use Rattle.geojson.specs.Trees.{position_tree, positions, geometry_tree}

-- ---- positions

print_position : (grid : Grid) (p : Point) (rest : List Token) → print_from false (json_tokens (position_tree grid p) ++ rest) ≡ position_text grid p ++ print_from true rest
unfolding print_from
print_position grid p rest = simp append_assoc

print_following : (grid : Grid) (p : Point) (rest : List Token) → print_from true (json_tokens (position_tree grid p) ++ rest) ≡ following_text grid p ++ print_from true rest
unfolding print_from
print_following grid p rest = simp append_assoc

-- positions behind another one, and the bracket that closes them
print_positions : (grid : Grid) (ps : List Point) (rest : List Token) → print_from true (items_tokens (positions grid ps) ++ rest) ≡ flat_map (following_text grid) ps ++ 93 ∷ print_from true rest
unfolding print_from
print_positions grid [] rest = refl
print_positions grid (p ∷ ps) rest =
    ap (print_from true) (append_assoc (json_tokens (position_tree grid p)) (items_tokens (positions grid ps)) rest)
    ∙ print_following grid p (items_tokens (positions grid ps) ++ rest)
    ∙ ap (λ t. following_text grid p ++ t) (print_positions grid ps rest)
    ∙ sym (append_assoc (following_text grid p) (flat_map (following_text grid) ps) (93 ∷ print_from true rest))

-- an array of positions
print_list : (grid : Grid) (p : Point) (ps : List Point) (rest : List Token) → print_from false (json_tokens (array (positions grid (p ∷ ps))) ++ rest)
    ≡ 91 ∷ (position_text grid p ++ (flat_map (following_text grid) ps ++ 93 ∷ print_from true rest))
unfolding print_from
print_list grid p ps rest =
    ap (λ (t : List ℕ). 91 ∷ t)
    (ap (print_from false) (append_assoc (json_tokens (position_tree grid p)) (items_tokens (positions grid ps)) rest)
    ∙ print_position grid p (items_tokens (positions grid ps) ++ rest)
    ∙ ap (λ t. position_text grid p ++ t) (print_positions grid ps rest))

-- ---- geometries

join_line : (h p f e : List ℕ) → h ++ (p ++ ((f ++ []) ++ e)) ≡ ((h ++ p) ++ f) ++ e
join_line h p f e = simp (append_assoc, append-nil)

join_ring : (h p f g e : List ℕ) → h ++ (p ++ ((f ++ (g ++ [])) ++ e)) ≡ (((h ++ p) ++ f) ++ g) ++ e
join_ring h p f g e = simp (append_assoc, append-nil)

point_printed : (grid : Grid) (p : Point) → print (json_tokens (geometry_tree grid (p ∷ []))) ≡ geometry_text grid (p ∷ [])
unfolding print_from escape_byte point_head geometry_text
point_printed grid p =
    ap (λ t. codes "{\"type\":\"Point\",\"coordinates\":" ++ t) (print_position grid p (token.end_object ∷ []))
    ∙ sym (append_assoc (codes "{\"type\":\"Point\",\"coordinates\":") (position_text grid p) (125 ∷ []))

line_printed : (grid : Grid) (p q : Point) → print (json_tokens (geometry_tree grid (p ∷ q ∷ []))) ≡ geometry_text grid (p ∷ q ∷ [])
unfolding print_from escape_byte line_head geometry_text
line_printed grid p q =
    ap (λ t. codes "{\"type\":\"LineString\",\"coordinates\":" ++ t) (print_list grid p (q ∷ []) (token.end_object ∷ []))
    ∙ join_line (codes "{\"type\":\"LineString\",\"coordinates\":[") (position_text grid p) (following_text grid q) (codes "]}")

ring_printed : (grid : Grid) (p q r : Point) (rest : List Point) → print (json_tokens (geometry_tree grid (p ∷ q ∷ r ∷ rest))) ≡ geometry_text grid (p ∷ q ∷ r ∷ rest)
unfolding print_from escape_byte ring_head geometry_text
ring_printed grid p q r rest =
    let tokens : List Token = json_tokens (array (positions grid ((p ∷ q ∷ r ∷ rest) ++ p ∷ []))) in
    ap (λ t. codes "{\"type\":\"Polygon\",\"coordinates\":[" ++ t)
    (ap (print_from false) (append_assoc tokens (token.end_array ∷ []) (token.end_object ∷ []))
    ∙ print_list grid p (q ∷ r ∷ (rest ++ p ∷ [])) (token.end_array ∷ token.end_object ∷ []))
    ∙ ap (λ t. codes "{\"type\":\"Polygon\",\"coordinates\":[[" ++ (position_text grid p ++ (t ++ codes "]]}"))) (flat_map-append (following_text grid) (q ∷ r ∷ rest) (p ∷ []))
    ∙ join_ring (codes "{\"type\":\"Polygon\",\"coordinates\":[[") (position_text grid p) (flat_map (following_text grid) (q ∷ r ∷ rest)) (following_text grid p) (codes "]]}")

null_printed : (grid : Grid) → print (json_tokens (geometry_tree grid [])) ≡ geometry_text grid []
unfolding print_from geometry_text
null_printed grid = refl

-- the text of a geometry is that of its value
pub geometry_printed : (grid : Grid) (corners : List Point) → print (json_tokens (geometry_tree grid corners)) ≡ geometry_text grid corners
geometry_printed grid [] = null_printed grid
geometry_printed grid (p ∷ []) = point_printed grid p
geometry_printed grid (p ∷ q ∷ []) = line_printed grid p q
geometry_printed grid (p ∷ q ∷ r ∷ rest) = ring_printed grid p q r rest

-- ---- documents

position_numbers : (grid : Grid) (p : Point) → IsInRange p → HasNumbers (position_tree grid p)
position_numbers grid p h = (is_number grid X p.x h.x_in_range, (is_number grid Y p.y h.y_in_range, tt))

positions_numbers : (grid : Grid) (ps : List Point) → All IsInRange ps → ItemsHaveNumbers (positions grid ps)
positions_numbers grid [] h = tt
positions_numbers grid (p ∷ ps) h = (position_numbers grid p (All-head IsInRange p ps h), positions_numbers grid ps (All-tail IsInRange p ps h))

positions_depth : (grid : Grid) (ps : List Point) → items_depth (positions grid ps) ≤ 1
positions_depth grid [] = omega arith
positions_depth grid (p ∷ ps) = let rest = positions_depth grid ps in omega arith

one_at_end : (p : Point) (ps : List Point) → IsInRange p → All IsInRange ps → All IsInRange (ps ++ p ∷ [])
one_at_end p [] h k = All-cons IsInRange p [] h k
one_at_end p (q ∷ ps) h k = All-cons IsInRange q (ps ++ p ∷ []) (All-head IsInRange q ps k) (one_at_end p ps h (All-tail IsInRange q ps k))

tree_numbers : (grid : Grid) (corners : List Point) → All IsInRange corners → HasNumbers (geometry_tree grid corners)
tree_numbers grid [] h = tt
tree_numbers grid (p ∷ []) h = (tt, (position_numbers grid p (All-head IsInRange p [] h), tt))
tree_numbers grid (p ∷ q ∷ []) h = (tt, (positions_numbers grid (p ∷ q ∷ []) h, tt))
tree_numbers grid (p ∷ q ∷ r ∷ rest) h =
    (tt, ((positions_numbers grid ((p ∷ q ∷ r ∷ rest) ++ p ∷ []) (one_at_end p (p ∷ q ∷ r ∷ rest) (All-head IsInRange p (q ∷ r ∷ rest) h) h), tt), tt))

tree_depth : (grid : Grid) (corners : List Point) → depth (geometry_tree grid corners) ≤ 128
tree_depth grid [] = omega arith
tree_depth grid (p ∷ []) = omega arith
tree_depth grid (p ∷ q ∷ []) = omega arith
tree_depth grid (p ∷ q ∷ r ∷ rest) = let low = positions_depth grid ((p ∷ q ∷ r ∷ rest) ++ p ∷ []) in omega arith

-- JSON reads the text of a geometry as its value
pub geometry_document : (grid : Grid) (corners : List Point) → All IsInRange corners → document (geometry_text grid corners) ≡ Some (geometry_tree grid corners)
geometry_document grid corners h =
    ap document (sym (geometry_printed grid corners)) ∙ document-print (geometry_tree grid corners) (tree_numbers grid corners h) (tree_depth grid corners)
