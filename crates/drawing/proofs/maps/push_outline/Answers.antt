use Rattle.std.proofs.Common.{◌≡◌, ◌++◌, rules}
use Rattle.std.specs.Prelude.{codes}
use Rattle.drawing.specs.Elements.{attribute, height_of, left_of, top_of, width_of}
use Rattle.drawing.proofs.ElementLemmas.{joined_six}
use Rattle.drawing.proofs.maps.push_outline.Goals as goal

pub returns-clause-items : goal.returns-clause-items
returns-clause-items c =
    let x : c.push_attribute.new.element.items ≡ c.push_bytes.new.element.items ++ attribute (codes " x=\"") (left_of c.args.frame) = search rules in
    let y : c.push_attribute-2.new.element.items ≡ c.push_attribute.new.element.items ++ attribute (codes " y=\"") (top_of c.args.frame) = search rules in
    let wide : c.push_attribute-3.new.element.items ≡ c.push_attribute-2.new.element.items ++ attribute (codes " width=\"") (width_of c.args.frame) = search rules in
    let high : c.push_attribute-4.new.element.items ≡ c.push_attribute-3.new.element.items ++ attribute (codes " height=\"") (height_of c.args.frame) = search rules in
    joined_six _ _ _ _ _ _ _ _ _ _ _ _ _ c.push_bytes.ensures.items x y wide high c.push_bytes-2.ensures.items
