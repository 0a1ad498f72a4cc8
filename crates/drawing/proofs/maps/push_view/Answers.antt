use Rattle.std.proofs.Common.{◌≡◌, ◌++◌, rules}
use Rattle.drawing.specs.Elements.{height_of, left_of, pair_text, top_of, width_of}
use Rattle.drawing.proofs.ElementLemmas.{joined_three}
use Rattle.drawing.proofs.maps.push_view.Goals as goal

pub returns-clause-items : goal.returns-clause-items
returns-clause-items c =
    let origin : c.push_pair.new.element.items ≡ c.args.element.now.items ++ pair_text (left_of c.args.frame) (top_of c.args.frame) = search rules in
    let size : c.push_pair-2.new.element.items ≡ c.push_bytes.new.element.items ++ pair_text (width_of c.args.frame) (height_of c.args.frame) = search rules in
    joined_three _ _ _ _ _ _ _ origin c.push_bytes.ensures.items size
