use Rattle.std.proofs.Common.{rules}
use Rattle.drawing.specs.Elements.{before_edge, behind_edge, longer_of, width_of, left_of, right_of}
use Rattle.drawing.proofs.ElementLemmas.{joined_two, upright_at}
use Rattle.drawing.proofs.maps.push_sides.Goals as goal

pub returns-clause-items : goal.returns-clause-items
returns-clause-items c =
    let first = upright_at _ _ _ (before_edge (longer_of c.args.frame) (width_of c.args.frame)) _ (left_of c.args.frame) c.push_upright.ensures.items (search rules) (search rules) in
    let second = upright_at _ _ _ (behind_edge (longer_of c.args.frame) (width_of c.args.frame)) _ (right_of c.args.frame) c.push_upright-2.ensures.items (search rules) (search rules) in
    joined_two _ _ _ _ _ first second
