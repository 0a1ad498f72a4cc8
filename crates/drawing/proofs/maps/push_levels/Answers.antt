use Rattle.std.proofs.Common.{rules}
use Rattle.drawing.specs.Elements.{before_edge, behind_edge, longer_of, height_of, lower_of, upper_of}
use Rattle.drawing.proofs.ElementLemmas.{joined_two, level_at}
use Rattle.drawing.proofs.maps.push_levels.Goals as goal

pub returns-clause-items : goal.returns-clause-items
returns-clause-items c =
    let first = level_at _ _ _ (behind_edge (longer_of c.args.frame) (height_of c.args.frame)) _ (lower_of c.args.frame) c.push_level.ensures.items (search rules) (search rules) in
    let second = level_at _ _ _ (before_edge (longer_of c.args.frame) (height_of c.args.frame)) _ (upper_of c.args.frame) c.push_level-2.ensures.items (search rules) (search rules) in
    joined_two _ _ _ _ _ first second
