use Rattle.std.proofs.Common.{◌++◌, codes}
use Rattle.map_answers.specs.Collections.{features_part, features_text}
use Rattle.map_answers.proofs.PieceLemmas.{both, then_last}
use Rattle.map_answers.proofs.collections.put_listed.Goals as goal

pub returns : goal.returns
unfolding features_part
returns g c =
    then_last c.put-2.result _ _ _ (codes "],\"features\":[" ++ features_text c.args.grid.now c.args.rows.now) (codes "]}")
    (both _ _ _ (codes "],\"features\":[") (features_text c.args.grid.now c.args.rows.now) c.in_ok-put.ensures c.in_ok-put_features.ensures) c.put-2.ensures
