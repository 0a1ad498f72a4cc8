use Rattle.std.proofs.Common.{◌++◌, codes, decimal}
use Rattle.map_answers.proofs.PieceLemmas.{both, then_last}
use Rattle.map_calls.specs.Texts.{edition_part}
use Rattle.map_calls.proofs.texts.put_edition_part.Goals as goal

pub returns : goal.returns
unfolding edition_part
returns c =
    then_last c.put-2.result _ _ _ (codes ",\"edition\":" ++ decimal c.args.edition) (codes "}")
    (both _ _ _ (codes ",\"edition\":") (decimal c.args.edition) c.in_ok-put.ensures c.in_ok-put_number.ensures) c.put-2.ensures
