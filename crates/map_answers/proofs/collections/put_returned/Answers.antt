use Rattle.std.proofs.Common.{codes, decimal}
use Rattle.map_answers.specs.Collections.{returned_part}
use Rattle.map_answers.proofs.PieceLemmas.{then_last}
use Rattle.map_answers.proofs.collections.put_returned.Goals as goal

pub returns : goal.returns
unfolding returned_part
returns g c =
    then_last c.put_number.result _ _ _ (codes ",\"numberReturned\":") (decimal c.args.count) c.in_ok-put.ensures c.put_number.ensures
