use Rattle.std.proofs.Common.{codes}
use Rattle.map_answers.specs.Strings.{string_text}
use Rattle.map_answers.proofs.PieceLemmas.{then_last}
use Rattle.map_calls.specs.Texts.{decision_part}
use Rattle.map_calls.proofs.texts.put_decision.Goals as goal

pub returns : goal.returns
unfolding decision_part
returns c =
    let words = rw c.as_bytes.ensures.value at c.put_string.ensures in
    then_last c.put_string.result _ _ _ (codes "{\"decision\":") (string_text c.args.decision.now) c.in_ok-put.ensures words
