use Rattle.std.proofs.Common.{codes}
use Rattle.map_answers.specs.Problems.{title_part}
use Rattle.map_answers.specs.Statuses.{phrase_of}
use Rattle.map_answers.specs.Strings.{string_text}
use Rattle.map_answers.proofs.PieceLemmas.{then_last}
use Rattle.map_answers.proofs.problems.put_title.Goals as goal

pub returns : goal.returns
unfolding title_part
returns g c =
    let words = rw (c.as_bytes.ensures.value, c.phrase.ensures) at c.put_string.ensures in
    then_last c.put_string.result _ _ _ (codes "{\"type\":\"about:blank\",\"title\":") (string_text (phrase_of c.args.status)) c.in_ok-put.ensures words
