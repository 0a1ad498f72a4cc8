use Rattle.std.proofs.Common.{◌≡◌}
use Rattle.form_urlencoded.specs.Form.{raw_pairs}
use Rattle.form_urlencoded.specs.Parse.{raw_pairs_left}
use Rattle.map_questions.specs.Queries.{has_known_names}
use Rattle.map_questions.proofs.queries.has_known_names.Given as goal

abbrev pub invariant-loop-name : goal.invariant-loop-name
invariant-loop-name l =
    has_known_names (raw_pairs_left l.name-iterator) ≡ has_known_names (raw_pairs l.query)
