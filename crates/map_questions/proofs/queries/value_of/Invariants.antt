use Rattle.std.proofs.Common.{◌≡◌, ◌++◌, option_map}
use Rattle.form_urlencoded.specs.Form.{raw_pairs}
use Rattle.form_urlencoded.specs.Parse.{raw_pairs_left}
use Rattle.map_questions.specs.Queries.{given_once, values_of}
use Rattle.map_questions.proofs.QueryLemmas.{found_list}
use Rattle.map_questions.proofs.queries.value_of.Given as goal

abbrev pub invariant-loop-name : goal.invariant-loop-name
invariant-loop-name l =
    given_once l.parameter (found_list (option_map (λ v. v.now) l.found) ++ values_of l.parameter (raw_pairs_left l.name-iterator))
    ≡ given_once l.parameter (values_of l.parameter (raw_pairs l.query))
