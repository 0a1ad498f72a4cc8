use Rattle.search_tree.proofs.OneCase.{steps_alike}
use Rattle.search_tree.proofs.laws.steps_answer_alike.Goals as goal

pub returns : goal.returns
returns g c =
    let key = g.C.KeyClass in
    λ t u v at one other pair a b ends ends_too first second. steps_alike key.class t u v at one other key.picks ends ends_too key.growth key.second_growth pair first second
