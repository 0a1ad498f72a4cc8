use Rattle.plain_world.proofs.JudgedLemmas.{ends_as_judged}
use Rattle.plain_world.proofs.laws.every_commit_ends_as_judged.Goals as goal

pub returns : goal.returns
returns c = λ old new seat number subject t judgement reply seated found judged happens.
    ends_as_judged old new seat number subject t judgement reply seated found judged happens
