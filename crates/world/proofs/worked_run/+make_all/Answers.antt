use Rattle.std.proofs.Common.{◌≡◌, ◌∷◌}
use Rattle.std.proofs.lemmas.Result.{on_ok_weaker}
use Rattle.world.proofs.WorkedRunLemmas.{one_more}
use Rattle.world.proofs.worked_run.+make_all.Goals as goal

pub returns : goal.returns
returns g t c =
    let split : c.args.calls.now ≡ c.in-Some.first.now ∷ c.in-Some.rest.now = c.in-Some.ensures.cases.0 in
    on_ok_weaker c.make_all.result
    (λ later. rw split (one_more c.in-Some.first.now c.in-Some.rest.now c.args.world.now.plain c.make.new.world.plain c.make_all.new.world.plain c.in_ok-make.ensures later))
    c.make_all.ensures
