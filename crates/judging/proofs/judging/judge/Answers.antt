use Rattle.features.specs.Rows.{feature_with}
use Rattle.features.specs.Changes.{change_id}
use Rattle.std.proofs.Common.{Some}
use Rattle.judging.proofs.JudgingLemmas.{Objects_founded}
use Rattle.judging.proofs.judging.judge.Goals as goal

pub returns-in-Some-clause-founded : goal.returns-in-Some-clause-founded
returns-in-Some-clause-founded g c =
    Objects_founded c.args.decider.now.document c.args.subject.now c.change-item.result
    (feature_with (change_id c.change-item.result) c.args.store.now) (Some c.in-Some.objection) c.in-Some.ensures
