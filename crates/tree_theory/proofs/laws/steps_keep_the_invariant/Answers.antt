use Rattle.tree_theory.proofs.Steps.{step_keeps, started_keeps}
use Rattle.tree_theory.proofs.laws.steps_keep_the_invariant.Goals as goal

pub returns : goal.returns
returns g c =
    let laws = g.met.C.KeyClass.laws in
    record { started = λ t. started_keeps; steps = λ t u. step_keeps laws }
