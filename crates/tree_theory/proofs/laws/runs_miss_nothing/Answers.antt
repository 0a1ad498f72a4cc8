use Rattle.tree_theory.proofs.Ready.{misses_nothing, places_behind_none}
use Rattle.tree_theory.proofs.Steps.{reached_keeps}
use Rattle.tree_theory.proofs.laws.runs_miss_nothing.Goals as goal

pub returns : goal.returns
returns g c =
    let laws = g.met.C.KeyClass.laws in
    record {
      invariant = λ t reached. reached_keeps laws reached;
      complete = λ t reached. misses_nothing laws t (reached_keeps laws reached);
      none_placed = λ t reached. places_behind_none laws t (reached_keeps laws reached);
    }
