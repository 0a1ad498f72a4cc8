use Rattle.tree_theory.proofs.ShapeEnlarge.{shape_enlarged}
use Rattle.tree_theory.proofs.ShapeFree.{shape_freed}
use Rattle.tree_theory.proofs.ShapeGrow.{shape_grown, shape_started}
use Rattle.tree_theory.proofs.ShapeInstall.{shape_installed}
use Rattle.tree_theory.proofs.ShapeKept.{shape_opened, shape_closed, shape_visited, shape_visited_gone, shape_joined}
use Rattle.tree_theory.proofs.ShapePlace.{shape_placed, shape_cleaned}
use Rattle.tree_theory.proofs.ShapeRetire.{shape_retired}
use Rattle.tree_theory.proofs.ShapeSplit.{shape_split}
use Rattle.tree_theory.proofs.laws_shape.steps_keep_the_shape.Goals as goal

pub returns : goal.returns
returns g c =
    let laws = g.met.C.KeyClass.laws in
    record {
      opened = λ t u query shape change. shape_opened shape change;
      closed = λ t u s shape change. shape_closed shape change;
      visited = λ t u s x memo shape change. shape_visited shape change;
      visited_gone = λ t u s x memo shape change. shape_visited_gone shape change;
      placed = λ t u h pair shape change. shape_placed laws shape change;
      joined = λ t u h shape change. shape_joined shape change;
      enlarged = λ t u p key shape change. shape_enlarged laws shape change;
      split = λ t u h r shape change. shape_split change shape;
      grown = λ t u a b shape change. shape_grown change shape;
      installed = λ t u p l r shape change. shape_installed laws change shape;
      cleaned = λ t u kept h shape change. shape_cleaned laws shape change;
      retired = λ t u l p shape change. shape_retired change shape;
      freed = λ t u h shape change. shape_freed change shape;
      started = λ u change. shape_started change;
    }
