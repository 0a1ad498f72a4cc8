use Rattle.tree_reading.proofs.ReadingLemmas.{ok_then}
use Rattle.tree_reading.proofs.reading.read.Goals as goal

pub returns : goal.returns
returns g c =
    let right = c.in_ok-add_right.ensures in
    let children = c.in_ok-add_children.ensures in
    ok_then c.add_ids.result (λ finds. record {
      keeps = λ h has. children.keeps h (right.keeps h has);
      right = λ marked r is. children.keeps r (right.adds marked r is);
      children = children.adds;
      finds = finds;
    }) c.add_ids.ensures
