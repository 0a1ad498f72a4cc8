use Rattle.search_tree.proofs.FindingLemmas.{ok_then}
use Rattle.search_tree.proofs.finding.see.Goals as goal

pub returns : goal.returns
returns g c =
    let right = c.in_ok-add_right.ensures in
    let children = rw c.key_of.ensures at c.in_ok-add_children.ensures in
    ok_then c.name_slot.result (λ names. record {
      keeps = λ h has. children.keeps h (right.keeps h has);
      right = λ marked r is. children.keeps r (right.adds marked r is);
      children = children.adds;
      names = names;
    }) (rw c.pairs.ensures.value at c.name_slot.ensures)
