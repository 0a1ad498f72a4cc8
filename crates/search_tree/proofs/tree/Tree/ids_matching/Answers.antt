use Rattle.std.proofs.Common.{refl}
use Rattle.search_tree.proofs.FindingLemmas.{if_ok_map}
use Rattle.search_tree.proofs.tree.Tree.ids_matching.Goals as goal

pub returns-clause-all : goal.returns-clause-all
returns-clause-all g c =
    rw (← c.self.view_is) (if_ok_map c.ids_matching.result (λ ids all. all _ refl refl c.self.invariant.invariant.shape) c.ids_matching.ensures.all)
