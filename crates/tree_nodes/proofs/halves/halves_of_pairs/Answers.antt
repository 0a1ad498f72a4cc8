use Rattle.std.proofs.Common.{subst, ◌∙◌}
use Rattle.tree_nodes.specs.Halvings.IsPickedOut.{of_pairs}
use Rattle.tree_nodes.proofs.Sharing.{halved_leaf}
use Rattle.tree_nodes.proofs.halves.halves_of_pairs.Goals as goal

pub returns-clause-halved : goal.returns-clause-halved
returns-clause-halved g c = halved_leaf c.pick_split.result c.pick_split.ensures.least c.pick_split.ensures.most _ _ _ c.requires c.share_pairs.ensures

pub returns-clause-picked : goal.returns-clause-picked
returns-clause-picked g c = of_pairs (subst (λ ks. g.C.KeyClass.picks ks c.pick_split.result) (c.deref.ensures.value ∙ c.in_ok-keys.ensures) c.pick_split.ensures.picked) c.share_pairs.ensures
