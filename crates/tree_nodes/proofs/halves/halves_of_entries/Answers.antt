use Rattle.std.proofs.Common.{sym, ◌∙◌}
use Rattle.tree_nodes.proofs.Sharing.{halved_inner, picked_inner}
use Rattle.tree_nodes.proofs.Zips.{length_aligned}
use Rattle.tree_nodes.proofs.halves.halves_of_entries.Goals as goal

pub returns-clause-halved : goal.returns-clause-halved
returns-clause-halved g c = halved_inner c.pick_split.result c.pick_split.ensures.least c.pick_split.ensures.most _ _ _ (length_aligned c.args.keys.now c.args.children.now (c.requires.children ∙ sym c.requires.keys) ∙ c.requires.keys) c.share_entries.ensures

pub returns-clause-picked : goal.returns-clause-picked
returns-clause-picked g c = picked_inner _ _ c.pick_split.result c.args.keys.now c.args.children.now _ _ (c.requires.children ∙ sym c.requires.keys) c.pick_split.ensures.picked c.share_entries.ensures
