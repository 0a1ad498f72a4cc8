use Rattle.std.proofs.Common.{arith}
use Rattle.tree_nodes.proofs.Zips.{length_aligned, zip_set}
use Rattle.tree_nodes.proofs.entries.Entries.set_key.Goals as goal

pub index_mut-requires : goal.index_mut-requires
index_mut-requires g c =
    let long = length_aligned c.self.inside.keys.items c.self.inside.children.items c.self.invariant.same in
    let lt = rw (← c.self.view_is) at c.requires in
    omega (arith, long, lt)

pub returns : goal.returns
returns g c = rw (← c.self.view_is) (λ old child is. zip_set c.self.inside.keys.items c.self.inside.children.items c.args.place c.args.key old child is)
