use Rattle.std.proofs.Common.{arith}
use Rattle.tree_nodes.proofs.Zips.{length_aligned, zip_remove}
use Rattle.tree_nodes.proofs.entries.Entries.remove.Goals as goal

pub remove-requires : goal.remove-requires
remove-requires g c =
    let long = length_aligned c.self.inside.keys.items c.self.inside.children.items c.self.invariant.same in
    let lt = rw (← c.self.view_is) at c.requires in
    omega (arith, long, lt)

pub returns : goal.returns
returns g c = rw (← c.self.view_is, c.remove.ensures.items, c.remove-2.ensures.items) (zip_remove c.self.inside.keys.items c.self.inside.children.items c.args.place c.self.invariant.same)
