use Rattle.std.proofs.Common.{arith}
use Rattle.tree_nodes.proofs.Zips.{length_aligned}
use Rattle.tree_nodes.proofs.entries.Entries.len.Goals as goal

pub returns-clause-most : goal.returns-clause-most
returns-clause-most g c =
    let long = length_aligned c.self.inside.keys.items c.self.inside.children.items c.self.invariant.same in
    rw (← c.self.view_is) (omega (arith, long, c.self.invariant.keys_fit.most))

pub returns-clause-value : goal.returns-clause-value
returns-clause-value g c =
    let long = length_aligned c.self.inside.keys.items c.self.inside.children.items c.self.invariant.same in
    rw (← c.self.view_is) (omega (arith, long, c.len.ensures))
