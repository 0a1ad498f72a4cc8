use Rattle.std.proofs.Common.{arith}
use Rattle.std.proofs.lemmas.Slice.Zip.{seconds-zip}
use Rattle.tree_nodes.proofs.Zips.{length_aligned}
use Rattle.tree_nodes.proofs.entries.Entries.children.Goals as goal

pub returns-clause-most : goal.returns-clause-most
returns-clause-most g c =
    let long = length_aligned c.self.inside.keys.items c.self.inside.children.items c.self.invariant.same in
    rw (← c.self.view_is) (omega (arith, long, c.self.invariant.keys_fit.most))

pub returns-clause-value : goal.returns-clause-value
returns-clause-value g c = rw (← c.self.view_is) (cc (c.deref.ensures.value, seconds-zip c.self.inside.keys.items c.self.inside.children.items c.self.invariant.same))
