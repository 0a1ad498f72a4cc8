use Rattle.std.proofs.Common.{arith}
use Rattle.tree_nodes.proofs.Zips.{length_aligned, pushed_aligned, zip_push}
use Rattle.tree_nodes.proofs.entries.Entries.push.Goals as goal

pub push_reserved-requires : goal.push_reserved-requires
push_reserved-requires g c =
    let long = length_aligned c.self.inside.keys.items c.self.inside.children.items c.self.invariant.same in
    let lt = rw (← c.self.view_is) at c.requires in
    omega (arith, long, lt, c.self.invariant.keys_fit.room)

pub push_reserved-requires-2 : goal.push_reserved-requires-2
push_reserved-requires-2 g c =
    let long = length_aligned c.self.inside.keys.items c.self.inside.children.items c.self.invariant.same in
    let lt = rw (← c.self.view_is) at c.requires in
    omega (arith, long, lt, c.self.invariant.same, c.self.invariant.children_fit.room)

pub invariant_of-self : goal.invariant_of-self
invariant_of-self g c =
    let long = length_aligned c.self.inside.keys.items c.self.inside.children.items c.self.invariant.same in
    let lt = rw (← c.self.view_is) at c.requires in
    rw (c.push_reserved.ensures.items, c.push_reserved-2.ensures.items) (
    pushed_aligned c.args.key c.args.child c.self.invariant (omega (arith, long, lt)) (omega (arith, c.push_reserved.ensures.capacity)) (omega (arith, c.push_reserved-2.ensures.capacity))
    )

pub returns : goal.returns
returns g c = rw (← c.self.view_is, c.push_reserved.ensures.items, c.push_reserved-2.ensures.items) (zip_push c.self.inside.keys.items c.self.inside.children.items c.args.key c.args.child c.self.invariant.same)
