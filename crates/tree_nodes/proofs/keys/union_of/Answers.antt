use Rattle.std.proofs.Common.{refl}
use Rattle.std.proofs.lemmas.Option.{slice_get_read}
use Rattle.tree_nodes.proofs.UnionLemmas.{union_key}
use Rattle.tree_nodes.proofs.keys.union_of.Goals as goal

pub loop-key-preserved : goal.loop-key-preserved
loop-key-preserved g c =
    let laws = g.met.C.KeyClass.laws in
    let here = slice_get_read c.args.keys.now _ c.loop-key.key-index _ refl c.loop-key-test.true c.key-item.is in
    rw c.union-union.ensures (union_key _ laws c.args.keys.now c.loop-key.key-index c.loop-key.union c.key-item.result here c.loop-key.invariant)
