use Rattle.std.proofs.Common.{refl}
use Rattle.std.proofs.lemmas.Option.{slice_get_read}
use Rattle.tree_nodes.proofs.UnionLemmas.{union_item}
use Rattle.tree_nodes.proofs.keys.union_of_items.Goals as goal

pub loop-pair-preserved : goal.loop-pair-preserved
loop-pair-preserved g c =
    let laws = g.met.C.KeyClass.laws in
    let here = slice_get_read c.args.pairs.now _ c.loop-pair.pair-index _ refl c.loop-pair-test.true c.pair-item.is in
    rw (c.union-union.ensures, c.key_of.ensures) (union_item _ laws c.args.pairs.now c.loop-pair.pair-index c.loop-pair.union c.pair-item.result here c.loop-pair.invariant)
