use Rattle.std.proofs.Common.{refl, arith}
use Rattle.std.proofs.lemmas.Option.{slice_get_read}
use Rattle.tree_nodes.proofs.PenaltyLemmas.{best_is_next, best_stays, best_of_all}
use Rattle.tree_nodes.proofs.penalties.best_entry.Goals.{then-is_less, else-is_less}
use Rattle.tree_nodes.proofs.penalties.best_entry.Goals as goal

pub loop-place-preserved : goal.loop-place-preserved
loop-place-preserved g c =
    let here = slice_get_read c.args.keys.now _ c.loop-place.place _ refl c.loop-place-test.true c.index-keys-place.is in
    let key = g.C.KeyClass in
    elim c.if-is_less.branch [
      | then-is_less w ↦ rw (w.best-is, w.least-is, c.measured-measures.ensures) (best_is_next key.growth key.second_growth c.args.keys.now c.args.key c.loop-place.best c.loop-place.place c.loop-place.least c.index-keys-place.result c.loop-place.invariant here (rw c.measured-measures.ensures at (c.is_less.ensures.less w.if-is_less.true)))
      | else-is_less w ↦ rw (w.best-is, w.least-is) (best_stays key.growth key.second_growth c.args.keys.now c.args.key c.loop-place.best c.loop-place.place c.loop-place.least c.index-keys-place.result c.loop-place.invariant here (rw c.measured-measures.ensures at (c.is_less.ensures.no_more w.if-is_less.false)))
    ]

pub returns : goal.returns
returns g c =
    let past = c.loop-place-test.false in
    best_of_all _ _ c.args.keys.now c.args.key c.loop-place.best c.loop-place.least c.loop-place.place (omega (arith, past)) c.loop-place.invariant
