use Rattle.std.proofs.Common.{refl, sym, ◌∙◌}
use Rattle.std.proofs.lemmas.Bool.{false≢true}
use Rattle.std.proofs.lemmas.Option.{slice_get_read}
use Rattle.tree_nodes.proofs.ListEnds.{take_one}
use Rattle.tree_reading.proofs.ReadingLemmas.{finds_more, finds_past}
use Rattle.tree_reading.proofs.reading.add_ids.Goals as goal
use Rattle.tree_reading.proofs.reading.add_ids.Goals.{then-matches_in_place+in_ok-try_push, else-matches_in_place}

pub loop-pair-preserved : goal.loop-pair-preserved
loop-pair-preserved g c =
    let here = slice_get_read c.pairs-pair-items.result.now _ c.loop-pair.pair-index _ refl c.loop-pair-test.true c.pair-item.is in
    let more = take_one c.pairs-pair-items.result.now c.loop-pair.pair-index c.pair-item.result here in
    elim c.if-matches_in_place.branch [
      | then-matches_in_place+in_ok-try_push w ↦ rw (more, w.ids-is, w.in_ok-try_push.ensures.items) (finds_more _ _ _ _ _ c.pair-item.result c.loop-pair.invariant (c.matches_in_place.ensures.0 w.if-matches_in_place.true))
      | else-matches_in_place w ↦ rw (more, w.ids-is) (finds_past _ _ _ _ _ c.pair-item.result c.loop-pair.invariant (λ h. false≢true (sym w.if-matches_in_place.false ∙ c.matches_in_place.ensures.1 h)))
    ]
