use Rattle.std.proofs.Common.{◌≡◌, List, [], ap, subst, ◌∙◌}
use Rattle.features.specs.declared.rows.Feature.{Feature}
use Rattle.judging.specs.States.{PlainState}
use Rattle.world.specs.Filling.{GetsRows}
use Rattle.world.proofs.TendedLemmas.{tended_anew}
use Rattle.world.proofs.FillingLemmas.{world_from}
use Rattle.world.proofs.worlds.World.open_from.Goals as goal

pub invariant_of-result : goal.invariant_of-result
invariant_of-result g c =
    let same : c.as_slice.result.now ≡ c.args.base.features = c.as_slice.ensures.value ∙ ap (λ (b : PlainState). b.features) c.base.view_is in
    let gets = subst (λ (rows : List Feature). GetsRows c.in_ok-index.index c.fill.new.index rows) same c.in_ok-fill.ensures in
    rw c.in_ok-walks.ensures
    (tended_anew c.in_ok-plain.plain c.fill.new.index [] c.none.result
    (world_from c.args.subjects c.args.base c.args.starts c.args.limits c.in_ok-plain.plain c.in_ok-index.index c.fill.new.index c.requires.sorted c.in_ok-plain.ensures c.in_ok-index.ensures gets) c.none.ensures)
