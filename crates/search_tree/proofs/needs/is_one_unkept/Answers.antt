use Rattle.std.proofs.Common.{arith, refl, sym, ◌∙◌}
use Rattle.std.proofs.lemmas.Option.{slice_get_read}
use Rattle.search_tree.proofs.DueLemmas.{next_kept, all_kept}
use Rattle.search_tree.proofs.needs.is_one_unkept.Goals as goal

pub returns-then-not-keeps-clause-some : goal.returns-then-not-keeps-clause-some
returns-then-not-keeps-clause-some g c =
    λ told. (c.loop-pair.pair-index, c.pair-item.result, slice_get_read c.args.pairs.now _ c.loop-pair.pair-index c.pair-item.result refl c.loop-pair-test.true c.pair-item.is, sym c.keeps.ensures ∙ c.if-not-keeps.true)

pub loop-pair-preserved : goal.loop-pair-preserved
loop-pair-preserved g c =
    next_kept (λ key item. g.K.Keeper.kept c.args.keeper.now key item) c.args.pairs.now c.loop-pair.pair-index c.loop-pair.invariant c.pair-item.result (slice_get_read c.args.pairs.now _ c.loop-pair.pair-index c.pair-item.result refl c.loop-pair-test.true c.pair-item.is) (sym c.keeps.ensures ∙ c.if-not-keeps.false)

pub returns-clause-none : goal.returns-clause-none
returns-clause-none g c =
    λ told. all_kept (λ key item. g.K.Keeper.kept c.args.keeper.now key item) c.args.pairs.now c.loop-pair.pair-index c.loop-pair.invariant (omega (arith, c.loop-pair-test.false))
