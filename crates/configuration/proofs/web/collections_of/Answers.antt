use Rattle.std.proofs.Common.{ap, sym, ◌∙◌}
use Rattle.serde_json.specs.View.{view}
use Rattle.configuration.specs.Configs.{collection_in, of_form}
use Rattle.configuration.proofs.ConfigLemmas.{Gives-residual, left_at-more, left_at-fails, left_at-end}
use Rattle.configuration.proofs.web.collections_of.Goals as goal

pub returns-in_err-name : goal.returns-in_err-name
returns-in_err-name g c =
    let read = ap (λ before. collection_in before (view c.value-item.result)) c.as_slice.ensures.value in
    Gives-residual _ _ _ _ c.from_residual.ensures.1 (ap of_form (sym c.loop-value.invariant ∙ left_at-fails collection_in c.loop-value.names.items c.loop-value.value-index c.args.items.now
    c.value-item.result c.in_err-name.field-0.0 c.loop-value-test.true c.value-item.is (sym (c.in_err-name.ensures ∙ read))))

pub loop-value-preserved : goal.loop-value-preserved
loop-value-preserved g c =
    let read = ap (λ before. collection_in before (view c.value-item.result)) c.as_slice.ensures.value in
    rw c.in_ok-try_push.ensures.items (left_at-more collection_in c.loop-value.names.items c.loop-value.value-index c.args.items.now c.value-item.result c.in_ok-name.name
    c.loop-value-test.true c.value-item.is (sym (c.in_ok-name.ensures ∙ read)) ∙ c.loop-value.invariant)

pub returns : goal.returns
returns g c = ap of_form (sym c.loop-value.invariant ∙ left_at-end collection_in c.loop-value.names.items c.loop-value.value-index c.args.items.now c.loop-value-test.false)
