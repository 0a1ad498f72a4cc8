use Rattle.std.proofs.Common.{Ok, ap, sym, ◌∙◌}
use Rattle.configuration.specs.Configs.{of_form}
use Rattle.configuration.proofs.ConfigLemmas.{Gives-residual}
use Rattle.configuration.proofs.WebLemmas.{collections-fail, keys-fail, public-fails, said, trust-fails}
use Rattle.configuration.proofs.web.web_in.Goals as goal

pub returns-in_err-public : goal.returns-in_err-public
returns-in_err-public g c =
    Gives-residual _ _ _ _ c.from_residual-in_err-public.ensures.1
    (public-fails _ _ _ _ (sym c.in_ok-anonymous.ensures) (sym c.in_ok-metrics.ensures) _ c.value_in.ensures _ c.in_err-public.ensures)

pub returns-in_err-collections : goal.returns-in_err-collections
returns-in_err-collections g c =
    Gives-residual _ _ _ _ c.from_residual-in_err-collections.ensures.1
    (collections-fail _ _ _ _ (sym c.in_ok-anonymous.ensures) (sym c.in_ok-metrics.ensures) _ c.value_in.ensures _ c.in_ok-public.ensures _ c.value_in-2.ensures _ c.in_err-collections.ensures)

pub returns-in_err-keys : goal.returns-in_err-keys
returns-in_err-keys g c =
    Gives-residual _ _ _ _ c.from_residual-in_err-keys.ensures.1
    (keys-fail _ _ _ _ (sym c.in_ok-anonymous.ensures) (sym c.in_ok-metrics.ensures) _ c.value_in.ensures _ c.in_ok-public.ensures _ c.value_in-2.ensures _ c.in_ok-collections.ensures
    _ c.value_in-3.ensures _ c.in_err-keys.ensures)

pub returns-in_err-trusted_field : goal.returns-in_err-trusted_field
returns-in_err-trusted_field g c =
    Gives-residual _ _ _ _ c.from_residual-in_err-trusted_field.ensures.1
    (ap of_form (trust-fails _ _ _ _ (sym c.in_ok-anonymous.ensures) (sym c.in_ok-metrics.ensures) _ c.value_in.ensures _ c.in_ok-public.ensures _ c.value_in-2.ensures _ c.in_ok-collections.ensures
    _ c.value_in-3.ensures _ (c.in_ok-keys.ensures ∙ ap Ok (sym c.as_slice.ensures.value)) _ c.value_in-4.ensures _ (sym c.in_err-trusted_field.ensures)))

pub returns : goal.returns
returns g c =
    rw (← c.as_slice.ensures.value) (ap of_form (said _ _ _ _ (sym c.in_ok-anonymous.ensures) (sym c.in_ok-metrics.ensures) _ c.value_in.ensures _ c.in_ok-public.ensures _ c.value_in-2.ensures _ c.in_ok-collections.ensures
    _ c.value_in-3.ensures _ (c.in_ok-keys.ensures ∙ ap Ok (sym c.as_slice.ensures.value)) _ c.value_in-4.ensures _ (sym c.in_ok-trusted_field.ensures)))
