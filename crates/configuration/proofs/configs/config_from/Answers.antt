use Rattle.std.proofs.Common.{ap, sym, ◌∙◌}
use Rattle.configuration.specs.Configs.{config_data, taken_over}
use Rattle.configuration.proofs.ConfigLemmas.{Gives-residual}
use Rattle.configuration.proofs.GridLemmas.{grid-fails}
use Rattle.configuration.proofs.WebLemmas.{web-fails}
use Rattle.configuration.proofs.configs.config_from.Goals as goal

pub returns-in_err-grid : goal.returns-in_err-grid
returns-in_err-grid g c =
    let taken = sym (c.in_ok-subjects.ensures ∙ ap taken_over c.as_slice.ensures.value) in
    Gives-residual config_data c.from_residual-in_err-grid.result _ _ c.from_residual-in_err-grid.ensures.1
    (grid-fails _ _ _ _ _ _ _ _ c.in_ok-given.ensures taken c.in_ok-document.ensures c.value_in.ensures c.in_err-grid.ensures)

pub returns-in_err-web : goal.returns-in_err-web
returns-in_err-web g c =
    let taken = sym (c.in_ok-subjects.ensures ∙ ap taken_over c.as_slice.ensures.value) in
    Gives-residual config_data c.from_residual-in_err-web.result _ _ c.from_residual-in_err-web.ensures.1
    (web-fails _ _ _ _ _ _ _ _ _ c.in_ok-given.ensures taken c.in_ok-document.ensures c.value_in.ensures c.in_ok-grid.ensures c.in_err-web.ensures)
