use Rattle.std.proofs.Common.{◌≡◌, ◌∙◌, ap, ℤ, Ok, Result, SFits, w64, rules}
use Rattle.std.proofs.lemmas.Int.{to_z-of_z}
use Rattle.grid.specs.declared.faults.NumberFault.{NumberFault}
use Rattle.grid.specs.declared.values.TheConstants.{CAP}
use Rattle.grid.specs.Capped.{capped_text_steps}
use Rattle.grid.specs.Grids.{on_grid, origin_on}
use Rattle.grid.proofs.CappedLemmas.{text_on_grid, origin_in_range}
use Rattle.grid.proofs.coordinates.coordinate_of.Goals as goal

pub returns-in-Ok : goal.returns-in-Ok
returns-in-Ok c =
    let steps_fit : SFits w64 c.in-Ok.steps = search rules in
    let origin_fits : SFits w64 c.origin.result = search rules in
    let placed : c.on_grid.result ≡ on_grid c.origin.result (Ok c.in-Ok.steps) = simp to_z-of_z at c.on_grid.ensures in
    placed
    ∙ ap (λ (r : Result ℤ NumberFault). on_grid c.origin.result r) c.in-Ok.ensures.value
    ∙ ap (λ (o : ℤ). on_grid o (capped_text_steps CAP c.args.grid.now.between c.args.grid.now.decimals c.args.text.now)) c.origin.ensures.value
    ∙ text_on_grid c.args.grid.now.between c.args.grid.now.decimals c.args.text.now (origin_on c.args.axis c.args.grid.now) (origin_in_range c.args.axis c.args.grid.now)

pub returns-in-Err : goal.returns-in-Err
returns-in-Err c =
    ap (λ (r : Result ℤ NumberFault). on_grid (origin_on c.args.axis c.args.grid.now) r) c.in-Err.ensures.value
    ∙ text_on_grid c.args.grid.now.between c.args.grid.now.decimals c.args.text.now (origin_on c.args.axis c.args.grid.now) (origin_in_range c.args.axis c.args.grid.now)
