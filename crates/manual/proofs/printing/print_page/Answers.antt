use Rattle.std.proofs.Common.{sym, ◌∙◌}
use Rattle.manual.proofs.printing.print_page.Goals as goal

pub returns : goal.returns
returns g c =
    let took = c.in-Err-write_page.ensures in
    (c.in-Ok.page.items, took.0, took.1, c.in-Ok.ensures, sym c.as_slice.ensures.value ∙ took.2, took.3)
