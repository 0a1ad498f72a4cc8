use Rattle.std.proofs.Common.{sym, ap, length, ◌∙◌}
use Rattle.chunks.specs.Tables.{Listed, value_at}
use Rattle.chunks.proofs.Elements.{length-first_values}
use Rattle.chunks.proofs.table.Table.len.Goals as goal

pub returns-clause-value : goal.returns-clause-value
returns-clause-value g c =
    rw (← c.self.view_is) (sym (length-first_values (value_at c.self.inside.chunks.items) c.self.inside.len c.self.invariant.full))
