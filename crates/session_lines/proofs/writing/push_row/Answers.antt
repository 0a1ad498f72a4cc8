use Rattle.std.proofs.Common.{codes, decimal}
use Rattle.wkt.specs.Printing.{printed}
use Rattle.session_lines.proofs.WritingLemmas.{fields_joined}
use Rattle.session_lines.proofs.writing.push_row.Goals as goal

pub returns-clause-items : goal.returns-clause-items
returns-clause-items c =
    let feature = c.args.feature.now in
    let office = rw c.as_bytes.ensures.value at c.push_field.ensures.items in
    let class = rw c.as_bytes-2.ensures.value at c.push_field-2.ensures.items in
    let shape = rw (c.as_bytes-3.ensures.value, c.deref.ensures.0, c.shape_text.ensures.bytes) at c.push_bytes.ensures.items in
    fields_joined _ _ _ _ _ _ (decimal feature.id) (decimal feature.version) feature.office feature.class (printed feature.shape) (codes " ")
    c.push_number_field.ensures.items c.push_number_field-2.ensures.items office class shape
