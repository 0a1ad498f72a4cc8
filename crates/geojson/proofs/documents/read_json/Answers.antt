use Rattle.std.proofs.Common.{Err, refl}
use Rattle.json.specs.Value.{value_view}
use Rattle.geojson.proofs.Unread.{document_read, unread_told}
use Rattle.geojson.proofs.documents.read_json.Goals as goal

pub returns-in-Ok : goal.returns-in-Ok
returns-in-Ok g c =
    document_read c.args.text.now (value_view c.in-Ok.value) c.in-Ok.ensures.ok.0 c.in-Ok.ensures.ok.1

pub returns-in-Err : goal.returns-in-Err
returns-in-Err g c =
    rw c.unread.ensures
    (unread_told c.args.text.now (Err c.in-Err.error) c.in-Err.error refl c.in-Err.ensures.invalid c.in-Err.ensures.never_too_long c.in-Err.ensures.never_duplicate)
