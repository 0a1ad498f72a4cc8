use Rattle.std.proofs.Common.{◌≡◌, arith, subst, ◌∙◌}
use Rattle.std.proofs.lemmas.Result.{on_ok_weaker}
use Rattle.audit_trail.specs.Legal.{after_deed}
use Rattle.sqlite_trees.specs.Tree.{put_row}
use Rattle.sqlite_trees.specs.View.{IsClean}
use Rattle.volumes.specs.Edits.{Writes}
use Rattle.volumes.specs.Records.{TurnsState}
use Rattle.volumes.specs.Rows.{row_of_line}
use Rattle.volumes.proofs.RecordLemmas.{record_appended}
use Rattle.volumes.proofs.records.put_record.Goals as goal

pub returns-clause-ok : goal.returns-clause-ok
returns-clause-ok g c =
    let view = g.S.Store.view in
    let t = c.args.tables.now in
    let old = view c.args.store.now in
    let mid = view c.put_line.new.store in
    let new = view c.put_deed.new.store in
    let line = c.as_str.ensures.value ∙ c.in_ok-line.ensures in
    on_ok_weaker c.put_deed.result (λ turned clean.
    let before : IsClean mid = omega (arith, c.put_deed.ensures.quiet.clean, clean) in
    record_appended _ _ _ t c.args.number c.args.entry.now c.requires.apart
    (subst (λ text. Writes old mid t.records (put_row (row_of_line c.args.number text) (old.trees t.records))) line (c.in_ok-put_line.ensures.ok before))
    (subst (λ deed. TurnsState mid new t (after_deed deed)) c.deed.ensures (turned clean))) c.put_deed.ensures.ok
