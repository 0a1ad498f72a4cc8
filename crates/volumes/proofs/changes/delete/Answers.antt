use Rattle.std.proofs.Common.{◌≡◌, arith}
use Rattle.std.proofs.lemmas.Result.{on_ok_weaker}
use Rattle.sqlite_trees.specs.View.{IsClean}
use Rattle.volumes.proofs.ChangeLemmas.{deleted_by}
use Rattle.volumes.proofs.changes.delete.Goals as goal

pub returns-clause-ok : goal.returns-clause-ok
returns-clause-ok g c =
    on_ok_weaker c.take_out.result (λ writes clean.
    let mid : IsClean (g.S.Store.view c.find.new.store) = omega (arith, c.take_out.ensures.quiet.clean, clean) in
    deleted_by _ _ _ c.args.table c.args.id c.find.ensures.fits (c.in_ok-find.ensures.same mid) (writes clean)) c.take_out.ensures.ok
