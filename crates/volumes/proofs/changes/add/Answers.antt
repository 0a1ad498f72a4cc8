use Rattle.std.proofs.Common.{◌≡◌, arith}
use Rattle.std.proofs.lemmas.Result.{on_ok_weaker}
use Rattle.sqlite_trees.specs.View.{IsClean}
use Rattle.volumes.proofs.ChangeLemmas.{added_by}
use Rattle.volumes.proofs.changes.add.Goals as goal

pub returns-clause-ok : goal.returns-clause-ok
returns-clause-ok g c =
    on_ok_weaker c.put.result (λ writes clean.
    let mid : IsClean (g.S.Store.view c.find.new.store) = omega (arith, c.put.ensures.quiet.clean, clean) in
    let none = rw c.if-branch.false at (c.in_ok-find.ensures.ok mid) in
    added_by _ _ _ c.args.table c.args.feature.now c.find.new.row _ c.find.ensures.fits none (c.in_ok-find.ensures.same mid) c.in_ok-set_feature.ensures.row (writes clean)) c.put.ensures.ok
