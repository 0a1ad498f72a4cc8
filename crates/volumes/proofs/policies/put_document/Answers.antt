use Rattle.std.proofs.Common.{◌≡◌, arith}
use Rattle.std.proofs.lemmas.Result.{on_ok_weaker}
use Rattle.sqlite_trees.specs.View.{IsClean}
use Rattle.volumes.proofs.PolicyLemmas.{documented_by}
use Rattle.volumes.proofs.policies.put_document.Goals as goal

pub returns-clause-ok : goal.returns-clause-ok
returns-clause-ok g c =
    on_ok_weaker c.put.result (λ writes clean.
    let mid : IsClean (g.S.Store.view c.find.new.store) = omega (arith, c.put.ensures.quiet.clean, clean) in
    let there = rw c.if-not-branch.false at (c.in_ok-find.ensures.ok mid) in
    documented_by _ _ _ c.args.table c.args.edition c.args.document.now _ _ c.in_ok-set_document.ensures there (c.in_ok-find.ensures.same mid) (writes clean)) c.put.ensures.ok
