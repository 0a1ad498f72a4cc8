use Rattle.std.proofs.Common.{◌≡◌, ◌+◌, drop, length, [], subst, ap, ◌∙◌, arith}
use Rattle.std.proofs.Math.Seq.{drop-length}
use Rattle.sqlite_trees.specs.View.{IsClean}
use Rattle.volumes.proofs.StoreLemmas.{kept_itself, kept_on, quiet_itself, quiet_on, next_of, none_left}
use Rattle.volumes.proofs.ChangeLemmas.{IsUnderWay, begun, stepped, ended}
use Rattle.volumes.proofs.changes.put_changes.Goals as goal

pub loop-change-init : goal.loop-change-init
loop-change-init g c = record {
  shaped = c.requires.shaped;
  kept = λ clean. kept_itself _;
  quiet = quiet_itself _ _ _ _ _;
  told = λ clean. begun _ _ _ _ _;
}

pub loop-change-preserved : goal.loop-change-preserved
loop-change-preserved g c =
    let view = g.S.Store.view in
    let old = view c.args.store.now in
    let mid = view c.loop-change.store in
    let changes = c.args.changes.now in
    let before = λ (clean : IsClean (view c.put_change.new.store)). let h : IsClean mid = omega (arith, c.put_change.ensures.quiet.clean, clean) in h in
    let next = next_of changes c.loop-change.change-index c.change-item.result c.loop-change-test.true c.change-item.is in
    record {
      shaped = λ clean. ap (λ shapes. shapes c.args.table) (c.put_change.ensures.kept clean).shape ∙ c.loop-change.invariant.shaped (before clean);
      kept = λ clean. kept_on _ _ _ (c.loop-change.invariant.kept (before clean)) (c.put_change.ensures.kept clean);
      quiet = quiet_on _ _ _ _ _ _ _ c.loop-change.invariant.quiet c.put_change.ensures.quiet;
      told = λ clean. stepped _ _ _ _ _ _ c.change-item.result _ _
          (subst (λ left. IsUnderWay old mid c.args.table c.args.version c.args.office.now left changes) next (c.loop-change.invariant.told (before clean)))
          (c.in_ok-put_change.ensures.ok clean);
    }

pub returns-clause-ok : goal.returns-clause-ok
returns-clause-ok g c =
    let view = g.S.Store.view in
    let changes = c.args.changes.now in
    let over = none_left changes c.loop-change.change-index c.loop-change-test.false c.loop-change.auto.change-index-end ∙ drop-length changes in
    λ clean. ended _ _ _ _ _ _
    (subst (λ left. IsUnderWay (view c.args.store.now) (view c.loop-change.store) c.args.table c.args.version c.args.office.now left changes) over (c.loop-change.invariant.told clean))
