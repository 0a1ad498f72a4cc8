use Rattle.std.proofs.Common.{◌≡◌, ◌+◌, ◌∷◌, [], map, drop, length, subst, sym, ap, ◌∙◌, arith}
use Rattle.std.proofs.Math.Seq.{drop-length}
use Rattle.std.specs.Arc.{arc_value}
use Rattle.sqlite_trees.specs.View.{IsClean}
use Rattle.volumes.specs.Records.{Appends}
use Rattle.volumes.proofs.StoreLemmas.{kept_itself, kept_on, quiet_itself, quiet_on, next_of, none_left}
use Rattle.volumes.proofs.RestLemmas.{tables_kept}
use Rattle.volumes.proofs.RecordLemmas.{GoesOn, group_begun, group_stepped, group_ended}
use Rattle.volumes.proofs.records.put_records.Goals as goal

pub loop-item-init : goal.loop-item-init
loop-item-init g c = record {
  counted = omega arith;
  shaped = c.requires.shaped;
  kept = λ clean. kept_itself _;
  quiet = quiet_itself _ _ _ _ _;
  told = λ clean. group_begun _ _ _ _;
}

pub loop-item-preserved : goal.loop-item-preserved
loop-item-preserved g c =
    let view = g.S.Store.view in
    let t = c.args.tables.now in
    let old = view c.args.store.now in
    let mid = view c.loop-item.store in
    let new = view c.put_record.new.store in
    let all = map arc_value c.args.records.now in
    let before = λ (clean : IsClean new). let h : IsClean mid = omega (arith, c.put_record.ensures.quiet.clean, clean) in h in
    let next = next_of c.args.records.now c.loop-item.item-index c.item-item.result c.loop-item-test.true c.item-item.is in
    record {
      counted = omega arith;
      shaped = λ clean. tables_kept mid new t (c.put_record.ensures.kept clean) (c.loop-item.invariant.shaped (before clean));
      kept = λ clean. kept_on _ _ _ (c.loop-item.invariant.kept (before clean)) (c.put_record.ensures.kept clean);
      quiet = quiet_on _ _ _ _ _ _ _ c.loop-item.invariant.quiet c.put_record.ensures.quiet;
      told = λ clean. group_stepped old mid new t c.args.first c.loop-item.number (arc_value c.item-item.result) _ all
          (subst (λ left. GoesOn old mid t c.args.first c.loop-item.number (map arc_value left) all) next (c.loop-item.invariant.told (before clean)))
          (subst (λ r. Appends mid new t c.loop-item.number (r ∷ [])) c.deref.ensures (c.in_ok-put_record.ensures.ok clean));
    }

pub returns-clause-ok : goal.returns-clause-ok
returns-clause-ok g c =
    let view = g.S.Store.view in
    let all = map arc_value c.args.records.now in
    let over = none_left c.args.records.now c.loop-item.item-index c.loop-item-test.false c.loop-item.auto.item-index-end ∙ drop-length c.args.records.now in
    λ clean. group_ended _ _ _ _ _ _
    (subst (λ left. GoesOn (view c.args.store.now) (view c.loop-item.store) c.args.tables.now c.args.first c.loop-item.number (map arc_value left) all) over (c.loop-item.invariant.told clean))
