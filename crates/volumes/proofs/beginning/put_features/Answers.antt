use Rattle.std.proofs.Common.{◌≡◌, refl, ap, ◌∙◌, arith}
use Rattle.sqlite_trees.specs.View.{IsClean}
use Rattle.volumes.proofs.StoreLemmas.{kept_itself, kept_on, quiet_itself, quiet_on}
use Rattle.volumes.proofs.RecordLemmas.{frames_on}
use Rattle.volumes.proofs.beginning.put_features.Goals as goal

pub loop-feature-init : goal.loop-feature-init
loop-feature-init g c = record {
  shaped = c.requires.shaped;
  frame = λ clean. refl;
  kept = λ clean. kept_itself _;
  quiet = quiet_itself _ _ _ _ _;
}

pub loop-feature-preserved : goal.loop-feature-preserved
loop-feature-preserved g c =
    let view = g.S.Store.view in
    let mid = view c.loop-feature.store in
    let before = λ (clean : IsClean (view c.add.new.store)). let h : IsClean mid = omega (arith, c.add.ensures.quiet.clean, clean) in h in
    record {
      shaped = λ clean. ap (λ shapes. shapes c.args.table) (c.add.ensures.kept clean).shape ∙ c.loop-feature.invariant.shaped (before clean);
      frame = λ clean. frames_on (view c.args.store.now) mid (view c.add.new.store) (c.loop-feature.invariant.frame (before clean)) (c.in_ok-add.ensures.ok clean).frame;
      kept = λ clean. kept_on _ _ _ (c.loop-feature.invariant.kept (before clean)) (c.add.ensures.kept clean);
      quiet = quiet_on _ _ _ _ _ _ _ c.loop-feature.invariant.quiet c.add.ensures.quiet;
    }
