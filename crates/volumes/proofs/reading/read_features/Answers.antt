use Rattle.std.proofs.Common.{◌≡◌, ◌++◌, List, Some, subst, sym, ap, ap₂, ◌∙◌, arith}
use Rattle.std.proofs.lemmas.Result.{IfOk-weaker}
use Rattle.features.specs.declared.rows.Feature.{Feature}
use Rattle.sqlite_value.specs.Order.{Row}
use Rattle.sqlite_trees.specs.View.{IsClean}
use Rattle.volumes.specs.Edits.{IsReading, Gives, AreHigh, AreLow, AreIds}
use Rattle.volumes.proofs.StoreLemmas.{kept_on, quiet_on}
use Rattle.volumes.proofs.ReadingLemmas.{read_none, read_more, read_end, read_end_same, ids_more, ids_joined}
use Rattle.volumes.proofs.reading.read_features.Goals as goal

pub loop-init : goal.loop-init
loop-init g c = record {
  live = c.in_ok-begin_reading.ensures.live;
  kept = c.begin_reading.ensures.kept;
  quiet = c.begin_reading.ensures.quiet;
  high = subst AreHigh (sym c.new-highs.ensures.items) tt;
  low = subst AreLow (sym c.new-lows.ensures.items) tt;
  ids = subst AreIds (sym (ap₂ (λ (a b : List Feature). a ++ b) c.new-highs.ensures.items c.new-lows.ensures.items)) tt;
  told = λ clean. read_none _ _ _ _ (c.in_ok-begin_reading.ensures.sound clean) (c.in_ok-begin_reading.ensures.ok clean)
      (ap₂ (λ (a b : List Feature). a ++ b) c.new-highs.ensures.items c.new-lows.ensures.items);
}

pub loop-preserved : goal.loop-preserved
loop-preserved g c =
    let view = g.S.Store.view in
    let old = view c.args.store.now in
    let mid = view c.loop.store in
    let new = view c.read_next.new.store in
    let row = c.read_next.new.row in
    let before = λ (clean : IsClean new). let h : IsClean mid = omega (arith, c.read_next.ensures.quiet.clean, clean) in h in
    record {
      live = c.in_ok-read_next.ensures.live;
      kept = λ clean. kept_on _ _ _ (c.loop.invariant.kept (before clean)) (c.read_next.ensures.kept clean);
      quiet = quiet_on _ _ _ _ _ _ _ c.loop.invariant.quiet c.read_next.ensures.quiet;
      high = c.in_ok-keep.ensures.highs c.loop.invariant.high;
      low = c.in_ok-keep.ensures.lows c.loop.invariant.low;
      ids = ids_more _ _ _ c.loop.invariant.ids c.in_ok-feature.ensures.fits c.in_ok-keep.ensures.rows;
      told = λ clean. read_more old mid new c.args.table (c.loop.highs.items ++ c.loop.lows.items) (c.keep.new.highs.items ++ c.keep.new.lows.items) c.in_ok-feature.feature row
          (c.loop.invariant.told (before clean))
          (subst (λ found. (rows : List Row) → mid.cursors 0 ≡ Some rows → (left : List Row) × IsReading mid new left × Gives rows row found left) c.if-not-branch.false (c.in_ok-read_next.ensures.ok clean))
          c.in_ok-feature.ensures.row c.in_ok-keep.ensures.rows;
    }

pub returns-then-not-branch-clause-ok : goal.returns-then-not-branch-clause-ok
returns-then-not-branch-clause-ok g c =
    let view = g.S.Store.view in
    let old = view c.args.store.now in
    let mid = view c.loop.store in
    let new = view c.read_next.new.store in
    let row = c.read_next.new.row in
    IfOk-weaker c.joined.result _ _ (λ features items clean.
    let before : IsClean mid = omega (arith, c.read_next.ensures.quiet.clean, clean) in
    read_end old mid new c.args.table c.loop.highs.items c.loop.lows.items features.items row (c.loop.invariant.told before)
    (subst (λ found. (rows : List Row) → mid.cursors 0 ≡ Some rows → (left : List Row) × IsReading mid new left × Gives rows row found left) c.if-not-branch.true (c.in_ok-read_next.ensures.ok clean))
    c.loop.invariant.high c.loop.invariant.low (items ∙ ap (λ (hs : List Feature). c.loop.lows.items ++ hs) c.as_slice.ensures.value)) c.joined.ensures.items

pub returns-then-not-branch-clause-same : goal.returns-then-not-branch-clause-same
returns-then-not-branch-clause-same g c =
    let view = g.S.Store.view in
    let old = view c.args.store.now in
    let mid = view c.loop.store in
    let new = view c.read_next.new.store in
    let row = c.read_next.new.row in
    IfOk-weaker c.joined.result _ _ (λ features items clean.
    let before : IsClean mid = omega (arith, c.read_next.ensures.quiet.clean, clean) in
    read_end_same old mid new c.args.table (c.loop.highs.items ++ c.loop.lows.items) row (c.loop.invariant.told before)
    (subst (λ found. (rows : List Row) → mid.cursors 0 ≡ Some rows → (left : List Row) × IsReading mid new left × Gives rows row found left) c.if-not-branch.true (c.in_ok-read_next.ensures.ok clean))) c.joined.ensures.items

pub returns-then-not-branch-clause-ids : goal.returns-then-not-branch-clause-ids
returns-then-not-branch-clause-ids g c =
    IfOk-weaker c.joined.result _ _ (λ features items. ids_joined c.loop.highs.items c.loop.lows.items features.items c.loop.invariant.ids
    (items ∙ ap (λ (hs : List Feature). c.loop.lows.items ++ hs) c.as_slice.ensures.value)) c.joined.ensures.items
