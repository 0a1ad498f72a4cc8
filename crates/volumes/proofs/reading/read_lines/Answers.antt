use Rattle.std.proofs.Common.{◌≡◌, ◌+◌, List, Some, subst, sym, ◌∙◌, arith}
use Rattle.sqlite_value.specs.Order.{Row}
use Rattle.sqlite_trees.specs.View.{IsClean}
use Rattle.volumes.specs.Edits.{IsReading, Gives}
use Rattle.volumes.proofs.StoreLemmas.{kept_on, quiet_on}
use Rattle.volumes.proofs.ReadingLemmas.{LinesSoFar, lines_none, lines_more, lines_end, read_lines_same}
use Rattle.volumes.proofs.reading.read_lines.Goals as goal

pub loop-init : goal.loop-init
loop-init g c = record {
  live = c.in_ok-begin_reading.ensures.live;
  kept = c.begin_reading.ensures.kept;
  quiet = c.begin_reading.ensures.quiet;
  told = λ clean. lines_none _ _ _ _ (c.in_ok-begin_reading.ensures.ok clean);
}

pub loop-preserved : goal.loop-preserved
loop-preserved g c =
    let view = g.S.Store.view in
    let old = view c.args.store.now in
    let mid = view c.loop.store in
    let new = view c.read_next.new.store in
    let row = c.read_next.new.row in
    let before = λ (clean : IsClean new). let h : IsClean mid = omega (arith, c.read_next.ensures.quiet.clean, clean) in h in
    record {
      live = c.in_ok-read_next.ensures.live;
      kept = λ clean. kept_on _ _ _ (c.loop.invariant.kept (before clean)) (c.read_next.ensures.kept clean);
      quiet = quiet_on _ _ _ _ _ _ _ c.loop.invariant.quiet c.read_next.ensures.quiet;
      told = λ clean. lines_more old mid new c.args.table c.args.first c.loop.number row
          (c.loop.invariant.told (before clean))
          (subst (λ found. (rows : List Row) → mid.cursors 0 ≡ Some rows → (left : List Row) × IsReading mid new left × Gives rows row found left) c.if-not-branch.false (c.in_ok-read_next.ensures.ok clean))
          c.in_ok-check_line.ensures;
    }

pub returns-then-not-branch-clause-ok : goal.returns-then-not-branch-clause-ok
returns-then-not-branch-clause-ok g c = λ clean.
    let view = g.S.Store.view in
    let mid = view c.loop.store in
    let new = view c.read_next.new.store in
    let row = c.read_next.new.row in
    let before : IsClean mid = omega (arith, c.read_next.ensures.quiet.clean, clean) in
    lines_end (view c.args.store.now) mid new c.args.table c.args.first c.loop.number row (c.loop.invariant.told before)
    (subst (λ found. (rows : List Row) → mid.cursors 0 ≡ Some rows → (left : List Row) × IsReading mid new left × Gives rows row found left) c.if-not-branch.true (c.in_ok-read_next.ensures.ok clean))

pub returns-then-not-branch-clause-same : goal.returns-then-not-branch-clause-same
returns-then-not-branch-clause-same g c = λ clean.
    let view = g.S.Store.view in
    let mid = view c.loop.store in
    let new = view c.read_next.new.store in
    let row = c.read_next.new.row in
    let before : IsClean mid = omega (arith, c.read_next.ensures.quiet.clean, clean) in
    read_lines_same (view c.args.store.now) mid new c.args.table c.args.first c.loop.number row (c.loop.invariant.told before)
    (subst (λ found. (rows : List Row) → mid.cursors 0 ≡ Some rows → (left : List Row) × IsReading mid new left × Gives rows row found left) c.if-not-branch.true (c.in_ok-read_next.ensures.ok clean))
