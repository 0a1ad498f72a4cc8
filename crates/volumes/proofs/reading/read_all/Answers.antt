use Rattle.std.proofs.Common.{◌≡◌, arith}
use Rattle.sqlite_trees.specs.View.{IsClean}
use Rattle.volumes.specs.States.{state_of}
use Rattle.volumes.proofs.ReadingLemmas.{held_all}
use Rattle.volumes.proofs.reading.read_all.Goals as goal

pub returns-clause-ok : goal.returns-clause-ok
returns-clause-ok g c = λ clean.
    let view = g.S.Store.view in
    let mid = view c.read_state.new.store in
    let before : IsClean mid = omega (arith, c.read_lines.ensures.quiet.clean, clean) in
    held_all (view c.args.store.now) mid c.args.tables.now c.args.first c.in_ok-next.next (state_of c.in_ok-state.state)
    (c.in_ok-state.ensures.same before) (c.in_ok-state.ensures.ok before) c.in_ok-state.ensures.sorted c.in_ok-state.ensures.ids (c.in_ok-next.ensures.ok clean)
