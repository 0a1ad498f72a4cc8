use Rattle.std.proofs.Common.{sym, arith}
use Rattle.tree_nodes.proofs.ListEnds.{filled, last_at}
use Rattle.tree_nodes.proofs.progress.Progress.last.Goals as goal

pub returns : goal.returns
returns g c =
    let some = filled c.self.inside.stack.items (λ e. c.requires (rw (← c.self.view_is) e)) in
    rw (← c.self.view_is) (last_at c.self.inside.stack.items _ c.index.result.now (omega (arith, some, c.len.ensures)) (sym c.index.ensures))
