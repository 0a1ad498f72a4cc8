use Rattle.node_arena.proofs.Handles.{IsSize-value_count}
use Rattle.node_arena.proofs.Arena.len.Goals as goal

pub returns-clause-size : goal.returns-clause-size
returns-clause-size g c =
    rw (← c.self.view_is) (IsSize-value_count c.self.inside.first _ c.self.inside.slots.items)
