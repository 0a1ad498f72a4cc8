use Rattle.node_arena.proofs.ArenaLaws.{handle_cases, value_with_here, value_with_other, one_value_a_slot}
use Rattle.node_arena.proofs.laws.map_laws.Goals as goal

pub returns : goal.returns
returns g c =
    record { handle_cases = handle_cases; value_with_here = value_with_here; value_with_other = value_with_other; one_value_a_slot = one_value_a_slot }
