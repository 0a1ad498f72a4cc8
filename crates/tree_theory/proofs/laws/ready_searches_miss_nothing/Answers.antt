use Rattle.tree_theory.proofs.Ready.{misses_nothing, places_behind_none}
use Rattle.tree_theory.proofs.laws.ready_searches_miss_nothing.Goals as goal

pub returns : goal.returns
returns g c =
    let laws = g.met.C.KeyClass.laws in
    record { complete = misses_nothing laws; none_placed = places_behind_none laws }
