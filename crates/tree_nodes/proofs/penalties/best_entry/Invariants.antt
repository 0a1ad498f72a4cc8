use Rattle.tree_nodes.proofs.PenaltyLemmas.{IsBestOf}
use Rattle.tree_nodes.proofs.penalties.best_entry.Given as goal

abbrev pub invariant-loop-place : goal.invariant-loop-place
invariant-loop-place g l = IsBestOf g.C.KeyClass.growth g.C.KeyClass.second_growth l.keys l.key l.best l.least l.place
