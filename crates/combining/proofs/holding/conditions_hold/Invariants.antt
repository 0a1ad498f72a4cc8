use Rattle.std.proofs.Common.{◌≡◌, true, take}
use Rattle.std.specs.List.{list_all}
use Rattle.combining.specs.Holding.{atom_holds}
use Rattle.combining.proofs.holding.conditions_hold.Given as goal

abbrev pub invariant-loop-atom : goal.invariant-loop-atom
invariant-loop-atom g l = list_all (atom_holds l.question l.met) (take l.atom-index l.atoms) ≡ true
