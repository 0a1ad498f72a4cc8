use Rattle.std.proofs.Common.{map, take}
use Rattle.std.specs.Arc.{arc_value}
use Rattle.audit_trail.specs.Calls.{calls_of}
use Rattle.chronicle.specs.Comparing.{AreTold}
use Rattle.chronicle.proofs.chronicles.Chronicle.follow.Given as goal

abbrev pub invariant-loop-place : goal.invariant-loop-place
invariant-loop-place g l = AreTold l.told (calls_of l.seat (take l.place l.self.records)) (map arc_value l.receipts)
