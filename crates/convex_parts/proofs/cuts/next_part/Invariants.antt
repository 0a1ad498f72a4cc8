use Rattle.std.proofs.Common.{◌≡◌}
use Rattle.convex_parts.proofs.cuts.next_part.Given as goal

abbrev pub invariant-loop-at : goal.invariant-loop-at
invariant-loop-at g l = l.ring.items ≡ l.initial.ring.items

abbrev pub invariant-loop-at-2 : goal.invariant-loop-at-2
invariant-loop-at-2 g l = l.ring.items ≡ l.initial.ring.items
