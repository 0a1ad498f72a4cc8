use Rattle.std.proofs.Common.{◌≡◌, ◌&&◌, drop, nat_eq}
use Rattle.std.specs.Cmp.Lexicographic.{pointwise}
use Rattle.credentials.proofs.keys.are_same.Given as goal

abbrev pub invariant-loop-at : goal.invariant-loop-at
invariant-loop-at l =
    (l.same && pointwise nat_eq (drop l.at l.one) (drop l.at l.other)) ≡ pointwise nat_eq l.one l.other
