use Rattle.std.proofs.Common.{◌≡◌}
use Rattle.hall.proofs.searching.searched_by_steps.Given as goal

abbrev pub invariant-loop : goal.invariant-loop
invariant-loop g l =
    (goal.iterator-loop g).can_next l.iterator' × (goal.iterator-loop g).is_finite l.iterator'
    × (l.share.amount ≡ l.fn.share.amount) × (l.share.parts ≡ l.fn.share.parts)
