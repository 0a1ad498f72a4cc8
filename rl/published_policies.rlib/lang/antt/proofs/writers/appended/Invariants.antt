use Rattle.std.proofs.Common.{◌≡◌, [], drop}
use Rattle.published_policies.proofs.writers.appended.Given as goal

abbrev pub invariant-loop : goal.invariant-loop
invariant-loop g l =
    (goal.iterator-loop g).can_next l.iterator' × (goal.iterator-loop g).is_finite l.iterator'
    × (l.copies.desk ≡ l.fn.copies.desk) × (drop l.copies.behind l.copies.log.items ≡ []) × (l.policy ≡ l.fn.policy)
