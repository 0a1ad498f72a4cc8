use Rattle.std.proofs.Common.{◌≡◌, ℕ, None, refl, sym, subst, ◌∙◌, arith}
use Rattle.std.specs.List.{remove}
use Rattle.predicate_locks.specs.Searches.{find_number}
use Rattle.predicate_locks.proofs.SearchLemmas.{rising-removed, find-removed, find-removed_other}
use Rattle.predicate_locks.proofs.running.Running.leave.Goals as goal

pub invariant_of-self : goal.invariant_of-self
invariant_of-self g c =
    let found = rw (← c.self.view_is) at c.in-Some.ensures.found in
    record {
      rising = rw c.remove.ensures.items (rising-removed 0 c.self.inside.searches.items c.self.inside.next c.self.invariant.rising c.in-Some.at found.0);
      limit = omega (arith, c.remove.ensures.len, c.self.invariant.limit);
      room = omega (arith, c.remove.ensures.capacity, c.self.invariant.room);
    }

pub returns-clause-left : goal.returns-clause-left
returns-clause-left g c =
    let found = rw (← c.self.view_is) at c.in-Some.ensures.found in
    rw (← c.self.view_is) (record {
      gone = rw c.remove.ensures.items (subst (λ (n : ℕ). find_number n (remove c.self.inside.searches.items c.in-Some.at) ≡ None) (found.1 c.remove.result) (find-removed 0 c.self.inside.searches.items c.self.inside.next c.self.invariant.rising c.in-Some.at c.remove.result found.0));
      others = λ other apart. rw c.remove.ensures.items (find-removed_other other c.self.inside.searches.items c.in-Some.at c.remove.result found.0 (λ e. apart (sym e ∙ found.1 c.remove.result)));
      next = refl;
    })
