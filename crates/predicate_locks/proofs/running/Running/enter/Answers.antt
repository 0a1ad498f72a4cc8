use Rattle.std.proofs.Common.{◌≡◌, ◌+◌, refl, sym, arith}
use Rattle.predicate_locks.specs.declared.running.RunningSearch.{RunningSearch}
use Rattle.predicate_locks.proofs.SearchLemmas.{rising-pushed, find-from_next, find-pushed, find-pushed_other}
use Rattle.predicate_locks.proofs.running.Running.enter.Goals as goal

pub invariant_of-self : goal.invariant_of-self
invariant_of-self g c =
    let new : RunningSearch g.row.Q.Denot = record { number = c.self.inside.next; query = c.args.query; begun = c.args.begun } in
    let next : c.in-Some.next ≡ c.self.inside.next + 1 = omega (arith, c.in-Some.ensures) in
    record {
      rising = rw (c.push_reserved.ensures.items, next) (rising-pushed 0 c.self.inside.searches.items new c.self.invariant.rising);
      limit = omega (arith, c.push_reserved.ensures.len, c.self.invariant.limit, c.if-len-eq-MAX_RUNNING.false, c.len.ensures);
      room = omega (arith, c.push_reserved.ensures.capacity, c.self.invariant.room);
    }

pub returns-clause-ok : goal.returns-clause-ok
returns-clause-ok g c =
    let new : RunningSearch g.row.Q.Denot = record { number = c.self.inside.next; query = c.args.query; begun = c.args.begun } in
    let none = find-from_next c.self.inside.next 0 c.self.inside.searches.items c.self.inside.next c.self.invariant.rising (omega arith) in
    rw (← c.self.view_is) (record {
      next_number = refl;
      did_not_run = none;
      runs = rw c.push_reserved.ensures.items (find-pushed c.self.inside.searches.items new none);
      others = λ other apart. rw c.push_reserved.ensures.items (find-pushed_other other c.self.inside.searches.items new (λ e. apart (sym e)));
      next = omega (arith, c.in-Some.ensures);
    })
