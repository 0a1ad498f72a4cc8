use Rattle.std.proofs.Common.{◌≡◌}
use Rattle.predicate_locks.specs.Numbers.{with_numbers}
use Rattle.predicate_locks.proofs.NumberLemmas.{with_all}
use Rattle.predicate_locks.proofs.attached.Attached.attach_all.Goals as goal

pub returns-clause-union : goal.returns-clause-union
returns-clause-union g c =
    let is : c.put_all.new.self.numbers ≡ with_numbers c.args.more.now c.args.self.now.numbers = cc (c.put_all.ensures.numbers, c.in_ok-make_room.ensures.numbers) in
    rw is (with_all c.args.more.now c.args.self.now.numbers)
