use Rattle.std.proofs.Common.{◌≡◌, ◌+◌, ◌-◌, ◌≤◌, length, drop}
use Rattle.predicate_locks.specs.Numbers.{with_numbers}
use Rattle.predicate_locks.proofs.attached.Attached.put_all.Given as goal

abbrev pub invariant-loop-number : goal.invariant-loop-number
invariant-loop-number g l = record {
  numbers : with_numbers (drop l.number-index l.more) l.self.numbers ≡ with_numbers l.more l.fn.self.numbers;
  room : length l.self.numbers + (length l.more - l.number-index) ≤ l.self.places;
  places : l.self.places ≡ l.fn.self.places;
}
