use Rattle.std.proofs.Common.{◌≡◌, ◌≤◌, min, take}
use Rattle.std.specs.Str.Parse.{digits_value_after}
use Rattle.grid.proofs.values.value_after.Given as goal

abbrev pub invariant-loop-digit : goal.invariant-loop-digit
invariant-loop-digit l = (l.value ≡ min (digits_value_after 10 l.before (take l.digit-index l.digits)) l.cap) × (l.value ≤ l.cap)
