use Rattle.std.proofs.Common.{◌≡◌, take}
use Rattle.wkt.specs.Numbers.{capped_value}
use Rattle.wkt.specs.declared.number.TheConstants.{TOO_LARGE}
use Rattle.wkt.proofs.number.capped_value.Given as goal

abbrev pub invariant-loop-digit : goal.invariant-loop-digit
invariant-loop-digit l = l.value ≡ capped_value TOO_LARGE (take l.digit-index l.digits)
