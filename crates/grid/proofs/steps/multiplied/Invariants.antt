use Rattle.std.proofs.Common.{◌≡◌, ◌*◌, ◌^◌, ◌≤◌, min}
use Rattle.grid.specs.declared.values.TheConstants.{CAP}
use Rattle.grid.proofs.steps.multiplied.Given as goal

abbrev pub invariant-loop : goal.invariant-loop
invariant-loop l = (l.product ≡ min (l.value * 10 ^ l.counter) CAP) × (l.product ≤ CAP)
