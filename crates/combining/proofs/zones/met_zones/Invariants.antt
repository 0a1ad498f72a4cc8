use Rattle.std.proofs.Common.{◌≤◌, ◌-◌, length, take}
use Rattle.combining.specs.Holding.{AreMet}
use Rattle.combining.proofs.zones.met_zones.Given as goal

abbrev pub invariant-loop-zone : goal.invariant-loop-zone
invariant-loop-zone g l = record {
  met : AreMet l.shape (take l.index l.document.zones) l.met;
  count : length l.met ≤ l.index;
  within : l.index ≤ length l.document.zones;
}

abbrev pub decreases-loop-zone : goal.decreases-loop-zone
decreases-loop-zone g l = length l.document.zones - l.index
