use Rattle.std.proofs.Common.{◌≡◌, drop}
use Rattle.map_metrics.specs.Times.{all_of}
use Rattle.map_metrics.proofs.times.all_of.Given as goal

abbrev pub invariant-loop-count : goal.invariant-loop-count
invariant-loop-count l = all_of l.all (drop l.count-index l.counts) ≡ all_of 0 l.counts
