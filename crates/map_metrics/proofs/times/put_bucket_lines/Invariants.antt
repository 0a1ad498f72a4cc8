use Rattle.std.proofs.Common.{◌≡◌, ◌++◌, drop}
use Rattle.map_metrics.specs.Times.{bucket_lines}
use Rattle.map_metrics.proofs.times.put_bucket_lines.Given as goal

abbrev pub invariant-loop-bound : goal.invariant-loop-bound
invariant-loop-bound g l =
    l.text.items ++ bucket_lines l.before (drop l.bound-index l.bounds) l.left
    ≡ l.fn.text.items ++ bucket_lines 0 l.bounds l.counts
