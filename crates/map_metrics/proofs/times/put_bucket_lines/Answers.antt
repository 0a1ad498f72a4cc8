use Rattle.std.proofs.Common.{◌++◌, drop}
use Rattle.map_metrics.specs.Times.{bucket_lines}
use Rattle.map_metrics.proofs.LineLemmas.{no_bound_left}
use Rattle.map_metrics.proofs.times.put_bucket_lines.Goals as goal

pub returns-in_default : goal.returns-in_default
returns-in_default g c =
    no_bound_left _ (c.args.text.now.items ++ bucket_lines 0 c.args.bounds.now c.args.counts.now)
    c.loop-bound.before (drop c.loop-bound.bound-index c.args.bounds.now) c.loop-bound.left.now
    c.in_default.len_below c.loop-bound.invariant
