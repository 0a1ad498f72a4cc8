use Rattle.std.proofs.Common.{◌++◌, drop}
use Rattle.map_metrics.specs.Requests.{status_lines}
use Rattle.map_metrics.proofs.LineLemmas.{no_status_left}
use Rattle.map_metrics.proofs.requests.put_status_lines.Goals as goal

pub returns-in_default : goal.returns-in_default
returns-in_default g c =
    no_status_left _ (c.args.text.now.items ++ status_lines c.args.statuses.now c.args.counts.now)
    (drop c.loop-status.status-index c.args.statuses.now) c.loop-status.left.now c.in_default.len_below
    c.loop-status.invariant
