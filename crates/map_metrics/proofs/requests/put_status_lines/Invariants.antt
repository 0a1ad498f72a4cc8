use Rattle.std.proofs.Common.{◌≡◌, ◌++◌, drop}
use Rattle.map_metrics.specs.Requests.{status_lines}
use Rattle.map_metrics.proofs.requests.put_status_lines.Given as goal

abbrev pub invariant-loop-status : goal.invariant-loop-status
invariant-loop-status g l =
    l.text.items ++ status_lines (drop l.status-index l.statuses) l.left
    ≡ l.fn.text.items ++ status_lines l.statuses l.counts
