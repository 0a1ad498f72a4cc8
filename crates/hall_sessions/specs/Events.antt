-- What the reply to a list of changes or to a policy tells of, as it is counted.
use Rattle.std.specs.Prelude.{Option, Some, None}
use Rattle.map_metrics.specs.declared.tallies.Event.{Event}
use Rattle.map_metrics.specs.declared.tallies.Event.TheVariants as events
use Rattle.session_lines.specs.declared.replies.Reply.{Reply}
use Rattle.session_lines.specs.declared.replies.Reply.TheVariants as replies

abbrev pub event_of : Reply → Option Event
event_of (replies.Applied version) = Some events.Applied
event_of (replies.Denied rule change) = Some events.Denied
event_of (replies.Absent change) = Some events.Rejected
event_of (replies.Exists change) = Some events.Rejected
event_of (replies.Stale current change) = Some events.Rejected
event_of replies.Held = Some events.Held
event_of (replies.Edition number) = Some events.Governed
event_of _ = None
