use Rattle.std.proofs.Common.{◌-◌, ◌^◌, ◌≤◌, drop, length, take}
use Rattle.line_streams.specs.Streams.{IsLine}
use Rattle.client.specs.Lines.{Gains}
use Rattle.client.proofs.ahead.Ahead.read_line.Given as goal

abbrev pub invariant-loop-at : goal.invariant-loop-at
invariant-loop-at g l = record {
  gains : Gains (drop l.fn.self.done l.fn.self.bytes.items) (drop l.self.done l.self.bytes.items) (g.R.Read.remaining l.fn.reader) (g.R.Read.remaining l.reader);
  within : l.seen ≤ length (drop l.self.done l.self.bytes.items);
  open_line : IsLine (take l.seen (drop l.self.done l.self.bytes.items));
}

abbrev pub decreases-loop-at : goal.decreases-loop-at
decreases-loop-at g l = 2 ^ 64 - length (drop l.self.done l.self.bytes.items)
