use Rattle.std.proofs.Common.{◌≡◌, ℕ, List}
use Rattle.line_streams.specs.Streams.{IsLine, held_of, with_begun}
use Rattle.line_streams.proofs.StreamLemmas.{Standing}
use Rattle.line_streams.proofs.streams.go_on_within.Given as goal

abbrev pub invariant-loop : goal.invariant-loop
invariant-loop g l = record {
  stands : (start : List ℕ) → IsLine start → l.fn.begun ≡ held_of start
      → Standing g.D.LineDesk.tells (l.fn.world, l.fn.desk) (l.world, l.desk) l.begun l.counter
      (with_begun start (g.R.Read.remaining l.fn.reader)) (g.R.Read.remaining l.reader) (g.W.Write.contents l.fn.writer) (g.W.Write.contents l.writer);
  made : l.turns.made ≡ l.counter;
}
