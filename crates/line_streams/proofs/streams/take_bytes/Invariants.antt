use Rattle.std.proofs.Common.{◌≡◌, ℕ, ◌++◌, List, take}
use Rattle.line_streams.specs.Streams.{IsLine, Passed, held_of}
use Rattle.line_streams.proofs.streams.take_bytes.Given as goal

abbrev pub invariant-loop-byte : goal.invariant-loop-byte
invariant-loop-byte g l =
    (begun : List ℕ) → IsLine begun → l.fn.held ≡ held_of begun
    → Passed g.D.LineDesk.tells (begun ++ take l.byte-index l.bytes) (l.fn.world, l.fn.desk) (l.world, l.desk) l.held (g.W.Write.contents l.fn.writer) (g.W.Write.contents l.writer)
