use Rattle.std.proofs.Common.{◌≡◌, drop}
use Rattle.map_calls.specs.Keeping.{lines_asked}
use Rattle.map_calls.proofs.pieces.Pieces.lines.Given as goal

abbrev pub invariant-loop-piece : goal.invariant-loop-piece
invariant-loop-piece g l =
    lines_asked l.number l.asker (drop l.piece-index l.self.pieces.items)
    ≡ lines_asked l.number l.asker l.self.pieces.items
