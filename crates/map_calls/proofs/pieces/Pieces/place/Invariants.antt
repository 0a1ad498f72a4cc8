use Rattle.std.proofs.Common.{◌≡◌, drop}
use Rattle.map_calls.specs.Keeping.{place_asked}
use Rattle.map_calls.proofs.pieces.Pieces.place.Given as goal

abbrev pub invariant-loop-piece : goal.invariant-loop-piece
invariant-loop-piece g l = record {
  count : l.place ≡ l.piece-index;
  rest : place_asked l.piece-index l.number l.asker (drop l.piece-index l.self.pieces.items)
      ≡ place_asked 0 l.number l.asker l.self.pieces.items;
}
