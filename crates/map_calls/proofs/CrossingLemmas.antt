-- Pieces of the trail that are kept in the heap may be shared among threads, behind a lock.
use denote.Param.Send.{IsSend, IsSync, plain_send, recorded_send, struct_send}
use denote.Struct.Declared.{shape}
use Rattle.std.specs.contracts.alloc.Global.{the_row as heap}
use Rattle.std.specs.contracts.impls.GlobalAllocator.TheImpl.{ghosts}
use Rattle.std.specs.contracts.sync.Mutex as Mutex
use Rattle.std.proofs.Crossing as std
use Rattle.std.proofs.sync.Mutex.TheSendSync as mutex
use Rattle.features.proofs.names.Name.TheSendSync as name
use Rattle.policy_documents.proofs.CrossingLemmas.{◌&◌}
use Rattle.plain_world.proofs.CrossingLemmas.{rolled_send, rolled_sync}
use Rattle.map_calls.specs.contracts.pieces.Piece as Piece
use Rattle.map_calls.specs.contracts.pieces.Pieces as Pieces

piece_send : IsSend (Piece.the_row heap ghosts)
piece_send =
    let rolled = std.Arc-send _ (rolled_send heap ghosts std.send std.sync std.frees) (rolled_sync heap ghosts std.send std.sync std.frees) in
    recorded_send _ _ _ (Piece.the_type heap ghosts).to_one (struct_send (shape (Piece.the_type heap ghosts))
    (plain_send _ _ _ _ _ & name.the_send & rolled & tt))

pieces_send : IsSend (Pieces.the_row heap ghosts)
pieces_send =
    recorded_send _ _ _ (Pieces.the_type heap ghosts).to_one (struct_send (shape (Pieces.the_type heap ghosts))
    (std.Vec-send _ piece_send & plain_send _ _ _ _ _ & tt))

pub pieces_shared : IsSync (Mutex.the_row (Pieces.the_row heap ghosts))
pieces_shared = mutex.the_sync _ pieces_send
