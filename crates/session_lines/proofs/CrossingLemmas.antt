-- A session by itself may go from one thread to another between two reads, if it is kept in the
-- heap.
use denote.Param.Send.{IsSend}
use Rattle.std.specs.contracts.alloc.Global.{the_row as heap}
use Rattle.std.specs.contracts.impls.GlobalAllocator.TheImpl.{ghosts}
use Rattle.std.proofs.Crossing as std
use Rattle.session_lines.specs.contracts.serving.Sitting as Sitting
use Rattle.session_lines.proofs.serving.Sitting.TheSendSync as sitting

pub sitting_send : IsSend (Sitting.the_row heap ghosts)
sitting_send = sitting.the_send heap ghosts std.send std.frees
