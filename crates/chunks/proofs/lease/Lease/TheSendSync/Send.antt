use denote.RattleType.{RattleType}
use denote.Param.Send.{IsSend, Frees}
use Rattle.core.specs.declared.alloc.Allocator.{Ghosts}
use Rattle.chunks.proofs.Sent.{Lease-send}
use Rattle.chunks.specs.contracts.lease.Lease.{the_row}

pub send : (S A : RattleType) (g : Ghosts A.Denot) → IsSend A → Frees g g.dealloc_token → IsSend (the_row S A g)
send S A g sent frees = Lease-send S A g frees
