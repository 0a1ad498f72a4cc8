use denote.RattleType.{RattleType}
use denote.Param.Send.{IsSend, IsSync, Frees}
use Rattle.core.specs.declared.alloc.Allocator.{Ghosts}
use Rattle.chunks.proofs.Sent.{Lease-sync}
use Rattle.chunks.specs.contracts.lease.Lease.{the_row}

pub sync : (S A : RattleType) (g : Ghosts A.Denot) → IsSend A → Frees g g.dealloc_token → IsSync (the_row S A g)
sync S A g sent frees = Lease-sync S A g frees
