-- A chronicle may be sent to another thread, and shared, if its allocator may be sent and shared.
use denote.Param.Send.{IsSend, IsSync, Frees, arg_send, mut_send, param_send, recorded_send, sendable, shr_send, struct_send}
use denote.RattleType.{RattleType}
use Rattle.std.specs.declared.alloc.Allocator.{Ghosts}
use Rattle.std.specs.contracts.alloc.Global.{the_row as heap}
use Rattle.std.specs.contracts.impls.GlobalAllocator.TheImpl.{ghosts}
use Rattle.std.proofs.Crossing.{crosses as std_crosses, send, sync, frees}
use Rattle.std.proofs.sync.Arc.TheSendSync as arc
use Rattle.std.proofs.vec.Vec.TheSendSync as vec
use Rattle.policy_documents.proofs.CrossingLemmas.{◌&◌, model_send, model_sync, u64_send, u64_sync}
use Rattle.decision.proofs.CrossingLemmas.{decider_send, decider_sync}
use Rattle.audit_trail.proofs.CrossingLemmas.{record_send, record_sync}
use Rattle.audit_trail.specs.contracts.records.Record as Record
use Rattle.plain_world.proofs.CrossingLemmas.{answer_send, denial_send, outcome_send, rolled_send, rolled_sync}
use Rattle.plain_world.specs.contracts.answers.Answer as Answer
use Rattle.plain_world.specs.contracts.rolling.Rolled as Rolled
use Rattle.world.proofs.CrossingLemmas.{world_send, world_sync}
use Rattle.chronicle.proofs.due_slots.DueSlots.TheSendSync as due
use Rattle.chronicle.specs.contracts.chronicles.Chronicle as Chronicle
use Rattle.chronicle.specs.contracts.chronicles.Chronicle.TheInside as inside

module _ (A : RattleType) (g : Ghosts A.Denot) (s : IsSend A) (y : IsSync A) (f : Frees g g.dealloc_token) where
  pub chronicle_send : IsSend (Chronicle.the_row A g)
  chronicle_send =
      let owner = arc.the_send _ A g (record_send A g s f) s (record_sync A g y) y f in
      let rolled = vec.the_send _ A g owner s f in
      model_send (inside.the_type A g) (world_send A g s y f & (search (std_crosses, sendable) depth 10) & rolled & u64_send & due.the_field_send & tt)

  pub chronicle_sync : IsSync (Chronicle.the_row A g)
  chronicle_sync =
      let owner = arc.the_sync _ A g (record_send A g s f) s (record_sync A g y) y f in
      let rolled = vec.the_sync _ A g owner y in
      model_sync (inside.the_type A g) (world_sync A g s y f & (search (std_crosses, sendable) depth 10) & rolled & u64_sync & due.the_field_sync & tt)

-- the same in the heap, without premises
pub heap_record_send : IsSend (Record.the_row heap ghosts)
heap_record_send = record_send heap ghosts send frees

pub heap_record_sync : IsSync (Record.the_row heap ghosts)
heap_record_sync = record_sync heap ghosts sync

pub heap_rolled_send : IsSend (Rolled.the_row heap ghosts)
heap_rolled_send = rolled_send heap ghosts send sync frees

pub heap_rolled_sync : IsSync (Rolled.the_row heap ghosts)
heap_rolled_sync = rolled_sync heap ghosts send sync frees

pub heap_answer_send : IsSend (Answer.the_row heap ghosts)
heap_answer_send = answer_send heap ghosts send frees

pub heap_chronicle_send : IsSend (Chronicle.the_row heap ghosts)
heap_chronicle_send = chronicle_send heap ghosts send sync frees

pub heap_chronicle_sync : IsSync (Chronicle.the_row heap ghosts)
heap_chronicle_sync = chronicle_sync heap ghosts send sync frees

-- A function that sends what it has to a thread proves that goal by `search` with these two sets:
-- the types that come from a chronicle, and how a closure is sent if what it has captured is.
pub ruleset crosses = (heap_chronicle_send, heap_chronicle_sync, heap_rolled_send, heap_rolled_sync, heap_record_send, heap_record_sync, heap_answer_send, denial_send, outcome_send, decider_send, decider_sync)

pub ruleset captured = (◌&◌, tt, param_send, arg_send, recorded_send, struct_send, shr_send, mut_send)
