-- Records and trails are `Send` and `Sync` if their allocator is.
use denote.Builtin.{u64}
use denote.Enum.Declared.{shape}
use denote.Param.Send.{IsSend, IsSync, Frees, enum_send, enum_sync}
use denote.RattleType.{RattleType}
use Rattle.std.specs.declared.alloc.Allocator.{Ghosts}
use Rattle.std.specs.contracts.sync.Arc as Arc
use Rattle.std.proofs.sync.Arc.TheSendSync as arc
use Rattle.std.proofs.vec.Vec.TheSendSync as vec
use Rattle.plane.proofs.shape.Shape.TheSendSync as area
use Rattle.features.proofs.actors.Subject.TheSendSync as subject
use Rattle.kept_shapes.proofs.changes.ChangeList.TheSendSync as list
use Rattle.policy_documents.proofs.CrossingLemmas.{◌&◌, u32_send, u32_sync, u64_send, u64_sync, model_send, model_sync}
use Rattle.decision.proofs.CrossingLemmas.{shared_decider_send, shared_decider_sync}
use Rattle.judging.proofs.causes.Refusal.TheSendSync as refusal
use Rattle.audit_trail.specs.contracts.records.Deed as Deed
use Rattle.audit_trail.specs.contracts.records.Record as Record
use Rattle.audit_trail.specs.contracts.records.Record.TheInside as record_inside
use Rattle.audit_trail.specs.contracts.trails.Trail as Trail
use Rattle.audit_trail.specs.contracts.trails.Trail.TheInside as trail_inside

module _ (A : RattleType) (g : Ghosts A.Denot) where
  deed_send : IsSend A → Frees g g.dealloc_token → IsSend (Deed.the_field A g).row
  deed_send s f =
      let numbers = vec.the_send u64 A g u64_send s f in
      let changes = list.the_send A g s f in
      let answered = subject.the_field_send & area.the_send & numbers & numbers & tt in
      let applied = subject.the_field_send & u64_send & changes & tt in
      let refused = subject.the_field_send & changes & refusal.the_field_send & tt in
      let governed = u64_send & shared_decider_send & tt in
      enum_send (shape (Deed.the_type A g)) (answered & applied & refused & governed & tt)

  deed_sync : IsSync A → IsSync (Deed.the_field A g).row
  deed_sync y =
      let numbers = vec.the_sync u64 A g u64_sync y in
      let changes = list.the_sync A g y in
      let answered = subject.the_field_sync & area.the_sync & numbers & numbers & tt in
      let applied = subject.the_field_sync & u64_sync & changes & tt in
      let refused = subject.the_field_sync & changes & refusal.the_field_sync & tt in
      let governed = u64_sync & shared_decider_sync & tt in
      enum_sync (shape (Deed.the_type A g)) (answered & applied & refused & governed & tt)

  pub record_send : IsSend A → Frees g g.dealloc_token → IsSend (Record.the_row A g)
  record_send s f = model_send (record_inside.the_type A g) (u32_send & deed_send s f & tt)

  pub record_sync : IsSync A → IsSync (Record.the_row A g)
  record_sync y = model_sync (record_inside.the_type A g) (u32_sync & deed_sync y & tt)

module _ (A : RattleType) (g : Ghosts A.Denot) (s : IsSend A) (y : IsSync A) (f : Frees g g.dealloc_token) where
  pub shared_record_send : IsSend (Arc.the_row (Record.the_row A g) A g)
  shared_record_send = arc.the_send _ A g (record_send A g s f) s (record_sync A g y) y f

  pub shared_record_sync : IsSync (Arc.the_row (Record.the_row A g) A g)
  shared_record_sync = arc.the_sync _ A g (record_send A g s f) s (record_sync A g y) y f

  pub trail_send : IsSend (Trail.the_row A g)
  trail_send = model_send (trail_inside.the_type A g) (vec.the_send _ A g shared_record_send s f & u64_send & s & tt)

  pub trail_sync : IsSync (Trail.the_row A g)
  trail_sync = model_sync (trail_inside.the_type A g) (vec.the_sync _ A g shared_record_sync y & u64_sync & y & tt)
