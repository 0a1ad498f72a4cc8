-- Worlds, their answers and their pieces may cross threads where their allocator may.
use denote.Builtin.{u32}
use denote.Enum.Declared.{shape}
use denote.Param.Send.{IsSend, IsSync, Frees, enum_send, recorded_send}
use denote.RattleType.{RattleType}
use Rattle.std.specs.declared.alloc.Allocator.{Ghosts}
use Rattle.std.proofs.option.Option.TheSendSync as option
use Rattle.std.proofs.string.String.TheSendSync as string
use Rattle.std.proofs.vec.Vec.TheSendSync as vec
use Rattle.plane.proofs.shape.Shape.TheSendSync as area
use Rattle.features.proofs.actors.Subject.TheSendSync as subject
use Rattle.features.proofs.actors.Subjects.TheSendSync as subjects
use Rattle.features.proofs.rows.Feature.TheSendSync as feature
use Rattle.feature_store.proofs.stores.Store.TheSendSync as store
use Rattle.policy_documents.proofs.CrossingLemmas.{◌&◌, u32_send, u64_send, u64_sync, model_send, model_sync}
use Rattle.combining.proofs.questions.Question.TheSendSync as question
use Rattle.decision.proofs.CrossingLemmas.{shared_decider_send, shared_decider_sync, in_force_send, in_force_sync}
use Rattle.judging.proofs.causes.Refusal.TheSendSync as refusal
use Rattle.audit_trail.proofs.CrossingLemmas.{trail_send, trail_sync}
use Rattle.plain_world.proofs.open_searches.Searches.TheSendSync as searches
use Rattle.plain_world.proofs.settings.Limits.TheSendSync as limits
use Rattle.plain_world.proofs.settings.Starts.TheSendSync as starts
use Rattle.plain_world.proofs.open_transactions.Transaction.TheSendSync as transaction
use Rattle.plain_world.specs.contracts.answers.Answer as Answer
use Rattle.plain_world.specs.contracts.answers.Answer.TheInside as answer_inside
use Rattle.plain_world.specs.contracts.denials.Denial as Denial
use Rattle.plain_world.specs.contracts.denials.Denial.TheInside as denial_inside
use Rattle.plain_world.specs.contracts.outcomes.Outcome as Outcome
use Rattle.plain_world.specs.contracts.rolling.Rolled as Rolled
use Rattle.plain_world.specs.contracts.rolling.Rolled.TheInside as rolled_inside
use Rattle.plain_world.specs.contracts.worlds.Base as Base
use Rattle.plain_world.specs.contracts.worlds.Base.TheInside as base_inside
use Rattle.plain_world.specs.contracts.worlds.PlainWorld as PlainWorld
use Rattle.plain_world.specs.contracts.worlds.PlainWorld.TheInside as world_inside

pub denial_send : IsSend Denial.the_row
denial_send =
    let rule = option.the_field_send u32 u32_send in
    model_send denial_inside.the_type (question.the_field_send & shared_decider_send & rule & tt)

pub outcome_send : IsSend Outcome.the_row
outcome_send =
    let refused = refusal.the_field_send & option.the_field_send Denial.the_row denial_send & tt in
    recorded_send _ _ _ Outcome.the_type.to_one (enum_send (shape Outcome.the_type) ((u64_send & tt) & refused & tt))

module _ (A : RattleType) (g : Ghosts A.Denot) where
  pub answer_send : IsSend A → Frees g g.dealloc_token → IsSend (Answer.the_row A g)
  answer_send s f =
      let rows = vec.the_send _ A g feature.the_send s f in
      model_send (answer_inside.the_type A g) (subject.the_field_send & area.the_send & shared_decider_send & rows & tt)

  base_send : IsSend A → Frees g g.dealloc_token → IsSend (Base.the_row A g)
  base_send s f =
      let features = vec.the_send _ A g feature.the_send s f in
      model_send (base_inside.the_type A g) (features & u64_send & shared_decider_send & tt)

  base_sync : IsSync A → IsSync (Base.the_row A g)
  base_sync y =
      let features = vec.the_sync _ A g feature.the_sync y in
      model_sync (base_inside.the_type A g) (features & u64_sync & shared_decider_sync & tt)

module _ (A : RattleType) (g : Ghosts A.Denot) (s : IsSend A) (y : IsSync A) (f : Frees g g.dealloc_token) where
  pub rolled_send : IsSend (Rolled.the_row A g)
  rolled_send =
      let lines = vec.the_send _ A g (string.the_send A g s f) s f in
      model_send (rolled_inside.the_type A g) (base_send A g s f & trail_send A g s y f & lines & tt)

  pub rolled_sync : IsSync (Rolled.the_row A g)
  rolled_sync =
      let lines = vec.the_sync _ A g (string.the_sync A g y) y in
      model_sync (rolled_inside.the_type A g) (base_sync A g y & trail_sync A g s y f & lines & tt)

  pub plain_world_send : IsSend (PlainWorld.the_row A g)
  plain_world_send =
      let seats = vec.the_send _ A g subject.the_send s f in
      let base = base_send A g s f in
      let trail = trail_send A g s y f in
      let features = store.the_send A g s f in
      let running = searches.the_send A g s f in
      let open_ones = vec.the_send _ A g (transaction.the_send A g s f) s f in
      let under_way = running & u64_send & open_ones & u64_send & tt in
      let standing = base & trail & features & u64_send & in_force_send & under_way in
      let given = starts.the_field_send & limits.the_field_send & seats & standing in
      -- by its fields, in their order
      model_send (world_inside.the_type A g) (s & subjects.the_send & shared_decider_send & given)

  pub plain_world_sync : IsSync (PlainWorld.the_row A g)
  plain_world_sync =
      let seats = vec.the_sync _ A g subject.the_sync y in
      let base = base_sync A g y in
      let trail = trail_sync A g s y f in
      let features = store.the_sync A g y in
      let running = searches.the_sync A g y in
      let open_ones = vec.the_sync _ A g (transaction.the_sync A g y) y in
      let under_way = running & u64_sync & open_ones & u64_sync & tt in
      let standing = base & trail & features & u64_sync & in_force_sync & under_way in
      let given = starts.the_field_sync & limits.the_field_sync & seats & standing in
      model_sync (world_inside.the_type A g) (y & subjects.the_sync & shared_decider_sync & given)
