-- A decider is `Send` and `Sync`, and so are a shared one and the one in force.
use denote.Param.Send.{IsSend, IsSync}
use Rattle.std.specs.contracts.alloc.Global as Global
use Rattle.std.specs.contracts.impls.GlobalAllocator.TheImpl.{ghosts}
use Rattle.std.specs.contracts.sync.Arc as Arc
use Rattle.std.proofs.Crossing as heap
use Rattle.std.proofs.sync.Arc.TheSendSync as arc
use Rattle.std.proofs.vec.Vec.TheSendSync as vec
use Rattle.policy_documents.proofs.CrossingLemmas.{◌&◌, u64_send, u64_sync, model_send, model_sync, document_send, document_sync}
use Rattle.decision.proofs.known.Standpoint.TheSendSync as standpoint
use Rattle.decision.proofs.plans.Plan.TheSendSync as planned
use Rattle.decision.proofs.rests.Kind.TheSendSync as kind
use Rattle.decision.proofs.rests.Rest.TheSendSync as rest
use Rattle.decision.specs.contracts.deciders.Decider as Decider
use Rattle.decision.specs.contracts.deciders.Decider.TheInside as inside
use Rattle.decision.specs.contracts.in_force.InForce as InForce
use Rattle.decision.specs.contracts.in_force.InForce.TheInside as in_force_inside
use Rattle.decision.specs.contracts.rests.Rests as Rests
use Rattle.decision.specs.contracts.rests.Rests.TheInside as rests_inside

pub decider_send : IsSend Decider.the_row
decider_send =
    let document = document_send Global.the_row ghosts heap.send heap.frees in
    let plan = planned.the_send Global.the_row ghosts heap.send heap.frees in
    model_send inside.the_type (document & u64_send & plan & tt)

pub decider_sync : IsSync Decider.the_row
decider_sync =
    let document = document_sync Global.the_row ghosts heap.sync in
    let plan = planned.the_sync Global.the_row ghosts heap.sync in
    model_sync inside.the_type (document & u64_sync & plan & tt)

pub shared_decider_send : IsSend (Arc.the_row Decider.the_row Global.the_row ghosts)
shared_decider_send = arc.the_send _ Global.the_row ghosts decider_send heap.send decider_sync heap.sync heap.frees

pub shared_decider_sync : IsSync (Arc.the_row Decider.the_row Global.the_row ghosts)
shared_decider_sync = arc.the_sync _ Global.the_row ghosts decider_send heap.send decider_sync heap.sync heap.frees

rests_send : IsSend Rests.the_row
rests_send =
    let kept = vec.the_send _ Global.the_row ghosts rest.the_send heap.send heap.frees in
    model_send rests_inside.the_type (shared_decider_send & standpoint.the_field_send & kept & tt)

rests_sync : IsSync Rests.the_row
rests_sync =
    let kept = vec.the_sync _ Global.the_row ghosts rest.the_sync heap.sync in
    model_sync rests_inside.the_type (shared_decider_sync & standpoint.the_field_sync & kept & tt)

pub in_force_send : IsSend InForce.the_row
in_force_send =
    let kinds = vec.the_send _ Global.the_row ghosts kind.the_send heap.send heap.frees in
    let standing = vec.the_send _ Global.the_row ghosts rests_send heap.send heap.frees in
    model_send in_force_inside.the_type (shared_decider_send & kinds & standing & u64_send & tt)

pub in_force_sync : IsSync InForce.the_row
in_force_sync =
    let kinds = vec.the_sync _ Global.the_row ghosts kind.the_sync heap.sync in
    let standing = vec.the_sync _ Global.the_row ghosts rests_sync heap.sync in
    model_sync in_force_inside.the_type (shared_decider_sync & kinds & standing & u64_sync & tt)
