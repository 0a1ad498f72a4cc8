-- A closure may be sent to another thread if what it has captured may.
use mathlib.Core.List.{[], ◌∷◌}
use mir.Syntax.{Sym}
use denote.RattleType.{RattleType}
use denote.Param.Send.{IsSend, sendable}
use denote.Ref.{NamedLft}
use denote.Struct.Tuple.{TupleAt}
use Rattle.std.specs.contracts.option.Option.{the_row as OptionOf}
use Rattle.std.proofs.Crossing as std
use Rattle.std.proofs.Crossing.{crosses}
use Rattle.std.proofs.vec.Vec.TheSendSync as vec
use Rattle.std.specs.contracts.alloc.Global.{the_row as heap}
use Rattle.std.specs.contracts.impls.GlobalAllocator.TheImpl.{ghosts}
use Rattle.crossbeam_channel.proofs.channel.Sender.TheSendSync as sender
use Rattle.crossbeam_channel.specs.contracts.channel.Sender as Sender
use Rattle.features.proofs.rows.Feature.TheSendSync as feature
use Rattle.policy_documents.proofs.CrossingLemmas.{◌&◌, u64_send, model_send}
use Rattle.decision.proofs.CrossingLemmas.{shared_decider_send}
use Rattle.plain_world.specs.contracts.worlds.Base as Base
use Rattle.plain_world.specs.contracts.worlds.Base.TheInside as base_inside
use Rattle.chronicle.proofs.CrossingLemmas.{heap_record_send, heap_record_sync}
use Rattle.hall_workers.specs.contracts.lasting.Lasting as lasting
use Rattle.server.specs.contracts.kept.Handover as handover

-- where replies wait
pub lasting_send : (ℓ : NamedLft) → IsSend (OptionOf (lasting.the_row ℓ))
lasting_send ℓ = search (heap_record_send, heap_record_sync, crosses, sendable) depth 40

base_send : IsSend (Base.the_row heap ghosts)
base_send =
    let features = vec.the_send _ heap ghosts feature.the_send std.send std.frees in
    model_send (base_inside.the_type heap ghosts) (features & u64_send & shared_decider_send & tt)

sender_send : (T : RattleType) → IsSend T → IsSend (Sender.the_row T heap ghosts)
sender_send T s = sender.the_send T heap ghosts s std.send std.sync std.frees

-- where a store is handed over
pub handover_send : (ℓ : NamedLft) → IsSend (handover.the_row ℓ)
handover_send ℓ = search (base_send, sender_send, heap_record_send, heap_record_sync, crosses, sendable) depth 40

pub over_three_send : (name : Sym) (A B C : RattleType) → IsSend A → IsSend B → IsSend C → IsSend (TupleAt name (A ∷ B ∷ C ∷ []))
over_three_send name A B C a b c = search sendable depth 12

pub over_four_send : (name : Sym) (A B C D : RattleType) → IsSend A → IsSend B → IsSend C → IsSend D → IsSend (TupleAt name (A ∷ B ∷ C ∷ D ∷ []))
over_four_send name A B C D a b c d = search sendable depth 12

pub over_five_send : (name : Sym) (A B C D E : RattleType) → IsSend A → IsSend B → IsSend C → IsSend D → IsSend E
    → IsSend (TupleAt name (A ∷ B ∷ C ∷ D ∷ E ∷ []))
over_five_send name A B C D E a b c d e = search sendable depth 14

pub over_seven_send : (name : Sym) (A B C D E F G : RattleType) → IsSend A → IsSend B → IsSend C → IsSend D → IsSend E → IsSend F → IsSend G
    → IsSend (TupleAt name (A ∷ B ∷ C ∷ D ∷ E ∷ F ∷ G ∷ []))
over_seven_send name A B C D E F G a b c d e f g = search sendable depth 16

pub over_eight_send : (name : Sym) (A B C D E F G H : RattleType) → IsSend A → IsSend B → IsSend C → IsSend D → IsSend E → IsSend F → IsSend G → IsSend H
    → IsSend (TupleAt name (A ∷ B ∷ C ∷ D ∷ E ∷ F ∷ G ∷ H ∷ []))
over_eight_send name A B C D E F G H a b c d e f g h = search sendable depth 18
