-- A hall in the heap may be shared among threads, and its seats may be sent from one to another.
use denote.Param.Send.{IsSend, IsSync, part_keyless, recorded_send, recorded_sync, sendable, shr_send, struct_send, struct_sync}
use denote.Ref.{NamedLft}
use denote.RattleType.{RattleType}
use denote.Struct.Declared.{shape}
use Rattle.std.specs.declared.sync.ledger.Ledger.{Ghosts}
use Rattle.state_lists.specs.declared.lists.StatesName.{Ghosts as Stating}
use Rattle.published_policies.specs.declared.lists.ListName.{Ghosts as Naming}
use Rattle.hall.specs.declared.names.HallName.{Ghosts as Opened}
use Rattle.published_policies.proofs.CrossingLemmas.{publisher_send}
use Rattle.std.specs.contracts.alloc.Global.{the_row as heap}
use Rattle.std.specs.contracts.impls.GlobalAllocator.TheImpl.{ghosts}
use Rattle.std.proofs.Crossing as std
use Rattle.std.proofs.vec.Vec.TheSendSync as vec
use Rattle.std.specs.contracts.sync.ledger.Share as Share
use Rattle.std.proofs.sync.ledger.Share.TheSendSync as share
use Rattle.std.proofs.sync.Mutex.TheSendSync as mutex
use Rattle.std.proofs.sync.RwLock.TheSendSync as rwlock
use Rattle.std.proofs.sync.Condvar.TheSendSync as condvar
use Rattle.std.proofs.alloc.Global.TheSendSync as memory
use Rattle.features.proofs.actors.Subject.TheSendSync as subject
use Rattle.policy_documents.proofs.CrossingLemmas.{◌&◌, u32_send, model_send}
use Rattle.logbook.proofs.word.Word.TheSendSync.{the_send as word_send, the_sync as word_sync}
use Rattle.logbook.proofs.tokens.Seen.TheSendSync.{the_send as view_send, the_sync as view_sync}
use Rattle.chronicle.proofs.CrossingLemmas.{crosses as chronicle_crosses, heap_chronicle_send, heap_chronicle_sync, heap_record_send, heap_record_sync}
use Rattle.answer_tray.proofs.CrossingLemmas.{tray_send}
use Rattle.hall.specs.contracts.guarded.Guarded as Guarded
use Rattle.hall.specs.contracts.lobby.Lobby as Lobby
use Rattle.hall.specs.contracts.halls.Hall as Hall
use Rattle.hall.specs.contracts.seats.Seat.TheInside as inside
use Rattle.hall.specs.contracts.seats.Seat as Seat

-- A share shows nothing through a `&`: so it may be shared where it may be sent.
share_sync : (L : RattleType) (g : Ghosts L.Denot) → IsSync (Share.the_row L g)
share_sync L g = record { shared = λ d b o κ q. part_keyless _ (share.the_send L g) q d b o }

module _ (L R : RattleType) (g : Ghosts L.Denot) (s : Stating L.Denot) (n : Naming L.Denot) (h : Opened L.Denot) (name_send : IsSend L) (handle_send : IsSend R) where
  guarded_send : IsSend (Guarded.the_row L heap h n s g ghosts)
  guarded_send =
      recorded_send _ _ _ (Guarded.the_type L heap h n s g ghosts).to_one (struct_send (shape (Guarded.the_type L heap h n s g ghosts))
      (heap_chronicle_send & (search (chronicle_crosses, word_send, std.crosses, sendable) depth 40) & (search (chronicle_crosses, view_send, std.crosses, sendable) depth 40) & (search sendable depth 10) & share.the_send L g
      & (search sendable depth 10) & (search sendable depth 10) & tt))

  guarded_sync : IsSync (Guarded.the_row L heap h n s g ghosts)
  guarded_sync =
      recorded_sync _ _ _ (Guarded.the_type L heap h n s g ghosts).to_one (struct_sync (shape (Guarded.the_type L heap h n s g ghosts))
      (heap_chronicle_sync & (search (chronicle_crosses, word_sync, std.crosses, sendable) depth 40) & (search (chronicle_crosses, view_sync, std.crosses, sendable) depth 40) & (search sendable depth 10) & share_sync L g
      & (search sendable depth 10) & (search sendable depth 10) & tt))

  lobby_send : IsSend (Lobby.the_row L R heap h n s g ghosts)
  lobby_send = search (tray_send, publisher_send, std.crosses, sendable) depth 40

  pub hall_sync : IsSync (Hall.the_row L R heap h n s g ghosts)
  hall_sync =
      recorded_sync _ _ _ (Hall.the_type L R heap h n s g ghosts).to_one (struct_sync (shape (Hall.the_type L R heap h n s g ghosts)) (
        (search (std.crosses, sendable) depth 20),
        (
          (search (std.crosses, sendable) depth 20),
          (
            rwlock.the_field_sync _ guarded_send guarded_sync,
            (
              mutex.the_sync _ lobby_send,
              (
                (search (std.crosses, sendable) depth 20),
                (condvar.the_field_sync, (condvar.the_field_sync, (std.sync, (memory.the_field_sync, tt)))),
              ),
            ),
          ),
        ),
      ))

  pub seat_send : (ℓ : NamedLft) → IsSend (Seat.the_row ℓ L R heap h n s g ghosts)
  seat_send ℓ =
      let receipts = vec.the_send _ heap ghosts (std.Arc-send _ heap_record_send heap_record_sync) std.send std.frees in
      model_send (inside.the_type ℓ L R heap h n s g ghosts) (shr_send _ _ _ hall_sync & u32_send & subject.the_field_send & share.the_send L g & receipts & tt)
