-- Where connections of HTTP are received is shared among threads.
use denote.Param.Send.{IsSend, IsSync, plain_sync, recorded_sync, struct_sync, shr_sync, sendable}
use denote.Ref.{NamedLft}
use denote.Struct.Declared.{shape}
use Rattle.std.specs.contracts.alloc.Global.{the_row as heap}
use Rattle.std.specs.contracts.impls.GlobalAllocator.TheImpl.{ghosts}
use Rattle.std.specs.contracts.sync.Mutex as Mutex
use Rattle.std.proofs.Crossing as std
use Rattle.std.proofs.Crossing.{crosses}
use Rattle.std.proofs.hash.RandomState.TheSendSync as random
use Rattle.std.proofs.option.Option.TheSendSync as option
use Rattle.std.proofs.sync.Mutex.TheSendSync as mutex
use Rattle.crossbeam_channel.proofs.channel.Receiver.TheSendSync as receiver
use Rattle.crossbeam_channel.specs.contracts.channel.Receiver as Receiver
use Rattle.credentials.proofs.keys.Key.TheSendSync as key
use Rattle.features.proofs.names.Name.TheSendSync as name
use Rattle.features.specs.contracts.names.Name as Name
use Rattle.listeners.proofs.web_sockets.WebStream.TheSendSync as stream
use Rattle.listeners.specs.contracts.web_sockets.WebStream as WebStream
use Rattle.map_calls.proofs.CrossingLemmas.{pieces_shared}
use Rattle.map_metrics.proofs.tallies.Tally.TheSendSync as tally
use Rattle.map_pages.proofs.fixed.Site.TheSendSync as site
use Rattle.map_sessions.proofs.kept.Kept.TheSendSync as kept
use Rattle.map_sessions.specs.contracts.kept.Kept as Kept
use Rattle.hall_workers.proofs.visitors.Lounge.TheSendSync as lounge
use Rattle.hall_workers.specs.contracts.visitors.Reception as Reception

kept_shared : IsSync (Mutex.the_row (Kept.the_row heap ghosts))
kept_shared = mutex.the_sync _ (kept.the_send heap ghosts std.send std.frees)

arriving : IsSync (Receiver.the_row WebStream.the_row heap ghosts)
arriving = receiver.the_sync _ heap ghosts stream.the_send std.send std.sync std.frees

pub reception_sync : (ℓ : NamedLft) → IsSync (Reception.the_row ℓ)
reception_sync ℓ =
    let named = option.the_field_sync Name.the_row name.the_sync in
    recorded_sync _ _ _ (Reception.the_type ℓ).to_one (struct_sync (shape (Reception.the_type ℓ)) (
      shr_sync _ _ _ (site.the_sync ℓ),
      (
        named,
        (
          search (key.the_sync, crosses, sendable) depth 40,
          (
            plain_sync _ _ _ _ _,
            (
              named,
              (
                shr_sync _ _ _ tally.the_sync,
                (
                  shr_sync _ _ _ kept_shared,
                  (
                    shr_sync _ _ _ pieces_shared,
                    (
                      shr_sync _ _ _ lounge.the_sync,
                      (shr_sync _ _ _ arriving, (random.the_field_sync, (plain_sync _ _ _ _ _, (plain_sync _ _ _ _ _, tt)))),
                    ),
                  ),
                ),
              ),
            ),
          ),
        ),
      ),
    ))
