use denote.Exit.{no}
use denote.Param.{param}
use denote.Param.Send.{arg_send, param_send, shr_send, sendable}
use denote.Struct.Field.{unit-field}
use Rattle.std.specs.contracts.alloc.Global.{the_row as heap}
use Rattle.std.specs.contracts.impls.GlobalAllocator.TheImpl.{ghosts}
use Rattle.std.proofs.Crossing as std
use Rattle.std.proofs.option.Option.TheSendSync as option
use Rattle.hall_workers.proofs.turns.Turn.TheSendSync as turn
use Rattle.crossbeam_channel.proofs.channel.Receiver.TheSendSync as receiver
use Rattle.hall.proofs.CrossingLemmas.{hall_sync}
use Rattle.std.proofs.sync.Mutex.TheSendSync as mutex
use Rattle.hall_workers.proofs.CrossingLemmas.{reception_sync}
use Rattle.hall.proofs.CrossingLemmas.{seat_send}
use Rattle.published_policies.proofs.CrossingLemmas.{view_send}
use Rattle.server.proofs.ClosureLemmas.{lasting_send, over_eight_send, over_five_send}
use Rattle.server.proofs.streams.fn.serve_tended.scope.Goals as goal

pub spawn-requires-send-F : goal.spawn-requires-send-F
spawn-requires-send-F g c κs within =
    let sends = c.requires.hall in
    let hall = shr_send _ _ _ (hall_sync (param 0 g.row.L) (param 1 g.row.H) g.L.Ledger g.L.StatesName g.L.ListName g.L.HallName sends.0 sends.1) in
    param_send _ _ (arg_send _ no _ (over_five_send _ _ _ _ _ _ (shr_send _ _ _ c.requires.shares) hall
    (receiver.the_send unit-field.row heap ghosts (search sendable depth 6) std.send std.sync std.frees)
    (lasting_send _) (option.the_send _ (shr_send _ _ _ turn.the_sync))))

pub spawn-requires-in-loop-view-send-F : goal.spawn-requires-in-loop-view-send-F
spawn-requires-in-loop-view-send-F g c κs within =
    let L = param 0 g.row.L in
    let H = param 1 g.row.H in
    let sends = c.requires.hall in
    param_send _ _ (arg_send _ no _ (over_eight_send _ _ _ _ _ _ _ _ _ (shr_send _ _ _ c.requires.shares) std.send
    (shr_send _ _ _ (hall_sync L H g.L.Ledger g.L.StatesName g.L.ListName g.L.HallName sends.0 sends.1)) (shr_send _ _ _ (mutex.the_sync _ (std.Vec-send _ (seat_send L H g.L.Ledger g.L.StatesName g.L.ListName g.L.HallName sends.0 sends.1 _))))
    (shr_send _ _ _ (reception_sync _))
    (shr_send _ _ _ turn.the_sync)
    (view_send L g.L.ListName sends.0)
    (lasting_send _)))
