use denote.Exit.{no}
use denote.Param.{param}
use denote.Param.Send.{arg_send, param_send, shr_send}
use Rattle.std.proofs.sync.atomic.AtomicU64.TheSendSync as atomic
use Rattle.hall.proofs.CrossingLemmas.{seat_send}
use Rattle.hall_tests.proofs.ClosureLemmas.{over_four_send}
use Rattle.hall_tests.proofs.held_tests.hold_beside.Goals as goal

pub join-second-requires-send-F : goal.join-second-requires-send-F
join-second-requires-send-F g c κs within =
    let seat = seat_send (param 0 g.row.L) (param 1 g.row.H) g.L.Ledger g.L.ListName c.type_bounds.send-L c.type_bounds.send-H _ in
    param_send _ _ (arg_send _ no _ (over_four_send _ _ _ _ _ (shr_send _ _ _ c.type_bounds.sync-R) seat (shr_send _ _ _ atomic.the_sync) (shr_send _ _ _ atomic.the_sync)))

pub join-second-requires-send-A : goal.join-second-requires-send-A
join-second-requires-send-A g c κs within =
    let seat = seat_send (param 0 g.row.L) (param 1 g.row.H) g.L.Ledger g.L.ListName c.type_bounds.send-L c.type_bounds.send-H in
    search (seat, param_send, arg_send) depth 12
