use denote.Builtin.{u64}
use denote.Exit.{no}
use denote.Param.{param}
use denote.Param.Send.{arg_send, param_send, shr_send}
use Rattle.std.proofs.option.Option.TheSendSync as option
use Rattle.std.proofs.sync.atomic.AtomicU64.TheSendSync as atomic
use Rattle.policy_documents.proofs.CrossingLemmas.{u64_send}
use Rattle.hall.proofs.CrossingLemmas.{seat_send}
use Rattle.hall_tests.proofs.ClosureLemmas.{over_two_send, over_four_send}
use Rattle.hall_tests.proofs.roll_tests.roll_and_work.Goals as goal

pub join-chief-requires-send-F : goal.join-chief-requires-send-F
join-chief-requires-send-F g c κs within =
    let seat = seat_send (param 0 g.row.L) (param 1 g.row.H) g.L.Ledger g.L.ListName c.type_bounds.send-L c.type_bounds.send-H _ in
    let flag = shr_send _ _ _ atomic.the_sync in
    param_send _ _ (arg_send _ no _ (over_four_send _ _ _ _ _ (shr_send _ _ _ c.type_bounds.sync-R) seat flag (shr_send _ _ _ atomic.the_sync)))

pub join-chief-requires-send-A : goal.join-chief-requires-send-A
join-chief-requires-send-A g c κs within =
    let seat = seat_send (param 0 g.row.L) (param 1 g.row.H) g.L.Ledger g.L.ListName c.type_bounds.send-L c.type_bounds.send-H in
    search (seat, u64_send, option.the_send, option.the_field_send, param_send, arg_send, over_two_send) depth 12
