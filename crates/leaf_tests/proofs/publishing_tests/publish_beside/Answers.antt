use Rattle.std.proofs.Crossing.{Vec-send}
use denote.Exit.{no}
use denote.Param.Send.{arg_send, param_send, shr_send}
use Rattle.published_policies.proofs.CrossingLemmas.{view_send}
use Rattle.leaf_tests.proofs.ClosureLemmas.{over_two_send}
use Rattle.leaf_tests.proofs.publishing_tests.publish_beside.Goals as goal

pub join-watched-requires-send-F : goal.join-watched-requires-send-F
join-watched-requires-send-F g c κs within =
    param_send 1 _ (arg_send _ no _ (over_two_send _ _ _ (shr_send _ _ _ c.type_bounds.sync-R) (Vec-send _ (view_send _ _ c.type_bounds.send-L))))
