use denote.Exit.{no}
use denote.Param.Send.{arg_send, param_send, shr_send}
use Rattle.server.proofs.ClosureLemmas.{handover_send, over_three_send}
use Rattle.server.proofs.kept.fn.serve_kept.scope.Goals as goal

pub spawn-requires-send-F : goal.spawn-requires-send-F
spawn-requires-send-F g c κs within =
    param_send _ _ (arg_send _ no _ (over_three_send _ _ _ _ c.requires.crosses (shr_send _ _ _ c.requires.shares) (handover_send _)))
