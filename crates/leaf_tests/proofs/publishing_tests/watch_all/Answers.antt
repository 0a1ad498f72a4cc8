use denote.Exit.{no}
use denote.Param.Send.{arg_send, param_send}
use Rattle.published_policies.proofs.CrossingLemmas.{view_send}
use Rattle.leaf_tests.proofs.publishing_tests.watch_all.Goals as goal

pub map_vec-requires-send-J : goal.map_vec-requires-send-J
map_vec-requires-send-J g c κs within = param_send 1 _ (arg_send _ no _ (view_send _ _ c.type_bounds.send-L))
