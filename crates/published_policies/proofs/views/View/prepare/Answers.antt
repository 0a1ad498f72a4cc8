use Rattle.std.proofs.Common.{refl}
use Rattle.published_policies.proofs.ListLemmas.{prefix_self}
use Rattle.published_policies.proofs.CopyLemmas.{learns}
use Rattle.published_policies.proofs.views.View.prepare.Goals as goal

pub enter_as-requires : goal.enter_as-requires
enter_as-requires g c shown = learns _ _ shown shown refl (prefix_self shown.list)
