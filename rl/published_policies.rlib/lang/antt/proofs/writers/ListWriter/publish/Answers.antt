use Rattle.std.proofs.Common.{None}
use Rattle.std.specs.Arc.{arc_value}
use Rattle.published_policies.proofs.ListLemmas.{last_push}
use Rattle.published_policies.proofs.writers.ListWriter.publish.Goals as goal

pub new-policy-requires : goal.new-policy-requires
new-policy-requires g c = rw (c.again.ensures, c.grown-list.ensures) (last_push None c.list-before.result.list (arc_value c.args.decider))
