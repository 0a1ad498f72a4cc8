use Rattle.std.proofs.Common.{refl, [], ◌∷◌}
use Rattle.plain_world.proofs.GoingOnLemmas.{run_joined}
use Rattle.plain_world.proofs.laws.runs_go_on.Goals as goal

pub returns-clause-event : goal.returns-clause-event
returns-clause-event c old mid new steps event reply run happens = run_joined old steps mid ((event, reply) ∷ []) new run (new, happens, refl)

pub returns-clause-run : goal.returns-clause-run
returns-clause-run c old mid new before later run rest = run_joined old before mid later new run rest
