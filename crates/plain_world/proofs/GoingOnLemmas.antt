-- Runs that come one after another are one run.
use Rattle.std.proofs.Common.{List, [], ◌∷◌, ◌++◌, subst}
use Rattle.plain_world.specs.Events.{Event, Reply, Run}
use Rattle.plain_world.specs.States.{WorldData}

pub run_joined : (old : WorldData) (before : List (Event × Reply)) (mid : WorldData) (later : List (Event × Reply)) (new : WorldData) → Run old before mid → Run mid later new → Run old (before ++ later) new
run_joined old [] mid later new same rest = subst (λ (w : WorldData). Run w later new) same rest
run_joined old (step ∷ before) mid later new run rest = (run.0, run.1, run_joined run.0 before mid later new run.2 rest)
