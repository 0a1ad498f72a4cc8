-- Calls of a world, one after another, are a run.
use Rattle.std.proofs.Common.{List, ◌∷◌, ap}
use Rattle.plain_world.specs.Events.{Event, Reply, Happens}
use Rattle.plain_world.specs.States.{WorldData}
use Rattle.world.specs.WorkedRun.{event_of, AreMade}
use Rattle.world.specs.declared.worked_run.Call.{Call}

-- one call, and those after it
pub one_more : (call : Call) (rest : List Call) (old mid new : WorldData) → ((reply : Reply) × Happens (event_of call) old mid reply) → AreMade rest mid new → AreMade (call ∷ rest) old new
one_more call rest old mid new first later = record {
  steps = (event_of call, first.0) ∷ later.steps;
  run = (mid, first.1, later.run);
  events = ap (λ (events : List Event). event_of call ∷ events) later.events;
}
