-- The state that was read, as plain data.
use Rattle.judging.specs.States.{PlainState}
use Rattle.volumes.specs.declared.reading.State.{State}

abbrev pub state_of : {A : Type 0} → State A → PlainState
state_of s = record { features = s.features.items; version = s.version; decider = s.decider }
