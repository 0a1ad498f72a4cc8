use Rattle.plain_world.proofs.RunLemmas.{sound_run}
use Rattle.plain_world.proofs.laws.every_run_is_sound.Goals as goal

pub returns : goal.returns
returns c = λ old new events sound run. sound_run old events new run sound
