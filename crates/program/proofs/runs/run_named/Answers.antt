use Rattle.std.proofs.Common.{refl}
use Rattle.configuration.specs.Configs.{config_data}
use Rattle.program.specs.RunFaults.{BrokeOff}
use Rattle.program.proofs.runs.run_named.Goals as goal

pub returns-in-Err-open_file-clause-err : goal.returns-in-Err-open_file-clause-err
returns-in-Err-open_file-clause-err g c = BrokeOff.without_script (config_data c.in-Ok.config) c.in-Ok.ensures.ok (refl, c.in-Err-open_file.ensures.closed) refl
