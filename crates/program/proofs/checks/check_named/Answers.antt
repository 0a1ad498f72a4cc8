use Rattle.program.proofs.CheckLemmas.{found_right}
use Rattle.program.proofs.checks.check_named.Goals as goal

pub returns-in-Right : goal.returns-in-Right
returns-in-Right g c =
    found_right _ _ _ c.in-Ok.checked c.in-Right._summary c.in-Right._grid c.in-Right._web c.in-Right.is c.in-Ok.ensures c.in-Ok-write_finding.ensures
