use Rattle.hall.proofs.Refusals.{on_err_goes_on}
use Rattle.hall.proofs.halls.Hall.records_from.Goals as goal

pub returns-clause-err : goal.returns-clause-err
returns-clause-err g c =
    on_err_goes_on c.copy_from.result _ _
    (λ p. (p.0, record { chronicle = _; opened = c.sound.ensures.opened; sound = c.sound.ensures.sound; copied = p.1 }))
    c.copy_from.ensures.err
