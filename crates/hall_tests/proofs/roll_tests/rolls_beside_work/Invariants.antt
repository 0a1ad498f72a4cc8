use Rattle.hall_tests.proofs.roll_tests.rolls_beside_work.Given as goal

abbrev pub ghosts-rolls_beside_work_in-L-Ledger : goal.ghosts-rolls_beside_work_in-L-Ledger
ghosts-rolls_beside_work_in-L-Ledger g a = record { name = a.unnamed.ledger.name; parts = a.unnamed.ledger.parts }

abbrev pub ghosts-rolls_beside_work_in-L-ListName : goal.ghosts-rolls_beside_work_in-L-ListName
ghosts-rolls_beside_work_in-L-ListName g a = record { book = a.unnamed.list }
