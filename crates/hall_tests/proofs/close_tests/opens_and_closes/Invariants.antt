use Rattle.hall_tests.proofs.close_tests.opens_and_closes.Given as goal

abbrev pub ghosts-opens_and_closes_in-L-Ledger : goal.ghosts-opens_and_closes_in-L-Ledger
ghosts-opens_and_closes_in-L-Ledger g a = record { name = a.unnamed.ledger.name; parts = a.unnamed.ledger.parts }

abbrev pub ghosts-opens_and_closes_in-L-ListName : goal.ghosts-opens_and_closes_in-L-ListName
ghosts-opens_and_closes_in-L-ListName g a = record { book = a.unnamed.list }
