use Rattle.hall_tests.proofs.close_tests.closes_empty.Given as goal

abbrev pub ghosts-empty_in-L-Ledger : goal.ghosts-empty_in-L-Ledger
ghosts-empty_in-L-Ledger g a = record { name = a.unnamed.ledger.name; parts = a.unnamed.ledger.parts }

abbrev pub ghosts-empty_in-L-ListName : goal.ghosts-empty_in-L-ListName
ghosts-empty_in-L-ListName g a = record { book = a.unnamed.list }
