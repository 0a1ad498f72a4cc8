use Rattle.hall_tests.proofs.memory_tests.refusals.Given as goal

abbrev pub ghosts-refused_in-L-Ledger : goal.ghosts-refused_in-L-Ledger
ghosts-refused_in-L-Ledger g a = record { name = a.unnamed.ledger.name; parts = a.unnamed.ledger.parts }

abbrev pub ghosts-refused_in-L-ListName : goal.ghosts-refused_in-L-ListName
ghosts-refused_in-L-ListName g a = record { book = a.unnamed.list }
