use Rattle.hall_tests.proofs.reading_tests.records_are_read.Given as goal

abbrev pub ghosts-records_in-L-Ledger : goal.ghosts-records_in-L-Ledger
ghosts-records_in-L-Ledger g a = record { name = a.unnamed.ledger.name; parts = a.unnamed.ledger.parts }

abbrev pub ghosts-records_in-L-ListName : goal.ghosts-records_in-L-ListName
ghosts-records_in-L-ListName g a = record { book = a.unnamed.list }
