use Rattle.hall_tests.proofs.memory_tests.seat_refusals.Given as goal

abbrev pub ghosts-seat_refused_in-L-Ledger : goal.ghosts-seat_refused_in-L-Ledger
ghosts-seat_refused_in-L-Ledger g a = record { name = a.unnamed.ledger.name; parts = a.unnamed.ledger.parts }

abbrev pub ghosts-seat_refused_in-L-ListName : goal.ghosts-seat_refused_in-L-ListName
ghosts-seat_refused_in-L-ListName g a = record { book = a.unnamed.list }
