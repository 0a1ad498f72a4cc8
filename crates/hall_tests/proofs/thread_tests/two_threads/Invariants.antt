use Rattle.hall_tests.proofs.thread_tests.two_threads.Given as goal

abbrev pub ghosts-two_threads_in-L-Ledger : goal.ghosts-two_threads_in-L-Ledger
ghosts-two_threads_in-L-Ledger g a = record { name = a.unnamed.ledger.name; parts = a.unnamed.ledger.parts }

abbrev pub ghosts-two_threads_in-L-ListName : goal.ghosts-two_threads_in-L-ListName
ghosts-two_threads_in-L-ListName g a = record { book = a.unnamed.list }
