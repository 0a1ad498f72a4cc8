use Rattle.hall_tests.proofs.held_tests.held_sixty_four_times.Given as goal

abbrev pub ghosts-held_sixty_four_times_in-L-Ledger : goal.ghosts-held_sixty_four_times_in-L-Ledger
ghosts-held_sixty_four_times_in-L-Ledger g a = record { name = a.unnamed.ledger.name; parts = a.unnamed.ledger.parts }

abbrev pub ghosts-held_sixty_four_times_in-L-ListName : goal.ghosts-held_sixty_four_times_in-L-ListName
ghosts-held_sixty_four_times_in-L-ListName g a = record { book = a.unnamed.list }
