use Rattle.hall_tests.proofs.view_tests.editions_never_go_back.Given as goal

abbrev pub ghosts-editions_never_go_back_in-L-Ledger : goal.ghosts-editions_never_go_back_in-L-Ledger
ghosts-editions_never_go_back_in-L-Ledger g a = record { name = a.unnamed.ledger.name; parts = a.unnamed.ledger.parts }

abbrev pub ghosts-editions_never_go_back_in-L-ListName : goal.ghosts-editions_never_go_back_in-L-ListName
ghosts-editions_never_go_back_in-L-ListName g a = record { book = a.unnamed.list }
