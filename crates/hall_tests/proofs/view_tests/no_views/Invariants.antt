use Rattle.hall_tests.proofs.view_tests.no_views.Given as goal

abbrev pub ghosts-no_views_in-L-Ledger : goal.ghosts-no_views_in-L-Ledger
ghosts-no_views_in-L-Ledger g a = record { name = a.unnamed.ledger.name; parts = a.unnamed.ledger.parts }

abbrev pub ghosts-no_views_in-L-ListName : goal.ghosts-no_views_in-L-ListName
ghosts-no_views_in-L-ListName g a = record { book = a.unnamed.list }
