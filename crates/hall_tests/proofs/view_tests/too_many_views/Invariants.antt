use Rattle.hall_tests.proofs.view_tests.too_many_views.Given as goal

abbrev pub ghosts-too_many_views_in-L-Ledger : goal.ghosts-too_many_views_in-L-Ledger
ghosts-too_many_views_in-L-Ledger g a = record { name = a.unnamed.ledger.name; parts = a.unnamed.ledger.parts }

abbrev pub ghosts-too_many_views_in-L-ListName : goal.ghosts-too_many_views_in-L-ListName
ghosts-too_many_views_in-L-ListName g a = record { book = a.unnamed.list }
