use Rattle.hall_tests.proofs.view_tests.views_are_given.Given as goal

abbrev pub ghosts-views_are_given_in-L-Ledger : goal.ghosts-views_are_given_in-L-Ledger
ghosts-views_are_given_in-L-Ledger g a = record { name = a.unnamed.ledger.name; parts = a.unnamed.ledger.parts }

abbrev pub ghosts-views_are_given_in-L-ListName : goal.ghosts-views_are_given_in-L-ListName
ghosts-views_are_given_in-L-ListName g a = record { book = a.unnamed.list }
