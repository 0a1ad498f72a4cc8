use Rattle.leaf_tests.proofs.view_tests.views_have_places_and_an_end.Given as goal

-- the list that was just made
abbrev pub ghosts-places_and_end : goal.ghosts-places_and_end
ghosts-places_and_end g a = record { book = a.list }
