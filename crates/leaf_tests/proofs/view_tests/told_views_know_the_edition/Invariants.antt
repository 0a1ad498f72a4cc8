use Rattle.leaf_tests.proofs.view_tests.told_views_know_the_edition.Given as goal

-- the list that was just made
abbrev pub ghosts-told_and_not_told : goal.ghosts-told_and_not_told
ghosts-told_and_not_told g a = record { book = a.list }
