use Rattle.leaf_tests.proofs.publishing_tests.editions_never_go_back.Given as goal

-- the list that was just made
abbrev pub ghosts-published_beside_views : goal.ghosts-published_beside_views
ghosts-published_beside_views g a = record { book = a.list }
