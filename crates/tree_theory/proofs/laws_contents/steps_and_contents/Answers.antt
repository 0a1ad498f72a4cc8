use Rattle.tree_theory.proofs.ContentsKept.{contents_unique, contents_have, contents_opened, contents_closed, contents_visited, contents_visited_gone, contents_placed, contents_joined, contents_enlarged, contents_installed, contents_sifted, contents_retired, contents_freed, contents_started}
use Rattle.tree_theory.proofs.ContentsSplit.{contents_split, contents_grown}
use Rattle.tree_theory.proofs.laws_contents.steps_and_contents.Goals as goal

pub returns : goal.returns
returns g c =
    record {
      unique = contents_unique;
      of_nodes = contents_have;
      opened = λ t u query xs. contents_opened;
      closed = λ t u s xs. contents_closed;
      visited = λ t u s x memo xs. contents_visited;
      visited_gone = λ t u s x memo xs. contents_visited_gone;
      placed = λ t u h pair xs. contents_placed;
      joined = λ t u h xs. contents_joined;
      enlarged = λ t u p key xs. contents_enlarged;
      split = λ t u h r xs. contents_split;
      grown = λ t u a b xs. contents_grown;
      installed = λ t u p l r xs. contents_installed;
      cleaned = λ t u kept h before. contents_sifted;
      retired = λ t u l p xs. contents_retired;
      freed = λ t u h xs. contents_freed;
      started = λ u. contents_started;
    }
