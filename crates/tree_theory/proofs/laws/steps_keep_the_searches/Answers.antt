use Rattle.tree_theory.proofs.SearchPlace.{searches_placed, searches_joined, searches_enlarged, searches_cleaned}
use Rattle.tree_theory.proofs.SearchRetire.{searches_retired, searches_freed, searches_started}
use Rattle.tree_theory.proofs.SearchSplit.{searches_split, searches_grown, searches_installed}
use Rattle.tree_theory.proofs.SearchVisit.{searches_opened, searches_closed, searches_visited, searches_visited_gone}
use Rattle.tree_theory.proofs.laws.steps_keep_the_searches.Goals as goal

pub returns : goal.returns
returns g c =
    let laws = g.met.C.KeyClass.laws in
    record {
      opened = λ t u query. searches_opened;
      closed = λ t u s. searches_closed;
      visited = λ t u s x memo. searches_visited;
      visited_gone = λ t u s x memo. searches_visited_gone;
      placed = λ t u h pair. searches_placed;
      joined = λ t u h. searches_joined laws;
      enlarged = λ t u p key. searches_enlarged;
      split = λ t u h r. searches_split;
      grown = λ t u a b. searches_grown;
      installed = λ t u p l r. searches_installed laws;
      cleaned = λ t u kept h. searches_cleaned;
      retired = λ t u l p. searches_retired;
      freed = λ t u h. searches_freed;
      started = λ u. searches_started;
    }
