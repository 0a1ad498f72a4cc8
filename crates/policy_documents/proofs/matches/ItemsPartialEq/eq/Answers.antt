use Rattle.policy_documents.proofs.EqualLemmas.{exact_items}
use Rattle.policy_documents.proofs.matches.ItemsPartialEq.eq.Goals as goal

pub returns-clause-exact : goal.returns-clause-exact
returns-clause-exact g c = exact_items _ _ _ _ _ _ c.eq.ensures c.as_slice.ensures c.as_slice-2.ensures
