use Rattle.policy_text.proofs.PlaceLemmas.{exact_path}
use Rattle.policy_text.proofs.paths.PathPartialEq.eq.Goals as goal

pub returns-clause-exact : goal.returns-clause-exact
returns-clause-exact c =
    exact_path _ _ _ _ _ c.eq.ensures c.as_slice.ensures c.as_slice-2.ensures
