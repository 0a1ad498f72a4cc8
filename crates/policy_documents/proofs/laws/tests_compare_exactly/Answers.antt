use Rattle.policy_documents.proofs.EqualLemmas.{exact_match, exact_atom}
use Rattle.policy_documents.proofs.laws.tests_compare_exactly.Goals as goal

pub returns-clause-matches : goal.returns-clause-matches
returns-clause-matches c = exact_match

pub returns-clause-atoms : goal.returns-clause-atoms
returns-clause-atoms c = exact_atom
