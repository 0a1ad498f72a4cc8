use Rattle.combining.proofs.NamingLemmas.{rules-placed, made_by}
use Rattle.combining.proofs.laws.verdicts_number_as_documents_name.Goals as goal

pub returns-clause-order : goal.returns-clause-order
returns-clause-order c = rules-placed

pub returns-clause-named : goal.returns-clause-named
returns-clause-named c = made_by
