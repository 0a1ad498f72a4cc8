use Rattle.combining.proofs.OlderDecisions.{decision_of-older}
use Rattle.combining.proofs.OlderRules.{first_deciding-older, first_deciding-some}
use Rattle.combining.proofs.laws.older_documents_decide_as_before.Goals as goal

pub returns : goal.returns
returns c = record { decision = decision_of-older; rule = first_deciding-older; made = first_deciding-some }
