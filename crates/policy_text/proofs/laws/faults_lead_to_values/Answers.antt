use Rattle.policy_text.proofs.FaultPathLaws.{document_in-leads}
use Rattle.policy_text.proofs.laws.faults_lead_to_values.Goals as goal

pub returns : goal.returns
returns c = document_in-leads
