use Rattle.policy_text.proofs.FaultLemmas.{text_fault_exact}
use Rattle.policy_text.proofs.laws.faults_compare_exactly.Goals as goal

pub returns : goal.returns
returns c = text_fault_exact
