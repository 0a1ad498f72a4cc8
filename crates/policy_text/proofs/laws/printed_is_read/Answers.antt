use Rattle.policy_text.proofs.PrintedDocuments.{printed_document_in}
use Rattle.policy_text.proofs.laws.printed_is_read.Goals as goal

pub returns : goal.returns
returns c = printed_document_in
