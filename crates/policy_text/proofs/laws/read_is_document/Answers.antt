use Rattle.policy_text.proofs.DocumentLaws.{document_in-IsDocument}
use Rattle.policy_text.proofs.laws.read_is_document.Goals as goal

pub returns : goal.returns
returns c = document_in-IsDocument
