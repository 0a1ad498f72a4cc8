use Rattle.policy_documents.proofs.documents.Document.copy.Goals as goal

pub invariant_of-result : goal.invariant_of-result
invariant_of-result g c = rw (c.in_ok-copy_zones.ensures, c.in_ok-copy_node.ensures) c.self.invariant
