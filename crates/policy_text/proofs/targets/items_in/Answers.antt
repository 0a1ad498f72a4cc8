use Rattle.policy_text.proofs.EachLemmas.{items_in-found}
use Rattle.policy_text.proofs.targets.items_in.Goals as goal

pub returns : goal.returns
returns c = items_in-found _ _ _ _ _ c.in-Some.ensures c.if-is_empty.ensures c.deref.ensures.len c.deref.ensures.value
