use Rattle.feature_store.proofs.EntryLemmas.{place_at_position}
use Rattle.feature_store.proofs.blocks.place_of.Goals as goal

pub returns-in-Some-clause-found : goal.returns-in-Some-clause-found
returns-in-Some-clause-found c = place_at_position _ _ c.in-Some.position c.in-Some.ensures.present c.in-Some.ensures.found _ c.place_in.ensures
