use Rattle.feature_store.proofs.EntryLemmas.{place_at_position}
use Rattle.feature_store.proofs.blocks.place_near.Goals as goal

pub returns-in-Ok-clause-found : goal.returns-in-Ok-clause-found
returns-in-Ok-clause-found c = place_at_position _ _ c.in-Ok.position c.in-Ok.ensures.present c.in-Ok.ensures.found _ c.place_in.ensures
