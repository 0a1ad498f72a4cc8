use Rattle.std.proofs.Common.{◌∙◌}
use Rattle.tree_nodes.proofs.Adoptions.{put_over, put_more}
use Rattle.tree_nodes.proofs.putting.put_over.Goals as goal

pub returns-clause-put : goal.returns-clause-put
returns-clause-put g c = put_over _ _ _ _ _ _ c.put_in-at.ensures.given c.adopt.ensures

pub returns-clause-more : goal.returns-clause-more
returns-clause-more g c = put_more _ _ _ _ _ c.put_in-at.ensures.counts c.adopt.ensures

pub returns-clause-places : goal.returns-clause-places
returns-clause-places g c = c.adopt.ensures.places ∙ c.put_in-at.ensures.places
