use Rattle.frame_keys.specs.Laws.{encloses_covers, covers_encloses}
use Rattle.frame_keys.proofs.frames.FramesKeyClass.covers.Goals as goal

pub returns : goal.returns
returns c = (λ told. covers_encloses _ _ c.fact_known_key.ensures (c.covers.ensures.0 told), λ held. c.covers.ensures.1 (encloses_covers _ _ held))
