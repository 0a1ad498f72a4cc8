use Rattle.std.proofs.Common.{◌≡◌}
use Rattle.volumes.proofs.ReadingLemmas.{reading_begun}
use Rattle.volumes.proofs.reading.begin_reading.Goals as goal

pub returns-clause-ok : goal.returns-clause-ok
returns-clause-ok g c = λ clean. reading_begun _ _ _ _ _ (c.in_ok-seek.ensures.ok clean) (cc)
