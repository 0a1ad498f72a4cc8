use Rattle.plane.proofs.Covering.{whole_covers}
use Rattle.plane.proofs.frame.Frame.whole.Goals as goal

pub returns-clause-whole : goal.returns-clause-whole
returns-clause-whole c = whole_covers
