use Rattle.std.proofs.Common.{arith}
use Rattle.std.proofs.lemmas.Bool.{ne_eqb}
use Rattle.std.proofs.lemmas.Grind.{common_steps}
use Rattle.std.proofs.lemmas.Option.{gets}
use Rattle.plain_world.proofs.admitting.subject_in.Goals as goal

pub returns : goal.returns
returns c = rw (ne_eqb _ _ c.if-seat-eq0.false) (grind (arith, common_steps, gets, c.get.ensures.lookup, c.copied.ensures))
