use Rattle.program.proofs.DrawLemmas.{drawn_at}
use Rattle.program.proofs.checks.draw_named.Goals as goal

pub returns-in-Ok-draw : goal.returns-in-Ok-draw
returns-in-Ok-draw g c = drawn_at _ _ _ _ _ _ _ _ c.in-Ok.ensures.holds c.in-Ok-open_file.ensures.holds c.in-Ok-draw.ensures
