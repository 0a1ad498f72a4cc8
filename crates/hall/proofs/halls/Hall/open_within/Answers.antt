use Rattle.std.proofs.Common.{ap, sym, ◌∙◌}
use Rattle.chronicle.specs.Chronicles.{Opening, opened_with}
use Rattle.hall.proofs.halls.Hall.open_within.Goals as goal

-- By hand, so that a hall that opens with something else is refused at once.
pub over-requires-clause-opened : goal.over-requires-clause-opened
over-requires-clause-opened g c = c.in-Ok-open_at.ensures.ok ∙ ap (λ (o : Opening). opened_with o) (sym c.requires.opening)
