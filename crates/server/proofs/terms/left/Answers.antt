use Rattle.server.proofs.RelayLemmas.{term_of}
use Rattle.server.proofs.terms.left.Goals as goal

pub returns-in-Ok-clause-term : goal.returns-in-Ok-clause-term
returns-in-Ok-clause-term g c =
    let kept = c.in-Ok.ensures in
    term_of _ c.in-Ok.left.closed _ c.in-Ok.left.base kept.records kept.seats kept.trail
