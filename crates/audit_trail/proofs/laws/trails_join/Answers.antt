use Rattle.audit_trail.proofs.LegalLemmas.{replay-append, legal-append, legal-parts}
use Rattle.audit_trail.proofs.laws.trails_join.Goals as goal

pub returns-clause-legal : goal.returns-clause-legal
returns-clause-legal c seats base first rest =
    (legal-parts seats base first rest, λ h. legal-append seats base first rest h.0 h.1)

pub returns-clause-replayed : goal.returns-clause-replayed
returns-clause-replayed c = replay-append
