use Rattle.decision.proofs.RulingLemmas.{Rules-one}
use Rattle.plain_world.proofs.listing.permits.Goals as goal

pub returns-in-DeniedBy : goal.returns-in-DeniedBy
returns-in-DeniedBy c =
    let told = rw (c.requires) at c.in_ok-decide.ensures.ruled in
    record {
      permitted = (λ never. absurd (cc (never)), λ permitted. let same = Rules-one _ _ _ _ told permitted.1 in absurd (cc (same)));
      same = c.in_ok-decide.ensures.same;
    }

pub returns-in-NoneApplied : goal.returns-in-NoneApplied
returns-in-NoneApplied c =
    let told = rw (c.requires) at c.in_ok-decide.ensures.ruled in
    record {
      permitted = (λ never. absurd (cc (never)), λ permitted. let same = Rules-one _ _ _ _ told permitted.1 in absurd (cc (same)));
      same = c.in_ok-decide.ensures.same;
    }
