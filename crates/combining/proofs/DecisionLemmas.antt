-- An algorithm decides the same over a tally as over all decisions.
use Rattle.std.proofs.Common.{◌≡◌, List, refl}
use Rattle.policy_documents.specs.declared.algorithms.Algorithm.{Algorithm}
use Rattle.policy_documents.specs.declared.algorithms.Algorithm.TheVariants.{DenyOverrides, PermitOverrides, DenyUnlessPermit, PermitUnlessDeny, FirstApplicable}
use Rattle.combining.specs.declared.decisions.Decision.{Decision}
use Rattle.combining.specs.Decisions.{combined}
use Rattle.combining.specs.Tallies.{tally_of, settled}

pub settled-tally_of : (a : Algorithm) (ds : List Decision) → settled a (tally_of ds) ≡ combined a ds
settled-tally_of DenyOverrides ds = refl
settled-tally_of PermitOverrides ds = refl
settled-tally_of DenyUnlessPermit ds = refl
settled-tally_of PermitUnlessDeny ds = refl
settled-tally_of FirstApplicable ds = refl
