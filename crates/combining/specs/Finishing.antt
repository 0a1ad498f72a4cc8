-- When the rest of a node's children can be skipped, for the contract of `Gathered::is_finished`.
use Rattle.std.specs.Prelude.{Bool, not, ◌&&◌, is_some}
use Rattle.policy_documents.specs.declared.algorithms.Algorithm.{Algorithm}
use Rattle.policy_documents.specs.declared.algorithms.Algorithm.TheVariants.{DenyOverrides, PermitOverrides, DenyUnlessPermit, PermitUnlessDeny, FirstApplicable}
use Rattle.combining.specs.declared.gathering.Gathered.{Gathered}
use Rattle.combining.specs.Decisions.{is_not_applicable}

-- a child settled the decision, and the rule that made it is known or no later rule counts
abbrev pub is_finished : Algorithm → Gathered → Bool
is_finished DenyOverrides g = g.tally.denies && is_some g.denying
is_finished PermitOverrides g = g.tally.permits && is_some g.permitting
is_finished DenyUnlessPermit g = g.tally.permits && is_some g.permitting
is_finished PermitUnlessDeny g = g.tally.denies && is_some g.denying
is_finished FirstApplicable g = not g.counts && not (is_not_applicable g.tally.first)
