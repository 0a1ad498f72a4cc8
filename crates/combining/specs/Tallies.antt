-- What is kept of the decisions of a node's children. Contracts of private functions use it, and
-- through `Gathering` those of `Gathered`.
use Rattle.std.specs.Prelude.{◌||◌, List, if◌then◌else◌}
use Rattle.std.specs.List.{list_any}
use Rattle.policy_documents.specs.declared.algorithms.Algorithm.{Algorithm}
use Rattle.policy_documents.specs.declared.algorithms.Algorithm.TheVariants.{DenyOverrides, PermitOverrides, DenyUnlessPermit, PermitUnlessDeny, FirstApplicable}
use Rattle.combining.specs.declared.decisions.Decision.{Decision}
use Rattle.combining.specs.declared.decisions.Decision.TheVariants.{Permit, Deny, NotApplicable}
use Rattle.combining.specs.declared.algorithms.Tally.{Tally}
use Rattle.combining.specs.Decisions.{is_permit, is_deny, first_applicable}

abbrev pub tally_of : List Decision → Tally
tally_of ds = record {
  permits = list_any is_permit ds;
  denies = list_any is_deny ds;
  first = first_applicable ds;
}

-- the first of two decisions that is not NotApplicable
abbrev pub or_else : Decision → Decision → Decision
or_else NotApplicable d = d
or_else Permit d = Permit
or_else Deny d = Deny

abbrev pub with_decision : Tally → Decision → Tally
with_decision t d = record {
  permits = t.permits || is_permit d;
  denies = t.denies || is_deny d;
  first = or_else t.first d;
}

-- what an algorithm makes of a tally
abbrev pub settled : Algorithm → Tally → Decision
settled DenyOverrides t = if t.denies then Deny else if t.permits then Permit else NotApplicable
settled PermitOverrides t = if t.permits then Permit else if t.denies then Deny else NotApplicable
settled DenyUnlessPermit t = if t.permits then Permit else Deny
settled PermitUnlessDeny t = if t.denies then Deny else Permit
settled FirstApplicable t = t.first
