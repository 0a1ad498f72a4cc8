use Rattle.std.proofs.Common.{sym, ◌∙◌}
use Rattle.search_tree.proofs.FindingLemmas.{names_none, names_one}
use Rattle.search_tree.proofs.finding.name_slot.Goals as goal

pub returns-then-not-has_number : goal.returns-then-not-has_number
returns-then-not-has_number g c = names_none _ _ _ _ (sym c.has_number.ensures ∙ c.if-not-has_number.true)

pub returns : goal.returns
returns g c = names_one _ _ _ _ _ c.push.ensures.items (sym c.has_number.ensures ∙ c.if-not-has_number.false)
