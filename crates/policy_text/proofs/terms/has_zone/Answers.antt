use Rattle.std.proofs.Common.{◌∙◌}
use Rattle.policy_documents.proofs.ZoneLemmas.{lookup-list_any}
use Rattle.policy_text.proofs.terms.has_zone.Goals as goal

pub returns : goal.returns
returns g c = c.contains_key.ensures ∙ lookup-list_any (record { name = c.args.name }) c.args.zones.now.entries
