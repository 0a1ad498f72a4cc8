use Rattle.std.proofs.Common.{◌∙◌}
use Rattle.policy_documents.proofs.ZoneLemmas.{lookup-zone_shape}
use Rattle.policy_documents.proofs.documents.Document.zone.Goals as goal

pub returns : goal.returns
returns g c = rw (← c.self.view_is) (c.get.ensures.value ∙ lookup-zone_shape (record { name = c.args.name }) c.self.inside.zones.entries)
