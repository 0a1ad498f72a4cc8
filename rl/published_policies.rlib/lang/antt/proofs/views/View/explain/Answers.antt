use Rattle.std.proofs.Common.{◌≡◌, ◌∙◌, ap, refl, sym}
use Rattle.published_policies.specs.Lists.{edition_of, last_edition}
use Rattle.published_policies.proofs.ListLemmas.{prefix_self}
use Rattle.published_policies.proofs.CopyLemmas.{learns}
use Rattle.published_policies.proofs.views.View.explain.Goals as goal

pub enter_as-requires : goal.enter_as-requires
enter_as-requires g c shown = learns _ _ shown shown refl (prefix_self shown.list)

pub returns-then-advance-clause-edition : goal.returns-then-advance-clause-edition
returns-then-advance-clause-edition g c =
    let told = c.explained_by-explained.ensures in
    let last : last_edition c.list-list.result.list ≡ told.decider.edition = ap edition_of told.last in
    told.explains.edition ∙ sym last ∙ sym (ap (λ read. last_edition read.list) c.if-advance.ensures.0)
