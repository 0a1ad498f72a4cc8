use Rattle.std.proofs.Common.{[], arith, sym, ap, length, ◌∙◌}
use Rattle.std.proofs.lemmas.List.{length-map}
use Rattle.feature_store.specs.Blocks.{places_in}
use Rattle.feature_store.specs.Tables.{feature_at}
use Rattle.feature_store.proofs.ChangeLemmas.{length_after}
use Rattle.feature_store.proofs.stores.Store.len_after.Goals as goal

pub returns : goal.returns
returns g c = λ version office.
    let len = c.len.ensures ∙ c.self.inside.table.features.ok.0 ∙ sym c.self.invariant.0.one_each ∙ sym (length-map (places_in c.self.inside.table.entries.items) (feature_at c.self.inside.table.features.items)) ∙ ap length c.self.view_is in
    omega (arith, len, c.count_additions-added.ensures.value, c.count_deletions-deleted.ensures.value, length_after version office c.args.changes.now c.args.self.now c.requires)

pub overflow_sub-result : goal.overflow_sub-result
overflow_sub-result g c =
    let len = c.len.ensures ∙ c.self.inside.table.features.ok.0 ∙ sym c.self.invariant.0.one_each ∙ sym (length-map (places_in c.self.inside.table.entries.items) (feature_at c.self.inside.table.features.items)) ∙ ap length c.self.view_is in
    omega (arith, len, c.count_additions-added.ensures.value, c.count_deletions-deleted.ensures.value, length_after 0 [] c.args.changes.now c.args.self.now c.requires)
