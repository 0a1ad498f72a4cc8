use Rattle.std.proofs.Common.{arith, sym, ap, length, refl, ◌∙◌}
use Rattle.std.proofs.lemmas.List.{length-map}
use Rattle.feature_store.specs.Blocks.{places_in}
use Rattle.feature_store.specs.Tables.{feature_at}
use Rattle.feature_store.proofs.ChangeLemmas.{more_stand, fit, not_full}
use Rattle.feature_store.proofs.stores.Store.apply.Goals as goal

pub returns-then-len-added-clause-full : goal.returns-then-len-added-clause-full
returns-then-len-added-clause-full g c =
    let len = c.len.ensures ∙ c.self.inside.table.features.ok.0 ∙ sym c.self.invariant.0.one_each ∙ sym (length-map (places_in c.self.inside.table.entries.items) (feature_at c.self.inside.table.features.items)) ∙ ap length c.self.view_is in
    (λ same. more_stand _ c.args.version c.args.office _ _ _ _ _ c.requires.can len c.count_additions-added.ensures.value c.count_deletions-deleted.ensures.value c.if-len-added.true, λ more. refl)

pub make_room-requires-clause-few : goal.make_room-requires-clause-few
make_room-requires-clause-few g c = omega (arith, c.count_additions-added.ensures.few, c.requires.few)

pub returns-in_err-make_room-clause-full : goal.returns-in_err-make_room-clause-full
returns-in_err-make_room-clause-full g c =
    let len = c.len.ensures ∙ c.self.inside.table.features.ok.0 ∙ sym c.self.invariant.0.one_each ∙ sym (length-map (places_in c.self.inside.table.entries.items) (feature_at c.self.inside.table.features.items)) ∙ ap length c.self.view_is in
    let fits = fit _ c.args.version c.args.office _ _ _ _ _ c.requires.can len c.count_additions-added.ensures.value c.count_deletions-deleted.ensures.value c.if-len-added.false in
    (λ same. absurd (not_full _ _ c.from_residual-in_err-make_room.ensures.1 same), λ more. absurd (omega (arith, more, fits)))

pub invariant_of-self-2 : goal.invariant_of-self-2
invariant_of-self-2 g c =
    let len = c.len.ensures ∙ c.self.inside.table.features.ok.0 ∙ sym c.self.invariant.0.one_each ∙ sym (length-map (places_in c.self.inside.table.entries.items) (feature_at c.self.inside.table.features.items)) ∙ ap length c.self.view_is in
    let fits = fit _ c.args.version c.args.office _ _ _ _ _ c.requires.can len c.count_additions-added.ensures.value c.count_deletions-deleted.ensures.value c.if-len-added.false in
    (c.make_all.ensures.sound, rw (c.make_all.ensures.rows, c.make_room.ensures.rows, c.self.view_is) fits)

pub returns-clause-full : goal.returns-clause-full
returns-clause-full g c =
    let len = c.len.ensures ∙ c.self.inside.table.features.ok.0 ∙ sym c.self.invariant.0.one_each ∙ sym (length-map (places_in c.self.inside.table.entries.items) (feature_at c.self.inside.table.features.items)) ∙ ap length c.self.view_is in
    let fits = fit _ c.args.version c.args.office _ _ _ _ _ c.requires.can len c.count_additions-added.ensures.value c.count_deletions-deleted.ensures.value c.if-len-added.false in
    (λ same. absurd cc, λ more. absurd (omega (arith, more, fits)))

pub returns-in_err-rings-clause-full : goal.returns-in_err-rings-clause-full
returns-in_err-rings-clause-full g c =
    let len = c.len.ensures ∙ c.self.inside.table.features.ok.0 ∙ sym c.self.invariant.0.one_each ∙ sym (length-map (places_in c.self.inside.table.entries.items) (feature_at c.self.inside.table.features.items)) ∙ ap length c.self.view_is in
    let fits = fit _ c.args.version c.args.office _ _ _ _ _ c.requires.can len c.count_additions-added.ensures.value c.count_deletions-deleted.ensures.value c.if-len-added.false in
    (λ same. absurd (not_full _ _ c.from_residual.ensures.1 same), λ more. absurd (omega (arith, more, fits)))
