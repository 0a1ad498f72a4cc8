use Rattle.std.proofs.Common.{◌≡◌, refl, map, sym, ◌∙◌, subst}
use Rattle.policy_documents.specs.Views.{zone_of}
use Rattle.policy_text.specs.Reading.{Fails, at_item}
use Rattle.policy_text.proofs.EachLemmas.{Gives-residual}
use Rattle.policy_text.proofs.ZoneReadLemmas.{zones_place, zones_left-more, zones_left-fails, zones_left-end}
use Rattle.policy_text.proofs.areas.zones_at.Goals as goal

pub returns : goal.returns
returns g c = sym c.loop-index.invariant ∙ zones_left-end c.loop-index.index (map zone_of c.loop-index.zones.entries) c.args.items.now c.loop-index-test.false

pub loop-index-preserved : goal.loop-index-preserved
loop-index-preserved g c =
    let place : c.with.result ≡ at_item zones_place c.loop-index.index = rw (c.with.ensures, c.with-path.ensures, c.new.ensures) refl in
    zones_left-more c.loop-index.index (map zone_of c.loop-index.zones.entries) _ c.args.items.now c.index-items-index.result c.loop-index-test.true c.index-items-index.is (rw (← place) c.in_ok-zone_at.ensures.value) ∙ c.loop-index.invariant

pub returns-in_err-zone_at : goal.returns-in_err-zone_at
returns-in_err-zone_at g c =
    let place : c.with.result ≡ at_item zones_place c.loop-index.index = rw (c.with.ensures, c.with-path.ensures, c.new.ensures) refl in
    Gives-residual _ _ _ _ c.from_residual.ensures.1 (subst (Fails c.in_err-zone_at.field-0.0) c.loop-index.invariant
    (zones_left-fails c.loop-index.index (map zone_of c.loop-index.zones.entries) c.args.items.now c.index-items-index.result c.in_err-zone_at.field-0.0 c.loop-index-test.true c.index-items-index.is (rw (← place) c.in_err-zone_at.ensures.value)))
