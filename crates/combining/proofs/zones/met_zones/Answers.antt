use Rattle.std.proofs.Common.{◌<◌, length, sym, arith, subst}
use Rattle.std.proofs.lemmas.List.{take_all}
use Rattle.std.proofs.lemmas.Option.{slice_get_within}
use Rattle.combining.specs.Holding.{AreMet, none}
use Rattle.combining.proofs.MetLemmas.{take-slice_get, slice_get-none}
use Rattle.combining.proofs.zones.met_zones.Goals as goal

pub loop-zone-init : goal.loop-zone-init
loop-zone-init g c = rw c.new-met.ensures (record { met = none; count = omega arith; within = omega arith })

pub add_if_met-requires : goal.add_if_met-requires
add_if_met-requires g c = let inside = slice_get_within _ _ _ (sym c.in-Some.ensures) in let i : c.loop-zone.index < length c.args.document.now.zones = inside in omega (arith, c.loop-zone.invariant.count, c.requires)

pub loop-zone-smaller : goal.loop-zone-smaller
loop-zone-smaller g c = let i : c.loop-zone.index < length c.args.document.now.zones = slice_get_within _ _ _ (sym c.in-Some.ensures) in omega arith

pub loop-zone-preserved : goal.loop-zone-preserved
loop-zone-preserved g c =
    let i : c.loop-zone.index < length c.args.document.now.zones = slice_get_within _ _ _ (sym c.in-Some.ensures) in record {
      met = rw (take-slice_get _ _ _ (sym c.in-Some.ensures)) (c.add_if_met.ensures.met _ c.loop-zone.invariant.met);
      count = omega (arith, c.add_if_met.ensures.count, c.loop-zone.invariant.count);
      within = omega arith;
    }

pub returns : goal.returns
returns g c =
    subst (λ zones. AreMet c.args.shape.now zones c.loop-zone.met) (take_all c.loop-zone.index c.args.document.now.zones (slice_get-none _ _ (sym c.in_default.ensures))) c.loop-zone.invariant.met
