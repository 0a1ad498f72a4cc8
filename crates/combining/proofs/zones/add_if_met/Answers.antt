use Rattle.std.proofs.Common.{refl, true≢false, sym, arith, length-append}
use Rattle.combining.proofs.MetLemmas.{AreMet-meets, AreMet-apart}
use Rattle.combining.proofs.zones.add_if_met.Goals as goal

pub returns-then-meets : goal.returns-then-meets
returns-then-meets c = rw c.push.ensures (record {
  met = λ zones before. AreMet-meets _ _ _ c.args.zone before (c.if-meets.ensures.0 refl);
  count = simp length-append (omega arith);
})

pub returns-else-meets : goal.returns-else-meets
returns-else-meets c = record {
  met = λ zones before. AreMet-apart _ _ _ c.args.zone before (λ here. true≢false (sym (c.if-meets.ensures.1 here)));
  count = omega arith;
}
