use Rattle.std.proofs.Common.{◌-◌, sym, ◌∙◌, ap, slice_get, arith}
use Rattle.chronicle.proofs.TrailLemmas.{last_placed}
use Rattle.chronicle.proofs.chronicles.Chronicle.last.Goals as goal

pub returns : goal.returns
returns g c =
    let records = c.args.self.now.records in
    c.get.ensures.value ∙ ap (slice_get records) (ap (λ n. n - 1) c.len-count.ensures) ∙ sym (last_placed records (omega (arith, c.len-count.ensures, c.if-count-eq0.false)))
