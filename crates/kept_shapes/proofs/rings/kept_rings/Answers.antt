use Rattle.std.proofs.Common.{◌-◌, arith}
use Rattle.kept_shapes.proofs.RingLemmas.{no_ring_at}
use Rattle.kept_shapes.proofs.rings.kept_rings.Goals as goal

pub returns-in_err-copied-clause-certain : goal.returns-in_err-copied-clause-certain
returns-in_err-copied-clause-certain g c =
    λ none. absurd (no_ring_at c.args.changes.now (c.loop-at.at - 1) c.index-changes-at.result _ (omega (arith, c.loop-at-test.true, c.loop-at.auto.at)) c.index-changes-at.is c.in-Some.ensures.some none)

pub returns-in_err-put_first-clause-certain : goal.returns-in_err-put_first-clause-certain
returns-in_err-put_first-clause-certain g c =
    λ none. absurd (no_ring_at c.args.changes.now (c.loop-at.at - 1) c.index-changes-at.result _ (omega (arith, c.loop-at-test.true, c.loop-at.auto.at)) c.index-changes-at.is c.in-Some.ensures.some none)
