use Rattle.decision.specs.Known.{some_hold}
use Rattle.decision.proofs.KnownLemmas.{all-skip, all-keep, all-lost, all-end}
use Rattle.decision.proofs.known.keep_target.Goals as goal
use Rattle.decision.proofs.known.keep_target.Goals.{in-Always, in-Asks+in_ok-try_push-in-Asks}

pub returns-in-Never : goal.returns-in-Never
returns-in-Never g c =
    rw (← c.as_slice-parts.ensures) (all-lost c.args.known.now some_hold c.as_slice-parts.result.now c.loop-part.part-index c.part-item.result c.loop-part-test.true c.part-item.is
    (rw c.in-Never.is at c.in_ok-keep_any_of.ensures))

pub loop-part-preserved : goal.loop-part-preserved
loop-part-preserved g c =
    let known = c.args.known.now in
    let i = c.loop-part.part-index in
    let xs = c.as_slice-parts.result.now in
    let x = c.part-item.result in
    elim c.match-branch-2.branch [
      | in-Always w ↦ rw w.kept-is (all-skip known some_hold xs i x c.loop-part.kept.items c.loop-part-test.true c.part-item.is
          (rw w.in-Always.is at c.in_ok-keep_any_of.ensures) c.loop-part.invariant)
      | in-Asks+in_ok-try_push-in-Asks w ↦ rw w.kept-is (all-keep known some_hold xs i x w.in-Asks.left c.loop-part.kept.items w.try_push.new.self.items c.loop-part-test.true c.part-item.is
          w.in_ok-try_push-in-Asks.ensures.items (rw w.in-Asks.is at c.in_ok-keep_any_of.ensures) c.loop-part.invariant)
    ]

pub returns : goal.returns
returns g c =
    all-end c.args.known.now some_hold c.as_slice-parts.result.now c.args.target.now c.loop-part.kept.items c.from_vec.result c.loop-part.part-index c.loop-part-test.false c.as_slice-parts.ensures c.from_vec.ensures c.loop-part.invariant
