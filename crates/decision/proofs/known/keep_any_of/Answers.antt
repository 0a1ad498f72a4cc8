use Rattle.std.proofs.Common.{◌≡◌, length, arith}
use Rattle.std.proofs.lemmas.Grind.{common_steps}
use Rattle.std.proofs.lemmas.Bool.Decides.{nat_tests}
use Rattle.decision.specs.Known.{all_hold}
use Rattle.decision.proofs.KnownLemmas.{any-skip, any-keep, any-found, any-end, any-never}
use Rattle.decision.proofs.known.keep_any_of.Goals as goal
use Rattle.decision.proofs.known.keep_any_of.Goals.{in-Never, in-Asks+in_ok-try_push-in-Asks}

pub returns-in-Always : goal.returns-in-Always
returns-in-Always g c =
    rw (← c.as_slice-rows.ensures) (any-found c.args.known.now all_hold c.as_slice-rows.result.now c.loop-matches.matches-index c.matches-item.result c.loop-matches-test.true c.matches-item.is
    (rw c.in-Always.is at c.in_ok-keep_all_of.ensures))

pub loop-matches-preserved : goal.loop-matches-preserved
loop-matches-preserved g c =
    let known = c.args.known.now in
    let i = c.loop-matches.matches-index in
    let xs = c.as_slice-rows.result.now in
    let x = c.matches-item.result in
    elim c.match-branch-2.branch [
      | in-Never w ↦ rw w.kept-is (any-skip known all_hold xs i x c.loop-matches.kept.items c.loop-matches-test.true c.matches-item.is
          (rw w.in-Never.is at c.in_ok-keep_all_of.ensures) c.loop-matches.invariant)
      | in-Asks+in_ok-try_push-in-Asks w ↦ rw w.kept-is (any-keep known all_hold xs i x w.in-Asks.left c.loop-matches.kept.items w.try_push.new.self.items c.loop-matches-test.true c.matches-item.is
          w.in_ok-try_push-in-Asks.ensures.items (rw w.in-Asks.is at c.in_ok-keep_all_of.ensures) c.loop-matches.invariant)
    ]

pub returns-then-is_empty : goal.returns-then-is_empty
returns-then-is_empty g c =
    let none : length c.loop-matches.kept.items ≡ 0 = grind (arith, common_steps, nat_tests) in
    any-never c.args.known.now all_hold c.as_slice-rows.result.now c.args.alternatives.now c.loop-matches.kept.items c.loop-matches.matches-index c.loop-matches-test.false c.as_slice-rows.ensures none c.loop-matches.invariant

pub returns : goal.returns
returns g c =
    any-end c.args.known.now all_hold c.as_slice-rows.result.now c.args.alternatives.now c.loop-matches.kept.items c.from_vec.result c.loop-matches.matches-index c.loop-matches-test.false c.as_slice-rows.ensures c.from_vec.ensures c.loop-matches.invariant
