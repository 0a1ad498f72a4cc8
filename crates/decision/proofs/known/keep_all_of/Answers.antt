use Rattle.std.proofs.Common.{◌≡◌, true, Some, length, refl, sym, ap, ◌∙◌, arith}
use Rattle.std.proofs.lemmas.Grind.{common_steps}
use Rattle.std.proofs.lemmas.Bool.Decides.{nat_tests}
use Rattle.combining.specs.Holding.{match_holds}
use Rattle.decision.proofs.KnownLemmas.{told-match, all-skip, all-keep, all-end, all-always}
use Rattle.decision.proofs.known.keep_all_of.Goals as goal
use Rattle.decision.proofs.known.keep_all_of.Goals.{in-Some-true, in-None+in_ok-try_push-in-None}

pub loop-test-preserved : goal.loop-test-preserved
loop-test-preserved g c =
    let known = c.args.known.now in
    let i = c.loop-test.test-index in
    let xs = c.as_slice-tests.result.now in
    let x = c.test-item.result in
    elim c.match-known_match.branch [
      | in-Some-true w ↦ rw w.kept-is (all-skip known match_holds xs i x c.loop-test.kept.items c.loop-test-test.true c.test-item.is
          (told-match known x true (sym c.known_match.ensures ∙ w.in-Some-true.is ∙ ap Some w.in-Some-true.field-0-test)) c.loop-test.invariant)
      | in-None+in_ok-try_push-in-None w ↦ rw w.kept-is (all-keep known match_holds xs i x x c.loop-test.kept.items w.try_push.new.self.items c.loop-test-test.true c.test-item.is
          w.in_ok-try_push-in-None.ensures.items (λ q met fits. refl) c.loop-test.invariant)
    ]

pub returns-then-is_empty : goal.returns-then-is_empty
returns-then-is_empty g c =
    let none : length c.loop-test.kept.items ≡ 0 = grind (arith, common_steps, nat_tests) in
    all-always c.args.known.now match_holds c.as_slice-tests.result.now c.args.matches.now c.loop-test.kept.items c.loop-test.test-index c.loop-test-test.false c.as_slice-tests.ensures none c.loop-test.invariant

pub returns : goal.returns
returns g c =
    all-end c.args.known.now match_holds c.as_slice-tests.result.now c.args.matches.now c.loop-test.kept.items c.from_vec.result c.loop-test.test-index c.loop-test-test.false c.as_slice-tests.ensures c.from_vec.ensures c.loop-test.invariant
