use Rattle.search_tree.proofs.DescendSteps.{may_join, may_enlarge}
use Rattle.search_tree.proofs.DescentLemmas.{alike_both, untouched_self}
use Rattle.search_tree.proofs.VisitCalls.{on_err}
use Rattle.search_tree.proofs.tree.Tree.descend.Goals as goal

pub join_below-requires-clause-may : goal.join_below-requires-clause-may
join_below-requires-clause-may g c = rw c.as_slice.ensures.value (may_join _ _ c.args.way.now c.args.key c.requires c.led_by-led.result.items (rw c.union.ensures at (c.led_by-led.ensures.led c.requires.node c.requires.is)))

pub enlarge-requires : goal.enlarge-requires
enlarge-requires g c =
    let below = rw c.as_slice.ensures.value at c.in_ok-join_below.ensures.ok in
    may_enlarge _ _ c.args.way.now c.args.key c.requires c.led_by-led.result.items (rw c.union.ensures at (c.led_by-led.ensures.led c.requires.node c.requires.is)) c.join_below.new.self below

pub returns-clause-ok : goal.returns-clause-ok
returns-clause-ok g c = alike_both _ _ _ _ c.in_ok-join_below.ensures.ok.alike c.enlarge.ensures.alike

pub returns-clause-step : goal.returns-clause-step
returns-clause-step g c =
    record {
      node = c.requires.node;
      is = c.requires.is;
      led = c.led_by-led.result.items;
      are_led = rw c.union.ensures at (c.led_by-led.ensures.led c.requires.node c.requires.is);
      mid = c.join_below.new.self;
      joined = rw c.as_slice.ensures.value at c.in_ok-join_below.ensures.ok;
      enlarged = c.enlarge.ensures.step;
    }

pub returns-in_err-join_below-clause-err : goal.returns-in_err-join_below-clause-err
returns-in_err-join_below-clause-err g c = rw c.in_err-join_below.ensures.err (on_err c.from_residual.result _ (untouched_self _ _))
