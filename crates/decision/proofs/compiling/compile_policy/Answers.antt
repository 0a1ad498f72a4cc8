use Rattle.decision.proofs.CompileLemmas.{policy-never, policy-kept}
use Rattle.decision.proofs.compiling.compile_policy.Goals as goal

pub returns-in_default : goal.returns-in_default
returns-in_default g c name =
    policy-never _ c.args.known.now c.args.next (record { name = name; combine = c.args.combine; target = c.args.target.now }) c.args.rules.now c.args.steps.now.items (rw c.in_default.is at c.in_ok-target.ensures)

pub returns : goal.returns
returns g c name =
    policy-kept _ c.args.known.now c.args.next (record { name = name; combine = c.args.combine; target = c.args.target.now }) c.args.rules.now c.in-Some.target
    c.args.steps.now.items c.compile_rules.new.steps.items c.close_node.new.steps.items (rw c.in-Some.is at c.in_ok-target.ensures)
    (rw c.in_ok-place.ensures.1 at c.in_ok-compile_rules.ensures) (rw c.in_ok-place.ensures.0 at c.close_node.ensures)
