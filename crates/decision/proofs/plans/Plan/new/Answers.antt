use Rattle.decision.proofs.CompileLemmas.{stands-root}
use Rattle.decision.proofs.plans.Plan.new.Goals as goal

pub returns : goal.returns
returns g c =
    let e = rw (c.root.ensures.root, c.new-steps.ensures.items) at c.in_ok-compile_node.ensures in
    λ q fits. record { row = e.row; is = e.appended; decides = λ met. stands-root q met c.args.document.now.root e.row (e.meant q met fits) }
