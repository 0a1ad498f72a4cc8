use Rattle.std.proofs.Common.{refl}
use Rattle.std.proofs.lemmas.Result.{err_from_is_err_and}
use Rattle.search_tree.specs.Calls.IsVisit.{none_runs, was_ready, overruns, goes_on, wants_memory}
use Rattle.search_tree.proofs.tree.Tree.visit.Goals as goal

pub returns-in-Gone : goal.returns-in-Gone
returns-in-Gone g c = none_runs c.in-Gone.ensures refl

pub returns-in-Ready : goal.returns-in-Ready
returns-in-Ready g c = was_ready c.in-Ready.ensures refl

pub returns-in-Spent : goal.returns-in-Spent
returns-in-Spent g c = overruns c.in-Spent.ensures c.close_search.ensures

pub returns-in_ok-visit-in-Waits : goal.returns-in_ok-visit-in-Waits
returns-in_ok-visit-in-Waits g c = goes_on c.in_ok-visit-in-Waits.visit c.in-Waits.ensures.0 c.in_ok-visit-in-Waits.ensures.ok

pub returns-in_err-visit-in-Waits : goal.returns-in_err-visit-in-Waits
returns-in_err-visit-in-Waits g c =
    let p = err_from_is_err_and c.from_residual.result c.from_residual.ensures.1 in
    rw (p.1, p.2) (wants_memory c.in_err-visit-in-Waits.field-0.0 c.in-Waits.ensures.0 c.in_err-visit-in-Waits.ensures.err)
