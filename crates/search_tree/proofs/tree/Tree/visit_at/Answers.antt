use Rattle.std.proofs.Common.{refl, sym, ap, ◌∙◌}
use Rattle.std.specs.Option.{option_copied}
use Rattle.std.proofs.lemmas.Grind.{get_or-set_at}
use Rattle.predicate_locks.specs.Searches.{search_at}
use Rattle.tree_nodes.proofs.ListEnds.{read_any}
use Rattle.search_tree.proofs.VisitCalls.{no_query, on_err, same_ready, runs_somewhere, after_visit, visit_call}
use Rattle.search_tree.proofs.VisitSteps.{roomier_sound, roomier_call}
use Rattle.search_tree.proofs.tree.Tree.visit_at.Goals as goal

pub unreachable-requires : goal.unreachable-requires
unreachable-requires g c =
    let may = rw (← c.self.view_is) at c.requires in
    no_query (search_at c.self.inside.running c.args.search) (sym c.query_in_place.ensures ∙ ap option_copied c.in_default.is) (runs_somewhere _ _ c.args.search c.args.at c.self.invariant may.first)

pub invariant_of-self : goal.invariant_of-self
invariant_of-self g c =
    let may = rw (← c.self.view_is) at c.requires in
    roomier_sound _ _ c.args.at c.args.search c.index_mut.result.now c.visit_last.new.progress c.visit_last.new.nodes may.first (λ d. read_any c.self.inside.progress.items c.args.at c.index_mut.result.now d may.first.within (sym c.index_mut.ensures.value)) c.in_err-visit_last.ensures.nodes_kept c.in_err-visit_last.ensures.progress_kept c.self.invariant

pub returns-in_err-visit_last-clause-err : goal.returns-in_err-visit_last-clause-err
returns-in_err-visit_last-clause-err g c =
    let may = rw (← c.self.view_is) at c.requires in
    rw (← c.self.view_is) (on_err c.from_residual.result _ (roomier_call _ _ c.args.at c.args.search c.index_mut.result.now c.visit_last.new.progress c.visit_last.new.nodes may.first (λ d. read_any c.self.inside.progress.items c.args.at c.index_mut.result.now d may.first.within (sym c.index_mut.ensures.value)) c.in_err-visit_last.ensures.nodes_kept c.in_err-visit_last.ensures.progress_kept c.self.invariant))

pub invariant_of-self-2 : goal.invariant_of-self-2
invariant_of-self-2 g c =
    let laws = g.met.C.KeyClass.laws in
    let may = rw (← c.self.view_is) at c.requires in
    after_visit _ _ c.args.search c.args.at laws c.in-Some.query.now c.index_mut.result.now c.visit_last.new.progress c.visit_last.new.nodes c.self.invariant may.first (sym c.index_mut.ensures.value) (sym (ap option_copied c.in-Some.is) ∙ c.query_in_place.ensures) c.in_ok-visit_last.ensures.ok

pub returns-clause-ok : goal.returns-clause-ok
returns-clause-ok g c =
    let may = rw (← c.self.view_is) at c.requires in
    let ready = c.visit_of.ensures ∙ same_ready c.index.result.now c.visit_last.new.progress (c.index.ensures ∙ get_or-set_at c.self.inside.progress.items c.args.at c.args.at c.visit_last.new.progress c.index.result.now refl may.first.within) in
    rw (← c.self.view_is, ready) (visit_call _ _ c.args.search c.args.at c.in-Some.query.now c.index_mut.result.now c.visit_last.new.progress c.visit_last.new.nodes c.self.invariant may.first (sym c.index_mut.ensures.value) (sym (ap option_copied c.in-Some.is) ∙ c.query_in_place.ensures) c.in_ok-visit_last.ensures.ok)
