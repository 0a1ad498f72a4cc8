use Rattle.std.proofs.Common.{Ok, Err, refl, sym, ap, ◌∙◌}
use Rattle.plain_world.specs.Events.{VisitNext, Visited, Failed, with_ready, without_search}
use Rattle.plain_world.specs.declared.faults.Fault.TheVariants as faults
use Rattle.tree_answers.specs.declared.answers.Visit.TheVariants as visits
use Rattle.tree_answers.specs.declared.fault.TreeFault.{TreeFault}
use Rattle.tree_answers.specs.declared.fault.TreeFault.TheVariants as tree
use Rattle.world.specs.Refusing.{world_fault}
use Rattle.world.proofs.SearchLemmas.{has_number}
use Rattle.world.proofs.StepLemmas.{visited_as, visit_ends, visit_wants, ready_happens, overrun_happens, want_happens}
use Rattle.world.proofs.TendedLemmas.{fewer_visited, keeps_same, kept_on, tended_by}
use Rattle.world.proofs.WorldLemmas.{goes_on_with, happens_as, plain_of, ready_of, world_by, world_served, unready_of}
use Rattle.world.proofs.worlds.World.visit.Goals as goal
use Rattle.world.proofs.worlds.World.visit.Goals.{then-is_overrun, else-is_overrun}

pub invariant_of-self : goal.invariant_of-self
invariant_of-self g c =
    let s = c.in_ok-search.search in
    let may = sym c.may_go_on.ensures ∙ c.in_ok-search.was in
    let is = goes_on_with c.args.seat c.args.number c.self.inside.plain s may in
    let after = visited_as c.self.inside.plain c.self.inside.index c.visit.new.self c.args.number s _ (Ok visits.More) c.self.invariant.world.serves c.self.invariant.world.under_way is (c.in-Ok-More.is ∙ ap Ok c.in-Ok-More.field-0-is) c.visit.ensures in
    record {
      world = world_served c.self.inside.plain c.self.inside.index c.visit.new.self c.self.inside.walks c.self.invariant.world after.1;
      kept = kept_on c.self.inside.plain c.self.inside.plain c.self.inside.index c.visit.new.self c.self.inside.kept (λ pair h. h) (fewer_visited c.self.inside.index c.visit.new.self c.args.number _ c.visit.ensures) c.self.invariant.kept;
    }

pub invariant_of-self-then-not-search : goal.invariant_of-self-then-not-search
invariant_of-self-then-not-search g c =
    let s = c.in_ok-search.search in
    let may = sym c.may_go_on.ensures ∙ c.in_ok-search.was in
    let is = goes_on_with c.args.seat c.args.number c.self.inside.plain s may in
    let unready = unready_of s.ready c.if-not-search.true in
    let after = visited_as c.self.inside.plain c.self.inside.index c.visit.new.self c.args.number s _ (Ok visits.Ready) c.self.invariant.world.serves c.self.invariant.world.under_way is (c.in-Ok-Ready.is ∙ ap Ok c.in-Ok-Ready.field-0-is) c.visit.ensures in
    let kept = kept_on c.self.inside.plain (record c.self.inside.plain { searches = with_ready c.args.number c.self.inside.plain.searches }) c.self.inside.index c.visit.new.self c.self.inside.kept (keeps_same c.self.inside.plain (record c.self.inside.plain { searches = with_ready c.args.number c.self.inside.plain.searches }) (refl, refl)) (fewer_visited c.self.inside.index c.visit.new.self c.args.number _ c.visit.ensures) c.self.invariant.kept in
    rw c.make_ready.ensures (tended_by kept (world_by (VisitNext c.args.seat c.args.number) c.self.inside.plain _ c.self.inside.index c.visit.new.self c.self.inside.walks c.self.inside.walks (Visited visits.Ready)
    (ready_happens c.args.seat c.args.number c.self.inside.plain _ s may (has_number c.args.number c.self.inside.plain.searches s is) unready refl) c.self.invariant.world (after.1 unready) c.self.invariant.world.walks))

pub invariant_of-self-else-not-search : goal.invariant_of-self-else-not-search
invariant_of-self-else-not-search g c =
    let s = c.in_ok-search.search in
    let may = sym c.may_go_on.ensures ∙ c.in_ok-search.was in
    let is = goes_on_with c.args.seat c.args.number c.self.inside.plain s may in
    let after = visited_as c.self.inside.plain c.self.inside.index c.visit.new.self c.args.number s _ (Ok visits.Ready) c.self.invariant.world.serves c.self.invariant.world.under_way is (c.in-Ok-Ready.is ∙ ap Ok c.in-Ok-Ready.field-0-is) c.visit.ensures in
    record {
      world = world_served c.self.inside.plain c.self.inside.index c.visit.new.self c.self.inside.walks c.self.invariant.world (after.0 (ready_of s.ready c.if-not-search.false));
      kept = kept_on c.self.inside.plain c.self.inside.plain c.self.inside.index c.visit.new.self c.self.inside.kept (λ pair h. h) (fewer_visited c.self.inside.index c.visit.new.self c.args.number _ c.visit.ensures) c.self.invariant.kept;
    }

pub invariant_of-self-then-is_overrun : goal.invariant_of-self-then-is_overrun
invariant_of-self-then-is_overrun g c =
    let s = c.in_ok-search.search in
    let may = sym c.may_go_on.ensures ∙ c.in_ok-search.was in
    let is = goes_on_with c.args.seat c.args.number c.self.inside.plain s may in
    let after = visited_as c.self.inside.plain c.self.inside.index c.visit.new.self c.args.number s _ (Err c.in-Err.fault) c.self.invariant.world.serves c.self.invariant.world.under_way is c.in-Err.is c.visit.ensures in
    let ends = visit_ends c.self.inside.plain c.self.inside.index c.visit.new.self c.args.number s c.in-Err.fault (sym c.is_overrun.ensures ∙ c.if-is_overrun.true) after in
    let kept = kept_on c.self.inside.plain (without_search c.args.number c.self.inside.plain) c.self.inside.index c.visit.new.self c.self.inside.kept (keeps_same c.self.inside.plain (without_search c.args.number c.self.inside.plain) (refl, refl)) (fewer_visited c.self.inside.index c.visit.new.self c.args.number _ c.visit.ensures) c.self.invariant.kept in
    rw c.forget_search.ensures (tended_by kept (world_by (VisitNext c.args.seat c.args.number) c.self.inside.plain _ c.self.inside.index c.visit.new.self c.self.inside.walks c.self.inside.walks (Failed (faults.Tree tree.Overrun))
    (overrun_happens c.args.seat c.args.number c.self.inside.plain _ s may (has_number c.args.number c.self.inside.plain.searches s is) ends.1 refl) c.self.invariant.world ends.2 c.self.invariant.world.walks))

pub invariant_of-self-else-is_overrun : goal.invariant_of-self-else-is_overrun
invariant_of-self-else-is_overrun g c =
    let s = c.in_ok-search.search in
    let may = sym c.may_go_on.ensures ∙ c.in_ok-search.was in
    let is = goes_on_with c.args.seat c.args.number c.self.inside.plain s may in
    let after = visited_as c.self.inside.plain c.self.inside.index c.visit.new.self c.args.number s _ (Err c.in-Err.fault) c.self.invariant.world.serves c.self.invariant.world.under_way is c.in-Err.is c.visit.ensures in
    let wants = visit_wants c.self.inside.plain c.self.inside.index c.visit.new.self c.args.number s c.in-Err.fault (sym c.is_overrun.ensures ∙ c.if-is_overrun.false) after in
    record {
      world = world_served c.self.inside.plain c.self.inside.index c.visit.new.self c.self.inside.walks c.self.invariant.world wants.1;
      kept = kept_on c.self.inside.plain c.self.inside.plain c.self.inside.index c.visit.new.self c.self.inside.kept (λ pair h. h) (fewer_visited c.self.inside.index c.visit.new.self c.args.number _ c.visit.ensures) c.self.invariant.kept;
    }

pub returns-then-not-search-clause-happens : goal.returns-then-not-search-clause-happens
returns-then-not-search-clause-happens g c =
    let s = c.in_ok-search.search in
    let may = sym c.may_go_on.ensures ∙ c.in_ok-search.was in
    let is = goes_on_with c.args.seat c.args.number c.self.inside.plain s may in
    rw (← c.self.view_is) (ready_happens c.args.seat c.args.number c.self.inside.plain c.make_ready.new.self s may (has_number c.args.number c.self.inside.plain.searches s is) (unready_of s.ready c.if-not-search.true) c.make_ready.ensures)

pub returns-after-is_overrun-clause-happens : goal.returns-after-is_overrun-clause-happens
returns-after-is_overrun-clause-happens g c =
    let s = c.in_ok-search.search in
    let w = c.self.inside.plain in
    let may = sym c.may_go_on.ensures ∙ c.in_ok-search.was in
    let is = goes_on_with c.args.seat c.args.number w s may in
    let after = visited_as w c.self.inside.index c.visit.new.self c.args.number s _ (Err c.in-Err.fault) c.self.invariant.world.serves c.self.invariant.world.under_way is c.in-Err.is c.visit.ensures in
    elim c.if-is_overrun.branch [
      | then-is_overrun x ↦
          let ends = visit_ends w c.self.inside.index c.visit.new.self c.args.number s c.in-Err.fault (sym c.is_overrun.ensures ∙ x.if-is_overrun.true) after in
          happens_as (VisitNext c.args.seat c.args.number) w c.args.self.now.plain x.forget_search.new.self c.if-is_overrun.self.plain (Failed (faults.Tree tree.Overrun)) (Failed c.fault_of.result)
          (plain_of _ _ c.self.view_is) (sym (plain_of _ _ x.self-is)) (ap (λ (f : TreeFault). Failed (world_fault f)) (sym ends.0) ∙ ap Failed (sym c.fault_of.ensures))
          (overrun_happens c.args.seat c.args.number w x.forget_search.new.self s may (has_number c.args.number w.searches s is) ends.1 x.forget_search.ensures)
      | else-is_overrun x ↦
          let wants = visit_wants w c.self.inside.index c.visit.new.self c.args.number s c.in-Err.fault (sym c.is_overrun.ensures ∙ x.if-is_overrun.false) after in
          happens_as (VisitNext c.args.seat c.args.number) w c.args.self.now.plain w c.if-is_overrun.self.plain (Failed (world_fault c.in-Err.fault)) (Failed c.fault_of.result)
          (plain_of _ _ c.self.view_is) (sym (plain_of _ _ x.self-is)) (ap Failed (sym c.fault_of.ensures))
          (want_happens c.args.seat c.args.number w s c.in-Err.fault wants.2.0 may wants.0 wants.2.1)
    ]
