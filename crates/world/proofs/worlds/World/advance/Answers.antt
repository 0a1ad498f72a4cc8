use Rattle.std.proofs.Common.{◌≡◌, ℕ, List, Some, Ok, Err, refl, sym, ap, subst, ◌∙◌}
use Rattle.plane.specs.declared.point.Point.{Point}
use Rattle.plain_world.specs.Admitting.{map_ok, may_step}
use Rattle.plain_world.specs.Events.{AdvanceWalk, Failed}
use Rattle.plain_world.specs.Staging.{next_placement}
use Rattle.plain_world.specs.declared.faults.Fault.{Fault}
use Rattle.plain_world.specs.declared.advances.Advance.TheVariants as advances
use Rattle.world.specs.Index.{Index}
use Rattle.world.specs.Refusing.{RefusesGrowth, world_fault}
use Rattle.world.specs.Walking.{told_step}
use Rattle.world.specs.Walks.{walk_ended, with_walk}
use Rattle.world.proofs.AdvanceLemmas.{makes, placed_world, placed_event, placed_walks, moved_world, moved_event, moved_walks, ended_world, ended_event, ended_growth, ended_walks, refused_world, refused_event, refused_growth, refused_walks, walks_on_as}
use Rattle.world.proofs.TendedLemmas.{tended_anew}
use Rattle.world.proofs.WorldLemmas.{happens_as, index_of, indexed, plain_of}
use Rattle.world.proofs.worlds.World.advance.Goals as goal
use Rattle.world.proofs.worlds.World.advance.Goals.{then-is_overrun, else-is_overrun}

pub invariant_of-self : goal.invariant_of-self
invariant_of-self g c =
    let w = c.self.inside.plain in
    let t = c.self.inside.index in
    let u = c.advance.new.self in
    let js = c.self.inside.walks in
    let placement : ℕ × List Point = c.in-Some.placement in
    let walk = c.next_walk-walk.result in
    let after = c.advance.new.walk in
    let next : map_ok next_placement (may_step c.args.seat c.args.number w) ≡ Ok (Some placement) = c.next_to_place.ensures.value ∙ (c.in_ok-placement.was ∙ ap Ok c.in-Some.is) in
    tended_anew c.place_next.new.self u c.next_walk-walk.new.walks c.none-self-inside.result (placed_world c.args.seat c.args.number w t u js placement walk after c.advance.result next c.self.invariant.world c.next_walk-walk.ensures.walk c.advance.ensures.step c.in-Ok.step c.in-Ok.is (sym c.placed.ensures ∙ c.if-placed.true) c.place_next.new.self c.next_walk-walk.new.walks c.place_next.ensures c.next_walk-walk.ensures.left) c.none-self-inside.ensures

pub invariant_of-self-else-placed : goal.invariant_of-self-else-placed
invariant_of-self-else-placed g c =
    let w = c.self.inside.plain in
    let t = c.self.inside.index in
    let u = c.advance.new.self in
    let js = c.self.inside.walks in
    let placement : ℕ × List Point = c.in-Some.placement in
    let walk = c.next_walk-walk.result in
    let after = c.advance.new.walk in
    let next : map_ok next_placement (may_step c.args.seat c.args.number w) ≡ Ok (Some placement) = c.next_to_place.ensures.value ∙ (c.in_ok-placement.was ∙ ap Ok c.in-Some.is) in
    tended_anew w u c.keep.new.self c.none-self-inside.result (moved_world c.args.seat c.args.number w t u js placement walk after c.advance.result next c.self.invariant.world c.next_walk-walk.ensures.walk c.advance.ensures.step c.in-Ok.step c.in-Ok.is (sym c.placed.ensures ∙ c.if-placed.false) c.keep.new.self (c.keep.ensures ∙ ap (with_walk c.args.number (Some after)) c.next_walk-walk.ensures.left)) c.none-self-inside.ensures

pub invariant_of-self-then-is_overrun : goal.invariant_of-self-then-is_overrun
invariant_of-self-then-is_overrun g c =
    let w = c.self.inside.plain in
    let t = c.self.inside.index in
    let u = c.advance.new.self in
    let js = c.self.inside.walks in
    let placement : ℕ × List Point = c.in-Some.placement in
    let walk = c.next_walk-walk.result in
    let after = c.advance.new.walk in
    let next : map_ok next_placement (may_step c.args.seat c.args.number w) ≡ Ok (Some placement) = c.next_to_place.ensures.value ∙ (c.in_ok-placement.was ∙ ap Ok c.in-Some.is) in
    tended_anew c.end_transaction.new.self u c.end.new.self c.none-self-inside.result (ended_world c.args.seat c.args.number w t u js placement walk after c.advance.result next c.self.invariant.world c.next_walk-walk.ensures.walk c.advance.ensures.step c.in-Err.fault c.in-Err.is (sym c.is_overrun.ensures ∙ c.if-is_overrun.true) c.end_transaction.new.self c.end.new.self c.end_transaction.ensures (c.end.ensures ∙ ap (walk_ended c.args.number) c.next_walk-walk.ensures.left)) c.none-self-inside.ensures

pub invariant_of-self-else-is_overrun : goal.invariant_of-self-else-is_overrun
invariant_of-self-else-is_overrun g c =
    let w = c.self.inside.plain in
    let t = c.self.inside.index in
    let u = c.advance.new.self in
    let js = c.self.inside.walks in
    let placement : ℕ × List Point = c.in-Some.placement in
    let walk = c.next_walk-walk.result in
    let after = c.advance.new.walk in
    let next : map_ok next_placement (may_step c.args.seat c.args.number w) ≡ Ok (Some placement) = c.next_to_place.ensures.value ∙ (c.in_ok-placement.was ∙ ap Ok c.in-Some.is) in
    tended_anew w u c.keep-else-is_overrun.new.self c.none-self-inside.result (refused_world c.args.seat c.args.number w t u js placement walk after c.advance.result next c.self.invariant.world c.next_walk-walk.ensures.walk c.advance.ensures.step c.in-Err.fault c.in-Err.is (sym c.is_overrun.ensures ∙ c.if-is_overrun.false) c.keep-else-is_overrun.new.self (c.keep-else-is_overrun.ensures ∙ ap (with_walk c.args.number (Some after)) c.next_walk-walk.ensures.left)) c.none-self-inside.ensures

pub returns-then-placed-clause-happens : goal.returns-then-placed-clause-happens
returns-then-placed-clause-happens g c =
    let w = c.self.inside.plain in
    let t = c.self.inside.index in
    let u = c.advance.new.self in
    let js = c.self.inside.walks in
    let placement : ℕ × List Point = c.in-Some.placement in
    let walk = c.next_walk-walk.result in
    let after = c.advance.new.walk in
    let next : map_ok next_placement (may_step c.args.seat c.args.number w) ≡ Ok (Some placement) = c.next_to_place.ensures.value ∙ (c.in_ok-placement.was ∙ ap Ok c.in-Some.is) in
    happens_as (AdvanceWalk c.args.seat c.args.number) w c.args.self.now.plain c.place_next.new.self c.place_next.new.self _ _ (plain_of _ _ c.self.view_is) refl refl
    (placed_event c.args.seat c.args.number w t u js placement walk after c.advance.result next c.self.invariant.world c.next_walk-walk.ensures.walk c.advance.ensures.step c.in-Ok.step c.in-Ok.is (sym c.placed.ensures ∙ c.if-placed.true) c.place_next.new.self c.place_next.ensures)

pub returns-else-placed-clause-happens : goal.returns-else-placed-clause-happens
returns-else-placed-clause-happens g c =
    let w = c.self.inside.plain in
    let t = c.self.inside.index in
    let u = c.advance.new.self in
    let js = c.self.inside.walks in
    let placement : ℕ × List Point = c.in-Some.placement in
    let walk = c.next_walk-walk.result in
    let after = c.advance.new.walk in
    let next : map_ok next_placement (may_step c.args.seat c.args.number w) ≡ Ok (Some placement) = c.next_to_place.ensures.value ∙ (c.in_ok-placement.was ∙ ap Ok c.in-Some.is) in
    happens_as (AdvanceWalk c.args.seat c.args.number) w c.args.self.now.plain w w _ _ (plain_of _ _ c.self.view_is) refl refl
    (moved_event c.args.seat c.args.number w t u js placement walk after c.advance.result next c.self.invariant.world c.next_walk-walk.ensures.walk c.advance.ensures.step c.in-Ok.step c.in-Ok.is (sym c.placed.ensures ∙ c.if-placed.false))

pub returns-after-is_overrun-clause-happens : goal.returns-after-is_overrun-clause-happens
returns-after-is_overrun-clause-happens g c =
    let w = c.self.inside.plain in
    let t = c.self.inside.index in
    let u = c.advance.new.self in
    let js = c.self.inside.walks in
    let placement : ℕ × List Point = c.in-Some.placement in
    let walk = c.next_walk-walk.result in
    let after = c.advance.new.walk in
    let next : map_ok next_placement (may_step c.args.seat c.args.number w) ≡ Ok (Some placement) = c.next_to_place.ensures.value ∙ (c.in_ok-placement.was ∙ ap Ok c.in-Some.is) in
    elim c.if-is_overrun.branch [
      | then-is_overrun x ↦
          happens_as (AdvanceWalk c.args.seat c.args.number) w c.args.self.now.plain x.end_transaction.new.self c.if-is_overrun.self.plain (Failed (world_fault c.in-Err.fault)) (Failed c.fault_of.result)
          (plain_of _ _ c.self.view_is) (sym (plain_of _ _ x.self-is)) (ap Failed (sym c.fault_of.ensures))
          (ended_event c.args.seat c.args.number w t u js placement walk after c.advance.result next c.self.invariant.world c.next_walk-walk.ensures.walk c.advance.ensures.step c.in-Err.fault c.in-Err.is (sym c.is_overrun.ensures ∙ x.if-is_overrun.true) x.end_transaction.new.self x.end_transaction.ensures)
      | else-is_overrun x ↦
          happens_as (AdvanceWalk c.args.seat c.args.number) w c.args.self.now.plain w c.if-is_overrun.self.plain (Failed (world_fault c.in-Err.fault)) (Failed c.fault_of.result)
          (plain_of _ _ c.self.view_is) (sym (plain_of _ _ x.self-is)) (ap Failed (sym c.fault_of.ensures))
          (refused_event c.args.seat c.args.number w t u js placement walk after c.advance.result next c.self.invariant.world c.next_walk-walk.ensures.walk c.advance.ensures.step c.in-Err.fault c.in-Err.is (sym c.is_overrun.ensures ∙ x.if-is_overrun.false))
    ]

pub returns-after-is_overrun-clause-refused : goal.returns-after-is_overrun-clause-refused
returns-after-is_overrun-clause-refused g c =
    let w = c.self.inside.plain in
    let t = c.self.inside.index in
    let u = c.advance.new.self in
    let js = c.self.inside.walks in
    let placement : ℕ × List Point = c.in-Some.placement in
    let walk = c.next_walk-walk.result in
    let after = c.advance.new.walk in
    let next : map_ok next_placement (may_step c.args.seat c.args.number w) ≡ Ok (Some placement) = c.next_to_place.ensures.value ∙ (c.in_ok-placement.was ∙ ap Ok c.in-Some.is) in
    let why : RefusesGrowth t (world_fault c.in-Err.fault) = elim c.if-is_overrun.branch [
      | then-is_overrun x ↦ ended_growth c.args.seat c.args.number w t u js placement walk after c.advance.result next c.self.invariant.world c.next_walk-walk.ensures.walk c.advance.ensures.step c.in-Err.fault c.in-Err.is (sym c.is_overrun.ensures ∙ x.if-is_overrun.true)
      | else-is_overrun x ↦ refused_growth c.args.seat c.args.number w t u js placement walk after c.advance.result next c.self.invariant.world c.next_walk-walk.ensures.walk c.advance.ensures.step c.in-Err.fault c.in-Err.is (sym c.is_overrun.ensures ∙ x.if-is_overrun.false)
    ] in
    subst (λ (f : Fault). RefusesGrowth c.args.self.now.index f) (sym c.fault_of.ensures) (subst (λ (i : Index). RefusesGrowth i (world_fault c.in-Err.fault)) (index_of _ _ c.self.view_is) why)

pub returns-then-placed-clause-walked : goal.returns-then-placed-clause-walked
returns-then-placed-clause-walked g c =
    let w = c.self.inside.plain in
    let t = c.self.inside.index in
    let u = c.advance.new.self in
    let js = c.self.inside.walks in
    let placement : ℕ × List Point = c.in-Some.placement in
    let walk = c.next_walk-walk.result in
    let after = c.advance.new.walk in
    let next : map_ok next_placement (may_step c.args.seat c.args.number w) ≡ Ok (Some placement) = c.next_to_place.ensures.value ∙ (c.in_ok-placement.was ∙ ap Ok c.in-Some.is) in
    walks_on_as c.args.seat c.args.number (indexed w t js) c.args.self.now _ _ _ _ c.self.view_is refl refl
    (makes c.args.seat c.args.number w t u js placement walk after c.advance.result next c.self.invariant.world c.next_walk-walk.ensures.walk c.advance.ensures.step c.advance.ensures.first c.place_next.new.self c.next_walk-walk.new.walks (Ok (advances.Walked c.in-Ok.step)) (ap told_step (sym c.in-Ok.is))
    (placed_walks c.args.seat c.args.number w t u js placement walk after c.advance.result next c.self.invariant.world c.next_walk-walk.ensures.walk c.advance.ensures.step c.in-Ok.step c.in-Ok.is (sym c.placed.ensures ∙ c.if-placed.true) c.next_walk-walk.new.walks c.next_walk-walk.ensures.left))

pub returns-else-placed-clause-walked : goal.returns-else-placed-clause-walked
returns-else-placed-clause-walked g c =
    let w = c.self.inside.plain in
    let t = c.self.inside.index in
    let u = c.advance.new.self in
    let js = c.self.inside.walks in
    let placement : ℕ × List Point = c.in-Some.placement in
    let walk = c.next_walk-walk.result in
    let after = c.advance.new.walk in
    let next : map_ok next_placement (may_step c.args.seat c.args.number w) ≡ Ok (Some placement) = c.next_to_place.ensures.value ∙ (c.in_ok-placement.was ∙ ap Ok c.in-Some.is) in
    walks_on_as c.args.seat c.args.number (indexed w t js) c.args.self.now _ _ _ _ c.self.view_is refl refl
    (makes c.args.seat c.args.number w t u js placement walk after c.advance.result next c.self.invariant.world c.next_walk-walk.ensures.walk c.advance.ensures.step c.advance.ensures.first w c.keep.new.self (Ok (advances.Walked c.in-Ok.step)) (ap told_step (sym c.in-Ok.is))
    (moved_walks c.args.seat c.args.number w t u js placement walk after c.advance.result next c.self.invariant.world c.next_walk-walk.ensures.walk c.advance.ensures.step c.in-Ok.step c.in-Ok.is (sym c.placed.ensures ∙ c.if-placed.false) c.keep.new.self (c.keep.ensures ∙ ap (with_walk c.args.number (Some after)) c.next_walk-walk.ensures.left)))

pub returns-after-is_overrun-clause-walked : goal.returns-after-is_overrun-clause-walked
returns-after-is_overrun-clause-walked g c =
    let w = c.self.inside.plain in
    let t = c.self.inside.index in
    let u = c.advance.new.self in
    let js = c.self.inside.walks in
    let placement : ℕ × List Point = c.in-Some.placement in
    let walk = c.next_walk-walk.result in
    let after = c.advance.new.walk in
    let next : map_ok next_placement (may_step c.args.seat c.args.number w) ≡ Ok (Some placement) = c.next_to_place.ensures.value ∙ (c.in_ok-placement.was ∙ ap Ok c.in-Some.is) in
    let is_told = ap Err c.fault_of.ensures ∙ ap told_step (sym c.in-Err.is) in
    elim c.if-is_overrun.branch [
      | then-is_overrun x ↦
          walks_on_as c.args.seat c.args.number (indexed w t js) c.args.self.now _ c.if-is_overrun.self _ _ c.self.view_is (sym x.self-is) refl
          (makes c.args.seat c.args.number w t u js placement walk after c.advance.result next c.self.invariant.world c.next_walk-walk.ensures.walk c.advance.ensures.step c.advance.ensures.first x.end_transaction.new.self x.end.new.self (Err c.fault_of.result) is_told
          (ended_walks c.args.seat c.args.number w t u js placement walk after c.advance.result next c.self.invariant.world c.next_walk-walk.ensures.walk c.advance.ensures.step c.in-Err.fault c.in-Err.is (sym c.is_overrun.ensures ∙ x.if-is_overrun.true) x.end.new.self (x.end.ensures ∙ ap (walk_ended c.args.number) c.next_walk-walk.ensures.left)))
      | else-is_overrun x ↦
          walks_on_as c.args.seat c.args.number (indexed w t js) c.args.self.now _ c.if-is_overrun.self _ _ c.self.view_is (sym x.self-is) refl
          (makes c.args.seat c.args.number w t u js placement walk after c.advance.result next c.self.invariant.world c.next_walk-walk.ensures.walk c.advance.ensures.step c.advance.ensures.first w x.keep-else-is_overrun.new.self (Err c.fault_of.result) is_told
          (refused_walks c.args.seat c.args.number w t u js placement walk after c.advance.result next c.self.invariant.world c.next_walk-walk.ensures.walk c.advance.ensures.step c.in-Err.fault c.in-Err.is (sym c.is_overrun.ensures ∙ x.if-is_overrun.false) x.keep-else-is_overrun.new.self (x.keep-else-is_overrun.ensures ∙ ap (with_walk c.args.number (Some after)) c.next_walk-walk.ensures.left)))
    ]
