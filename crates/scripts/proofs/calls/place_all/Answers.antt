use Rattle.std.proofs.Common.{refl, inl, inr, arith}
use Rattle.plain_world.specs.declared.advances.Advance.TheVariants as advances
use Rattle.plain_world.specs.Events.{AdvanceWalk, Advanced, Failed}
use Rattle.scripts.specs.Causes.{PlacesIn}
use Rattle.scripts.proofs.CauseLemmas.{walks_further}
use Rattle.line_streams.proofs.LeavingLemmas.{left_by}
use Rattle.scripts.proofs.SearchLemmas.{from_same}
use Rattle.scripts.proofs.CommitLemmas.{advancing}
use Rattle.scripts.specs.Services.{Brings}
use Rattle.scripts.specs.UnderWay.{PlacesAll}
use Rattle.scripts.proofs.calls.place_all.Goals as goal

pub returns-in-AllPlaced-clause-places : goal.returns-in-AllPlaced-clause-places
returns-in-AllPlaced-clause-places g c w subject changes seated start =
    let so_far = c.loop.invariant.0 w subject changes seated start in
    let told = rw c.in-AllPlaced.is at c.in_ok-advance.ensures.happens in
    let left = advancing c.args.number c.args.seat w subject seated changes so_far.0 so_far.2 c.advance.new.self.plain (Advanced advances.AllPlaced) (from_same (AdvanceWalk c.args.seat c.args.number) _ _ _ _ so_far.1 told) in
    (so_far.0, left.0, left.1, left.2)

pub returns-in_err-advance-clause-places : goal.returns-in_err-advance-clause-places
returns-in_err-advance-clause-places g c w subject changes seated start =
    let fault = c.in_err-advance.field-0.0 in
    let so_far = c.loop.invariant.0 w subject changes seated start in
    left_by c.from_residual.result fault (PlacesAll c.args.seat c.args.number changes w c.advance.new.self.plain) c.from_residual.ensures.1
    (advancing c.args.number c.args.seat w subject seated changes so_far.0 so_far.2 c.advance.new.self.plain (Failed fault) (from_same (AdvanceWalk c.args.seat c.args.number) _ _ _ _ so_far.1 c.in_err-advance.ensures.happens))

pub loop-preserved : goal.loop-preserved
loop-preserved g c =
    let told = rw c.in-Walked.is at c.in_ok-advance.ensures.happens in
    let walked = rw c.in-Walked.is at c.in_ok-advance.ensures.walked in (
      λ w subject changes seated start.
          let so_far = c.loop.invariant.0 w subject changes seated start in
          let left = advancing c.args.number c.args.seat w subject seated changes so_far.0 so_far.2 c.advance.new.self.plain (Advanced (advances.Walked c.in-Walked.field-0)) (from_same (AdvanceWalk c.args.seat c.args.number) _ _ _ _ so_far.1 told) in
          (left.0, left.1, left.2, inr left.3),
      walks_further c.args.seat c.args.number c.loop.counter c.args.world.now c.loop.world c.loop.invariant.1 c.advance.new.self c.in-Walked.field-0 (told, walked),
    )

pub returns-clause-places : goal.returns-clause-places
returns-clause-places g c w subject changes seated start =
    let so_far = c.loop.invariant.0 w subject changes seated start in
    let brings : Brings changes = elim so_far.3 [
      | inl e ↦ absurd (omega (arith, e))
      | inr is ↦ is
    ] in
    (brings, inl (so_far.0, so_far.1))

pub returns-in-AllPlaced-clause-index : goal.returns-in-AllPlaced-clause-index
returns-in-AllPlaced-clause-index g c =
    let told = rw c.in-AllPlaced.is at c.in_ok-advance.ensures.happens in
    let walked = rw c.in-AllPlaced.is at c.in_ok-advance.ensures.walked in
    (c.loop.counter, c.loop.world, c.loop.invariant.1, inl ((told, walked), refl))

pub returns-in_err-advance-clause-index : goal.returns-in_err-advance-clause-index
returns-in_err-advance-clause-index g c =
    let fault = c.in_err-advance.field-0.0 in
    left_by c.from_residual.result fault (λ r. PlacesIn c.args.seat c.args.number c.args.world.now c.advance.new.self r) c.from_residual.ensures.1
    (c.loop.counter, c.loop.world, c.loop.invariant.1, inr (inl (fault, (c.in_err-advance.ensures.happens, c.in_err-advance.ensures.walked), refl)))

pub returns-clause-index : goal.returns-clause-index
returns-clause-index g c = (c.loop.counter, c.loop.world, c.loop.invariant.1, inr (inr (omega arith, refl, refl)))
