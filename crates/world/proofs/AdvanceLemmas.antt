-- A step of the walk of an open transaction, by what the index answers.
use Rattle.std.proofs.Common.{◌≡◌, ℕ, Bool, true, false, List, Option, Some, None, Result, Ok, Err, if◌then◌else◌, refl, sym, ap, subst, ◌∙◌}
use Rattle.frame_keys.specs.Splits.{PicksRight}
use Rattle.plane.specs.declared.point.Point.{Point}
use Rattle.plain_world.specs.declared.faults.Fault.{Fault}
use Rattle.plain_world.specs.declared.advances.Advance.{Advance}
use Rattle.plain_world.specs.declared.advances.Advance.TheVariants as advances
use Rattle.plain_world.specs.Admitting.{map_ok, may_step}
use Rattle.plain_world.specs.Events.{Happens, AdvanceWalk, Advanced, Failed, without_transaction}
use Rattle.plain_world.specs.Staging.{TransactionData, transaction_with, next_placement, with_step, one_placed}
use Rattle.plain_world.specs.States.{WorldData}
use Rattle.search_tree.specs.Advances.{HasPlacedBehindNone, IsAdvance, MayRefuse, MayWalk, is_placed}
use Rattle.search_tree.specs.Cases.{TakesStep}
use Rattle.search_tree.specs.Trees.{PlainWalk}
use Rattle.tree_answers.specs.declared.answers.Step.{Step}
use Rattle.tree_answers.specs.declared.answers.Step.TheVariants as steps
use Rattle.tree_answers.specs.declared.fault.TreeFault.{TreeFault}
use Rattle.tree_answers.specs.declared.fault.TreeFault.TheVariants as tree
use Rattle.world.specs.Index.{Index, IndexedWorld, IsWorld, IndexServes, frames}
use Rattle.world.specs.Refusing.{RefusesGrowth, is_overrun_fault, world_fault}
use Rattle.world.specs.Walking.{IsWalked, WalksOn, after_step, area_growth, margin_growth, next_walk, told_step}
use Rattle.world.specs.Walks.{IsWalkFor, JourneyData, walk_ended, with_walk}
use Rattle.world.proofs.StepLemmas.{AfterStep, GoesOn, ended_happens, is_no_overrun, is_no_placing, is_the_overrun, is_the_placing, moved_happens, next_of, none_seeks, placed_happens, placed_step, refused_happens, refuses_growth, stepped_as}
use Rattle.world.proofs.WalkLemmas.{ended_again, kept_again, next_for}
use Rattle.world.proofs.WorldLemmas.{indexed, world_ended, world_kept_walk, world_placed}

same_pair : (one other : ℕ × List Point) → ◌≡◌ {A = Option (ℕ × List Point)} (Some one) (Some other) → one ≡ other
same_pair one other e = cc

-- the walk makes a step
module _ (seat number : ℕ) (w : WorldData) (t u : Index) (js : List JourneyData) (placement : ℕ × List Point) (walk after : PlainWalk (List Point)) (answer : Result Step TreeFault)
    (next : map_ok next_placement (may_step seat number w) ≡ Ok (Some placement)) (h : IsWorld (indexed w t js)) (walk_is : walk ≡ next_walk number placement t js) (made : IsAdvance frames t u walk after answer) where
  own : (tr : TransactionData) × (may_step seat number w ≡ Ok tr) × (transaction_with number w.transactions ≡ Some tr) × (next_placement tr ≡ Some placement)
  own = next_of seat number w placement next

  going : IsWalkFor own.0 walk
  going = subst (λ (x : PlainWalk (List Point)). IsWalkFor own.0 x) (sym walk_is) (next_for number placement t own.0 w.transactions js own.2 own.3 h.walks)

  -- the clause `walked`, from what it says of the walk's own pair
  pub makes : (MayWalk t.limit walk → TakesStep frames t u walk.at after.at area_growth margin_growth PicksRight (walk.key, walk.item) answer) → (v : WorldData) (ks : List JourneyData) (result : Result Advance Fault) → result ≡ told_step answer → ks ≡ after_step number after answer js
      → WalksOn seat number (indexed w t js) (indexed v u ks) result
  makes first v ks result is_told left =
      let same : (walk.key, walk.item) ≡ placement = same_pair _ _ (sym going.next ∙ own.3) in
      subst (λ (r : Result (Option (ℕ × List Point)) Fault). IsWalked number r (indexed w t js) (indexed v u ks) result) (sym next) (record {
        walk = walk;
        after = after;
        answer = answer;
        walk_is = walk_is;
        step = made;
        first = λ may. subst (λ (pair : ℕ × List Point). TakesStep frames t u walk.at after.at area_growth margin_growth PicksRight pair answer) same (first may);
        is_told = is_told;
        walks = left;
      })

  -- ---- the index makes the step

  module _ (step : Step) (is : answer ≡ Ok step) where
    stepped : AfterStep w t u walk after (Ok step)
    stepped = stepped_as w t u walk after answer (Ok step) h.serves going.waits is made

    says : after.placed ≡ is_placed step
    says = placed_step w t u walk after step going.waits (subst (λ (r : Result Step TreeFault). IsAdvance frames t u walk after r) is made)

    left_by : (b : Bool) (x : Option (PlainWalk (List Point))) → after.placed ≡ b → (if b then None else Some after) ≡ x → with_walk number x js ≡ after_step number after answer js
    left_by b x placed same =
        let test : (if is_placed step then None else Some after) ≡ x = ap (λ (c : Bool). if c then None else Some after) (sym says ∙ placed) ∙ same in
        ap (λ (x : Option (PlainWalk (List Point))). with_walk number x js) (sym test) ∙ ap (λ (r : Result Step TreeFault). after_step number after r js) (sym is)

    module _ (placed : after.placed ≡ true) where
      placing : (step ≡ steps.Placed) × HasPlacedBehindNone frames t u (walk.key, walk.item)
      placing = is_the_placing w t u walk after step (sym says ∙ placed) stepped

      pub placed_world : (v : WorldData) (ks : List JourneyData) → v ≡ record w { transactions = with_step one_placed number w.transactions } → ks ≡ with_walk number None js → IsWorld (indexed v u ks)
      placed_world v ks to left = world_placed seat number w t u js walk own.0 own.1 own.2 going v ks placing.1 to left h

      pub placed_event : (v : WorldData) → v ≡ record w { transactions = with_step one_placed number w.transactions } → Happens (AdvanceWalk seat number) w v (Advanced (advances.Walked step))
      placed_event v to =
          subst (λ (s : Step). Happens (AdvanceWalk seat number) w v (Advanced (advances.Walked s))) (sym placing.0)
          (placed_happens seat number w own.0 (walk.key, walk.item) own.1 going.next v (none_seeks w t u (walk.key, walk.item) h.serves placing.1) to)

      pub placed_walks : (ks : List JourneyData) → ks ≡ with_walk number None js → ks ≡ after_step number after answer js
      placed_walks ks left = left ∙ left_by true None placed refl

    module _ (unplaced : after.placed ≡ false) where
      onward : IndexServes w u × GoesOn w t u walk after
      onward = is_no_placing w t u walk after step (sym says ∙ unplaced) stepped

      pub moved_world : (ks : List JourneyData) → ks ≡ with_walk number (Some after) (with_walk number None js) → IsWorld (indexed w u ks)
      moved_world ks left = world_kept_walk seat number w t u js walk own.0 own.1 own.2 going after ks onward.0 onward.1 (left ∙ kept_again number None (Some after) js) h

      pub moved_event : Happens (AdvanceWalk seat number) w w (Advanced (advances.Walked step))
      moved_event = moved_happens seat number w own.0 (walk.key, walk.item) own.1 going.next step (sym says ∙ unplaced)

      pub moved_walks : (ks : List JourneyData) → ks ≡ with_walk number (Some after) (with_walk number None js) → ks ≡ after_step number after answer js
      moved_walks ks left = left ∙ (kept_again number None (Some after) js ∙ left_by false (Some after) unplaced refl)

  -- ---- the index refuses the step

  module _ (fault : TreeFault) (is : answer ≡ Err fault) where
    ceased : AfterStep w t u walk after (Err fault)
    ceased = stepped_as w t u walk after answer (Err fault) h.serves going.waits is made

    kept_by : (b : Bool) → is_overrun_fault fault ≡ b → (if b then walk_ended number js else with_walk number (Some after) js) ≡ after_step number after answer js
    kept_by b over = ap (λ (c : Bool). if c then walk_ended number js else with_walk number (Some after) js) (sym over) ∙ ap (λ (r : Result Step TreeFault). after_step number after r js) (sym is)

    module _ (over : is_overrun_fault fault ≡ true) where
      overrun : (fault ≡ tree.Overrun) × IndexServes w u
      overrun = is_the_overrun w t u walk after fault over ceased

      pub ended_world : (v : WorldData) (ks : List JourneyData) → v ≡ without_transaction number w → ks ≡ walk_ended number (with_walk number None js) → IsWorld (indexed v u ks)
      ended_world v ks to left = world_ended seat number w t u js walk own.0 own.1 own.2 going v ks overrun.1 to (left ∙ ended_again number None js) h

      pub ended_event : (v : WorldData) → v ≡ without_transaction number w → Happens (AdvanceWalk seat number) w v (Failed (world_fault fault))
      ended_event v to =
          subst (λ (f : TreeFault). Happens (AdvanceWalk seat number) w v (Failed (world_fault f))) (sym overrun.0)
          (ended_happens seat number w own.0 (walk.key, walk.item) own.1 going.next v to)

      pub ended_growth : RefusesGrowth t (world_fault fault)
      ended_growth = subst (λ (f : TreeFault). RefusesGrowth t (world_fault f)) (sym overrun.0) tt

      pub ended_walks : (ks : List JourneyData) → ks ≡ walk_ended number (with_walk number None js) → ks ≡ after_step number after answer js
      ended_walks ks left = left ∙ (ended_again number None js ∙ kept_by true over)

    module _ (under : is_overrun_fault fault ≡ false) where
      waiting : IndexServes w u × GoesOn w t u walk after × MayRefuse frames t walk.item fault
      waiting = is_no_overrun w t u walk after fault under ceased

      pub refused_world : (ks : List JourneyData) → ks ≡ with_walk number (Some after) (with_walk number None js) → IsWorld (indexed w u ks)
      refused_world ks left = world_kept_walk seat number w t u js walk own.0 own.1 own.2 going after ks waiting.0 waiting.1 (left ∙ kept_again number None (Some after) js) h

      pub refused_event : Happens (AdvanceWalk seat number) w w (Failed (world_fault fault))
      refused_event = refused_happens seat number w own.0 (walk.key, walk.item) own.1 going.next t fault h.serves waiting.2

      pub refused_growth : RefusesGrowth t (world_fault fault)
      refused_growth = refuses_growth t walk.item fault waiting.2

      pub refused_walks : (ks : List JourneyData) → ks ≡ with_walk number (Some after) (with_walk number None js) → ks ≡ after_step number after answer js
      refused_walks ks left = left ∙ (kept_again number None (Some after) js ∙ kept_by false under)

-- the same for equal worlds and an equal result
pub walks_on_as : (seat number : ℕ) (old other new final : IndexedWorld) (one result : Result Advance Fault) → old ≡ other → new ≡ final → one ≡ result → WalksOn seat number old new one → WalksOn seat number other final result
walks_on_as seat number old other new final one result from to same walks =
    subst (λ (r : Result Advance Fault). WalksOn seat number other final r) same (subst (λ (z : IndexedWorld). WalksOn seat number other z one) to (subst (λ (z : IndexedWorld). WalksOn seat number z new one) from walks))
