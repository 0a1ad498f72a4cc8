-- A step of a transaction's walk.
use Rattle.std.specs.Prelude.{◌≡◌, ◌-◌, ℕ, false, List, Option, None, Some, Result, Ok, Err, if◌then◌else◌}
use Rattle.std.specs.Option.{unwrap_or}
use Rattle.plane.specs.declared.point.Point.{Point}
use Rattle.plane.specs.Extents.{Extent, joined}
use Rattle.frame_keys.specs.Measures.{area, margin}
use Rattle.frame_keys.specs.Splits.{PicksRight}
use Rattle.plain_world.specs.declared.faults.Fault.{Fault}
use Rattle.plain_world.specs.declared.advances.Advance.{Advance}
use Rattle.plain_world.specs.declared.advances.Advance.TheVariants.{Walked}
use Rattle.plain_world.specs.Admitting.{map_ok, may_step}
use Rattle.plain_world.specs.Staging.{next_placement}
use Rattle.search_tree.specs.Advances.{IsAdvance, MayWalk, is_placed}
use Rattle.node_arena.specs.Slots.{value_at}
use Rattle.search_tree.specs.Cases.{TakesStep}
use Rattle.search_tree.specs.Finding.{left_slot_at}
use Rattle.search_tree.specs.Trees.{PlainWalk}
use Rattle.tree_answers.specs.declared.answers.Step.{Step}
use Rattle.tree_answers.specs.declared.fault.TreeFault.{TreeFault}
use Rattle.world.specs.Index.{Index, IndexedWorld, frames}
use Rattle.world.specs.Refusing.{is_overrun_fault, world_fault}
use Rattle.world.specs.Walks.{JourneyData, walk_ended, walk_of, with_walk}

-- how much a frame's area grows, and its margin, when another frame is joined to it
abbrev pub area_growth : Extent → Extent → ℕ
area_growth key other = area (joined key other) - area key

abbrev pub margin_growth : Extent → Extent → ℕ
margin_growth key other = margin (joined key other) - margin key

-- a walk of this placement that is at the root of the index and has made no step
abbrev pub walk_at_root : Index → ℕ × List Point → PlainWalk (List Point)
walk_at_root index placement =
    record { key = placement.0; item = placement.1; at = index.root; steps = 0; placed = false }

-- the walk that makes the step: the transaction's stored one, or a new one
abbrev pub next_walk : ℕ → ℕ × List Point → Index → List JourneyData → PlainWalk (List Point)
next_walk number placement index walks =
    unwrap_or (walk_of number walks) (walk_at_root index placement)

-- where a walk is at a node without an entry, the slot of the node to the left of it
abbrev pub slot_left_of_walk : Index → Option (PlainWalk (List Point)) → Option ℕ
slot_left_of_walk index None = None
slot_left_of_walk index (Some walk) = left_slot_at (value_at index.nodes walk.at)

-- the index's answer to a step, as the world's
abbrev pub told_step : Result Step TreeFault → Result Advance Fault
told_step (Ok step) = Ok (Walked step)
told_step (Err fault) = Err (world_fault fault)

-- The walks after a step, by the index's answer. Once its pair is placed, the transaction has no
-- walk; after S7 the transaction is removed; otherwise the walk is stored as the step left it.
abbrev pub after_step : ℕ → PlainWalk (List Point) → Result Step TreeFault → List JourneyData
    → List JourneyData
after_step number walk (Ok step) walks =
    with_walk number (if is_placed step then None else Some walk) walks
after_step number walk (Err fault) walks =
    if is_overrun_fault fault then walk_ended number walks else with_walk number (Some walk) walks

-- The walk of the transaction, with this placement, makes a step of the index, by the first case
-- that holds at the walk's node. The result is the index's answer.
pub record MakesStep (number : ℕ) (placement : ℕ × List Point) (old new : IndexedWorld)
    (result : Result Advance Fault) : Type 0 where
  pub walk : PlainWalk (List Point)
  pub after : PlainWalk (List Point)
  pub answer : Result Step TreeFault
  pub walk_is : walk ≡ next_walk number placement old.index old.walks
  pub step : IsAdvance frames old.index new.index walk after answer
  pub first : MayWalk old.index.limit walk
      → TakesStep frames old.index new.index walk.at after.at area_growth margin_growth PicksRight
      placement answer
  pub is_told : result ≡ told_step answer
  pub walks : new.walks ≡ after_step number after answer old.walks

-- what `advance` does, by what is to be placed next; with nothing to place, or refused before the
-- step, it changes nothing
abbrev pub IsWalked : ℕ → Result (Option (ℕ × List Point)) Fault → IndexedWorld → IndexedWorld
    → Result Advance Fault → Type 0
IsWalked number (Ok (Some placement)) old new result = MakesStep number placement old new result
IsWalked number (Ok None) old new result = new ≡ old
IsWalked number (Err fault) old new result = new ≡ old

-- the same for the seat's own transaction of this number
abbrev pub WalksOn : ℕ → ℕ → IndexedWorld → IndexedWorld → Result Advance Fault → Type 0
WalksOn seat number old new result =
    IsWalked number (map_ok next_placement (may_step seat number old.plain)) old new result
