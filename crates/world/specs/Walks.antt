-- The walks of open transactions.
use Rattle.std.specs.Prelude.{◌≡◌, ℕ, ◌==◌, not, false, List, [], ◌∷◌, ◌++◌, filter, Option, None, Some, Result, Ok, Err, IfSome, if◌then◌else◌}
use Rattle.plane.specs.declared.point.Point.{Point}
use Rattle.plain_world.specs.declared.faults.Fault.{Fault}
use Rattle.plain_world.specs.Staging.{TransactionData, next_placement}
use Rattle.search_tree.specs.Trees.{PlainWalk}

-- an open transaction, and the walk of its next shape to place, once that walk has begun
pub record JourneyData : Type 0 where
  pub number : ℕ
  pub walk : Option (PlainWalk (List Point))

-- the walk of a transaction, if it has one
abbrev pub walk_of : ℕ → List JourneyData → Option (PlainWalk (List Point))
walk_of number [] = None
walk_of number (j ∷ js) = if j.number == number then j.walk else walk_of number js

-- the list with this walk, or none, for a transaction
abbrev pub with_walk : ℕ → Option (PlainWalk (List Point)) → List JourneyData → List JourneyData
with_walk number walk [] = []
with_walk number walk (j ∷ js) =
    if j.number == number then record j { walk = walk } ∷ js else j ∷ with_walk number walk js

-- one more transaction, without a walk
abbrev pub walk_begun : ℕ → List JourneyData → List JourneyData
walk_begun number js = js ++ record { number = number; walk = None } ∷ []

-- the list without a transaction
abbrev pub walk_ended : ℕ → List JourneyData → List JourneyData
walk_ended number js = filter (λ j. not (j.number == number)) js

-- the walks after a call: on Ok `after x`, on Err unchanged
abbrev pub if_done : {T : Type 0} → Result T Fault → List JourneyData → (T → List JourneyData)
    → List JourneyData
if_done (Ok x) js after = after x
if_done (Err fault) js after = js

-- a walk with the transaction's next placement, which is not placed yet
pub record IsWalkFor (t : TransactionData) (walk : PlainWalk (List Point)) : Type 0 where
  pub next : next_placement t ≡ Some (walk.key, walk.item)
  pub waits : walk.placed ≡ false

-- each open transaction has its place, in the same order, and a walk that has begun has its
-- transaction's next placement
abbrev pub AreWalks : List TransactionData → List JourneyData → Type 0
AreWalks [] [] = Unit {0}
AreWalks [] (j ∷ js) = ⊥
AreWalks (t ∷ ts) [] = ⊥
AreWalks (t ∷ ts) (j ∷ js) = (j.number ≡ t.number) × IfSome j.walk (IsWalkFor t) × AreWalks ts js
