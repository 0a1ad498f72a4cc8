-- What a step of a walk returns, when, and what it leaves.
use Rattle.std.specs.Prelude.{◌≡◌, ◌⊎◌, ◌+◌, ◌<◌, ◌≤◌, ℕ, Bool, true, false, Some, Result, Ok, Err, ⊤}
use Rattle.node_arena.specs.Slots.{taken_count}
use Rattle.node_arena.specs.declared.TheConstants.{MAX_SLOTS}
use Rattle.predicate_locks.specs.Searches.{last_number}
use Rattle.search_tree.specs.Calls.{IsAlike, IsUntouched, SameContents}
use Rattle.search_tree.specs.Splitting.{HasMoreNodes, MayGrow}
use Rattle.search_tree.specs.Tends.{HasTended}
use Rattle.search_tree.specs.Trees.{PlainTree, PlainWalk, SeenSearch, search_in, root_level}
use Rattle.search_tree.specs.Walks.{HasPlaced}
use Rattle.tree_answers.specs.declared.answers.Step.{Step}
use Rattle.tree_answers.specs.declared.answers.Step.TheVariants.{Moved, Split, Installed, Restarted, Placed}
use Rattle.tree_answers.specs.declared.answers.Tending.TheVariants.{Installed as GotEntry}
use Rattle.tree_answers.specs.declared.fault.TreeFault.{TreeFault}
use Rattle.tree_answers.specs.declared.fault.TreeFault.TheVariants.{NoSearch, TooMany, Held, Full, TooHigh, Spent, Overrun, Memory}
use Rattle.tree_theory.specs.KeyClasses.{Class}
use Rattle.tree_theory.specs.declared.TheConstants.{TOP_LEVEL}

abbrev pub is_placed : Step → Bool
is_placed Moved = false
is_placed Split = false
is_placed Installed = false
is_placed Restarted = false
is_placed Placed = true

-- the walk's pair is not placed yet, and it has steps left
pub record MayWalk {Item : Type 0} (limit : ℕ) (walk : PlainWalk Item) : Type 0 where
  pub waits : walk.placed ≡ false
  pub left : walk.steps < limit

-- the walk has made a step, which placed its pair or not. Its pair stays
pub record HasStepped {Item : Type 0} (old new : PlainWalk Item) (step : Step) : Type 0 where
  pub key : new.key ≡ old.key
  pub item : new.item ≡ old.item
  pub steps : new.steps ≡ old.steps + 1
  pub placed : new.placed ≡ is_placed step

-- the search of this number runs and looks for the item
pub record IsHeldBy {Key Query Item : Type 0} (C : Class Key Query Item)
    (t : PlainTree Key Query Item) (item : Item) (search : ℕ) : Type 0 where
  pub seen : SeenSearch Query Item
  pub runs : search_in t search ≡ Some seen
  pub matches : C.Matches item seen.query

module _ {Key Query Item : Type 0} (C : Class Key Query Item) (t u : PlainTree Key Query Item) where
  -- a right node has got its entry, and the counter has risen by one; nothing else changes
  pub record HasInstalled : Type 0 where
    pub tended : HasTended C t u GotEntry
    pub contents : SameContents C t u

  -- a node has split, with one more slot taken; or the root has grown by one level, with two more
  -- slots taken. Nothing else changes
  abbrev pub HasParted : Type 0
  HasParted = HasMoreNodes C t u 1 0 ⊎ HasMoreNodes C t u 2 1

  -- the contents have the pair once more, and no ready search looks for it; nothing else changes
  pub record HasPlacedBehindNone (pair : ℕ × Item) : Type 0 where
    pub placed : HasPlaced C t u pair
    pub behind : (search : ℕ) (seen : SeenSearch Query Item) → search_in t search ≡ Some seen
        → seen.ready ≡ true → C.Matches pair.1 seen.query → ⊥

  -- what a step of a walk of this pair leaves, by what it returns
  abbrev pub HasAdvanced : ℕ × Item → Step → Type 0
  HasAdvanced pair Moved = IsAlike C t u
  HasAdvanced pair Split = HasParted
  HasAdvanced pair Installed = HasInstalled
  HasAdvanced pair Restarted = IsAlike C t u
  HasAdvanced pair Placed = HasPlacedBehindNone pair

-- no slot is left for one more node; or the root is full, and two are not left
abbrev pub LacksSlots : {Key Query Item : Type 0} (C : Class Key Query Item)
    → PlainTree Key Query Item → Type 0
LacksSlots C t = (MAX_SLOTS < taken_count t.nodes + 1)
    ⊎ (MayGrow C t × (MAX_SLOTS < taken_count t.nodes + 2))

-- why a step of a walk of this item may be refused
abbrev pub MayRefuse : {Key Query Item : Type 0} (C : Class Key Query Item)
    → PlainTree Key Query Item → Item → TreeFault → Type 0
MayRefuse C t item NoSearch = ⊥
MayRefuse C t item TooMany = ⊥
MayRefuse C t item (Held search) = IsHeldBy C t item search
MayRefuse C t item Full = LacksSlots C t
MayRefuse C t item TooHigh = root_level t ≡ TOP_LEVEL
MayRefuse C t item Spent = t.counter ≡ last_number
MayRefuse C t item Overrun = ⊥
MayRefuse C t item (Memory refusal) = ⊤

-- what a step of a walk returns, when, and what it leaves of tree and walk
pub data IsAdvance {Key Query Item : Type 0} (C : Class Key Query Item)
    (t u : PlainTree Key Query Item) (old new : PlainWalk Item) : Result Step TreeFault
    → Type 0 where
  was_placed : old.placed ≡ true → u ≡ t → new ≡ old → IsAdvance C t u old new (Ok Placed)
  overruns : old.placed ≡ false → t.limit ≤ old.steps → u ≡ t → new ≡ old
      → IsAdvance C t u old new (Err Overrun)
  goes_on : (step : Step) → MayWalk t.limit old → HasStepped old new step
      → HasAdvanced C t u (old.key, old.item) step → IsAdvance C t u old new (Ok step)
  is_refused : (fault : TreeFault) → MayWalk t.limit old → MayRefuse C t old.item fault
      → IsUntouched C t u → new ≡ old → IsAdvance C t u old new (Err fault)
