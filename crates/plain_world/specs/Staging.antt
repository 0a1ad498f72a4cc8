-- Open transactions, as plain data.
use Rattle.std.specs.Prelude.{ℕ, ◌<◌, Bool, ◌==◌, not, List, [], ◌∷◌, ◌++◌, length, filter, slice_get, Option, None, Some, if◌then◌else◌, ◌+◌}
use Rattle.std.specs.Bool.{MatchBool}
use Rattle.std.specs.List.{list_any}
use Rattle.plane.specs.declared.point.Point.{Point}
use Rattle.features.specs.declared.rows.Change.{Change}
use Rattle.features.specs.declared.rows.Change.TheVariants.{Add, Reshape, Delete}
use Rattle.features.specs.Changes.{change_id, IsUnnamed}
use Rattle.plain_world.specs.declared.settings.TheConstants.{CHANGE_LIMIT}

-- a transaction of a seat: its staged changes, and how many of their shapes are placed in the index
pub record TransactionData : Type 0 where
  pub number : ℕ
  pub seat : ℕ
  pub changes : List Change
  pub placed : ℕ

-- the pairs of a change and of later ones: a change brings an added or reshaped feature's id and
-- new shape
abbrev pub brought_by : Change → List (ℕ × List Point) → List (ℕ × List Point)
brought_by (Add id class shape) later = (id, shape) ∷ later
brought_by (Reshape id seen shape) later = (id, shape) ∷ later
brought_by (Delete id seen) later = later

-- the pairs that a list of changes puts into the index, in order
abbrev pub placements : List Change → List (ℕ × List Point)
placements [] = []
placements (change ∷ changes) = brought_by change (placements changes)

-- the pair that is to be placed next
abbrev pub next_placement : TransactionData → Option (ℕ × List Point)
next_placement t = slice_get (placements t.changes) t.placed

abbrev pub transaction_with : ℕ → List TransactionData → Option TransactionData
transaction_with number [] = None
transaction_with number (t ∷ ts) = if t.number == number then Some t else transaction_with number ts

-- the changes that the transaction of a number has staged
abbrev pub staged_in : ℕ → List TransactionData → List Change
staged_in number [] = []
staged_in number (t ∷ ts) = if t.number == number then t.changes else staged_in number ts

-- the list with a step done in the transaction of a number
abbrev pub with_step : (TransactionData → TransactionData) → ℕ → List TransactionData
    → List TransactionData
with_step step number [] = []
with_step step number (t ∷ ts) =
    if t.number == number then step t ∷ ts else t ∷ with_step step number ts

-- one more change is staged
abbrev pub staged : Change → TransactionData → TransactionData
staged change t = record t { changes = t.changes ++ change ∷ [] }

-- one more of the shapes is placed
abbrev pub one_placed : TransactionData → TransactionData
one_placed t = record t { placed = t.placed + 1 }

-- the list without the transaction of a number
abbrev pub ended : ℕ → List TransactionData → List TransactionData
ended number ts = filter (λ t. not (t.number == number)) ts

-- a change of the list names this feature
abbrev pub names : ℕ → List Change → Bool
names id changes = list_any (λ change. change_id change == id) changes

-- the transaction of that number has room for the change, and does not name its feature
abbrev pub MayStage : ℕ → Change → List TransactionData → Type 0
MayStage number change [] = Unit {0}
MayStage number change (t ∷ ts) =
    MatchBool (t.number == number) ((length t.changes < CHANGE_LIMIT)
    × IsUnnamed (change_id change) t.changes) (MayStage number change ts)

-- the transaction of that number, if there is one, has placed fewer shapes than a list may bring
abbrev pub MayPlace : ℕ → List TransactionData → Type 0
MayPlace number [] = Unit {0}
MayPlace number (t ∷ ts) = MatchBool (t.number == number) (t.placed < CHANGE_LIMIT)
    (MayPlace number ts)
