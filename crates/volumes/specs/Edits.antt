-- What a call leaves of a store of SQLite, in the words of its trait.
use Rattle.std.specs.Prelude.{◌≡◌, ◌≢◌, ℕ, ◌<◌, ◌^◌, nat_lt, IsTrue, Bool, true, false, Option, Some, List, [], ◌∷◌}
use Rattle.std.specs.List.{AllByRecursion}
use Rattle.features.specs.declared.rows.Feature.{Feature}
use Rattle.features.specs.Rows.{IsSortedById}
use Rattle.sqlite_value.specs.Order.{Row}
use Rattle.sqlite_trees.specs.View.{View, OnlyWrites}
use Rattle.decision.specs.Deciders.{DeciderData}
use Rattle.volumes.specs.Rows.{feature_rows, row_of_policy}

-- the rows of one table were replaced by these
pub record Writes (old new : View) (table : ℕ) (rows : List Row) : Type 0 where
  pub frame : OnlyWrites old new
  pub here : new.trees table ≡ rows
  pub others : (other : ℕ) → other ≢ table → new.trees other ≡ old.trees other

-- whatever came of a call, the shapes of the trees stay, and so does the last commit while the
-- store is open
pub record KeepsLast (old new : View) : Type 0 where
  pub shape : new.shape ≡ old.shape
  pub committed_shape : new.committed_shape ≡ old.committed_shape
  pub was_open : IsTrue new.is_open → IsTrue old.is_open
  pub committed : IsTrue new.is_open → new.committed ≡ old.committed

-- ids of 64 bits, which rise
pub record AreKept (features : List Feature) : Type 0 where
  pub sorted : IsSortedById features
  pub ids : AllByRecursion (λ f. f.id < 2 ^ 64) features

-- the table that held these features holds those that `edit` makes of them
pub record Turns (old new : View) (table : ℕ) (edit : List Feature → List Feature) : Type 0 where
  pub frame : OnlyWrites old new
  pub features : (fs : List Feature) → AreKept fs → old.trees table ≡ feature_rows fs
      → (new.trees table ≡ feature_rows (edit fs)) × AreKept (edit fs)
  pub others : (other : ℕ) → other ≢ table → new.trees other ≡ old.trees other

-- the table that held the one row of a policy holds the one that `edit` makes of it
pub record Governs (old new : View) (table : ℕ) (edit : ℕ → DeciderData → Row) : Type 0 where
  pub frame : OnlyWrites old new
  pub policy : (version : ℕ) (decider : DeciderData) → old.trees table ≡ row_of_policy version decider ∷ []
      → new.trees table ≡ edit version decider ∷ []
  pub others : (other : ℕ) → other ≢ table → new.trees other ≡ old.trees other

-- nothing has changed but cursors
abbrev pub IsRead : View → View → Type 0
IsRead old new = new ≡ record old { cursors = new.cursors }

-- ids of 64 bits
abbrev pub AreIds : List Feature → Type 0
AreIds fs = AllByRecursion (λ f. f.id < 2 ^ 64) fs

-- features whose ids are stored as negative integers, and others
abbrev pub AreHigh : List Feature → Type 0
AreHigh fs = AllByRecursion (λ f. nat_lt f.id (2 ^ 63) ≡ false) fs

abbrev pub AreLow : List Feature → Type 0
AreLow fs = AllByRecursion (λ f. nat_lt f.id (2 ^ 63) ≡ true) fs

-- a cursor has these rows to give, and nothing else has changed
pub record IsReading (old new : View) (rows : List Row) : Type 0 where
  pub same : new ≡ record old { cursors = new.cursors }
  pub left : new.cursors 0 ≡ Some rows

-- the cursor gave this row of those that it had, or had none
abbrev pub Gives : List Row → Row → Bool → List Row → Type 0
Gives before row true after = before ≡ row ∷ after
Gives before row false after = before ≡ []
