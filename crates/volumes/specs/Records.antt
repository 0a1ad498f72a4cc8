-- What records make of the tables.
use Rattle.std.specs.Prelude.{◌≡◌, ◌≢◌, ℕ, List, [], ◌∷◌}
use Rattle.judging.specs.States.{PlainState}
use Rattle.audit_trail.specs.Records.{RecordData}
use Rattle.sqlite_trees.specs.View.{View, OnlyWrites}
use Rattle.volumes.specs.declared.tables.Tables.{Tables}
use Rattle.volumes.specs.Edits.{AreKept}
use Rattle.volumes.specs.Volumes.{VolumeData, HoldsState, Holds, HoldsAt, volume_after}

-- the tables that held a state hold what `edit` makes of it
pub record TurnsState (old new : View) (t : Tables) (edit : PlainState → PlainState) : Type 0 where
  pub frame : OnlyWrites old new
  pub state : (s : PlainState) → AreKept s.features → HoldsState t old.trees s
      → HoldsState t new.trees (edit s) × AreKept (edit s).features
  pub others : (other : ℕ) → other ≢ t.features → other ≢ t.policy
      → new.trees other ≡ old.trees other

-- the tables that held a volume, whose next record has this number, hold it after these records
pub record Appends (old new : View) (t : Tables) (number : ℕ) (rs : List RecordData) : Type 0 where
  pub frame : OnlyWrites old new
  pub volume : (v : VolumeData) → HoldsAt t old.trees number v → Holds t new.trees (volume_after rs v)
  pub lives : new.trees t.lives ≡ old.trees t.lives
