-- A volume as plain data, and the tables that hold it.
use Rattle.std.specs.Prelude.{◌≡◌, ◌≢◌, ℕ, ◌+◌, Bool, false, List, [], ◌∷◌, ◌++◌, length}
use Rattle.judging.specs.States.{PlainState}
use Rattle.audit_trail.specs.Records.{RecordData}
use Rattle.audit_trail.specs.Legal.{replay}
use Rattle.audit_trail.specs.JsonLines.{lines_from}
use Rattle.std.proofs.Common.{refl}
use Rattle.std.specs.Coded.{Coded, code_by, coded×, coded_ℕ}
use Rattle.sqlite_trees.specs.Tree.{Trees}
use Rattle.sqlite_trees.specs.View.{View, IsClean}
use Rattle.sqlite_trees.specs.declared.store.Shape.TheVariants as kind
use Rattle.volumes.specs.declared.tables.Tables.{Tables}
use Rattle.volumes.specs.Edits.{AreKept}
use Rattle.volumes.specs.Rows.{feature_rows, row_of_policy, rows_from}

-- a state, and the lines of the records since the volume began, from the number `first` on
pub record VolumeData : Type 0 where
  pub state : PlainState
  pub first : ℕ
  pub lines : List (List ℕ)

-- no two of the tables are one
pub record AreApart (t : Tables) : Type 0 where
  pub feature_policy : t.features ≢ t.policy
  pub feature_record : t.features ≢ t.records
  pub feature_life : t.features ≢ t.lives
  pub policy_record : t.policy ≢ t.records
  pub policy_life : t.policy ≢ t.lives
  pub record_life : t.records ≢ t.lives

-- the tables hold the state: the features, each in its one row, and the policy
pub record HoldsState (t : Tables) (db : Trees) (state : PlainState) : Type 0 where
  pub features : db t.features ≡ feature_rows state.features
  pub policy : db t.policy ≡ row_of_policy state.version state.decider ∷ []

-- the tables hold the volume
pub record Holds (t : Tables) (db : Trees) (v : VolumeData) : Type 0 where
  pub state : HoldsState t db v.state
  pub records : db t.records ≡ rows_from v.first v.lines
  pub kept : AreKept v.state.features

-- a volume after these records: the state is their replay, their lines come to those that are there
abbrev pub volume_after : List RecordData → VolumeData → VolumeData
volume_after rs v = record v {
  state = replay v.state rs;
  lines = v.lines ++ lines_from (v.first + length v.lines) rs;
}

-- the tables hold the volume, whose next record has this number
abbrev pub HoldsAt : Tables → Trees → ℕ → VolumeData → Type 0
HoldsAt t db next v = Holds t db v × (next ≡ v.first + length v.lines)

-- each of the tables is one of rows by rowid
pub record HaveRows (view : View) (t : Tables) : Type 0 where
  pub features : view.shape t.features ≡ kind.Table
  pub policy : view.shape t.policy ≡ kind.Table
  pub records : view.shape t.records ≡ kind.Table
  pub lives : view.shape t.lives ≡ kind.Table

-- the same, and so the last commit left them
pub record AreTables (view : View) (t : Tables) : Type 0 where
  pub features : view.shape t.features ≡ kind.Table
  pub policy : view.shape t.policy ≡ kind.Table
  pub records : view.shape t.records ≡ kind.Table
  pub lives : view.shape t.lives ≡ kind.Table
  pub committed : view.committed_shape ≡ view.shape

-- what is kept of a store between two calls: its tables are there, and nothing waits for a commit
pub record IsAtRest (view : View) (t : Tables) : Type 0 where
  pub apart : AreApart t
  pub tables : IsClean view → AreTables view t
  pub settled : IsClean view → view.is_broken ≡ false → view.trees ≡ view.committed

-- what contracts see of a `Volume`: the store, its tables, the number of the next record
pub record VolumeView (S : Type 0) : Type 0 where
  pub store : S
  pub tables : Tables
  pub next : ℕ

abbrev pub volume_code : {S : Type 0} → Coded S → Coded (VolumeView S)
volume_code {S} store =
    code_by (S × (ℕ × (ℕ × (ℕ × (ℕ × ℕ)))))
    (coded× store (coded× coded_ℕ (coded× coded_ℕ (coded× coded_ℕ (coded× coded_ℕ coded_ℕ)))))
    (λ v. (v.store, (v.tables.features, (v.tables.policy, (v.tables.records, (v.tables.lives, v.next))))))
    (λ p. record {
      store = p.0;
      tables = record { features = p.1.0; policy = p.1.1.0; records = p.1.1.1.0; lives = p.1.1.1.1.0 };
      next = p.1.1.1.1.1;
    })
    (λ _. refl)
