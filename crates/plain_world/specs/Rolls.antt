-- What a roll takes out, as plain data.
use Rattle.std.specs.Prelude.{ℕ, List}
use Rattle.audit_trail.specs.Records.{RecordData}
use Rattle.judging.specs.States.{PlainState}

-- the state at which the trail began, the number of its first record, and its records
pub record RolledData : Type 0 where
  pub base : PlainState
  pub first : ℕ
  pub records : List RecordData
