-- What is read of the records of a hall that is in use.
use Rattle.std.specs.Prelude.{◌≡◌, ℕ, List, ◌++◌, drop, length, take}
use Rattle.audit_trail.specs.Records.{RecordData}
use Rattle.chronicle.specs.Chronicles.{ChronicleData, IsLastChange, IsSoundChronicle, Opening}

-- a legal trail from this opening on has this many records
pub record IsCounted (opening : Opening) (count : ℕ) : Type 0 where
  pub chronicle : ChronicleData
  pub opened : chronicle.opening ≡ opening
  pub sound : IsSoundChronicle chronicle
  pub counted : length chronicle.records ≡ count

-- with a legal trail from this opening on, so many seats were given
pub record AreGiven (opening : Opening) (count : ℕ) : Type 0 where
  pub chronicle : ChronicleData
  pub opened : chronicle.opening ≡ opening
  pub sound : IsSoundChronicle chronicle
  pub given : length chronicle.seats ≡ count

-- a legal trail from this opening on has no record behind this many that changes a state
pub record IsChangedLast (opening : Opening) (count : ℕ) : Type 0 where
  pub chronicle : ChronicleData
  pub opened : chronicle.opening ≡ opening
  pub sound : IsSoundChronicle chronicle
  pub last : IsLastChange count chronicle.records

-- to `old` were appended so many records of a legal trail from this opening on, in order, from this
-- place on, or as many as it has
pub record AreCopied (opening : Opening) (place count : ℕ) (old new : List RecordData) : Type 0 where
  pub chronicle : ChronicleData
  pub opened : chronicle.opening ≡ opening
  pub sound : IsSoundChronicle chronicle
  pub copied : new ≡ old ++ take count (drop place chronicle.records)
