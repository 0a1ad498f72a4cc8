-- What lies in a tray, and what goes with the chronicle that it is a tray of.
use Rattle.std.specs.Prelude.{◌≡◌, ◌+◌, ℕ, List, [], ◌++◌, All, length, Option, None, Some}
use Rattle.std.specs.List.{last_or}
use Rattle.audit_trail.specs.Records.{RecordData}
use Rattle.plain_world.specs.Answering.{IsLegalAnswer}
use Rattle.chronicle.specs.Chronicles.{ChronicleData}

pub record TrayData : Type 0 where
  -- the chronicles that there were, the present one last
  pub seen : List ChronicleData
  -- the records of the answers that were given at the present one, and are not yet in its trail
  pub answers : List RecordData

-- each is the record of an answer at this chronicle; without a chronicle there is none
abbrev pub AreAnswersAt : Option ChronicleData → List RecordData → Type 0
AreAnswersAt None answers = answers ≡ []
AreAnswersAt (Some c) answers = All (IsLegalAnswer c.seats c.state) answers

-- how many records a chronicle has
abbrev pub records_of : Option ChronicleData → ℕ
records_of None = 0
records_of (Some c) = length c.records

-- how many records there are: those of the present chronicle, and those that lie in the tray
abbrev pub told_in : TrayData → ℕ
told_in tray = records_of (last_or None tray.seen) + length tray.answers

-- a tray with nothing in it
abbrev pub empty_at : List ChronicleData → TrayData
empty_at seen = record { seen = seen; answers = [] }

-- a chronicle that has taken these records in
abbrev pub with_records : ChronicleData → List RecordData → ChronicleData
with_records c answers = record c { records = c.records ++ answers }
