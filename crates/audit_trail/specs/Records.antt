-- The plain data of records.
use Rattle.std.specs.Prelude.{ℕ, ◌-◌, nat_lt, List, slice_get, Option, None, if◌then◌else◌}
use Rattle.plane.specs.declared.point.Point.{Point}
use Rattle.features.specs.declared.actors.Subject.{Subject}
use Rattle.features.specs.declared.rows.Change.{Change}
use Rattle.decision.specs.Deciders.{DeciderData}
use Rattle.judging.specs.declared.causes.Refusal.{Refusal}

-- the deed of a record: a search answered, a list applied, a list rejected, a document put in force
pub data DeedData : Type 0 where
  answered : (subject : Subject) → (window : List Point) → (ids versions : List ℕ) → DeedData
  applied : (subject : Subject) → (version : ℕ) → (changes : List Change) → DeedData
  turned_away : (subject : Subject) → (changes : List Change) → (refusal : Refusal) → DeedData
  governed : (edition : ℕ) → (decider : DeciderData) → DeedData

-- a record: a deed, and the seat it was done for
pub record RecordData : Type 0 where
  pub seat : ℕ
  pub deed : DeedData

-- a trail: the number of its first record, its records, and how many more fit without a growth
pub record TrailData : Type 0 where
  pub first : ℕ
  pub records : List RecordData
  pub room : ℕ

-- the record with this number
abbrev pub record_at : ℕ → TrailData → Option RecordData
record_at number trail = if nat_lt number trail.first then None else slice_get trail.records
    (number - trail.first)
