-- What a hall sees of a world: what it was opened with, the subjects of the seats, all records, and
-- the present state.
use Rattle.std.specs.Prelude.{◌≡◌, ◌≤◌, ℕ, List, [], ◌∷◌, ◌++◌, All, drop, length, Result}
use Rattle.features.specs.declared.actors.Subject.{Subject}
use Rattle.features.specs.Rows.{IsSortedById}
use Rattle.policy_documents.specs.Documents.{DocumentData}
use Rattle.audit_trail.specs.Legal.{IsLegal, replay, after_deed, subject_of}
use Rattle.audit_trail.specs.Records.{DeedData, RecordData}
use Rattle.judging.specs.States.{PlainState}
use Rattle.plain_world.specs.Admitting.{given}
use Rattle.plain_world.specs.States.{WorldData, opening_state}
use Rattle.plain_world.specs.declared.faults.Fault.{Fault}
use Rattle.plain_world.specs.declared.settings.TheConstants.{SEAT_LIMIT}

-- what a world is opened with: who may have a seat, and the state at which it begins
pub record Opening : Type 0 where
  pub subjects : List Subject
  pub base : PlainState

-- with these subjects, no features, and this document as its first edition
abbrev pub opening_by : List Subject → DocumentData → Opening
opening_by subjects document =
    record {
      subjects = subjects;
      base = opening_state 0 (record { document = document; edition = 1 });
    }

pub record ChronicleData : Type 0 where
  pub opening : Opening
  -- the subject of each seat that was given, from seat 1 on
  pub seats : List Subject
  -- the records that were rolled out, and then those of the trail
  pub records : List RecordData
  -- the features, the version, and the policy in force
  pub state : PlainState

-- a world that began at this base, with the records that were rolled out of it
abbrev pub seen : PlainState → List RecordData → WorldData → ChronicleData
seen base rolled w = record {
  opening = record { subjects = w.subjects; base = base };
  seats = w.seats;
  records = rolled ++ w.trail;
  state = w.state;
}

-- The records that were rolled out are legal from the base on, and lead to the base of the present
-- trail. Each of them had a number.
pub record LeadsTo (base : PlainState) (rolled : List RecordData) (w : WorldData) : Type 0 where
  pub counted : length rolled ≤ w.first
  pub legal : IsLegal w.seats base rolled
  pub replayed : replay base rolled ≡ w.base

-- a record that changes no state: that of an answer, or of a list that was turned away
abbrev pub ChangesNothing : RecordData → Type 0
ChangesNothing r = (state : PlainState) → after_deed r.deed state ≡ state

-- behind the first so many of these records, no record changes a state
pub record IsLastChange (changed : ℕ) (records : List RecordData) : Type 0 where
  pub within : changed ≤ length records
  pub still : All ChangesNothing (drop changed records)

-- what a chronicle keeps beside its world goes with the world: the records that were rolled out, and
-- how many records there were when the state was changed last
pub record IsHeld (base : PlainState) (rolled : List RecordData) (changed : ℕ) (w : WorldData)
    : Type 0 where
  pub leads : LeadsTo base rolled w
  pub last_change : IsLastChange changed (rolled ++ w.trail)

-- All records are one legal trail from the opening on, and its replay is the state, whose features
-- are sorted by id. At most `SEAT_LIMIT` seats were given.
pub record IsSoundChronicle (c : ChronicleData) : Type 0 where
  pub legal : IsLegal c.seats c.opening.base c.records
  pub replayed : replay c.opening.base c.records ≡ c.state
  pub sorted : IsSortedById c.state.features
  pub few : length c.seats ≤ SEAT_LIMIT

-- a chronicle that was just opened
abbrev pub opened_with : Opening → ChronicleData
opened_with opening = record { opening = opening; seats = []; records = []; state = opening.base }

-- the subject of a seat that was given
abbrev pub subject_given : ℕ → List Subject → Result Subject Fault
subject_given seat seats = given (subject_of seat seats)

-- one more record, and the state that its deed makes
abbrev pub noted : ℕ → DeedData → ChronicleData → ChronicleData
noted seat deed c = record c {
  records = c.records ++ record { seat = seat; deed = deed } ∷ [];
  state = after_deed deed c.state;
}
