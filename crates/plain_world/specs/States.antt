-- The plain state of a whole world.
use Rattle.std.specs.Prelude.{◌≡◌, ℕ, ◌≤◌, ◌+◌, List, [], length, max}
use Rattle.features.specs.declared.actors.Subject.{Subject}
use Rattle.decision.specs.Deciders.{DeciderData}
use Rattle.audit_trail.specs.Legal.{replay, IsLegal}
use Rattle.audit_trail.specs.Records.{RecordData}
use Rattle.judging.specs.States.{PlainState}
use Rattle.audit_trail.specs.declared.trails.TheConstants.{RECORD_LIMIT}
use Rattle.feature_store.specs.declared.tables.TheConstants.{FEATURE_LIMIT}
use Rattle.plain_world.specs.declared.open_searches.Search.{Search}
use Rattle.plain_world.specs.declared.settings.Limits.{Limits}
use Rattle.plain_world.specs.declared.settings.Starts.{Starts}
use Rattle.plain_world.specs.declared.settings.TheConstants.{SEAT_LIMIT}
use Rattle.plain_world.specs.Staging.{TransactionData}

pub record WorldData : Type 0 where
  -- what it was opened with
  pub subjects : List Subject
  pub opening : DeciderData
  pub starts : Starts
  pub limits : Limits
  -- the subject of each seat that was given, from seat 1 on
  pub seats : List Subject
  -- the trail: the state at which it begins (its base), the number of its first record, its records
  pub base : PlainState
  pub first : ℕ
  pub trail : List RecordData
  -- the features, the version, and the document in force with its edition
  pub state : PlainState
  -- the open searches and transactions, and their next numbers
  pub searches : List Search
  pub next_search : ℕ
  pub transactions : List TransactionData
  pub next_transaction : ℕ

-- the trail is legal from its base, and the state is its replay
pub record IsSound (seats : List Subject) (base : PlainState) (trail : List RecordData)
    (state : PlainState) : Type 0 where
  pub legal : IsLegal seats base trail
  pub replayed : replay base trail ≡ state
  pub few_seats : length seats ≤ SEAT_LIMIT

-- the most features that a list of changes may leave: as many as the limit says, or as many as
-- there are, where the world was opened with more
abbrev pub most_features : WorldData → ℕ
most_features w = max w.limits.features (length w.state.features)

abbrev pub IsSoundWorld : WorldData → Type 0
IsSoundWorld w = IsSound w.seats w.base w.trail w.state

-- the state of a world that has just been opened by a decider
abbrev pub opening_state : ℕ → DeciderData → PlainState
opening_state version decider = record { features = []; version = version; decider = decider }

-- a world that has just been opened at a state
abbrev pub opened_from : List Subject → PlainState → Starts → Limits → WorldData
opened_from subjects base starts limits =
    record {
      subjects = subjects;
      opening = base.decider;
      starts = starts;
      limits = limits;
      seats = [];
      base = base;
      first = starts.rolled + 1;
      trail = [];
      state = base;
      searches = [];
      next_search = starts.search;
      transactions = [];
      next_transaction = 1;
    }

-- a world that has just been opened
abbrev pub opened : List Subject → DeciderData → Starts → Limits → WorldData
opened subjects decider starts limits =
    opened_from subjects (opening_state starts.version decider) starts limits

-- what every world keeps: it is sound, its limits of records and features are at most the greatest
-- ones, and its trail is within its limit
pub record Keeps (limits : Limits) (seats : List Subject) (base : PlainState)
    (trail : List RecordData) (state : PlainState) : Type 0 where
  pub sound : IsSound seats base trail state
  pub records : limits.records ≤ RECORD_LIMIT
  pub features : limits.features ≤ FEATURE_LIMIT
  pub few : length trail ≤ limits.records
