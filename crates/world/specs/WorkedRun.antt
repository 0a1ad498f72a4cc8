-- Calls of a world that has just been opened, and the answer after them.
use Rattle.std.specs.Prelude.{◌≡◌, ℕ, List, map}
use Rattle.features.specs.Rows.{IsSortedById}
use Rattle.features.specs.declared.actors.Subject.{Subject}
use Rattle.policy_documents.specs.Documents.{DocumentData}
use Rattle.decision.specs.Deciders.{DeciderData}
use Rattle.audit_trail.specs.declared.trails.TheConstants.{RECORD_LIMIT}
use Rattle.plain_world.specs.Answers.{AnswerData}
use Rattle.plain_world.specs.Events.{Event, TakeSeat, OpenSearch, VisitNext, Finish, DropSearch, Begin, Stage, AdvanceWalk, Commit, Abort, Govern, Tend, Roll, Reply, Run}
use Rattle.plain_world.specs.Laws.{Accounts, IsExact, in_force}
use Rattle.plain_world.specs.States.{WorldData, opened}
use Rattle.plain_world.specs.declared.settings.Limits.{Limits}
use Rattle.plain_world.specs.declared.settings.Starts.{Starts}
use Rattle.plain_world.specs.declared.settings.TheConstants.{STEP_LIMIT, USUAL_FEATURES}
use Rattle.world.specs.declared.worked_run.Call.{Call}
use Rattle.world.specs.declared.worked_run.Call.TheVariants as calls

-- A world that a document has just opened: edition 1, the first numbers, the usual limits.

abbrev pub first_decider : DocumentData → DeciderData
first_decider document = record { document = document; edition = 1 }

abbrev pub first_starts : Starts
first_starts = record {
  generation = 0;
  counter = 0;
  search = 1;
  version = 0;
  edition = 1;
  rolled = 0;
}

abbrev pub usual_limits : Limits
usual_limits = record { steps = STEP_LIMIT; records = RECORD_LIMIT; features = USUAL_FEATURES }

abbrev pub just_opened : List Subject → DocumentData → WorldData
just_opened subjects document =
    opened subjects (first_decider document) first_starts usual_limits

-- the event of a call
abbrev pub event_of : Call → Event
event_of (calls.Seat name) = TakeSeat name
event_of (calls.OpenSearch seat window) = OpenSearch seat window
event_of (calls.Visit seat search) = VisitNext seat search
event_of (calls.Finish seat search) = Finish seat search
event_of (calls.DropSearch seat search) = DropSearch seat search
event_of (calls.Begin seat) = Begin seat
event_of (calls.Stage seat transaction change) = Stage seat transaction change
event_of (calls.Advance seat transaction) = AdvanceWalk seat transaction
event_of (calls.Commit seat transaction) = Commit seat transaction
event_of (calls.Abort seat transaction) = Abort seat transaction
event_of (calls.Govern seat document) = Govern seat document
event_of (calls.Tend slot) = Tend slot
event_of (calls.Roll seat) = Roll seat

-- a run from one world to another whose events are those of these calls, in their order
pub record AreMade (made : List Call) (old new : WorldData) : Type 0 where
  pub steps : List (Event × Reply)
  pub run : Run old steps new
  pub events : map (λ step. step.0) steps ≡ map event_of made

-- The answer to a seat's search after these calls. It is exact there, and its rows are sorted by
-- id; the trail accounts for the state, and the answer's decider is the one that was put in force
-- last.
pub record IsAnswerBehind (opening : WorldData) (made : List Call) (seat search : ℕ)
    (answer : AnswerData) : Type 0 where
  pub there : WorldData
  pub are_made : AreMade made opening there
  pub exact : IsExact seat search there answer
  pub rising : IsSortedById answer.rows
  pub accounts : Accounts there
  pub decider : answer.decider ≡ in_force opening.state.decider are_made.steps
