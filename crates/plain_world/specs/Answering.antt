-- Whole searches: an answer is made at a state, and its record is taken in later, at the same state.
use Rattle.std.specs.Prelude.{◌≡◌, ◌++◌, ◌∷◌, [], List, Result, Ok, Err}
use Rattle.features.specs.declared.actors.Subject.{Subject}
use Rattle.memory.specs.NoMemory.{out_of_memory}
use Rattle.judging.specs.States.{PlainState}
use Rattle.audit_trail.specs.Legal.{IsLegalDeed}
use Rattle.audit_trail.specs.Records.{DeedData, answered, applied, turned_away, governed, RecordData}
use Rattle.plain_world.specs.Answers.{AnswerData, answer_deed}
use Rattle.plain_world.specs.Events.{Answer, Happens, Rows}
use Rattle.plain_world.specs.States.{WorldData}
use Rattle.plain_world.specs.declared.faults.Fault.{Fault}
use Rattle.plain_world.specs.declared.faults.Fault.TheVariants.{Memory}

-- the deed of a search that was answered
abbrev pub IsAnswered : DeedData → Type 0
IsAnswered (answered subject window ids versions) = Unit {0}
IsAnswered (applied subject version changes) = ⊥
IsAnswered (turned_away subject changes refusal) = ⊥
IsAnswered (governed edition decider) = ⊥

-- a record of an answer, which a legal trail may have next at this state
abbrev pub IsLegalAnswer : List Subject → PlainState → RecordData → Type 0
IsLegalAnswer seats state r = IsAnswered r.deed × IsLegalDeed seats state r.seat r.deed

-- The event of a whole search whose record this is. The record is the trail's last now, and nothing
-- else has changed.
pub record TakesIn (r : RecordData) (old new : WorldData) : Type 0 where
  pub answer : AnswerData
  pub told : r.deed ≡ answer_deed answer
  pub happens : Happens (Answer r.seat answer.window) old new (Rows answer)
  pub added : new ≡ record old { trail = old.trail ++ r ∷ [] }

-- the first fault of a test, or else that an allocation was refused
abbrev pub FaultsAs : {T : Type 0} → Result T Fault → Fault → Type 0
FaultsAs (Err first) fault = fault ≡ first
FaultsAs (Ok x) fault = fault ≡ Memory out_of_memory
