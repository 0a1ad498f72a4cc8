-- The answer to a search and the data of a denial, as plain data.
use Rattle.std.specs.Prelude.{ℕ, List, map, Option, None, Some}
use Rattle.plane.specs.declared.point.Point.{Point}
use Rattle.features.specs.declared.actors.Subject.{Subject}
use Rattle.features.specs.declared.rows.Feature.{Feature}
use Rattle.features.specs.Rows.{IsSortedById}
use Rattle.combining.specs.declared.questions.Question.{Question}
use Rattle.audit_trail.specs.Records.{DeedData, answered}
use Rattle.decision.specs.Deciders.{DeciderData}
use Rattle.decision.specs.Rulings.{Denies}
use Rattle.judging.specs.declared.causes.Cause.{Cause}
use Rattle.judging.specs.declared.causes.Cause.TheVariants.{Denied, Exists, Absent, Stale}
use Rattle.judging.specs.Listing.{AreShown}

pub record AnswerData : Type 0 where
  pub subject : Subject
  pub window : List Point
  pub decider : DeciderData
  pub rows : List Feature

-- what a record tells of an answer
abbrev pub answer_deed : AnswerData → DeedData
answer_deed answer =
    answered answer.subject answer.window (map (λ row. row.id) answer.rows)
    (map (λ row. row.version) answer.rows)

-- what every answer keeps: its rows are sorted by id, each meets the window, and the answer's
-- decider permits the subject to read it
pub record IsAnswer (answer : AnswerData) : Type 0 where
  pub sorted : IsSortedById answer.rows
  pub shown : AreShown answer.decider.document answer.subject answer.window answer.rows

pub record DenialData : Type 0 where
  pub question : Question
  pub decider : DeciderData
  pub rule : Option ℕ

-- what every denial keeps: its decider denies its question, by its rule or without one
abbrev pub IsDenial : DenialData → Type 0
IsDenial denial = Denies denial.decider.document denial.question denial.rule

-- the denial that goes with a cause: one for a denied question, none for any other cause
abbrev pub denial_of : DeciderData → Cause → Option Question → Option DenialData
denial_of decider (Denied rule) None = None
denial_of decider (Denied rule) (Some question) =
    Some (record { question = question; decider = decider; rule = rule })
denial_of decider Exists question = None
denial_of decider Absent question = None
denial_of decider (Stale current) question = None
