-- The calls of a service.
use Rattle.std.specs.Prelude.{ℕ, List, []}
use Rattle.credentials.specs.declared.keys.Key.{Key}
use Rattle.plane.specs.declared.point.Point.{Point}
use Rattle.features.specs.declared.rows.Change.{Change}
use Rattle.policy_documents.specs.Documents.{DocumentData}
use Rattle.combining.specs.declared.questions.Question.{Question}

-- what a session asks of its service
pub data Call : Type 0 where
  Hello : (name : List ℕ) → Call
  Search : (window : List Point) → Call
  Commit : (changes : List Change) → Call
  Govern : (document : DocumentData) → Call
  Explain : (question : Question) → Call
  Roll : Call
  Leave : Call

-- a service whose sessions anybody may begin, by a name alone
abbrev pub no_keys : {S : Type 0} → S → List Key
no_keys service = []
