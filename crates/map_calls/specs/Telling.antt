-- What a request for a call is answered.
use Rattle.std.specs.Prelude.{ℕ, List, [], codes, Option, None, Some}
use Rattle.map_answers.specs.Answers.{AnswerData, found}
use Rattle.map_answers.specs.Problems.{detailed_data, problem_data}
use Rattle.map_answers.specs.declared.answers.MediaType.TheVariants.{Json, Lines}
use Rattle.map_answers.specs.declared.statuses.Status.TheVariants.{Created, NoContent, BadRequest, Forbidden, MethodNotAllowed, Conflict, UnsupportedMedia, Unprocessable, Unavailable}
use Rattle.map_questions.specs.declared.faults.AskingFault.{AskingFault}
use Rattle.map_questions.specs.declared.faults.AskingFault.TheVariants as asking
use Rattle.map_sessions.specs.Refusals.{refusal_data}
use Rattle.map_sessions.specs.declared.refusals.Refusal.TheVariants.{Said, Memory}
use Rattle.plain_world.specs.declared.faults.Fault.TheVariants.{NotSteward}
use Rattle.policy_text.specs.Pointers.{path_text}
use Rattle.policy_text.specs.declared.faults.TextFault.{TextFault}
use Rattle.policy_text.specs.declared.faults.TextFault.TheVariants as unread
use Rattle.policy_text.specs.declared.paths.PathPart.{PathPart}
use Rattle.session_lines.specs.declared.replies.Reply.{Reply}
use Rattle.session_lines.specs.declared.replies.Reply.TheVariants.{Permitted, Forbidden as Denied, Edition, Failed}
use Rattle.map_calls.specs.Texts.{edition_text, piece_address, place_member, ruling_text, taken_text}
use Rattle.map_calls.specs.declared.outcomes.CallFault.{CallFault}
use Rattle.map_calls.specs.declared.outcomes.CallFault.TheVariants as faults
use Rattle.map_calls.specs.declared.outcomes.Outcome.{Outcome}
use Rattle.map_calls.specs.declared.outcomes.Outcome.TheVariants as outcomes

-- a query that asks nothing of the policy
abbrev pub asking_data : AskingFault → AnswerData
asking_data asking.UnknownParameter = problem_data BadRequest (codes "U2") None
asking_data (asking.Twice parameter) = problem_data BadRequest (codes "U3") None
asking_data (asking.Value parameter) = problem_data BadRequest (codes "U4") None
asking_data asking.Memory = problem_data Unavailable (codes "memory") (Some 1)

-- a document with a fault at a place
abbrev pub place_data : List ℕ → List PathPart → AnswerData
place_data code path = detailed_data Unprocessable code (place_member (path_text path))

-- a body that is no document: no JSON, or JSON of which no policy can be made; the place of a fault
-- of that is told
abbrev pub unread_data : TextFault → AnswerData
unread_data unread.NotJson = problem_data BadRequest (codes "D1") None
unread_data (unread.Form path) = place_data (codes "D2") path
unread_data (unread.UnknownKey path) = place_data (codes "D3") path
unread_data (unread.NameTwice path name) = place_data (codes "D4") path
unread_data (unread.NoZone path name) = place_data (codes "D5") path
unread_data (unread.BadZone path name fault) = place_data (codes "D6") path
unread_data (unread.TooDeep path) = place_data (codes "D7") path
unread_data (unread.TooMany path) = place_data (codes "D8") path
unread_data (unread.Memory refused) = refusal_data (Memory refused)

-- a request at fault (RFC 9110, 15.5)
abbrev pub fault_data : CallFault → AnswerData
fault_data faults.Method = problem_data MethodNotAllowed (codes "method") None
fault_data faults.Parameter = problem_data BadRequest (codes "U2") None
fault_data faults.Media = problem_data UnsupportedMedia (codes "media") None
fault_data (faults.Asking fault) = asking_data fault
fault_data (faults.Unread fault) = unread_data fault
fault_data faults.Full = problem_data Conflict (codes "pieces") None

-- what the policy says
abbrev pub ruling_data : List ℕ → Option (List ℕ) → ℕ → AnswerData
ruling_data decision rule edition = found Json (ruling_text decision rule edition)

abbrev pub ruled_data : Reply → AnswerData
ruled_data (Permitted rule edition) = ruling_data (codes "permit") rule edition
ruled_data (Denied rule edition) = ruling_data (codes "deny") rule edition
ruled_data reply = refusal_data (Said reply)

-- the trail was not taken out: only a steward may do that
abbrev pub kept_data : Reply → AnswerData
kept_data (Failed NotSteward) = problem_data Forbidden (codes "X7") None
kept_data reply = refusal_data (Said reply)

-- a document is in force, as this edition
abbrev pub edition_data : ℕ → AnswerData
edition_data edition = found Json (edition_text edition)

-- the reply to a document: only a steward may put one in force
abbrev pub governed_data : Reply → AnswerData
governed_data (Edition edition) = edition_data edition
governed_data (Failed NotSteward) = problem_data Forbidden (codes "X7") None
governed_data reply = refusal_data (Said reply)

-- the trail was taken out: where its piece is, and how many records that has
abbrev pub taken_data : List ℕ → ℕ → ℕ → AnswerData
taken_data base piece records = record {
  status = Created;
  media = Json;
  version = None;
  location = Some (piece_address base piece);
  retry_after = None;
  body = taken_text piece records;
}

-- the lines of a piece
abbrev pub shown_data : List ℕ → AnswerData
shown_data text = found Lines text

-- a piece was let go
abbrev pub let_go_data : AnswerData
let_go_data = record {
  status = NoContent;
  media = Json;
  version = None;
  location = None;
  retry_after = None;
  body = [];
}

-- the answer to what came of a request
abbrev pub outcome_data : List ℕ → Outcome → AnswerData
outcome_data base (outcomes.Fault fault) = fault_data fault
outcome_data base (outcomes.Refused refusal) = refusal_data refusal
outcome_data base (outcomes.Ruled reply) = ruled_data reply
outcome_data base (outcomes.Governed reply) = governed_data reply
outcome_data base (outcomes.NotRolled reply) = kept_data reply
outcome_data base (outcomes.Rolled piece records) = taken_data base piece records
outcome_data base (outcomes.Shown text) = shown_data text.items
outcome_data base outcomes.LetGo = let_go_data
