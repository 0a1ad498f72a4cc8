-- What a request to change is answered.
use Rattle.std.specs.Prelude.{ℕ, List, [], codes, Option, None, Some}
use Rattle.features.specs.declared.rows.Change.{Change}
use Rattle.features.specs.declared.rows.Change.TheVariants.{Add, Reshape, Delete}
use Rattle.map_asks.specs.declared.asks.Layer.{Layer}
use Rattle.map_answers.specs.Answers.{AnswerData}
use Rattle.map_answers.specs.Links.{item_address}
use Rattle.map_answers.specs.Problems.{detailed_data, problem_data}
use Rattle.map_answers.specs.declared.answers.MediaType.TheVariants.{Json}
use Rattle.map_answers.specs.declared.statuses.Status.TheVariants.{Created, NoContent, Forbidden, NotFound, Conflict, PreconditionFailed, Unavailable, InsufficientStorage}
use Rattle.map_changes.specs.declared.edits.Edit.{Edit}
use Rattle.plain_world.specs.declared.faults.Fault.TheVariants as world
use Rattle.session_lines.specs.declared.replies.Reply.{Reply}
use Rattle.session_lines.specs.declared.replies.Reply.TheVariants as replies
use Rattle.tree_answers.specs.declared.fault.TreeFault.TheVariants as tree
use Rattle.map_sessions.specs.Refusals.{refusal_data}
use Rattle.map_sessions.specs.declared.refusals.Refusal.TheVariants.{Said}
use Rattle.map_edits.specs.Faults.{fault_data}
use Rattle.map_edits.specs.Members.{current_member, rule_member}
use Rattle.map_edits.specs.declared.committing.Outcome.{Outcome}
use Rattle.map_edits.specs.declared.committing.Outcome.TheVariants as outcomes

-- a feature that was added: its address and its version
abbrev pub added_data : List ℕ → Layer → ℕ → ℕ → AnswerData
added_data base layer id version = record {
  status = Created;
  media = Json;
  version = Some version;
  location = Some (item_address base layer id);
  retry_after = None;
  body = [];
}

-- nothing more to say but the version of what is there now
abbrev pub done_data : Option ℕ → AnswerData
done_data version = record {
  status = NoContent;
  media = Json;
  version = version;
  location = None;
  retry_after = None;
  body = [];
}

abbrev pub applied_data : List ℕ → Layer → Change → ℕ → AnswerData
applied_data base layer (Add id class shape) version = added_data base layer id version
applied_data base layer (Reshape id known shape) version = done_data (Some version)
applied_data base layer (Delete id known) version = done_data None

-- the change names another version than this, which the feature has
abbrev pub stale_data : ℕ → AnswerData
stale_data current =
    record (detailed_data PreconditionFailed (codes "stale") (current_member current)) {
      version = Some current;
    }

-- the policy denies it: by which rule
abbrev pub denied_data : Option (List ℕ) → AnswerData
denied_data rule = detailed_data Forbidden (codes "denied") (rule_member rule)

-- what a list that was not judged is answered
unfoldable pub unmade_data : Reply → AnswerData
unmade_data (replies.Failed world.StoreFull) = problem_data InsufficientStorage (codes "X11") None
unmade_data (replies.Failed (world.Tree tree.Full)) = problem_data Unavailable (codes "S4") None
unmade_data (replies.Failed (world.Tree tree.TooHigh)) = problem_data Unavailable (codes "S5") None
unmade_data reply = refusal_data (Said reply)

-- the answer to a reply to the change
abbrev pub reply_data : List ℕ → Edit → Reply → AnswerData
reply_data base edit (replies.Applied version) = applied_data base edit.layer edit.change version
reply_data base edit (replies.Denied rule change) = denied_data rule
reply_data base edit (replies.Absent change) = problem_data NotFound (codes "absent") None
reply_data base edit (replies.Exists change) = problem_data Conflict (codes "exists") None
reply_data base edit (replies.Stale current change) = stale_data current
reply_data base edit reply = unmade_data reply

abbrev pub outcome_data : List ℕ → Outcome → AnswerData
outcome_data base (outcomes.Fault fault) = fault_data [] fault
outcome_data base (outcomes.Refused refusal) = refusal_data refusal
outcome_data base (outcomes.Replied edit reply) = reply_data base edit reply
