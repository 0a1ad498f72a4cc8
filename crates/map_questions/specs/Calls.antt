-- The calls that paths name, and what a method does at them.
use Rattle.std.specs.Prelude.{ℕ, List, drop, codes, Option, None, Some, option_map, if◌then◌else◌, nat_eq}
use Rattle.std.specs.List.{starts_with}
use Rattle.std.specs.Str.{bytes_eq}
use Rattle.line_words.specs.Words.{number_of}
use Rattle.map_changes.specs.declared.edits.Method.{Method}
use Rattle.map_changes.specs.declared.edits.Method.TheVariants.{Post, Put, Delete}
use Rattle.map_questions.specs.declared.calls.Action.{Action}
use Rattle.map_questions.specs.declared.calls.Action.TheVariants as actions
use Rattle.map_questions.specs.declared.calls.Call.{Call}
use Rattle.map_questions.specs.declared.calls.Call.TheVariants as calls
use Rattle.map_questions.specs.declared.calls.CallRequest.{CallRequest}
use Rattle.map_questions.specs.declared.calls.Task.{Task}
use Rattle.map_questions.specs.declared.calls.Task.TheVariants as tasks
use Rattle.map_questions.specs.declared.calls.TrailTask.TheVariants as trail

-- the call that a path names
unfoldable pub call_of : List ℕ → Option Call
call_of path =
    if bytes_eq path (codes "/explain") then Some calls.Explain
    else if bytes_eq path (codes "/policy") then Some calls.Policy
    else if bytes_eq path (codes "/trail") then Some calls.Trail
    else if starts_with nat_eq path (codes "/trail/")
    then option_map (λ number. calls.Piece number) (number_of (drop 7 path)) else None

-- the policy is asked, and a piece of the trail is shown
abbrev pub read_at : Call → Option Task
read_at calls.Explain = Some tasks.Explain
read_at calls.Policy = None
read_at calls.Trail = None
read_at (calls.Piece number) = Some (tasks.Trail (trail.Show number))

-- a document is put, the trail is taken out by a post, and a piece of it is deleted
abbrev pub changed_at : Method → Call → Option Task
changed_at Put calls.Policy = Some tasks.Govern
changed_at Post calls.Trail = Some (tasks.Trail trail.Roll)
changed_at Delete (calls.Piece number) = Some (tasks.Trail (trail.LetGo number))
changed_at _ _ = None

-- what a method does at a call
abbrev pub task_of : Action → Call → Option Task
task_of actions.Read call = read_at call
task_of (actions.Change method) call = changed_at method call

-- the data of a request
pub record CallData : Type 0 where
  pub query : List ℕ
  pub media : List ℕ
  pub body : List ℕ

abbrev pub call_data : CallRequest → CallData
call_data request = record {
  query = request.query.now;
  media = request.media.now;
  body = request.body.now;
}
