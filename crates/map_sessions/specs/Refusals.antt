-- Why a request gets no page: the status, the code, and when it may be tried again.
use Rattle.std.specs.Prelude.{ℕ, List, Option, None, Some, codes}
use Rattle.map_asks.specs.FaultCodes.{code_of as ask_code}
use Rattle.map_answers.specs.Answers.{AnswerData}
use Rattle.map_answers.specs.Problems.{problem_data, status_of_fault as ask_status}
use Rattle.map_answers.specs.declared.statuses.Status.{Status}
use Rattle.map_answers.specs.declared.statuses.Status.TheVariants.{Unauthorized, Forbidden, NotFound, Gone, Internal, Unavailable}
use Rattle.plain_world.specs.FaultCodes.{fault_code}
use Rattle.plain_world.specs.declared.faults.Fault.{Fault as WorldFault}
use Rattle.plain_world.specs.declared.faults.Fault.TheVariants as world
use Rattle.tree_answers.specs.declared.fault.TreeFault.{TreeFault}
use Rattle.tree_answers.specs.declared.fault.TreeFault.TheVariants as tree
use Rattle.session_lines.specs.Faults.{code_of as line_code}
use Rattle.session_lines.specs.declared.faults.LineFault.TheVariants as lines
use Rattle.session_lines.specs.declared.replies.Reply.{Reply}
use Rattle.session_lines.specs.declared.replies.Reply.TheVariants as replies
use Rattle.map_sessions.specs.declared.refusals.Refusal.{Refusal}
use Rattle.map_sessions.specs.declared.refusals.Refusal.TheVariants as refusals

-- 503 where it may pass, 500 where no search has it
abbrev pub status_of_tree : TreeFault → Status
status_of_tree tree.TooMany = Unavailable
status_of_tree tree.Spent = Unavailable
status_of_tree tree.Overrun = Unavailable
status_of_tree (tree.Memory refused) = Unavailable
status_of_tree _ = Internal

abbrev pub status_of_fault : WorldFault → Status
status_of_fault (world.Tree fault) = status_of_tree fault
status_of_fault world.TooMany = Unavailable
status_of_fault world.Spent = Unavailable
status_of_fault world.TrailFull = Unavailable
status_of_fault (world.Memory refused) = Unavailable
status_of_fault _ = Internal

abbrev pub status_of_reply : Reply → Status
status_of_reply replies.Held = Unavailable
status_of_reply (replies.Memory refused) = Unavailable
status_of_reply (replies.Error lines.NoSubject) = Forbidden
status_of_reply (replies.Error lines.NoPlace) = Unavailable
status_of_reply (replies.Error lines.Closed) = Unavailable
status_of_reply (replies.Failed fault) = status_of_fault fault
status_of_reply _ = Internal

-- a second where somebody else's search or memory stands in the way, a minute where the trail is
-- full; none where waiting does not help
abbrev pub retry_of_tree : TreeFault → Option ℕ
retry_of_tree tree.TooMany = Some 1
retry_of_tree tree.Overrun = Some 1
retry_of_tree (tree.Memory refused) = Some 1
retry_of_tree _ = None

abbrev pub retry_of_fault : WorldFault → Option ℕ
retry_of_fault (world.Tree fault) = retry_of_tree fault
retry_of_fault world.TooMany = Some 1
retry_of_fault world.TrailFull = Some 60
retry_of_fault (world.Memory refused) = Some 1
retry_of_fault _ = None

abbrev pub retry_of_reply : Reply → Option ℕ
retry_of_reply replies.Held = Some 1
retry_of_reply (replies.Memory refused) = Some 1
retry_of_reply (replies.Error lines.NoPlace) = Some 1
retry_of_reply (replies.Error lines.Closed) = Some 1
retry_of_reply (replies.Failed fault) = retry_of_fault fault
retry_of_reply _ = None

-- the code of a reply, or its word
abbrev pub code_of_reply : Reply → List ℕ
code_of_reply replies.Held = codes "held"
code_of_reply (replies.Memory refused) = codes "memory"
code_of_reply (replies.Error fault) = line_code fault
code_of_reply (replies.Failed fault) = fault_code fault
code_of_reply _ = codes "reply"

abbrev pub status_of : Refusal → Status
status_of (refusals.Ask fault) = ask_status fault
status_of refusals.Nobody = Forbidden
status_of refusals.NoCredentials = Unauthorized
status_of (refusals.Said reply) = status_of_reply reply
status_of refusals.Misplaced = Internal
status_of refusals.Absent = NotFound
status_of refusals.Gone = Gone
status_of (refusals.Memory refused) = Unavailable

abbrev pub code_of : Refusal → List ℕ
code_of (refusals.Ask fault) = ask_code fault
code_of refusals.Nobody = codes "H1"
code_of refusals.NoCredentials = codes "H1"
code_of (refusals.Said reply) = code_of_reply reply
code_of refusals.Misplaced = codes "reply"
code_of refusals.Absent = codes "absent"
code_of refusals.Gone = codes "gone"
code_of (refusals.Memory refused) = codes "memory"

abbrev pub retry_of : Refusal → Option ℕ
retry_of (refusals.Said reply) = retry_of_reply reply
retry_of (refusals.Memory refused) = Some 1
retry_of _ = None

-- the answer that tells of a refusal
abbrev pub refusal_data : Refusal → AnswerData
refusal_data refusal =
    problem_data (status_of refusal) (code_of refusal) (retry_of refusal)
