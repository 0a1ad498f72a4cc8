-- What a request to make a list of changes is answered.
use Rattle.std.specs.Prelude.{ℕ, List, [], ◌++◌, codes, decimal, Option}
use Rattle.geojson.specs.Faults.{fault_at}
use Rattle.geojson.specs.declared.faults.Member.TheVariants as members
use Rattle.map_answers.specs.Answers.{AnswerData, found}
use Rattle.map_answers.specs.Problems.{detailed_data}
use Rattle.map_answers.specs.declared.answers.MediaType.TheVariants.{Json}
use Rattle.map_answers.specs.declared.statuses.Status.TheVariants.{Forbidden, Conflict, Unprocessable}
use Rattle.map_changes.specs.declared.faults.ChangeFault.TheVariants as changes
use Rattle.session_lines.specs.declared.replies.Reply.{Reply}
use Rattle.session_lines.specs.declared.replies.Reply.TheVariants as replies
use Rattle.map_sessions.specs.Refusals.{refusal_data}
use Rattle.map_edits.specs.Faults.{fault_data as change_fault_data, placed_data}
use Rattle.map_edits.specs.Members.{current_member, index_part, rule_member}
use Rattle.map_edits.specs.Telling.{unmade_data}
use Rattle.map_lists.specs.Faults.{no_form, pointer_of}
use Rattle.map_lists.specs.declared.committing.Outcome.{Outcome}
use Rattle.map_lists.specs.declared.committing.Outcome.TheVariants as outcomes
use Rattle.map_lists.specs.declared.faults.ItemFault.{ItemFault}
use Rattle.map_lists.specs.declared.faults.ListFault.{ListFault}
use Rattle.map_lists.specs.declared.faults.ListFault.TheVariants as faults

-- where in the body the list is, and the change at an index
unfoldable pub list_place : List ℕ
list_place = codes "/changes"

abbrev pub item_place : ℕ → List ℕ
item_place n = list_place ++ index_part n

-- a change that is at fault: as a request to make that change alone
abbrev pub item_data : ℕ → ItemFault → AnswerData
item_data n fault = change_fault_data (item_place n ++ pointer_of fault.part) fault.fault

-- a list that cannot be committed, whatever its changes
abbrev pub unlisted_data : List ℕ → List ℕ → AnswerData
unlisted_data code place = placed_data Unprocessable code place

-- a request at fault
abbrev pub fault_data : ListFault → AnswerData
fault_data faults.Parameter = change_fault_data [] changes.Parameter
fault_data faults.Media = change_fault_data [] changes.Media
fault_data (faults.Unread cause) =
    change_fault_data [] (changes.Feature (fault_at members.Text cause))
fault_data faults.Form = change_fault_data list_place no_form
fault_data faults.Empty = unlisted_data (codes "E7") list_place
fault_data faults.TooMany = unlisted_data (codes "X6") list_place
fault_data (faults.Item n fault) = item_data n fault
fault_data (faults.Twice n) = unlisted_data (codes "X5") (item_place n)

unfoldable pub version_part : ℕ → List ℕ
version_part version = codes "{\"version\":" ++ decimal version

unfoldable pub count_part : ℕ → List ℕ
count_part count = codes ",\"changes\":" ++ decimal count

-- the list was applied: the version that its features have, and how many changes it has
abbrev pub applied_text : ℕ → ℕ → List ℕ
applied_text version count = version_part version ++ count_part count ++ codes "}"

-- the change that fails, counted from 1
unfoldable pub change_member : ℕ → List ℕ
change_member change = codes ",\"change\":" ++ decimal change

-- the policy denies a change: by which rule
abbrev pub denied_data : Option (List ℕ) → ℕ → AnswerData
denied_data rule change =
    detailed_data Forbidden (codes "denied") (rule_member rule ++ change_member change)

-- a change cannot be made of what is there
abbrev pub conflict_data : List ℕ → ℕ → AnswerData
conflict_data code change = detailed_data Conflict code (change_member change)

-- a change names another version than this, which the feature has
abbrev pub stale_data : ℕ → ℕ → AnswerData
stale_data current change =
    detailed_data Conflict (codes "stale") (current_member current ++ change_member change)

-- the answer to a reply to a list of this many changes
abbrev pub reply_data : ℕ → Reply → AnswerData
reply_data count (replies.Applied version) = found Json (applied_text version count)
reply_data count (replies.Denied rule change) = denied_data rule change
reply_data count (replies.Absent change) = conflict_data (codes "absent") change
reply_data count (replies.Exists change) = conflict_data (codes "exists") change
reply_data count (replies.Stale current change) = stale_data current change
reply_data count reply = unmade_data reply

abbrev pub outcome_data : Outcome → AnswerData
outcome_data (outcomes.Fault fault) = fault_data fault
outcome_data (outcomes.Refused refusal) = refusal_data refusal
outcome_data (outcomes.Replied count reply) = reply_data count reply
