-- Replies, as values.
use Rattle.std.specs.Prelude.{ℕ, Bool, true, false, List, Option, None, Some, Result, Ok, Err}
use Rattle.policy_documents.specs.Documents.{rule_named}
use Rattle.policy_text.specs.declared.faults.TextFault.{TextFault}
use Rattle.policy_text.specs.declared.faults.TextFault.TheVariants as unread
use Rattle.decision.specs.Deciders.{DeciderData}
use Rattle.decision.specs.declared.rulings.Ruling.{Ruling}
use Rattle.decision.specs.declared.rulings.Ruling.TheVariants as rulings
use Rattle.judging.specs.declared.causes.Cause.{Cause}
use Rattle.judging.specs.declared.causes.Cause.TheVariants as causes
use Rattle.std.specs.Arc.{arc_value}
use Rattle.plain_world.specs.Answers.{AnswerData, DenialData}
use Rattle.plain_world.specs.Rolls.{RolledData}
use Rattle.plain_world.specs.declared.faults.Fault.{Fault as WorldFault}
use Rattle.plain_world.specs.declared.faults.Fault.TheVariants as refusals
use Rattle.tree_answers.specs.declared.fault.TreeFault.TheVariants as tree
use Rattle.plain_world.specs.declared.outcomes.Outcome.{Outcome}
use Rattle.plain_world.specs.declared.outcomes.Outcome.TheVariants as outcomes
use Rattle.tree_answers.specs.declared.answers.Visit.{Visit}
use Rattle.tree_answers.specs.declared.answers.Visit.TheVariants as visits
use Rattle.session_lines.specs.declared.faults.LineFault.TheVariants.{NoSubject, NoPlace}
use Rattle.session_lines.specs.declared.replies.Reply.{Reply}
use Rattle.session_lines.specs.declared.replies.Reply.TheVariants.{Applied, Denied, Absent, Exists, Stale, Held, More, Ready, Permitted, Forbidden, Memory, Error, Unread, Failed}
use Rattle.session_lines.specs.declared.replies.Said.{Said}
use Rattle.session_lines.specs.declared.replies.Said.TheVariants as code

-- a reply: one line; rows, with their number; the lines of a trail that was taken out, with their
-- number
pub data SaidData : Type 0 where
  line : Reply → SaidData
  rows : AnswerData → SaidData
  rolled : RolledData → SaidData

abbrev pub said_view : {A : Type 0} → Said A → SaidData
said_view (code.Line reply) = line reply
said_view (code.Rows answer) = rows answer
said_view (code.Rolled piece) = rolled (arc_value piece)

-- the list was judged, so the session's staged list is dropped
abbrev pub ends_list : Reply → Bool
ends_list (Applied version) = true
ends_list (Denied rule change) = true
ends_list (Absent change) = true
ends_list (Exists change) = true
ends_list (Stale current change) = true
ends_list _ = false

-- the reply to a call that the world refuses
abbrev pub fault_reply : WorldFault → Reply
fault_reply (refusals.Memory refused) = Memory refused
fault_reply (refusals.Tree (tree.Memory refused)) = Memory refused
fault_reply (refusals.Tree (tree.Held search)) = Held
fault_reply refusals.NoSubject = Error NoSubject
fault_reply refusals.NoPlace = Error NoPlace
fault_reply other = Failed other

-- the reply to a text that is no document
abbrev pub policy_reply : TextFault → Reply
policy_reply (unread.Memory refused) = Memory refused
policy_reply other = Unread other

-- the name of a rule of a decider's document, if there is such a rule
abbrev pub name_of_rule : DeciderData → Option ℕ → Option (List ℕ)
name_of_rule decider None = None
name_of_rule decider (Some rule) = rule_named rule decider.document.root

-- the name of the rule by which a denial denies
abbrev pub denial_rule : Option DenialData → Option (List ℕ)
denial_rule None = None
denial_rule (Some denial) = name_of_rule denial.decider denial.rule

-- the reply to a list that was rejected
abbrev pub refusal_reply : Cause → ℕ → Option DenialData → Reply
refusal_reply (causes.Denied rule) change denial = Denied (denial_rule denial) change
refusal_reply causes.Exists change denial = Exists change
refusal_reply causes.Absent change denial = Absent change
refusal_reply (causes.Stale current) change denial = Stale current change

abbrev pub outcome_reply : Outcome → Reply
outcome_reply (outcomes.Applied version) = Applied version
outcome_reply (outcomes.Refused refusal denial) = refusal_reply refusal.cause refusal.change denial

-- the reply to EXPLAIN
abbrev pub ruling_reply : DeciderData → Ruling → Reply
ruling_reply decider (rulings.Permit rule) = Permitted (name_of_rule decider rule) decider.edition
ruling_reply decider (rulings.DeniedBy rule) =
    Forbidden (name_of_rule decider (Some rule)) decider.edition
ruling_reply decider rulings.NoneApplied = Forbidden None decider.edition

-- the reply to STEP
abbrev pub visit_reply : Visit → Reply
visit_reply visits.More = More
visit_reply visits.Ready = Ready

-- the reply to a call of the world: its value as `show` has it, or its refusal
abbrev pub told : {T : Type 0} → (T → SaidData) → Result T WorldFault → SaidData
told show (Ok value) = show value
told show (Err fault) = line (fault_reply fault)
