-- Replies to calls of a hall and of a view.
use Rattle.std.specs.Prelude.{ℕ, List, Option, Result, Ok, Err}
use Rattle.decision.specs.declared.rulings.Ruling.{Ruling}
use Rattle.decision.specs.declared.rulings.Ruling.TheVariants.{Permit, DeniedBy, NoneApplied}
use Rattle.published_policies.specs.declared.explaining.Explained.{Explained}
use Rattle.hall.specs.declared.faults.HallFault.{HallFault}
use Rattle.hall.specs.declared.faults.HallFault.TheVariants as halls
use Rattle.session_lines.specs.declared.faults.LineFault.TheVariants as faults
use Rattle.session_lines.specs.declared.replies.Reply.{Reply}
use Rattle.session_lines.specs.declared.replies.Reply.TheVariants.{Held, Memory, Error, Permitted, Forbidden}
use Rattle.session_lines.specs.Replies.{SaidData, line, fault_reply}

-- the reply to a call that the hall refuses
abbrev pub hall_reply : HallFault → Reply
hall_reply halls.NoSubject = Error faults.NoSubject
hall_reply halls.NoPlace = Error faults.NoPlace
hall_reply halls.Closed = Error faults.Closed
hall_reply halls.Held = Held
hall_reply (halls.Core refusal) = fault_reply refusal
hall_reply (halls.Memory refusal) = Memory refusal
hall_reply halls.NotRead = Error faults.NotRead

-- the reply to a question with this ruling, by the rule of this name, at this edition
abbrev pub ruled : Ruling → Option (List ℕ) → ℕ → Reply
ruled (Permit number) rule edition = Permitted rule edition
ruled (DeniedBy number) rule edition = Forbidden rule edition
ruled NoneApplied rule edition = Forbidden rule edition

-- the reply to a question that a view has explained
abbrev pub explained_reply : Explained → Reply
explained_reply explained = ruled explained.ruling explained.rule explained.edition

-- the reply to a call: its value as `show` has it, or its refusal
abbrev pub hall_told : {T : Type 0} → (T → SaidData) → Result T HallFault → SaidData
hall_told show (Ok value) = show value
hall_told show (Err fault) = line (hall_reply fault)
