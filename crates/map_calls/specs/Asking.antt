-- Questions to the policy in force. A service is known by two things: the subject for whom it asks
-- (`subject_of`), and what each call makes of it (`serves call old new said`).
use Rattle.std.specs.Prelude.{◌≡◌, ℕ, List, Option, Result, Err, MatchOption, MatchResult}
use Rattle.features.specs.declared.actors.Subject.{Subject}
use Rattle.combining.specs.declared.questions.Question.{Question}
use Rattle.session_lines.specs.Replies.{SaidData, line}
use Rattle.session_lines.specs.Services.{Call, Explain}
use Rattle.session_lines.specs.declared.faults.LineFault.TheVariants.{BeforeHello}
use Rattle.session_lines.specs.declared.replies.Reply.{Reply}
use Rattle.session_lines.specs.declared.replies.Reply.TheVariants.{Error}
use Rattle.map_questions.specs.Askings.{Tells, asking_of}
use Rattle.map_questions.specs.Calls.{CallData}
use Rattle.map_questions.specs.declared.askings.Asking.{Asking}
use Rattle.map_questions.specs.declared.faults.AskingFault.{AskingFault}
use Rattle.map_sessions.specs.Finding.{Greets}
use Rattle.map_sessions.specs.Visiting.{Place, unasked}
use Rattle.map_sessions.specs.declared.refusals.Refusal.{Refusal}
use Rattle.map_sessions.specs.declared.refusals.Refusal.TheVariants.{Said}
use Rattle.map_calls.specs.declared.outcomes.CallFault.TheVariants as faults
use Rattle.map_calls.specs.declared.outcomes.Outcome.{Outcome}
use Rattle.map_calls.specs.declared.outcomes.Outcome.TheVariants as outcomes

-- the session asks for who asks; it is not touched where that is nobody
abbrev pub Opens : {S : Type 0} → (S → Option Subject) → (Call → S → S → SaidData → Type 0)
    → Place → Option (List ℕ) → S → S → Result (Unit {0}) Refusal → Type 0
Opens subject_of serves place asker old new opening =
    MatchOption asker ((new ≡ old) × (opening ≡ Err (unasked place)))
    (λ asker. Greets subject_of serves asker old new opening)

-- what a subject asks
abbrev pub question_of : Subject → Asking → Question
question_of subject asking = record {
  subject = subject;
  action = asking.action;
  owner = asking.office;
  class = asking.class;
  shape = asking.shape;
}

-- the policy is asked for the session's subject, and this is its reply; a session without a subject
-- asks nothing
abbrev pub Asks : {S : Type 0} → (S → Option Subject) → (Call → S → S → SaidData → Type 0)
    → Asking → S → S → Outcome → Type 0
Asks subject_of serves asking old new outcome =
    MatchOption (subject_of old)
    ((new ≡ old) × (outcome ≡ outcomes.Refused (Said (Error BeforeHello))))
    (λ subject. (reply : Reply) × serves (Explain (question_of subject asking)) old new (line reply)
    × (outcome ≡ outcomes.Ruled reply))

-- the session asks for who asks, and then the policy; it is not asked where the session does not
-- begin
abbrev pub AsksFor : {S : Type 0} → (S → Option Subject) → (Call → S → S → SaidData → Type 0)
    → Place → Option (List ℕ) → Asking → S → S → Outcome → Type 0
AsksFor {S = S} subject_of serves place asker asking old new outcome =
    (mid : S) × (opening : Result (Unit {0}) Refusal)
    × Opens subject_of serves place asker old mid opening
    × MatchResult opening (λ begun. Asks subject_of serves asking mid new outcome)
    (λ refusal. (new ≡ mid) × (outcome ≡ outcomes.Refused refusal))

-- what the query asks is asked of the policy; of one at fault nothing is
abbrev pub Explains : {S : Type 0} → (S → Option Subject) → (Call → S → S → SaidData → Type 0)
    → Place → Option (List ℕ) → CallData → S → S → Outcome → Type 0
Explains subject_of serves place asker request old new outcome =
    (reading : Result Asking AskingFault)
    × Tells reading (asking_of place.grid request.query)
    × MatchResult reading
    (λ asking. AsksFor subject_of serves place asker asking old new outcome)
    (λ fault. (new ≡ old) × (outcome ≡ outcomes.Fault (faults.Asking fault)))
