-- What a session's line does, over any service. A service is known by two things: the subject for
-- whom the session asks (`subject_of`), and what each call makes of it (`serves call old new
-- said`).
use Rattle.std.specs.Prelude.{◌≡◌, ◌≢◌, ◌⊎◌, ◌==◌, ℕ, nat_le, Bool, true, false, is_some, List, [], ◌∷◌, ◌++◌, length, Option, MatchOption, MatchResult, if◌then◌else◌}
use Rattle.std.specs.Bool.{MatchBool}
use Rattle.memory.specs.declared.no_memory.NoMemory.{NoMemory}
use Rattle.features.specs.declared.actors.Subject.{Subject}
use Rattle.features.specs.declared.rows.Change.{Change}
use Rattle.features.specs.Changes.{change_id}
use Rattle.policy_text.specs.Bytes.{document_of_bytes}
use Rattle.combining.specs.declared.questions.Question.{Question}
use Rattle.plain_world.specs.declared.faults.Fault.TheVariants as refusals
use Rattle.plain_world.specs.declared.settings.TheConstants.{CHANGE_LIMIT}
use Rattle.plain_world.specs.Staging.{names}
use Rattle.session_lines.specs.declared.commands.Asking.{Asking}
use Rattle.session_lines.specs.declared.commands.Command.{Command}
use Rattle.session_lines.specs.declared.commands.Command.TheVariants as commands
use Rattle.session_lines.specs.declared.commands.Verb.{Verb}
use Rattle.session_lines.specs.declared.commands.Verb.TheVariants as verbs
use Rattle.session_lines.specs.declared.faults.LineFault.TheVariants.{BeforeHello, NothingStaged}
use Rattle.session_lines.specs.declared.replies.Reply.{Reply}
use Rattle.session_lines.specs.declared.replies.Reply.TheVariants.{Staged, Aborted, Error, Failed, Memory}
use Rattle.session_lines.specs.Commands.{verb_for, arguments_at}
use Rattle.session_lines.specs.Replies.{SaidData, line, ends_list, policy_reply}
use Rattle.session_lines.specs.Services.{Call, Hello, Search, Commit, Govern, Explain, Roll, Leave}

-- a session and its service: the staged changes, and the state of the service
pub record Desk (S : Type 0) : Type 0 where
  pub staged : List Change
  pub service : S

abbrev pub desk : {S : Type 0} → List Change → S → Desk S
desk staged service = record { staged = staged; service = service }

-- nothing changes, and the reply is `due`
abbrev pub OnlySays : {S : Type 0} → Reply → Desk S → Desk S → SaidData → Type 0
OnlySays due old new said = (new ≡ old) × (said ≡ line due)

-- stages one more change, if there is room and no staged change names its feature
abbrev pub staged_with : Change → List Change → List Change × Reply
staged_with change staged =
    if nat_le CHANGE_LIMIT (length staged) then (staged, Failed refusals.TooManyChanges)
    else if names (change_id change) staged then (staged, Failed refusals.NamedTwice)
    else (staged ++ change ∷ [], Staged)

abbrev pub is_judged : SaidData → Bool
is_judged (line reply) = ends_list reply
is_judged _ = false

-- the staged list after COMMIT with this reply: empty if it was judged, else unchanged
abbrev pub left_of : SaidData → List Change → List Change
left_of said staged = if is_judged said then [] else staged

-- EXPLAIN's question, for this subject
abbrev pub question_of : Subject → Asking → Question
question_of subject asking = record {
  subject = subject;
  action = asking.action;
  owner = asking.owner;
  class = asking.class;
  shape = asking.shape;
}

-- a session's COMMIT
abbrev pub Closes : {S : Type 0} → (Call → S → S → SaidData → Type 0) → Desk S → Desk S → SaidData
    → Type 0
Closes serves old new said =
    MatchBool (length old.staged == 0) (OnlySays (Error NothingStaged) old new said)
    ((new.staged ≡ left_of said old.staged)
    × serves (Commit old.staged) old.service new.service said)

-- A session's EXPLAIN. No line leads here before HELLO, since `verb_for` refuses it.
abbrev pub Asks : {S : Type 0} → (S → Option Subject) → (Call → S → S → SaidData → Type 0) → Asking
    → Desk S → Desk S → SaidData → Type 0
Asks subject_of serves asking old new said =
    MatchOption (subject_of old.service) (OnlySays (Error BeforeHello) old new said)
    (λ subject. (new.staged ≡ old.staged)
    × serves (Explain (question_of subject asking)) old.service new.service said)

-- Reading a text that is not empty ran out of memory: nothing changes.
abbrev pub FindsNoMemory : {S : Type 0} → List ℕ → Desk S → Desk S → SaidData → Type 0
FindsNoMemory text old new said =
    (text ≢ []) × (refusal : NoMemory) × OnlySays (Memory refusal) old new said

-- A session's POLICY: the document that a text spells is put in force; the reply to any other text
-- is its first fault.
abbrev pub GovernsLine : {S : Type 0} → (Call → S → S → SaidData → Type 0) → List ℕ → Desk S
    → Desk S → SaidData → Type 0
GovernsLine serves text old new said =
    FindsNoMemory text old new said
    ⊎ MatchResult (document_of_bytes text)
    (λ document. (new.staged ≡ old.staged) × serves (Govern document) old.service new.service said)
    (λ fault. OnlySays (policy_reply fault) old new said)

-- what a command makes of its session and the service, and what is said
abbrev pub Obeys : {S : Type 0} → (S → Option Subject) → (Call → S → S → SaidData → Type 0)
    → Command → Desk S → Desk S → SaidData → Type 0
Obeys subject_of serves (commands.Hello name) old new said =
    (new.staged ≡ old.staged) × serves (Hello name) old.service new.service said
Obeys subject_of serves (commands.Search window) old new said =
    (new.staged ≡ old.staged) × serves (Search window) old.service new.service said
Obeys subject_of serves (commands.Stage change) old new said =
    (new.service ≡ old.service) × (reply : Reply) × (said ≡ line reply)
    × ((new.staged, reply) ≡ staged_with change old.staged)
Obeys subject_of serves commands.Commit old new said = Closes serves old new said
Obeys subject_of serves commands.Abort old new said =
    (new ≡ record old { staged = [] }) × (said ≡ line Aborted)
Obeys subject_of serves (commands.Explain asking) old new said =
    Asks subject_of serves asking old new said
Obeys subject_of serves commands.Roll old new said =
    (new.staged ≡ old.staged) × serves Roll old.service new.service said
Obeys subject_of serves commands.Bye old new said =
    (new.staged ≡ []) × serves Leave old.service new.service said

abbrev pub is_policy : Verb → Bool
is_policy verbs.Policy = true
is_policy _ = false

-- a line with this command; the rest of the line is the text of POLICY, and the words of any other
abbrev pub Does : {S : Type 0} → (S → Option Subject) → (Call → S → S → SaidData → Type 0) → Verb
    → List ℕ → Desk S → Desk S → SaidData → Type 0
Does subject_of serves verb text old new said =
    MatchBool (is_policy verb) (GovernsLine serves text old new said)
    (MatchResult (arguments_at verb text) (λ command. Obeys subject_of serves command old new said)
    (λ fault. OnlySays (Error fault) old new said))

-- what a session's line, without its label, makes of the session and the service, and what is said
abbrev pub Answers : {S : Type 0} → (S → Option Subject) → (Call → S → S → SaidData → Type 0)
    → List ℕ → Desk S → Desk S → SaidData → Type 0
Answers subject_of serves text old new said =
    MatchResult (verb_for (is_some (subject_of old.service)) text)
    (λ verb. Does subject_of serves verb.0 verb.1 old new said)
    (λ fault. OnlySays (Error fault) old new said)
