-- What a line of a script makes of its sessions and their world, in worlds of any kind; and the
-- script text, the replies to a list of lines over a plain world.
use Rattle.std.specs.Prelude.{◌≡◌, ℕ, ◌+◌, ◌==◌, Bool, true, false, drop, nat_eq, nat_lt, List, [], ◌∷◌, ◌++◌, codes, length, slice_index_or, slice_set, Option, None, Some, MatchOption, Result, MatchResult, if◌then◌else◌}
use Rattle.std.specs.Bool.{MatchBool}
use Rattle.std.specs.Cmp.Lexicographic.{pointwise}
use Rattle.plane.specs.declared.point.Point.{Point}
use Rattle.features.specs.Names.{name_of}
use Rattle.features.specs.declared.actors.Subject.{Subject}
use Rattle.plain_world.specs.declared.faults.Fault.{Fault as WorldFault}
use Rattle.tree_answers.specs.declared.answers.Visit.{Visit}
use Rattle.plain_world.specs.Answers.{AnswerData}
use Rattle.plain_world.specs.Events.{OpenSearch, Happens, Number, Rows, reply_of}
use Rattle.session_lines.specs.declared.faults.LineFault.TheVariants.{BeforeHello, LineTooLong, NoLabel}
use Rattle.session_lines.specs.declared.replies.Reply.{Reply}
use Rattle.session_lines.specs.declared.replies.Reply.TheVariants.{Error, Opened}
use Rattle.scripts.specs.declared.stepping.StepCommand.{StepCommand}
use Rattle.scripts.specs.declared.stepping.StepCommand.TheVariants as commands
use Rattle.scripts.specs.declared.stepping.StepVerb.{StepVerb}
use Rattle.session_lines.specs.Desks.{Answers, Desk, desk}
use Rattle.session_lines.specs.Services.{Call}
use Rattle.line_streams.specs.Lines.{is_too_long, lines_of}
use Rattle.line_words.specs.Labels.{parts_of}
use Rattle.session_lines.specs.Printed.{led, reply_text, said_text}
use Rattle.session_lines.specs.Replies.{SaidData, line, rows, told, visit_reply}
use Rattle.scripts.specs.Services.{ServesCall, solo_subject}
use Rattle.scripts.specs.Stepping.{AllDrop, Drops, FinishesLine, GoesOn, finished_as, opened_as, step_command_at, step_verb_at, stepped_as}
use Rattle.scripts.specs.States.{SessionIn, SessionState, SoloIn, session_in, solo}
use Rattle.plain_world.specs.States.{WorldData}
use Rattle.line_streams.specs.Streams.{LinesTell}
use Rattle.scripts.specs.declared.scripts.TheConstants.{LABEL_LIMIT}

-- How worlds of one kind serve sessions: for whom a session asks, and what each call makes of its
-- world and its seat; what OPEN, STEP (with at most `most` visits) and FINISH make of the world;
-- and what it is to drop a session's open search.
pub record Manner (W : Type 0) : Type 1 where
  pub subject_of : SoloIn W → Option Subject
  pub serves : Call → SoloIn W → SoloIn W → SaidData → Type 0
  pub opens : (seat : ℕ) (window : List Point) (old new : W) (end : Result ℕ WorldFault) → Type 0
  pub goes_on : (seat number most : ℕ) (old new : W) (end : Result Visit WorldFault) → Type 0
  pub finishes : (seat number : ℕ) (old new : W) (end : Result AnswerData WorldFault) → Type 0
  pub drops : (seat number : Option ℕ) (old new : W) → Type 0

-- a world, and the sessions in the order in which their labels came
pub record Script (W : Type 0) : Type 0 where
  pub world : W
  pub sessions : List SessionState

abbrev pub script : {W : Type 0} → W → List SessionState → Script W
script world sessions = record { world = world; sessions = sessions }

-- a session before HELLO
abbrev pub fresh : List ℕ → SessionState
fresh label = record { label = label; seat = None; search = None; staged = [] }

-- a session, served by its world
abbrev pub desk_of : {W : Type 0} → SessionIn W → Desk (SoloIn W)
desk_of s = desk s.session.staged (solo s.world s.session.seat)

-- an empty line, or a comment
abbrev pub is_skipped : List ℕ → Bool
is_skipped [] = true
is_skipped (b ∷ bs) = b == 35

-- the place of the label's session; the number of sessions if there is none
abbrev pub place : List ℕ → List SessionState → ℕ
place label [] = 0
place label (session ∷ sessions) =
    if pointwise nat_eq session.label label then 0 else place label sessions + 1

-- the sessions, with a fresh one for the label if it had none
abbrev pub with_label : List ℕ → List SessionState → List SessionState
with_label label sessions = if place label sessions == length sessions then
    sessions ++ fresh label ∷ [] else sessions

-- a fault of the line itself, which belongs to no session
abbrev pub IsRefused : {W : Type 0} → List ℕ → Script W → Script W → List ℕ → Type 0
IsRefused text old new said = (new ≡ old) × (said ≡ led (codes "?") text)

-- a session had a seat, and still has it
abbrev pub keeps_seat : Option ℕ → Option ℕ → Bool
keeps_seat (Some before) (Some after) = before == after
keeps_seat before after = false

-- any line but OPEN, STEP and FINISH; the open search is dropped unless the session keeps its seat
abbrev pub TakesPlain : {W : Type 0} → Manner W → List ℕ → SessionIn W → SessionIn W → SaidData
    → Type 0
TakesPlain {W = W} how text old new said =
    (mid : W) × Answers how.subject_of how.serves text (desk_of old)
    (desk_of (session_in new.session mid)) said
    × MatchBool (keeps_seat old.session.seat new.session.seat)
    ((new.session.search ≡ old.session.search) × (new.world ≡ mid))
    ((new.session.search ≡ None) × how.drops old.session.seat old.session.search mid new.world)

-- nothing changes, and the reply is `due`
abbrev pub OnlyTells : {W : Type 0} → Reply → SessionIn W → SessionIn W → SaidData → Type 0
OnlyTells due old new said = (new ≡ old) × (said ≡ line due)

-- OPEN
abbrev pub Opens : {W : Type 0} → Manner W → ℕ → List Point → SessionIn W → SessionIn W → SaidData
    → Type 0
Opens how seat window old new said =
    (end : Result ℕ WorldFault) × how.opens seat window old.world new.world end
    × (new.session ≡ record old.session { search = opened_as end })
    × (said ≡ told (λ number. line Opened) end)

-- STEP, of the search that is open
abbrev pub Steps : {W : Type 0} → Manner W → ℕ → ℕ → ℕ → SessionIn W → SessionIn W → SaidData
    → Type 0
Steps how seat search count old new said =
    (end : Result Visit WorldFault) × how.goes_on seat search count old.world new.world end
    × (new.session ≡ record old.session { search = stepped_as end search })
    × (said ≡ told (λ visit. line (visit_reply visit)) end)

-- FINISH, of the search that is open
abbrev pub Ends : {W : Type 0} → Manner W → ℕ → ℕ → SessionIn W → SessionIn W → SaidData → Type 0
Ends how seat search old new said =
    (end : Result AnswerData WorldFault) × how.finishes seat search old.world new.world end
    × (new.session ≡ record old.session { search = finished_as end search })
    × (said ≡ told rows end)

-- what OPEN, STEP or FINISH makes of a session with this seat, and what is said
abbrev pub ObeysStep : {W : Type 0} → Manner W → ℕ → StepCommand → SessionIn W → SessionIn W
    → SaidData → Type 0
ObeysStep how seat (commands.Open window) old new said = Opens how seat window old new said
ObeysStep how seat (commands.Step search count) old new said =
    Steps how seat search count old new said
ObeysStep how seat (commands.Finish search) old new said = Ends how seat search old new said

-- a line OPEN, STEP or FINISH
abbrev pub TakesStep : {W : Type 0} → Manner W → StepVerb → List ℕ → SessionIn W → SessionIn W
    → SaidData → Type 0
TakesStep how verb text old new said =
    MatchOption old.session.seat (OnlyTells (Error BeforeHello) old new said) (λ seat.
    MatchResult (step_command_at old.session.search verb text)
    (λ command. ObeysStep how seat command old new said)
    (λ fault. OnlyTells (Error fault) old new said))

-- a line of a session of the script; after BYE its label stands for a new session
abbrev pub SessionAnswers : {W : Type 0} → Manner W → List ℕ → SessionIn W → SessionIn W → SaidData
    → Type 0
SessionAnswers how text old new said =
    (new.session.label ≡ old.session.label)
    × MatchOption (step_verb_at text) (TakesPlain how text old new said)
    (λ verb. TakesStep how verb.0 verb.1 old new said)

-- the session of a label answers the text after it
pub record SessionTells {W : Type 0} (how : Manner W) (label text : List ℕ) (old new : Script W)
    (said : List ℕ) : Type 0 where
  pub session : SessionState
  pub reply : SaidData
  pub answers : SessionAnswers how text
      (session_in (slice_index_or (with_label label old.sessions) (place label old.sessions)
      (fresh label)) old.world) (session_in session new.world) reply
  pub stays : new.sessions ≡ slice_set (with_label label old.sessions) (place label old.sessions)
      session
  pub shows : said ≡ said_text label reply

-- a script has at most 64 labels
abbrev pub LabelTells : {W : Type 0} → Manner W → List ℕ → List ℕ → Script W → Script W → List ℕ
    → Type 0
LabelTells how label text old new said =
    MatchBool (nat_lt (place label old.sessions) LABEL_LIMIT)
    (SessionTells how label text old new said)
    (IsRefused (reply_text (Error NoLabel)) old new said)

-- the reply to a line, and what the line leaves, in worlds that serve in this manner
abbrev pub LineTellsIn : {W : Type 0} → Manner W → List ℕ → Script W → Script W → List ℕ → Type 0
LineTellsIn how text old new said =
    MatchBool (is_too_long text) (IsRefused (reply_text (Error LineTooLong)) old new said)
    (MatchBool (is_skipped text) ((new ≡ old) × (said ≡ []))
    (MatchOption (parts_of text) (IsRefused (reply_text (Error NoLabel)) old new said)
    (λ parts. MatchOption (name_of parts.0) (IsRefused (reply_text (Error NoLabel)) old new said)
    (λ label. LabelTells how label parts.1 old new said))))

-- how a plain world serves
abbrev pub plainly : Manner WorldData
plainly =
    record {
      subject_of = solo_subject;
      serves = ServesCall;
      opens = λ seat window old new end. Happens (OpenSearch seat window) old new
          (reply_of Number end);
      goes_on = GoesOn;
      finishes = λ seat number old new end. FinishesLine seat number old new (reply_of Rows end);
      drops = Drops;
    }

-- the reply to a line, and what the line leaves, over a plain world
abbrev pub LineTells : List ℕ → Script WorldData → Script WorldData → List ℕ → Type 0
LineTells text old new said = LineTellsIn plainly text old new said

-- the replies to lines, one after another
abbrev pub Tells : Script WorldData → List (List ℕ) → Script WorldData → List ℕ → Type 0
Tells old lines new text = LinesTell LineTells old lines new text

-- The script text of an input, from one world to another. It fixes each reply if the world was at
-- rest at the beginning, as one that has just been opened is. Searches that are open after the last
-- line are dropped.
pub record IsScriptText (world : WorldData) (input : List ℕ) (end : WorldData)
    (text : List ℕ) : Type 0 where
  pub sessions : List SessionState
  pub last : WorldData
  pub tells : Tells (script world []) (lines_of input) (script last sessions) text
  pub drops : AllDrop sessions last end
