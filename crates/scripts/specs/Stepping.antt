-- OPEN, STEP and FINISH, which scripts alone know: searches that go step by step.
use Rattle.std.specs.Prelude.{◌≡◌, ◌⊎◌, ℕ, ◌<◌, ◌&&◌, zero, suc, nat_le, List, [], ◌∷◌, codes, Option, None, Some, MatchOption, Result, Ok, Err, if◌then◌else◌}
use Rattle.std.specs.Bool.{MatchBool}
use Rattle.std.specs.Str.{bytes_eq}
use Rattle.plain_world.specs.declared.faults.Fault.{Fault as WorldFault}
use Rattle.plain_world.specs.declared.faults.Fault.TheVariants as refusals
use Rattle.tree_answers.specs.declared.fault.TreeFault.TheVariants as tree
use Rattle.plain_world.specs.declared.settings.TheConstants.{STEP_LIMIT}
use Rattle.tree_answers.specs.declared.answers.Visit.{Visit}
use Rattle.tree_answers.specs.declared.answers.Visit.TheVariants as visits
use Rattle.plain_world.specs.Events.{VisitNext, Finish, DropSearch, Happens, Reply as EventReply, Visited, Failed, reply_of}
use Rattle.plain_world.specs.States.{WorldData}
use Rattle.plain_world.specs.declared.open_searches.Search.{Search}
use Rattle.world.specs.Index.{Index}
use Rattle.world.specs.Stepping.{VisitsIndex}
use Rattle.session_lines.specs.declared.faults.LineFault.{LineFault}
use Rattle.session_lines.specs.declared.faults.LineFault.TheVariants.{Number, OutOfTurn}
use Rattle.scripts.specs.declared.stepping.StepCommand.{StepCommand}
use Rattle.scripts.specs.declared.stepping.StepCommand.TheVariants as commands
use Rattle.scripts.specs.declared.stepping.StepVerb.{StepVerb}
use Rattle.scripts.specs.declared.stepping.StepVerb.TheVariants as verbs
use Rattle.session_lines.specs.Commands.{◌>>=◌, end_at, or_fault, shape_at, word_at}
use Rattle.scripts.specs.Services.{is_overrun_reply}
use Rattle.scripts.specs.States.{SessionState}
use Rattle.line_words.specs.Words.{next_word, number_of}

-- What a line asks.

-- the command that a word names, of those that scripts alone know
abbrev pub step_verb_of : List ℕ → Option StepVerb
step_verb_of word =
    if bytes_eq word (codes "OPEN") then Some verbs.Open
    else if bytes_eq word (codes "STEP") then Some verbs.Step
    else if bytes_eq word (codes "FINISH") then Some verbs.Finish
    else None

abbrev pub with_rest : List ℕ → Option StepVerb → Option (StepVerb × List ℕ)
with_rest rest None = None
with_rest rest (Some verb) = Some (verb, rest)

abbrev pub of_word : Option (List ℕ × List ℕ) → Option (StepVerb × List ℕ)
of_word None = None
of_word (Some word) = with_rest word.1 (step_verb_of word.0)

-- the command that a line begins with, if it is one of these, and the rest of the line
unfoldable pub step_verb_at : List ℕ → Option (StepVerb × List ℕ)
step_verb_at text = of_word (next_word text)

-- a number of steps: 1 to 1,000,000
abbrev pub step_count : ℕ → Result ℕ LineFault
step_count number = if nat_le 1 number && nat_le number STEP_LIMIT then Ok number else Err Number

-- the words of STEP
unfoldable pub count_at : List ℕ → Result ℕ LineFault
count_at text = do
  word ← word_at text
  number ← or_fault Number (number_of word.0)
  count ← step_count number
  _ ← end_at word.1
  Ok count

-- the command, for a session with this open search or with none: OPEN where none is open, STEP and
-- FINISH where one is
unfoldable pub step_command_at : Option ℕ → StepVerb → List ℕ → Result StepCommand LineFault
step_command_at None verbs.Open text = shape_at text >>= λ window. Ok (commands.Open window)
step_command_at (Some search) verbs.Step text =
    count_at text >>= λ count. Ok (commands.Step search count)
step_command_at (Some search) verbs.Finish text = end_at text >>= λ _. Ok (commands.Finish search)
step_command_at search verb text = Err OutOfTurn

-- The events.

-- `count` visits of a search, each of which finds more to see
abbrev pub FindsMore : ℕ → ℕ → ℕ → WorldData → WorldData → Type 0
FindsMore seat number zero old new = new ≡ old
FindsMore seat number (suc count) old new =
    (mid : WorldData) × FindsMore seat number count old mid
    × Happens (VisitNext seat number) mid new (Visited visits.More)

-- At most `most` visits of a search. All of them find more to see; or the first that does not is
-- the last, and then the search is ready or the visit is refused.
abbrev pub GoesOn : ℕ → ℕ → ℕ → WorldData → WorldData → Result Visit WorldFault → Type 0
GoesOn seat number most old new (Ok visits.More) = FindsMore seat number most old new
GoesOn seat number most old new end =
    (before : ℕ) × (mid : WorldData) × (before < most) × FindsMore seat number before old mid
    × Happens (VisitNext seat number) mid new (reply_of Visited end)

-- the same in the index; `may` says whether the search may go on
abbrev pub SeesMore : Result Search WorldFault → ℕ → ℕ → Index → Index → Type 0
SeesMore may number zero old new = new ≡ old
SeesMore may number (suc count) old new =
    (mid : Index) × SeesMore may number count old mid
    × VisitsIndex may number mid new (Ok visits.More)

abbrev pub VisitsOn : Result Search WorldFault → ℕ → ℕ → Index → Index → Result Visit WorldFault
    → Type 0
VisitsOn may number most old new (Ok visits.More) = SeesMore may number most old new
VisitsOn may number most old new end =
    (before : ℕ) × (mid : Index) × (before < most) × SeesMore may number before old mid
    × VisitsIndex may number mid new end

-- A search goes on until it is ready, and is finished; or a visit is refused before. (Visits that
-- find more to see leave the world unchanged.) Or visits find more to see without end, and then the
-- reply is S7.
abbrev pub Seeks : ℕ → ℕ → WorldData → WorldData → EventReply → Type 0
Seeks seat number old new reply =
    ((fault : WorldFault) × Happens (VisitNext seat number) old new (Failed fault)
    × (reply ≡ Failed fault))
    ⊎ (((mid : WorldData) × Happens (VisitNext seat number) old mid (Visited visits.Ready)
    × Happens (Finish seat number) mid new reply)
    ⊎ (Happens (VisitNext seat number) old old (Visited visits.More) × (new ≡ old)
    × (reply ≡ Failed (refusals.Tree tree.Overrun))))

-- an open search goes on until it is finished or refused; after S7 it is dropped, after any other
-- fault it stays open
abbrev pub FinishesLine : ℕ → ℕ → WorldData → WorldData → EventReply → Type 0
FinishesLine seat number old new reply =
    (mid : WorldData) × Seeks seat number old mid reply
    × MatchBool (is_overrun_reply reply) ((end : EventReply)
    × Happens (DropSearch seat number) mid new end) (new ≡ mid)

-- the open search of a session with this seat is dropped; nothing is done if it lacks either
abbrev pub Drops : Option ℕ → Option ℕ → WorldData → WorldData → Type 0
Drops at number_open old new =
    MatchOption at (new ≡ old) (λ seat.
    MatchOption number_open (new ≡ old) (λ number. (end : EventReply)
    × Happens (DropSearch seat number) old new end))

-- `Ends` holds for each of these sessions, one after another
abbrev pub AllEnd : {W : Type 0} → (Option ℕ → Option ℕ → W → W → Type 0) → List SessionState → W
    → W → Type 0
AllEnd Ends [] old new = new ≡ old
AllEnd {W = W} Ends (session ∷ sessions) old new = (mid : W)
    × Ends session.seat session.search old mid × AllEnd Ends sessions mid new

-- the open searches of all these sessions are dropped, one after another
abbrev pub AllDrop : List SessionState → WorldData → WorldData → Type 0
AllDrop sessions old new = AllEnd Drops sessions old new

-- What the session has open afterwards.

abbrev pub opened_as : Result ℕ WorldFault → Option ℕ
opened_as (Ok number) = Some number
opened_as (Err fault) = None

-- after S7 the search is no longer open
abbrev pub left_open : WorldFault → ℕ → Option ℕ
left_open (refusals.Tree tree.Overrun) number = None
left_open fault number = Some number

abbrev pub stepped_as : {T : Type 0} → Result T WorldFault → ℕ → Option ℕ
stepped_as (Ok visit) number = Some number
stepped_as (Err fault) number = left_open fault number

abbrev pub finished_as : {T : Type 0} → Result T WorldFault → ℕ → Option ℕ
finished_as (Ok answer) number = None
finished_as (Err fault) number = left_open fault number
