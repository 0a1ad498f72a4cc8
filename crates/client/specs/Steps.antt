-- The effect of one line, one reply and one turn on what a talk sees.
use Rattle.std.specs.Prelude.{◌≡◌, ◌≢◌, ◌⊎◌, ◌↔◌, ℕ, Bool, List, [], ◌++◌, length, IsTrue, Option, Result, Ok, Err, codes}
use Rattle.std.specs.Io.KnownBytes.{Appends, IsAtEnd}
use Rattle.line_streams.specs.Streams.{IsLine, fed}
use Rattle.client.specs.Ends.{EndsBy, EndsWell}
use Rattle.client.specs.Replies.{IsReply, IsUnfinished, farewell, rows_behind}
use Rattle.client.specs.Turns.{Moves, Sight, Spoken}
use Rattle.client.specs.declared.faults.Gone.TheVariants.{Ended, Unread, Unsent}
use Rattle.client.specs.declared.faults.TalkFault.{TalkFault}
use Rattle.client.specs.declared.faults.TalkFault.TheVariants as faults
use Rattle.client.specs.declared.talks.End.{End}
use Rattle.client.specs.declared.talks.Head.{Head}
use Rattle.client.specs.declared.talks.Sent.{Sent}
use Rattle.client.specs.declared.talks.Sent.TheVariants.{Line, Last, Nothing}
use Rattle.client.specs.declared.talks.Turn.{Turn}
use Rattle.client.specs.declared.talks.Turn.TheVariants.{Next, Closed}

-- the last line of the input, which has no line feed, is taken
abbrev pub TakesOpen : List ℕ → List ℕ → List ℕ → Option (List ℕ) → Option (List ℕ) → Type 0
TakesOpen line asked asked_then input input_then =
    (line ≢ []) × Moves asked [] input input_then line × IsAtEnd input_then × (asked_then ≡ [])

-- nothing is taken, and the held bytes have no line feed
abbrev pub TakesNone : List ℕ → List ℕ → Option (List ℕ) → Option (List ℕ) → Type 0
TakesNone held held_then left left_then = Moves held held_then left left_then [] × IsLine held_then

-- part of a line was sent
pub record SendsPart (asked asked_then : List ℕ)
    (input input_then sent sent_then : Option (List ℕ)) : Type 0 where
  pub line : List ℕ
  pub front : List ℕ
  pub left : List ℕ
  pub is_line : IsLine line
  pub takes : Moves asked asked_then input input_then (fed line)
      ⊎ TakesOpen line asked asked_then input input_then
  pub parts : fed line ≡ front ++ left
  pub sends : Appends sent sent_then front

-- the held bytes are sent as a line, if there are any
abbrev pub SendsLast : Result Sent TalkFault → List ℕ → List ℕ → Option (List ℕ) → Option (List ℕ)
    → Type 0
SendsLast (Ok Line) asked asked_then sent sent_then = ⊥
SendsLast (Ok Last) asked asked_then sent sent_then =
    (asked ≢ []) × (asked_then ≡ []) × Appends sent sent_then (fed asked)
SendsLast (Ok Nothing) asked asked_then sent sent_then =
    (asked ≡ []) × (asked_then ≡ []) × (sent_then ≡ sent)
SendsLast (Err (faults.Memory refused)) asked asked_then sent sent_then =
    (asked_then ≡ asked) × (sent_then ≡ sent)
SendsLast (Err (faults.Gone (Unsent failed))) asked asked_then sent sent_then =
    (front : List ℕ) × (left : List ℕ) × (asked ≢ []) × (asked_then ≡ [])
    × (fed asked ≡ front ++ left) × Appends sent sent_then front
SendsLast (Err _) asked asked_then sent sent_then = ⊥

-- the next line of the input was sent; or there was none; or it was not sent whole
abbrev pub SendsLine : Result Sent TalkFault → List ℕ → List ℕ → Option (List ℕ) → Option (List ℕ)
    → Option (List ℕ) → Option (List ℕ) → Type 0
SendsLine (Ok Line) asked asked_then input input_then sent sent_then =
    (line : List ℕ) × IsLine line × Moves asked asked_then input input_then (fed line)
    × Appends sent sent_then (fed line)
SendsLine (Ok Last) asked asked_then input input_then sent sent_then =
    (line : List ℕ) × IsLine line × TakesOpen line asked asked_then input input_then
    × Appends sent sent_then (fed line)
SendsLine (Ok Nothing) asked asked_then input input_then sent sent_then =
    Moves asked asked_then input input_then [] × (asked_then ≡ []) × IsAtEnd input_then
    × (sent_then ≡ sent)
SendsLine (Err (faults.Input failed)) asked asked_then input input_then sent sent_then =
    TakesNone asked asked_then input input_then × (sent_then ≡ sent)
SendsLine (Err (faults.Memory refused)) asked asked_then input input_then sent sent_then =
    TakesNone asked asked_then input input_then × (sent_then ≡ sent)
SendsLine (Err (faults.Gone (Unsent failed))) asked asked_then input input_then sent sent_then =
    SendsPart asked asked_then input input_then sent sent_then
SendsLine (Err _) asked asked_then input input_then sent sent_then = ⊥

-- what the first line of a reply says about the reply
abbrev pub IsHead : Head → List ℕ → Type 0
IsHead head line = (head.rows ≡ rows_behind line) × (IsTrue head.farewell ↔ (line ≡ codes "bye"))

-- the server gave no whole line
abbrev pub LacksLine : List ℕ → List ℕ → Option (List ℕ) → Option (List ℕ) → Option (List ℕ)
    → Option (List ℕ) → Type 0
LacksLine told told_then peer peer_then written written_then =
    TakesNone told told_then peer peer_then × (written_then ≡ written)

-- no line was passed on
abbrev pub PassesNone : TalkFault → List ℕ → List ℕ → Option (List ℕ) → Option (List ℕ)
    → Option (List ℕ) → Option (List ℕ) → Type 0
PassesNone (faults.Output failed) told told_then peer peer_then written written_then =
    Moves told told_then peer peer_then [] × (front : List ℕ) × (left : List ℕ)
    × (told_then ≡ front ++ left) × Appends written written_then front
PassesNone (faults.Gone Ended) told told_then peer peer_then written written_then =
    LacksLine told told_then peer peer_then written written_then × IsAtEnd peer_then
PassesNone (faults.Gone (Unread failed)) told told_then peer peer_then written written_then =
    LacksLine told told_then peer peer_then written written_then
PassesNone (faults.Memory refused) told told_then peer peer_then written written_then =
    LacksLine told told_then peer peer_then written written_then
PassesNone _ told told_then peer peer_then written written_then = ⊥

-- a line of the server was passed on, or none was
abbrev pub PassesLine : Result Head TalkFault → List ℕ → List ℕ → Option (List ℕ) → Option (List ℕ)
    → Option (List ℕ) → Option (List ℕ) → Type 0
PassesLine (Ok head) told told_then peer peer_then written written_then =
    (line : List ℕ) × IsLine line × IsHead head line
    × Moves told told_then peer peer_then (fed line) × Appends written written_then (fed line)
PassesLine (Err fault) told told_then peer peer_then written written_then =
    PassesNone fault told told_then peer peer_then written written_then

-- a prefix of a reply was passed on, and the server gave no more of it
abbrev pub LacksReply : List ℕ → List ℕ → Option (List ℕ) → Option (List ℕ) → Option (List ℕ)
    → Option (List ℕ) → Type 0
LacksReply told told_then peer peer_then written written_then =
    (passed : List ℕ) × Moves told told_then peer peer_then passed
    × Appends written written_then passed × IsUnfinished (passed ++ told_then)

-- no whole reply was passed on
abbrev pub BreaksOff : TalkFault → List ℕ → List ℕ → Option (List ℕ) → Option (List ℕ)
    → Option (List ℕ) → Option (List ℕ) → Type 0
BreaksOff (faults.Output failed) told told_then peer peer_then written written_then =
    (passed : List ℕ) × (front : List ℕ) × (left : List ℕ)
    × Moves told told_then peer peer_then passed × (passed ++ told_then ≡ front ++ left)
    × Appends written written_then front
BreaksOff (faults.Gone Ended) told told_then peer peer_then written written_then =
    LacksReply told told_then peer peer_then written written_then × IsAtEnd peer_then
BreaksOff (faults.Gone (Unread failed)) told told_then peer peer_then written written_then =
    LacksReply told told_then peer peer_then written written_then
BreaksOff (faults.Memory refused) told told_then peer peer_then written written_then =
    LacksReply told told_then peer peer_then written written_then
BreaksOff _ told told_then peer peer_then written written_then = ⊥

-- a whole reply was passed on, or none was
abbrev pub PassesReply : Result Bool TalkFault → List ℕ → List ℕ → Option (List ℕ) → Option (List ℕ)
    → Option (List ℕ) → Option (List ℕ) → Type 0
PassesReply (Ok ends) told told_then peer peer_then written written_then =
    (reply : List ℕ) × IsReply reply × (IsTrue ends ↔ (reply ≡ farewell))
    × Moves told told_then peer peer_then reply × Appends written written_then reply
PassesReply (Err fault) told told_then peer peer_then written written_then =
    BreaksOff fault told told_then peer peer_then written written_then

-- a line and its reply, or the end of the talk
abbrev pub TakesTurn : Result Turn TalkFault → Sight → Sight → Type 0
TakesTurn (Ok Next) before after = (spoken : Spoken before after) × (length spoken.lines ≡ 1)
TakesTurn (Ok (Closed end)) before after = EndsWell end before after
TakesTurn (Err fault) before after = EndsBy fault before after

-- turns up to the end of the talk
abbrev pub TakesTurns : Result End TalkFault → Sight → Sight → Type 0
TakesTurns (Ok end) before after = EndsWell end before after
TakesTurns (Err fault) before after = EndsBy fault before after
