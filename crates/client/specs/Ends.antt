-- How a talk ends, and what was taken, sent and written by then.
use Rattle.std.specs.Prelude.{◌≡◌, ◌⊎◌, ℕ, ◌+◌, ◌-◌, ◌^◌, ◌≤◌, List, [], ◌∷◌, ◌++◌, length, Option, Result, Ok, Err, All}
use Rattle.std.specs.Io.KnownBytes.{Appends, IsAtEnd}
use Rattle.std.specs.List.{concat, flat_map}
use Rattle.line_streams.specs.Streams.{IsLine, fed}
use Rattle.client.specs.Replies.{GoesOn, IsReply, IsUnfinished, farewell}
use Rattle.client.specs.Turns.{Asks, Moves, Sight, sight}
use Rattle.client.specs.declared.faults.Gone.TheVariants.{Ended, Unread, Unsent}
use Rattle.client.specs.declared.faults.TalkFault.{TalkFault}
use Rattle.client.specs.declared.faults.TalkFault.TheVariants as faults
use Rattle.client.specs.declared.talks.End.{End}
use Rattle.client.specs.declared.talks.End.TheVariants.{AtEnd, Farewell}
use Rattle.client.specs.declared.talks.Talked.{Talked}

-- The lines taken of the input, the replies taken of the server with the bytes after them, and
-- what was sent and written.
pub record Talk (before after : Sight) : Type 0 where
  pub lines : List (List ℕ)
  pub replies : List (List ℕ)
  pub behind : List ℕ
  pub sent : List ℕ
  pub written : List ℕ
  pub asks : Asks lines before after
  pub hears : Moves before.told after.told before.peer after.peer (concat replies ++ behind)
  pub sends : Appends before.sent after.sent sent
  pub writes : Appends before.written after.written written
  pub are_lines : All IsLine lines
  pub are_replies : All IsReply replies

-- all the lines were sent, each with its line feed
abbrev pub SentAll : {before after : Sight} → Talk before after → Type 0
SentAll talk = talk.sent ≡ flat_map fed talk.lines

-- all that was taken of the server is written
abbrev pub WroteAll : {before after : Sight} → Talk before after → Type 0
WroteAll talk = talk.written ≡ concat talk.replies ++ talk.behind

-- all lines but the last were sent, and a prefix of the last
pub record SentInPart (lines : List (List ℕ)) (sent : List ℕ) : Type 0 where
  pub firsts : List (List ℕ)
  pub last : List ℕ
  pub front : List ℕ
  pub left : List ℕ
  pub are : lines ≡ firsts ++ last ∷ []
  pub parts : fed last ≡ front ++ left
  pub is : sent ≡ flat_map fed firsts ++ front

-- all lines were sent, or all but the last and a prefix of the last
abbrev pub SentSome : {before after : Sight} → Talk before after → Type 0
SentSome talk = SentAll talk ⊎ SentInPart talk.lines talk.sent

-- each line has its reply, and no reply ends the session
abbrev pub IsAnswered : {before after : Sight} → Talk before after → Type 0
IsAnswered talk = (length talk.replies ≡ length talk.lines) × All GoesOn talk.replies

-- the same for all lines but the last, which has no reply yet
abbrev pub Waits : {before after : Sight} → Talk before after → Type 0
Waits talk = (length talk.lines ≡ length talk.replies + 1) × All GoesOn talk.replies

-- each line has its reply, and the last reply, and no other, ends the session
pub record IsLeft (lines replies : List (List ℕ)) : Type 0 where
  pub firsts : List (List ℕ)
  pub are : replies ≡ firsts ++ farewell ∷ []
  pub go_on : All GoesOn firsts
  pub answered : length replies ≡ length lines

-- the reply to the last line is not whole
abbrev pub IsCutOff : {before after : Sight} → Talk before after → Type 0
IsCutOff {after = after} talk = Waits talk × IsUnfinished (talk.behind ++ after.told)

-- A talk ended without a fault: at the end of the input, or with the server's farewell.
abbrev pub EndsWell : End → Sight → Sight → Type 0
EndsWell AtEnd before after = (talk : Talk before after) × SentAll talk × WroteAll talk
    × IsAnswered talk × (after.asked ≡ []) × IsAtEnd after.input
EndsWell Farewell before after = (talk : Talk before after) × SentAll talk × WroteAll talk
    × IsLeft talk.lines talk.replies

-- A talk ended with a fault.
abbrev pub EndsBy : TalkFault → Sight → Sight → Type 0
EndsBy (faults.Input failed) before after =
    (talk : Talk before after) × SentAll talk × WroteAll talk × IsAnswered talk × IsLine after.asked
EndsBy (faults.Gone Ended) before after = (talk : Talk before after) × SentAll talk × WroteAll talk
    × IsCutOff talk × IsAtEnd after.peer
EndsBy (faults.Gone (Unread failed)) before after =
    (talk : Talk before after) × SentAll talk × WroteAll talk × IsCutOff talk
EndsBy (faults.Gone (Unsent failed)) before after =
    (talk : Talk before after) × SentInPart talk.lines talk.sent × WroteAll talk × Waits talk
EndsBy (faults.Memory refused) before after =
    (talk : Talk before after) × SentAll talk × WroteAll talk
    × ((IsAnswered talk × IsLine after.asked) ⊎ IsCutOff talk)
EndsBy (faults.Output failed) before after =
    (talk : Talk before after) × SentSome talk × (left : List ℕ)
    × (concat talk.replies ++ (talk.behind ++ after.told) ≡ talk.written ++ left)
    × ((length talk.replies ≡ length talk.lines) ⊎ (length talk.lines ≡ length talk.replies + 1))
EndsBy faults.TooManyLines before after = (talk : Talk before after) × SentAll talk × WroteAll talk
    × IsAnswered talk × (2 ^ 64 - 1 ≤ length talk.lines)

-- everything read from the server is written, unless the output failed
abbrev pub IsWritten : TalkFault → List ℕ → Type 0
IsWritten (faults.Output failed) told = Unit {0}
IsWritten _ told = told ≡ []

-- The effect of a talk on the input, the server and the output, by how it ended. `ahead` was read
-- from the input and not sent.
abbrev pub Talks : Result Talked TalkFault
    → (input input_then peer peer_then sent sent_then written written_then : Option (List ℕ))
    → Type 0
Talks (Ok talked) input input_then peer peer_then sent sent_then written written_then =
    (ahead : List ℕ) × EndsWell talked.end (sight [] [] input peer sent written)
    (sight ahead [] input_then peer_then sent_then written_then)
Talks (Err fault) input input_then peer peer_then sent sent_then written written_then =
    (ahead : List ℕ) × (told : List ℕ) × IsWritten fault told
    × EndsBy fault (sight [] [] input peer sent written)
    (sight ahead told input_then peer_then sent_then written_then)
