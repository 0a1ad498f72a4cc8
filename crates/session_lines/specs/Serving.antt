-- The replies to one session by itself, whose lines have no label.
use Rattle.std.specs.Prelude.{◌≡◌, ℕ, List, [], ◌∷◌, Option}
use Rattle.std.specs.Bool.{MatchBool}
use Rattle.credentials.specs.declared.keys.Key.{Key}
use Rattle.features.specs.declared.actors.Subject.{Subject}
use Rattle.features.specs.declared.rows.Change.{Change}
use Rattle.session_lines.specs.declared.faults.LineFault.TheVariants.{LineTooLong}
use Rattle.session_lines.specs.declared.replies.Reply.TheVariants.{Bye, Error}
use Rattle.session_lines.specs.Desks.{Desk, desk}
use Rattle.session_lines.specs.Opening.{AnswersOpened}
use Rattle.line_streams.specs.Lines.{is_too_long, lines_of}
use Rattle.session_lines.specs.Printed.{led, reply_text, said_text}
use Rattle.session_lines.specs.Replies.{SaidData, line}
use Rattle.session_lines.specs.Services.{Call}
use Rattle.line_streams.specs.Streams.{StreamTells}
use Rattle.line_streams.specs.declared.streams.Next.{Next}
use Rattle.line_streams.specs.declared.streams.Next.TheVariants.{Line, End}

-- after `bye` the stream ends
abbrev pub next_behind : SaidData → Next
next_behind (line Bye) = End
next_behind _ = Line

-- the session answers a line
pub record Replies {S : Type 0} (keys_of : S → List Key) (subject_of : S → Option Subject) (serves : Call → S → S → SaidData
    → Type 0) (text : List ℕ) (old new : Desk S) (said : List ℕ) (next : Next) : Type 0 where
  pub reply : SaidData
  pub answers : AnswersOpened keys_of subject_of serves text old new reply
  pub shows : said ≡ said_text [] reply
  pub ends : next ≡ next_behind reply

-- a line that is too long is answered E1, and does nothing
abbrev pub IsPassedOver : {S : Type 0} → Desk S → Desk S → List ℕ → Next → Type 0
IsPassedOver old new said next = (new ≡ old) × (said ≡ led [] (reply_text (Error LineTooLong)))
    × (next ≡ Line)

-- the reply to a line, and what the line leaves; no label leads the reply
abbrev pub DeskTells : {S : Type 0} → (S → List Key) → (S → Option Subject) → (Call → S → S → SaidData → Type 0)
    → List ℕ → Desk S → Desk S → List ℕ → Next → Type 0
DeskTells keys_of subject_of serves text old new said next =
    MatchBool (is_too_long text) (IsPassedOver old new said next)
    (Replies keys_of subject_of serves text old new said next)

-- `text` is the replies to an input, for a session by itself whose service goes from `service` to
-- `end`: the replies to all lines, or to those up to the first that is answered `bye`.
pub record IsServedText {S : Type 0} (keys_of : S → List Key) (subject_of : S → Option Subject) (serves : Call → S → S
    → SaidData → Type 0) (service : S) (input : List ℕ) (end : S) (text : List ℕ) : Type 0 where
  pub staged : List Change
  pub tells : StreamTells (DeskTells keys_of subject_of serves) (desk [] service) (lines_of input)
      (desk staged end) text

-- calls of a service, each with what is said, lead from one state of it to another
abbrev pub Calls : {S : Type 0} → (Call → S → S → SaidData → Type 0) → List (Call × SaidData) → S
    → S → Type 0
Calls serves [] old new = new ≡ old
Calls {S = S} serves (call ∷ calls) old new = (mid : S) × serves call.0 old mid call.1
    × Calls serves calls mid new
