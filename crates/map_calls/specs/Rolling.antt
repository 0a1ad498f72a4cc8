-- The trail: taken out, shown, let go.
use Rattle.std.specs.Prelude.{◌≡◌, ℕ, Bool, true, false, List, ◌++◌, length, codes, Option, Result, MatchOption, MatchResult}
use Rattle.std.specs.Bool.{MatchBool}
use Rattle.std.specs.List.{flat_map}
use Rattle.memory.specs.declared.no_memory.NoMemory.{NoMemory}
use Rattle.features.specs.declared.actors.Subject.{Subject}
use Rattle.plain_world.specs.Rolls.{RolledData}
use Rattle.session_lines.specs.Replies.{SaidData, line, rows, rolled}
use Rattle.session_lines.specs.Services.{Call, Roll}
use Rattle.map_sessions.specs.Finding.{Greets}
use Rattle.map_sessions.specs.Keeping.{next_number}
use Rattle.map_sessions.specs.Visiting.{Place, unasked}
use Rattle.map_sessions.specs.declared.refusals.Refusal.{Refusal}
use Rattle.map_sessions.specs.declared.refusals.Refusal.TheVariants as refusals
use Rattle.map_calls.specs.Keeping.{IsPieceKept, PiecesData, is_full, left_of, lines_asked}
use Rattle.map_calls.specs.declared.outcomes.CallFault.TheVariants as faults
use Rattle.map_calls.specs.declared.outcomes.Outcome.{Outcome}
use Rattle.map_calls.specs.declared.outcomes.Outcome.TheVariants as outcomes

-- what was taken out is kept, for who took it out
abbrev pub Keeps : {A : Type 0} → List ℕ → RolledData → PiecesData A → PiecesData A → Outcome
    → Type 0
Keeps asker piece kept left outcome =
    IsPieceKept asker piece kept left
    × (outcome ≡ outcomes.Rolled (next_number kept.given) (length piece.records))

-- what is said to a roll: only what was taken out is kept
abbrev pub KeepsSaid : {A : Type 0} → List ℕ → SaidData → PiecesData A → PiecesData A → Outcome
    → Type 0
KeepsSaid asker (rolled piece) kept left outcome = Keeps asker piece kept left outcome
KeepsSaid asker (line reply) kept left outcome =
    (left ≡ kept) × (outcome ≡ outcomes.NotRolled reply)
KeepsSaid asker (rows answer) kept left outcome =
    (left ≡ kept) × (outcome ≡ outcomes.Refused refusals.Misplaced)

-- the trail is taken out once, and kept
abbrev pub Rolls : {S A : Type 0} → (Call → S → S → SaidData → Type 0) → List ℕ → S → S
    → PiecesData A → PiecesData A → Outcome → Type 0
Rolls serves asker old new kept left outcome =
    (said : SaidData) × serves Roll old new said × KeepsSaid asker said kept left outcome

-- the session asks for this subject, and takes the trail out; nothing is taken out where it does not
-- begin
abbrev pub TakesOut : {S A : Type 0} → (S → Option Subject) → (Call → S → S → SaidData → Type 0)
    → List ℕ → S → S → PiecesData A → PiecesData A → Outcome → Type 0
TakesOut {S = S} subject_of serves asker old new kept left outcome =
    (mid : S) × (greeting : Result (Unit {0}) Refusal)
    × Greets subject_of serves asker old mid greeting
    × MatchResult greeting (λ begun. Rolls serves asker mid new kept left outcome)
    (λ refusal. (new ≡ mid) × (left ≡ kept) × (outcome ≡ outcomes.Refused refusal))

-- nothing is asked of the session, and the same pieces are kept
abbrev pub StaysAs : {S A : Type 0} → S → S → PiecesData A → PiecesData A → Outcome → Outcome
    → Type 0
StaysAs old new kept left outcome due = (new ≡ old) × (left ≡ kept) × (outcome ≡ due)

-- there is room for a piece before the trail is taken out, so that no record is lost
abbrev pub MakesRoom : {S A : Type 0} → (S → Option Subject) → (Call → S → S → SaidData → Type 0)
    → List ℕ → S → S → PiecesData A → PiecesData A → Outcome → Type 0
MakesRoom subject_of serves asker old new kept left outcome =
    (room : Result (Unit {0}) NoMemory)
    × MatchResult room (λ made. TakesOut subject_of serves asker old new kept left outcome)
    (λ refused. StaysAs old new kept left outcome (outcomes.Refused (refusals.Memory refused)))

-- the trail is taken out for who asks, where not as many pieces are kept as may be
abbrev pub RollsFor : {S A : Type 0} → (S → Option Subject) → (Call → S → S → SaidData → Type 0)
    → Place → Option (List ℕ) → S → S → PiecesData A → PiecesData A → Outcome → Type 0
RollsFor subject_of serves place asker old new kept left outcome =
    MatchOption asker (StaysAs old new kept left outcome (outcomes.Refused (unasked place)))
    (λ asker. MatchBool (is_full kept)
    (StaysAs old new kept left outcome (outcomes.Fault faults.Full))
    (MakesRoom subject_of serves asker old new kept left outcome))

-- a line and its end
abbrev pub ended : List ℕ → List ℕ
ended text = text ++ codes "\n"

abbrev pub lines_text : List (List ℕ) → List ℕ
lines_text lines = flat_map ended lines

abbrev pub IsMemory : Refusal → Type 0
IsMemory (refusals.Memory refused) = Unit {0}
IsMemory _ = ⊥

-- the lines are shown, or an allocation was refused
abbrev pub IsShown : List (List ℕ) → Outcome → Type 0
IsShown lines (outcomes.Shown text) = text.items ≡ lines_text lines
IsShown lines (outcomes.Refused refusal) = IsMemory refusal
IsShown lines _ = ⊥

-- the lines of a piece are shown to the subject that took it out alone
abbrev pub Shows : {A : Type 0} → List ℕ → ℕ → PiecesData A → Outcome → Type 0
Shows asker number kept outcome =
    MatchOption (lines_asked number asker kept.pieces)
    (outcome ≡ outcomes.Refused refusals.Absent) (λ lines. IsShown lines outcome)

abbrev pub ShowsFor : {A : Type 0} → Place → Option (List ℕ) → ℕ → PiecesData A → Outcome → Type 0
ShowsFor place asker number kept outcome =
    MatchOption asker (outcome ≡ outcomes.Refused (unasked place))
    (λ asker. Shows asker number kept outcome)

-- a piece was let go, or there is none
abbrev pub is_let_go : Bool → Outcome
is_let_go true = outcomes.LetGo
is_let_go false = outcomes.Refused refusals.Absent

-- the piece of a number is let go, by the subject that took it out alone
abbrev pub LetsGo : {A : Type 0} → List ℕ → ℕ → PiecesData A → PiecesData A → Outcome → Type 0
LetsGo asker number kept left outcome =
    (left ≡ (left_of number asker kept).1)
    × (outcome ≡ is_let_go (left_of number asker kept).0)

abbrev pub LetsGoFor : {A : Type 0} → Place → Option (List ℕ) → ℕ → PiecesData A → PiecesData A
    → Outcome → Type 0
LetsGoFor place asker number kept left outcome =
    MatchOption asker ((left ≡ kept) × (outcome ≡ outcomes.Refused (unasked place)))
    (λ asker. LetsGo asker number kept left outcome)
