-- For whom a session asks, and what it finds for them. A service is known by two things: the
-- subject for whom it asks (`subject_of`), and what each call makes of it (`serves call old new said`).
use Rattle.std.specs.Prelude.{◌≡◌, ℕ, List, [], Option, None, Some, Result, Ok, Err, nat_eq, MatchOption, MatchResult}
use Rattle.std.specs.Bool.{MatchBool}
use Rattle.std.specs.Cmp.Lexicographic.{pointwise}
use Rattle.plane.specs.declared.point.Point.{Point}
use Rattle.features.specs.declared.actors.Subject.{Subject}
use Rattle.features.specs.declared.rows.Feature.{Feature}
use Rattle.map_asks.specs.declared.windows.Window.{Window}
use Rattle.map_asks.specs.declared.windows.Window.TheVariants as windows
use Rattle.plain_world.specs.Answers.{AnswerData as FoundData}
use Rattle.session_lines.specs.declared.replies.Reply.{Reply}
use Rattle.session_lines.specs.declared.replies.Reply.TheVariants as replies
use Rattle.session_lines.specs.Replies.{SaidData, line, rows, rolled}
use Rattle.session_lines.specs.Services.{Call, Hello, Leave, Search}
use Rattle.map_sessions.specs.declared.refusals.Refusal.{Refusal}
use Rattle.map_sessions.specs.declared.refusals.Refusal.TheVariants.{Said, Misplaced}

-- what follows from the reply to a session that begins
abbrev pub greeted : Reply → Result (Unit {0}) Refusal
greeted (replies.Hello name) = Ok tt
greeted other = Err (Said other)

-- what follows from the reply to a session that ends
abbrev pub parted : Reply → Result (Unit {0}) Refusal
parted replies.Bye = Ok tt
parted other = Err (Said other)

-- the session begins for a subject
abbrev pub Begins : {S : Type 0} → (Call → S → S → SaidData → Type 0) → List ℕ → S → S
    → Result (Unit {0}) Refusal → Type 0
Begins serves asker old new outcome =
    (reply : Reply) × serves (Hello asker) old new (line reply) × (outcome ≡ greeted reply)

-- the session ends, and begins for a subject
abbrev pub BeginsAnew : {S : Type 0} → (Call → S → S → SaidData → Type 0) → List ℕ → S → S
    → Result (Unit {0}) Refusal → Type 0
BeginsAnew {S = S} serves asker old new outcome =
    (mid : S) × (reply : Reply) × serves Leave old mid (line reply)
    × MatchResult (parted reply) (λ ended. Begins serves asker mid new outcome)
    (λ refusal. (new ≡ mid) × (outcome ≡ Err refusal))

-- the session asks for a subject: it begins where it has not begun, stays where it asks for them
-- already, and ends first where it asks for somebody else
abbrev pub Greets : {S : Type 0} → (S → Option Subject) → (Call → S → S → SaidData → Type 0)
    → List ℕ → S → S → Result (Unit {0}) Refusal → Type 0
Greets subject_of serves asker old new outcome =
    MatchOption (subject_of old) (Begins serves asker old new outcome)
    (λ subject. MatchBool (pointwise nat_eq subject.name asker)
    ((new ≡ old) × (outcome ≡ Ok tt)) (BeginsAnew serves asker old new outcome))

-- the rows of what is said to a search, or what is said in their place
abbrev pub rows_said : SaidData → Result (List Feature) Refusal
rows_said (rows answer) = Ok answer.rows
rows_said (line reply) = Err (Said reply)
rows_said (rolled piece) = Err Misplaced

abbrev pub Searches : {S : Type 0} → (Call → S → S → SaidData → Type 0) → List Point → S → S
    → Result (List Feature) Refusal → Type 0
Searches serves window old new outcome =
    (said : SaidData) × serves (Search window) old new said × (outcome ≡ rows_said said)

-- in no window there is nothing to search
abbrev pub SearchesIn : {S : Type 0} → (Call → S → S → SaidData → Type 0) → Window → S → S
    → Result (List Feature) Refusal → Type 0
SearchesIn serves windows.Nothing old new outcome = (new ≡ old) × (outcome ≡ Ok [])
SearchesIn serves (windows.Shape window) old new outcome = Searches serves window old new outcome

-- what is found in a window: the session asks for the subject, and its search of the window lists it
abbrev pub Finds : {S : Type 0} → (S → Option Subject) → (Call → S → S → SaidData → Type 0)
    → List ℕ → Window → S → S → Result (List Feature) Refusal → Type 0
Finds {S = S} subject_of serves asker window old new outcome =
    (mid : S) × (greeting : Result (Unit {0}) Refusal)
    × Greets subject_of serves asker old mid greeting
    × MatchResult greeting (λ begun. SearchesIn serves window mid new outcome)
    (λ refusal. (new ≡ mid) × (outcome ≡ Err refusal))

abbrev pub found_rows : Option FoundData → List Feature
found_rows None = []
found_rows (Some found) = found.rows

abbrev pub rows_seen : Result (Option FoundData) Refusal → Result (List Feature) Refusal
rows_seen (Ok found) = Ok (found_rows found)
rows_seen (Err refusal) = Err refusal

abbrev pub shape_rows : Result FoundData Refusal → Result (List Feature) Refusal
shape_rows (Ok found) = Ok found.rows
shape_rows (Err refusal) = Err refusal
