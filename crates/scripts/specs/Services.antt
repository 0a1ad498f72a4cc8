-- What each call of a session makes of a world, from the call's beginning to its end.
use Rattle.std.specs.Prelude.{◌≡◌, ◌≢◌, ◌⊎◌, ℕ, ◌+◌, ◌==◌, nat_le, nat_lt, Bool, true, false, List, [], length, map, slice_get, Option, None, Some, MatchOption, Result, Ok, Err, if◌then◌else◌}
use Rattle.std.specs.Bool.{MatchBool}
use Rattle.plane.specs.declared.point.Point.{Point}
use Rattle.features.specs.declared.actors.Subject.{Subject}
use Rattle.features.specs.declared.rows.Change.{Change}
use Rattle.features.specs.declared.rows.Feature.{Feature}
use Rattle.features.specs.Changes.{after}
use Rattle.combining.specs.declared.questions.Question.{Question}
use Rattle.decision.specs.declared.rulings.Ruling.{Ruling}
use Rattle.decision.specs.Rulings.{Rules}
use Rattle.judging.specs.declared.causes.Judgement.{Judgement}
use Rattle.judging.specs.declared.causes.Judgement.TheVariants as judgements
use Rattle.judging.specs.Judging.{Judged}
use Rattle.audit_trail.specs.Legal.{subject_of}
use Rattle.judging.specs.Listing.{Listed}
use Rattle.audit_trail.specs.Records.{answered, applied, turned_away}
use Rattle.plain_world.specs.declared.faults.Fault.{Fault}
use Rattle.plain_world.specs.declared.faults.Fault.TheVariants as faults
use Rattle.tree_answers.specs.declared.fault.TreeFault.TheVariants as tree
use Rattle.plain_world.specs.declared.outcomes.Outcome.{Outcome}
use Rattle.plain_world.specs.declared.outcomes.Outcome.TheVariants as outcomes
use Rattle.plain_world.specs.Admitting.{LAST, and_then, map_ok, next_search, subject_at}
use Rattle.plain_world.specs.Answers.{AnswerData, denial_of}
use Rattle.plain_world.specs.Events.{Reply as EventReply, Number, Rows, Ended, TakenOut, Failed, TakeSeat, Govern as GovernEvent, Roll as RollEvent, Happens, HoldsBack, NoReadySeeks, If, is_memory, recorded, reply_of}
use Rattle.plain_world.specs.Rolls.{RolledData}
use Rattle.plain_world.specs.Staging.{placements}
use Rattle.plain_world.specs.States.{WorldData, most_features}
use Rattle.session_lines.specs.declared.faults.LineFault.TheVariants.{BeforeHello}
use Rattle.session_lines.specs.declared.replies.Reply.TheVariants.{Hello as Greets, Edition, Bye, Error}
use Rattle.session_lines.specs.Replies.{SaidData, line, rows, rolled, told, outcome_reply, ruling_reply}
use Rattle.session_lines.specs.Services.{Call, Hello, Search, Commit, Govern, Explain, Roll, Leave}
use Rattle.scripts.specs.States.{SoloState, WhereAtRest, begun, searched}

-- Searches.

-- the subject that searches, if there is room and a number for one more search
abbrev pub may_search : ℕ → WorldData → Result Subject Fault
may_search seat w = and_then (subject_at seat w) (λ subject. map_ok (λ _. subject) (next_search w))

-- the reply is S7
abbrev pub is_overrun_reply : EventReply → Bool
is_overrun_reply (Failed (faults.Tree tree.Overrun)) = true
is_overrun_reply _ = false

-- the trail takes no more records
abbrev pub is_full : WorldData → Bool
is_full w = nat_le w.limits.records (length w.trail)

-- the reply has the rows that are listed, and the trail records them
abbrev pub ListsRows : ℕ → Subject → List Point → WorldData → WorldData → EventReply → Type 0
ListsRows seat subject window old new reply =
    (rows : List Feature) × Listed old.state subject window rows
    × (reply ≡ Rows (record {
      subject = subject;
      window = window;
      decider = old.state.decider;
      rows = rows;
    }))
    × (new ≡ searched (recorded seat
    (answered subject window (map (λ row. row.id) rows) (map (λ row. row.version) rows)) old))

-- A whole search. One that ends with a fault changes nothing, but may use up a number; other open
-- searches are unchanged. Only the index knows whether it gives a search up (S7).
abbrev pub SearchesCall : ℕ → List Point → WorldData → WorldData → EventReply → Type 0
SearchesCall seat window old new reply =
    If (may_search seat old) old new reply (λ subject.
    MatchBool (is_memory reply) ((new ≡ old) ⊎ (new ≡ searched old))
    (MatchBool (is_overrun_reply reply) (new ≡ searched old)
    (MatchBool (is_full old) ((reply ≡ Failed faults.TrailFull) × (new ≡ searched old))
    (ListsRows seat subject window old new reply))))

-- Commits.

-- the subject that commits, if there is a number for one more transaction
abbrev pub may_conclude : ℕ → WorldData → Result Subject Fault
may_conclude seat w = and_then (subject_at seat w) (λ subject. if w.next_transaction == LAST then
    Err faults.Spent else Ok subject)

-- the list adds or reshapes something
abbrev pub Brings : List Change → Type 0
Brings changes = placements changes ≢ []

-- the reply is S4 to S7: the index does not place a shape
abbrev pub is_unplaced : EventReply → Bool
is_unplaced (Failed (faults.Tree tree.Full)) = true
is_unplaced (Failed (faults.Tree tree.TooHigh)) = true
is_unplaced (Failed (faults.Tree tree.Spent)) = true
is_unplaced (Failed (faults.Tree tree.Overrun)) = true
is_unplaced _ = false

-- an accepted list is applied under the next version; X8 if there is none, X11 if the features
-- would be too many
abbrev pub AppliesAll : ℕ → Subject → List Change → WorldData → WorldData → EventReply → Type 0
AppliesAll seat subject changes old new reply =
    let version = old.state.version + 1 in
    MatchBool (old.state.version == LAST) ((reply ≡ Failed faults.Spent) × (new ≡ begun old))
    (MatchBool (nat_lt (most_features old)
    (length (after version subject.office changes old.state.features)))
    ((reply ≡ Failed faults.StoreFull) × (new ≡ begun old))
    ((reply ≡ Ended (outcomes.Applied version))
    × (new ≡ begun (recorded seat (applied subject version changes) old))))

-- the end of a list by its judgement: applied, or rejected and recorded
abbrev pub EndsCallAs : Judgement → ℕ → Subject → List Change → WorldData → WorldData → EventReply
    → Type 0
EndsCallAs judgements.Accepted seat subject changes old new reply =
    AppliesAll seat subject changes old new reply
EndsCallAs (judgements.Refused refusal question) seat subject changes old new reply =
    (reply ≡ Ended (outcomes.Refused refusal (denial_of old.state.decider refusal.cause question)))
    × (new ≡ begun (recorded seat (turned_away subject changes refusal) old))

-- the search for which a commit is held
abbrev pub holder : EventReply → Option ℕ
holder (Failed (faults.Tree (tree.Held search))) = Some search
holder _ = None

-- the search is open, and looks for a shape that the list brings
abbrev pub HoldsList : ℕ → List Change → WorldData → Type 0
HoldsList search changes w = (at : ℕ) × (placement : ℕ × List Point)
    × (slice_get (placements changes) at ≡ Some placement) × HoldsBack search placement.1 w

-- no search that has answered Ready looks for a shape that the list brings
abbrev pub NoReadySeeksAny : List Change → WorldData → Type 0
NoReadySeeksAny changes w = (at : ℕ) (placement : ℕ × List Point)
    → slice_get (placements changes) at ≡ Some placement → NoReadySeeks placement.1 w

-- A whole commit, of all changes of the list or none. One that ends with a fault changes nothing,
-- but may use up a number; open searches are unchanged. Only the index knows whether it places a
-- shape, and whether it holds one back for a search that looks for it and is not ready; for a ready
-- one it always does.
abbrev pub CommitsCall : ℕ → List Change → WorldData → WorldData → EventReply → Type 0
CommitsCall seat changes old new reply =
    If (may_conclude seat old) old new reply (λ subject.
    MatchBool (is_memory reply) ((new ≡ old) ⊎ (new ≡ begun old))
    (MatchBool (is_unplaced reply) (Brings changes × (new ≡ begun old))
    (MatchOption (holder reply)
    (NoReadySeeksAny changes old
    × MatchBool (is_full old) ((reply ≡ Failed faults.TrailFull) × (new ≡ begun old))
    ((judgement : Judgement) × Judged old.state subject changes judgement
    × EndsCallAs judgement seat subject changes old new reply))
    (λ search. (new ≡ begun old) × HoldsList search changes old))))

-- A world that serves one session.

-- the session's subject, from HELLO on
abbrev pub seated : Option ℕ → WorldData → Option Subject
seated None w = None
seated (Some seat) w = subject_of seat w.seats

abbrev pub solo_subject : SoloState → Option Subject
solo_subject s = seated s.seat s.world

-- before HELLO nothing is done; no line of a session leads here, since E5 comes before the call
abbrev pub WhereSeated : SoloState → SoloState → SaidData → (ℕ → Type 0) → Type 0
WhereSeated old new said Does =
    MatchOption old.seat ((new ≡ old) × (said ≡ line (Error BeforeHello)))
    (λ seat. (new.seat ≡ old.seat) × Does seat)

-- the session's seat after HELLO: the new one, or after a fault the one before
abbrev pub seat_after : Result ℕ Fault → Option ℕ → Option ℕ
seat_after (Ok seat) before = Some seat
seat_after (Err fault) before = before

abbrev pub BeginsCall : List ℕ → SoloState → SoloState → SaidData → Type 0
BeginsCall name old new said =
    (end : Result ℕ Fault) × Happens (TakeSeat name) old.world new.world (reply_of Number end)
    × (new.seat ≡ seat_after end old.seat) × (said ≡ told (λ seat. line (Greets name)) end)

-- the ruling of the policy in force
abbrev pub ExplainsCall : Question → SoloState → SaidData → Type 0
ExplainsCall question s said =
    let decider = s.world.state.decider in
    (ruling : Ruling) × Rules decider.document question ruling
    × (said ≡ line (ruling_reply decider ruling))

-- What a call makes of a world and the session's seat, and what is said. A search and a commit are
-- several events, so their clauses are for a world at rest; any other call is one event or none, in
-- any world.
abbrev pub ServesCall : Call → SoloState → SoloState → SaidData → Type 0
ServesCall (Hello name) old new said = BeginsCall name old new said
ServesCall (Search window) old new said =
    WhereSeated old new said (λ seat. WhereAtRest old.world new.world
    ((end : Result AnswerData Fault)
    × SearchesCall seat window old.world new.world (reply_of Rows end)
    × (said ≡ told rows end)))
ServesCall (Commit changes) old new said =
    WhereSeated old new said (λ seat. WhereAtRest old.world new.world ((end : Result Outcome Fault)
    × CommitsCall seat changes old.world new.world (reply_of Ended end)
    × (said ≡ told (λ outcome. line (outcome_reply outcome)) end)))
ServesCall (Govern document) old new said =
    WhereSeated old new said (λ seat. (end : Result ℕ Fault)
    × Happens (GovernEvent seat document) old.world new.world (reply_of Number end)
    × (said ≡ told (λ edition. line (Edition edition)) end))
ServesCall (Explain question) old new said = (new ≡ old) × ExplainsCall question old said
ServesCall Roll old new said =
    WhereSeated old new said (λ seat. (end : Result RolledData Fault)
    × Happens (RollEvent seat) old.world new.world (reply_of TakenOut end)
    × (said ≡ told rolled end))
ServesCall Leave old new said = (new ≡ record old { seat = None }) × (said ≡ line Bye)
