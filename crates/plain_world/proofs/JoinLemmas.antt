-- Pieces that were rolled out join with the present trail.
use Rattle.std.proofs.Common.{◌≡◌, ℕ, ◌+◌, ◌==◌, nat_lt, Bool, true, false, List, [], ◌∷◌, ◌++◌, length, Option, None, Some, MatchOption, refl, sym, ap, subst, ◌∙◌, append_assoc, append-nil}
use Rattle.std.specs.Bool.{MatchBool}
use Rattle.plane.specs.declared.point.Point.{Point}
use Rattle.features.specs.declared.actors.Subject.{Subject}
use Rattle.features.specs.declared.rows.Change.{Change}
use Rattle.features.specs.Changes.{after}
use Rattle.judging.specs.declared.causes.Judgement.{Judgement}
use Rattle.judging.specs.declared.causes.Judgement.TheVariants as judgements
use Rattle.audit_trail.specs.Legal.{IsLegal, replay}
use Rattle.audit_trail.specs.Records.{RecordData, applied}
use Rattle.judging.specs.States.{PlainState}
use Rattle.audit_trail.proofs.LegalLemmas.{legal-append, legal_seated, replay-append}
use Rattle.plain_world.specs.declared.faults.Fault.TheVariants as faults
use Rattle.tree_answers.specs.declared.fault.TreeFault.TheVariants as tree
use Rattle.plain_world.specs.declared.outcomes.Outcome.TheVariants as outcomes
use Rattle.plain_world.specs.declared.open_searches.Search.{Search}
use Rattle.plain_world.specs.declared.advances.Advance.TheVariants as advances
use Rattle.tree_answers.specs.declared.answers.Step.TheVariants as steps
use Rattle.tree_answers.specs.declared.answers.Visit.TheVariants as visits
use Rattle.plain_world.specs.Admitting.{LAST, may_sit, may_open, may_go_on, may_finish, may_answer, may_begin, may_step, may_stage, may_commit, may_govern, may_roll}
use Rattle.plain_world.specs.Events.{Event, TakeSeat, OpenSearch, VisitNext, Finish, DropSearch, Answer, Begin, Stage, AdvanceWalk, Commit, Abort, Govern, Tend, Roll, Reply, Visited, Advanced, Tended, Ended, TakenOut, Failed, If, UnlessMemory, is_memory, Happens, Run, Sees, Walks, Visits, Advances, Applies, CommitsAs, Tends, recorded, without_transaction}
use Rattle.plain_world.specs.Laws.{records_out}
use Rattle.plain_world.specs.Staging.{TransactionData, next_placement, staged_in}
use Rattle.plain_world.specs.States.{WorldData, IsSoundWorld, most_features}
use Rattle.plain_world.proofs.AdmittedLemmas.{by_if, by_unless}
use Rattle.plain_world.proofs.RunLemmas.{sound_event}

-- seats that were given stay given
abbrev pub Grows : WorldData → WorldData → Type 0
Grows old new = (more : List Subject) × (new.seats ≡ old.seats ++ more)

-- the base is unchanged, except after a roll: then it is the old state
abbrev pub Moves : WorldData → WorldData → Reply → Type 0
Moves old new (TakenOut piece) = Grows old new × (piece.records ≡ old.trail) × (new.base ≡ old.state)
Moves old new _ = Grows old new × (new.base ≡ old.base)

abbrev pub Stays : WorldData → WorldData → Type 0
Stays old new = Grows old new × (new.base ≡ old.base)

stays_by : (old new w : WorldData) → new ≡ w → w.seats ≡ old.seats → w.base ≡ old.base → Stays old new
stays_by old new w e seats base = (([], ap (λ (w : WorldData). w.seats) e ∙ seats ∙ sym (append-nil old.seats)), ap (λ (w : WorldData). w.base) e ∙ base)

stays : (old new : WorldData) → new ≡ old → Stays old new
stays old new e = stays_by old new old e refl refl

-- a refused event meets `Moves`, and an admitted one does if its effect does
moves_if : {T : Type 0} (may : _) (old new : WorldData) (reply : Reply) (Does : T → Type 0) → ((x : T) → Does x → Moves old new reply) → If may old new reply Does → Moves old new reply
moves_if may old new reply Does each h = by_if may old new reply Does (λ r. Moves old new r) (λ fault may same. stays old new same) (λ x may d. each x d) h

moves_unless : (old new : WorldData) (reply : Reply) (Does : Type 0) → (Does → Moves old new reply) → UnlessMemory old new reply Does → Moves old new reply
moves_unless old new reply Does each h = by_unless old new reply Does (λ r. Moves old new r) (λ fault want same. stays old new same) each h

moves_to : (old new : WorldData) (reply told : Reply) → reply ≡ told → Moves old new told → Moves old new reply
moves_to old new reply told e h = subst (λ (r : Reply). Moves old new r) (sym e) h

moves_sees : (number : ℕ) (old new : WorldData) (reply : Reply) → Sees number old new reply → Moves old new reply
moves_sees number old new (Visited visits.More) d = stays old new d
moves_sees number old new (Visited visits.Ready) d = stays_by old new _ d refl refl
moves_sees number old new (Failed (faults.Tree tree.Overrun)) d = stays_by old new _ d refl refl
moves_sees number old new _ d = absurd d

moves_walks : (number : ℕ) (shape : List Point) (old new : WorldData) (reply : Reply) → Walks number shape old new reply → Moves old new reply
moves_walks number shape old new (Advanced (advances.Walked steps.Moved)) d = stays old new d
moves_walks number shape old new (Advanced (advances.Walked steps.Split)) d = stays old new d
moves_walks number shape old new (Advanced (advances.Walked steps.Installed)) d = stays old new d
moves_walks number shape old new (Advanced (advances.Walked steps.Restarted)) d = stays old new d
moves_walks number shape old new (Advanced (advances.Walked steps.Placed)) d = stays_by old new _ d.1 refl refl
moves_walks number shape old new (Failed (faults.Tree (tree.Held search))) d = stays old new d.1
moves_walks number shape old new (Failed (faults.Tree tree.Full)) d = stays old new d
moves_walks number shape old new (Failed (faults.Tree tree.TooHigh)) d = stays old new d
moves_walks number shape old new (Failed (faults.Tree tree.Spent)) d = stays old new d
moves_walks number shape old new (Failed (faults.Tree tree.Overrun)) d = stays_by old new _ d refl refl
moves_walks number shape old new _ d = absurd d

moves_tends : (old new : WorldData) (reply : Reply) → Tends old new reply → Moves old new reply
moves_tends old new (Tended tending) d = stays old new d
moves_tends old new (Failed (faults.Tree tree.Spent)) d = stays old new d
moves_tends old new _ d = absurd d

moves_visits : (s : Search) (old new : WorldData) (reply : Reply) → Visits s old new reply → Moves old new reply
moves_visits s old new reply d = go s.ready d
  where
    go : (b : Bool) → MatchBool b ((new ≡ old) × (reply ≡ Visited visits.Ready)) (MatchBool (is_memory reply) (new ≡ old) (Sees s.number old new reply)) → Moves old new reply
    go true d = moves_to old new reply _ d.1 (stays old new d.0)
    go false d = moves_unless old new reply _ (λ d. moves_sees s.number old new reply d) d

moves_advances : (number : ℕ) (t : TransactionData) (old new : WorldData) (reply : Reply) → Advances number t old new reply → Moves old new reply
moves_advances number t old new reply d = go (next_placement t) d
  where
    go : (o : Option (ℕ × List Point)) → MatchOption o ((new ≡ old) × (reply ≡ Advanced advances.AllPlaced)) (λ placement. MatchBool (is_memory reply) (new ≡ old) (Walks number placement.1 old new reply)) → Moves old new reply
    go None d = moves_to old new reply _ d.1 (stays old new d.0)
    go (Some placement) d = moves_unless old new reply _ (λ d. moves_walks number placement.1 old new reply d) d

moves_applies : (seat number : ℕ) (subject : Subject) (changes : List Change) (old new : WorldData) (reply : Reply) → Applies seat number subject changes old new reply → Moves old new reply
moves_applies seat number subject changes old new reply d =
    go (old.state.version == LAST) (nat_lt (most_features old) (length (after (old.state.version + 1) subject.office changes old.state.features))) d
  where
    go : (last full : Bool) → MatchBool last ((new ≡ old) × (reply ≡ Failed faults.Spent)) (MatchBool full ((new ≡ old) × (reply ≡ Failed faults.StoreFull))
        ((reply ≡ Ended (outcomes.Applied (old.state.version + 1))) × (new ≡ without_transaction number (recorded seat (applied subject (old.state.version + 1) changes) old)))) → Moves old new reply
    go true full d = moves_to old new reply _ d.1 (stays old new d.0)
    go false true d = moves_to old new reply _ d.1 (stays old new d.0)
    go false false d = moves_to old new reply _ d.0 (stays_by old new _ d.1 refl refl)

moves_commits_as : (judgement : Judgement) (seat number : ℕ) (subject : Subject) (changes : List Change) (old new : WorldData) (reply : Reply) → CommitsAs judgement seat number subject changes old new reply → Moves old new reply
moves_commits_as judgements.Accepted seat number subject changes old new reply d = moves_applies seat number subject changes old new reply d
moves_commits_as (judgements.Refused refusal question) seat number subject changes old new reply d = moves_to old new reply _ d.0 (stays_by old new _ d.1 refl refl)

pub moves : (event : Event) (old new : WorldData) (reply : Reply) → Happens event old new reply → Moves old new reply
moves (TakeSeat name) old new reply happens =
    moves_if (may_sit name old) old new reply _ (λ subject d. moves_unless old new reply _
    (λ d. moves_to old new reply _ d.1 ((subject ∷ [], ap (λ (w : WorldData). w.seats) d.0), ap (λ (w : WorldData). w.base) d.0)) d) happens
moves (OpenSearch seat window) old new reply happens =
    moves_if (may_open seat old) old new reply _ (λ x d. moves_unless old new reply _ (λ d. moves_to old new reply _ d.1 (stays_by old new _ d.0 refl refl)) d) happens
moves (VisitNext seat number) old new reply happens = moves_if (may_go_on seat number old) old new reply _ (λ s d. moves_visits s old new reply d) happens
moves (Finish seat number) old new reply happens =
    moves_if (may_finish seat number old) old new reply _ (λ who d. moves_unless old new reply _ (λ d. moves_to old new reply _ d.2 (stays_by old new _ d.3 refl refl)) d) happens
moves (DropSearch seat number) old new reply happens =
    moves_if (may_go_on seat number old) old new reply _ (λ s d. moves_to old new reply _ d.1 (stays_by old new _ d.0 refl refl)) happens
moves (Answer seat window) old new reply happens =
    moves_if (may_answer seat old) old new reply _ (λ subject d. moves_unless old new reply _ (λ d. moves_to old new reply _ d.2 (stays_by old new _ d.3 refl refl)) d) happens
moves (Begin seat) old new reply happens =
    moves_if (may_begin seat old) old new reply _ (λ x d. moves_unless old new reply _ (λ d. moves_to old new reply _ d.1 (stays_by old new _ d.0 refl refl)) d) happens
moves (Stage seat number change) old new reply happens =
    moves_if (may_stage seat number change old) old new reply _ (λ u d. moves_to old new reply _ d.1 (stays_by old new _ d.0 refl refl)) happens
moves (AdvanceWalk seat number) old new reply happens = moves_if (may_step seat number old) old new reply _ (λ t d. moves_advances number t old new reply d) happens
moves (Commit seat number) old new reply happens =
    moves_if (may_commit seat number old) old new reply _ (λ subject d. moves_unless old new reply _
    (λ d. moves_commits_as d.0 seat number subject (staged_in number old.transactions) old new reply d.2) d) happens
moves (Abort seat number) old new reply happens =
    moves_if (may_step seat number old) old new reply _ (λ t d. moves_to old new reply _ d.1 (stays_by old new _ d.0 refl refl)) happens
moves (Govern seat document) old new reply happens =
    moves_if (may_govern seat old) old new reply _ (λ u d. moves_unless old new reply _ (λ d. moves_to old new reply _ d.0 (stays_by old new _ d.1 refl refl)) d) happens
moves (Tend slot) old new reply happens = moves_tends old new reply happens
moves (Roll seat) old new reply happens =
    moves_if (may_roll seat old) old new reply _ (λ u d. moves_unless old new reply _ (λ d. moves_to old new reply _ d.0
    (([], ap (λ (w : WorldData). w.seats) d.1 ∙ sym (append-nil old.seats)), refl, ap (λ (w : WorldData). w.base) d.1)) d) happens

grown : (old new : WorldData) (reply : Reply) → Moves old new reply → Grows old new
grown old new (TakenOut piece) h = h.0
grown old new _ h = h.0

pub grows_run : (old : WorldData) (events : List (Event × Reply)) (new : WorldData) → Run old events new → Grows old new
grows_run old [] new e = (stays old new e).0
grows_run old (event ∷ events) new run =
    let first = grown old run.0 event.1 (moves event.0 old run.0 event.1 run.1) in
    let rest = grows_run run.0 events new run.2 in
    (first.0 ++ rest.0, rest.1 ∙ ap (λ (seats : List Subject). seats ++ rest.0) first.1 ∙ append_assoc old.seats first.0 rest.0)

-- these records are legal from this base, and their replay is the world's state
abbrev pub Joins : WorldData → PlainState → List RecordData → Type 0
Joins new base records = IsLegal new.seats base records × (replay base records ≡ new.state)

-- a piece joins with what follows it
joins_piece : (old mid new : WorldData) (rest : List RecordData) → IsSoundWorld old → Grows old new → mid.base ≡ old.state → Joins new mid.base rest → Joins new old.base (old.trail ++ rest)
joins_piece old mid new rest sound more base h =
    let next : mid.base ≡ replay old.base old.trail = base ∙ sym sound.replayed in
    let seated : IsLegal new.seats old.base old.trail = subst (λ (seats : List Subject). IsLegal seats old.base old.trail) (sym more.1) (legal_seated old.seats more.0 old.base old.trail sound.legal) in (
      legal-append new.seats old.base old.trail rest seated (subst (λ (b : PlainState). IsLegal new.seats b rest) next h.0),
      replay-append old.base old.trail rest ∙ ap (λ (b : PlainState). replay b rest) (sym next) ∙ h.1,
    )

joins_step : (event : Event) (reply : Reply) (steps : List (Event × Reply)) (old mid new : WorldData) → IsSoundWorld old → Grows old new → Moves old mid reply
    → Joins new mid.base (records_out steps ++ new.trail) → Joins new old.base (records_out ((event, reply) ∷ steps) ++ new.trail)
joins_step event (TakenOut piece) steps old mid new sound more h rest =
    subst (λ (records : List RecordData). Joins new old.base records)
    (ap (λ (records : List RecordData). records ++ (records_out steps ++ new.trail)) (sym h.1) ∙ sym (append_assoc piece.records (records_out steps) new.trail))
    (joins_piece old mid new (records_out steps ++ new.trail) sound more h.2 rest)
joins_step event _ steps old mid new sound more h rest = subst (λ (b : PlainState). Joins new b (records_out steps ++ new.trail)) h.1 rest

pub joined : (old : WorldData) (events : List (Event × Reply)) (new : WorldData) → Run old events new → IsSoundWorld old → Joins new old.base (records_out events ++ new.trail)
joined old [] new e sound = subst (λ (w : WorldData). Joins w old.base w.trail) (sym e) (sound.legal, sound.replayed)
joined old (event ∷ events) new run sound =
    joins_step event.0 event.1 events old run.0 new sound (grows_run old (event ∷ events) new run) (moves event.0 old run.0 event.1 run.1)
    (joined run.0 events new run.2 (sound_event event.0 old run.0 event.1 run.1 sound))
