-- Every run keeps a world sound.
use Rattle.std.proofs.Common.{◌≡◌, ℕ, ◌+◌, ◌==◌, ◌<◌, nat_lt, Bool, true, false, IsTrue, nat_le, List, [], ◌∷◌, length, Option, None, Some, MatchOption, Result, Ok, Err, if◌then◌else◌, refl, sym, ap, subst, ◌∙◌, arith}
use Rattle.std.specs.Bool.{MatchBool}
use Rattle.std.proofs.lemmas.Bool.Decides.{nat_tests}
use Rattle.plane.specs.declared.point.Point.{Point}
use Rattle.features.specs.declared.actors.Subject.{Subject}
use Rattle.features.specs.declared.rows.Change.{Change}
use Rattle.features.specs.Changes.{after}
use Rattle.policy_documents.specs.Documents.{DocumentData}
use Rattle.judging.specs.declared.causes.Judgement.{Judgement}
use Rattle.judging.specs.declared.causes.Judgement.TheVariants as judgements
use Rattle.judging.specs.Judging.{Judged}
use Rattle.audit_trail.specs.Legal.{subject_of, IsSeated}
use Rattle.audit_trail.specs.Records.{applied}
use Rattle.plain_world.specs.declared.faults.Fault.{Fault}
use Rattle.plain_world.specs.declared.faults.Fault.TheVariants as faults
use Rattle.tree_answers.specs.declared.fault.TreeFault.TheVariants as tree
use Rattle.plain_world.specs.declared.outcomes.Outcome.TheVariants as outcomes
use Rattle.plain_world.specs.declared.open_searches.Search.{Search}
use Rattle.plain_world.specs.declared.settings.TheConstants.{SEAT_LIMIT}
use Rattle.plain_world.specs.declared.advances.Advance.TheVariants as advances
use Rattle.tree_answers.specs.declared.answers.Step.TheVariants as steps
use Rattle.tree_answers.specs.declared.answers.Visit.TheVariants as visits
use Rattle.plain_world.specs.Admitting.{LAST, and_then, given, placed, subject_at, stewarded, may_sit, may_open, may_go_on, own_search, has_answered_ready, may_record, may_finish, may_answer, may_begin, own_transaction, all_placed, may_step, may_stage, may_commit, may_govern, may_roll}
use Rattle.plain_world.specs.Events.{Event, TakeSeat, OpenSearch, VisitNext, Finish, DropSearch, Answer, Begin, Stage, AdvanceWalk, Commit, Abort, Govern, Tend, Roll, Reply, Visited, Advanced, Tended, Ended, Failed, If, is_memory, Happens, Run, Sees, Walks, Visits, Advances, Finishes, Answers, Applies, CommitsAs, Governs, Rolls, Tends, recorded, without_transaction}
use Rattle.plain_world.specs.Staging.{TransactionData, next_placement, staged_in}
use Rattle.plain_world.specs.States.{WorldData, IsSoundWorld, most_features}
use Rattle.plain_world.proofs.SoundLemmas.{sound_seated, sound_added}

pub sound_same : (old new : WorldData) → new ≡ old → IsSoundWorld old → IsSoundWorld new
sound_same old new e h = subst (λ (w : WorldData). IsSoundWorld w) (sym e) h

-- a refused event keeps a world sound, and an admitted one does if its effect does
sound_if : {T : Type 0} (may : Result T Fault) (old new : WorldData) (reply : Reply) (Does : T → Type 0) → If may old new reply Does → IsSoundWorld old → ((x : T) → may ≡ Ok x → Does x → IsSoundWorld new) → IsSoundWorld new
sound_if (Err fault) old new reply Does h sound each = sound_same old new h.0 sound
sound_if (Ok x) old new reply Does h sound each = each x refl h

sound_unless : (b : Bool) (old new : WorldData) (Does : Type 0) → MatchBool b (new ≡ old) Does → IsSoundWorld old → (Does → IsSoundWorld new) → IsSoundWorld new
sound_unless true old new Does h sound each = sound_same old new h sound
sound_unless false old new Does h sound each = each h

-- A chain of tests that succeeds: each of its tests does.

pub and_then_ok : {A B : Type 0} (m : Result A Fault) (next : A → Result B Fault) (y : B) → and_then m next ≡ Ok y → (x : A) × (m ≡ Ok x) × (next x ≡ Ok y)
and_then_ok (Ok x) next y e = (x, refl, e)
and_then_ok (Err fault) next y e = absurd cc

pub given_ok : {A : Type 0} (o : Option A) (x : A) → given o ≡ Ok x → o ≡ Some x
given_ok (Some y) x e = cc
given_ok None x e = absurd cc

pub same_ok : {A : Type 0} (x y : A) → ◌≡◌ {A = Result A Fault} (Ok x) (Ok y) → x ≡ y
same_ok x y e = cc

few_placed : (n : ℕ) (o : Option Subject) (s : Subject) → placed n o ≡ Ok s → n < SEAT_LIMIT
few_placed n None s e = absurd cc
few_placed n (Some t) s e = go (nat_le SEAT_LIMIT n) refl e
  where
    go : (b : Bool) → nat_le SEAT_LIMIT n ≡ b → (if b then Err Fault.NoPlace else Ok t) ≡ Ok s → n < SEAT_LIMIT
    go true h e = absurd cc
    go false h e = grind (arith, nat_tests, h)

steward_true : (s : Subject) (u : Unit {0}) → stewarded s ≡ Ok u → IsTrue s.steward
steward_true s u = go s.steward
  where
    go : (b : Bool) → (if b then Ok tt else Err Fault.NotSteward) ≡ Ok u → IsTrue b
    go true e = refl
    go false e = absurd cc

-- the subject that finishes has the seat
finish_seated : (seat number : ℕ) (w : WorldData) (who : Subject × Search) → may_finish seat number w ≡ Ok who → IsSeated seat w.seats who.0
finish_seated seat number w who e =
    let a = and_then_ok (subject_at seat w) _ who e in
    let b = and_then_ok (own_search seat number w) (λ (s : Search). and_then (has_answered_ready s) (λ _. and_then (may_record w) (λ _. Ok (a.0, s)))) who a.2 in
    let c = and_then_ok (has_answered_ready b.0) (λ _. and_then (may_record w) (λ _. Ok (a.0, b.0))) who b.2 in
    let d = and_then_ok (may_record w) (λ _. Ok (a.0, b.0)) who c.2 in
    given_ok (subject_of seat w.seats) a.0 a.1 ∙ ap (λ (p : Subject × Search). Some p.0) (same_ok (a.0, b.0) who d.2)

-- the subject to whom a whole search is answered has the seat
pub answer_seated : (seat : ℕ) (w : WorldData) (subject : Subject) → may_answer seat w ≡ Ok subject → IsSeated seat w.seats subject
answer_seated seat w subject e =
    let a = and_then_ok (subject_at seat w) _ subject e in
    let b = and_then_ok (may_record w) (λ _. Ok a.0) subject a.2 in
    given_ok (subject_of seat w.seats) a.0 a.1 ∙ ap (λ (s : Subject). Some s) (same_ok a.0 subject b.2)

-- the subject that commits has the seat
commit_seated : (seat number : ℕ) (w : WorldData) (subject : Subject) → may_commit seat number w ≡ Ok subject → IsSeated seat w.seats subject
commit_seated seat number w subject e =
    let a = and_then_ok (subject_at seat w) _ subject e in
    let b = and_then_ok (own_transaction seat number w) (λ (t : TransactionData). and_then (all_placed t) (λ _. and_then (may_record w) (λ _. Ok a.0))) subject a.2 in
    let c = and_then_ok (all_placed b.0) (λ _. and_then (may_record w) (λ _. Ok a.0)) subject b.2 in
    let d = and_then_ok (may_record w) (λ _. Ok a.0) subject c.2 in
    given_ok (subject_of seat w.seats) a.0 a.1 ∙ ap (λ (p : Subject). Some p) (same_ok a.0 subject d.2)

-- What each event does keeps a world sound.

sound_sees : (number : ℕ) (old new : WorldData) (reply : Reply) → Sees number old new reply → IsSoundWorld old → IsSoundWorld new
sound_sees number old new (Visited visits.More) d h = sound_same _ new d h
sound_sees number old new (Visited visits.Ready) d h = sound_same _ new d h
sound_sees number old new (Failed (faults.Tree tree.Overrun)) d h = sound_same _ new d h
sound_sees number old new _ d h = absurd d

sound_walks : (number : ℕ) (shape : List Point) (old new : WorldData) (reply : Reply) → Walks number shape old new reply → IsSoundWorld old → IsSoundWorld new
sound_walks number shape old new (Advanced (advances.Walked steps.Moved)) d h = sound_same _ new d h
sound_walks number shape old new (Advanced (advances.Walked steps.Split)) d h = sound_same _ new d h
sound_walks number shape old new (Advanced (advances.Walked steps.Installed)) d h = sound_same _ new d h
sound_walks number shape old new (Advanced (advances.Walked steps.Restarted)) d h = sound_same _ new d h
sound_walks number shape old new (Advanced (advances.Walked steps.Placed)) d h = sound_same _ new d.1 h
sound_walks number shape old new (Failed (faults.Tree (tree.Held search))) d h = sound_same _ new d.1 h
sound_walks number shape old new (Failed (faults.Tree tree.Full)) d h = sound_same _ new d h
sound_walks number shape old new (Failed (faults.Tree tree.TooHigh)) d h = sound_same _ new d h
sound_walks number shape old new (Failed (faults.Tree tree.Spent)) d h = sound_same _ new d h
sound_walks number shape old new (Failed (faults.Tree tree.Overrun)) d h = sound_same _ new d h
sound_walks number shape old new _ d h = absurd d

sound_tends : (old new : WorldData) (reply : Reply) → Tends old new reply → IsSoundWorld old → IsSoundWorld new
sound_tends old new (Tended tending) d h = sound_same _ new d h
sound_tends old new (Failed (faults.Tree tree.Spent)) d h = sound_same _ new d h
sound_tends old new _ d h = absurd d

sound_visits : (s : Search) (old new : WorldData) (reply : Reply) → Visits s old new reply → IsSoundWorld old → IsSoundWorld new
sound_visits s old new reply d h = go s.ready d
  where
    go : (b : Bool) → MatchBool b ((new ≡ old) × (reply ≡ Visited visits.Ready)) (MatchBool (is_memory reply) (new ≡ old) (Sees s.number old new reply)) → IsSoundWorld new
    go true d = sound_same old new d.0 h
    go false d = sound_unless (is_memory reply) old new _ d h (λ d. sound_sees s.number old new reply d h)

sound_advances : (number : ℕ) (t : TransactionData) (old new : WorldData) (reply : Reply) → Advances number t old new reply → IsSoundWorld old → IsSoundWorld new
sound_advances number t old new reply d h = go (next_placement t) d
  where
    go : (o : Option (ℕ × List Point)) → MatchOption o ((new ≡ old) × (reply ≡ Advanced advances.AllPlaced)) (λ placement. MatchBool (is_memory reply) (new ≡ old) (Walks number placement.1 old new reply)) → IsSoundWorld new
    go None d = sound_same old new d.0 h
    go (Some placement) d = sound_unless (is_memory reply) old new _ d h (λ d. sound_walks number placement.1 old new reply d h)

sound_finishes : (seat : ℕ) (who : Subject × Search) (old new : WorldData) (reply : Reply) → IsSeated seat old.seats who.0 → Finishes seat who old new reply → IsSoundWorld old → IsSoundWorld new
sound_finishes seat who old new reply seated d h =
    sound_same _ new d.3 (sound_added old.seats old.base old.trail old.state _ h (seated, (d.0, d.1, refl, refl)))

sound_answers : (seat : ℕ) (subject : Subject) (window : List Point) (old new : WorldData) (reply : Reply) → IsSeated seat old.seats subject → Answers seat subject window old new reply → IsSoundWorld old → IsSoundWorld new
sound_answers seat subject window old new reply seated d h =
    sound_same _ new d.3 (sound_added old.seats old.base old.trail old.state _ h (seated, (d.0, d.1, refl, refl)))

sound_applies : (seat number : ℕ) (subject : Subject) (changes : List Change) (old new : WorldData) (reply : Reply) → IsSeated seat old.seats subject
    → Judged old.state subject changes judgements.Accepted → Applies seat number subject changes old new reply → IsSoundWorld old → IsSoundWorld new
sound_applies seat number subject changes old new reply seated judged d h =
    go (old.state.version == LAST) (nat_lt (most_features old) (length (after (old.state.version + 1) subject.office changes old.state.features))) d
  where
    go : (last full : Bool) → MatchBool last ((new ≡ old) × (reply ≡ Failed faults.Spent)) (MatchBool full ((new ≡ old) × (reply ≡ Failed faults.StoreFull)) ((reply ≡ Ended (outcomes.Applied (old.state.version + 1))) × (new ≡ without_transaction number (recorded seat (applied subject (old.state.version + 1) changes) old)))) → IsSoundWorld new
    go true full d = sound_same old new d.0 h
    go false true d = sound_same old new d.0 h
    go false false d = sound_same _ new d.1 (sound_added old.seats old.base old.trail old.state _ h (seated, judged, refl))

sound_commits_as : (judgement : Judgement) (seat number : ℕ) (subject : Subject) (changes : List Change) (old new : WorldData) (reply : Reply) → IsSeated seat old.seats subject
    → Judged old.state subject changes judgement → CommitsAs judgement seat number subject changes old new reply → IsSoundWorld old → IsSoundWorld new
sound_commits_as judgements.Accepted seat number subject changes old new reply seated judged d h = sound_applies seat number subject changes old new reply seated judged d h
sound_commits_as (judgements.Refused refusal question) seat number subject changes old new reply seated judged d h =
    sound_same _ new d.1 (sound_added old.seats old.base old.trail old.state _ h (seated, (question, judged)))

sound_governs : (seat : ℕ) (document : DocumentData) (old new : WorldData) (reply : Reply) → ((subject : Subject) × IsSeated seat old.seats subject × IsTrue subject.steward) → Governs seat document old new reply → IsSoundWorld old → IsSoundWorld new
sound_governs seat document old new reply seated d h =
    sound_same _ new d.1 (sound_added old.seats old.base old.trail old.state _ h (seated, refl, refl))

sound_rolls : (old new : WorldData) (reply : Reply) → Rolls old new reply → IsSoundWorld old → IsSoundWorld new
sound_rolls old new reply d h = sound_same _ new d.1 (record { legal = tt; replayed = refl; few_seats = h.few_seats })

pub sound_event : (event : Event) (old new : WorldData) (reply : Reply) → Happens event old new reply → IsSoundWorld old → IsSoundWorld new
sound_event (TakeSeat name) old new reply happens h =
    sound_if (may_sit name old) old new reply _ happens h (λ subject may d. sound_unless (is_memory reply) old new _ d h
    (λ d. sound_same _ new d.0 (sound_seated old.seats old.base old.trail old.state subject h (few_placed _ _ _ may))))
sound_event (OpenSearch seat window) old new reply happens h =
    sound_if (may_open seat old) old new reply _ happens h (λ number may d. sound_unless (is_memory reply) old new _ d h (λ d. sound_same _ new d.0 h))
sound_event (VisitNext seat number) old new reply happens h =
    sound_if (may_go_on seat number old) old new reply _ happens h (λ s may d. sound_visits s old new reply d h)
sound_event (Finish seat number) old new reply happens h =
    sound_if (may_finish seat number old) old new reply _ happens h (λ who may d. sound_unless (is_memory reply) old new _ d h
    (λ d. sound_finishes seat who old new reply (finish_seated seat number old who may) d h))
sound_event (DropSearch seat number) old new reply happens h =
    sound_if (may_go_on seat number old) old new reply _ happens h (λ s may d. sound_same _ new d.0 h)
sound_event (Answer seat window) old new reply happens h =
    sound_if (may_answer seat old) old new reply _ happens h (λ subject may d. sound_unless (is_memory reply) old new _ d h
    (λ d. sound_answers seat subject window old new reply (answer_seated seat old subject may) d h))
sound_event (Begin seat) old new reply happens h =
    sound_if (may_begin seat old) old new reply _ happens h (λ number may d. sound_unless (is_memory reply) old new _ d h (λ d. sound_same _ new d.0 h))
sound_event (Stage seat number change) old new reply happens h =
    sound_if (may_stage seat number change old) old new reply _ happens h (λ u may d. sound_same _ new d.0 h)
sound_event (AdvanceWalk seat number) old new reply happens h =
    sound_if (may_step seat number old) old new reply _ happens h (λ t may d. sound_advances number t old new reply d h)
sound_event (Commit seat number) old new reply happens h =
    sound_if (may_commit seat number old) old new reply _ happens h (λ subject may d. sound_unless (is_memory reply) old new _ d h
    (λ d. sound_commits_as d.0 seat number subject (staged_in number old.transactions) old new reply (commit_seated seat number old subject may) d.1 d.2 h))
sound_event (Abort seat number) old new reply happens h =
    sound_if (may_step seat number old) old new reply _ happens h (λ t may d. sound_same _ new d.0 h)
sound_event (Govern seat document) old new reply happens h =
    sound_if (may_govern seat old) old new reply _ happens h (λ subject may d. sound_unless (is_memory reply) old new _ d h (λ d.
    let a = and_then_ok (subject_at seat old) _ subject may in
    let b = and_then_ok (stewarded a.0) _ subject a.2 in
    sound_governs seat document old new reply (a.0, given_ok _ _ a.1, steward_true a.0 b.0 b.1) d h))
sound_event (Tend slot) old new reply happens h = sound_tends old new reply happens h
sound_event (Roll seat) old new reply happens h =
    sound_if (may_roll seat old) old new reply _ happens h (λ u may d. sound_unless (is_memory reply) old new _ d h (λ d. sound_rolls old new reply d h))

-- any run, in any order of events
pub sound_run : (old : WorldData) (events : List (Event × Reply)) (new : WorldData) → Run old events new → IsSoundWorld old → IsSoundWorld new
sound_run old [] new e h = sound_same old new e h
sound_run old (event ∷ events) new run h = sound_run run.0 events new run.2 (sound_event event.0 old run.0 event.1 run.1 h)
