-- Which events add a record.
use Rattle.std.proofs.Common.{◌≡◌, ℕ, ◌+◌, ◌==◌, nat_lt, Bool, true, false, List, [], length, Option, None, Some, MatchOption, refl, sym, subst}
use Rattle.std.specs.Bool.{MatchBool}
use Rattle.plane.specs.declared.point.Point.{Point}
use Rattle.features.specs.declared.actors.Subject.{Subject}
use Rattle.features.specs.Changes.{after}
use Rattle.policy_documents.specs.Documents.{DocumentData}
use Rattle.judging.specs.declared.causes.Judgement.{Judgement}
use Rattle.judging.specs.declared.causes.Judgement.TheVariants as judgements
use Rattle.audit_trail.specs.Legal.{IsSeated}
use Rattle.audit_trail.specs.Records.{applied}
use Rattle.plain_world.specs.declared.faults.Fault.TheVariants as faults
use Rattle.tree_answers.specs.declared.fault.TreeFault.TheVariants as tree
use Rattle.plain_world.specs.declared.outcomes.Outcome.TheVariants as outcomes
use Rattle.plain_world.specs.declared.open_searches.Search.{Search}
use Rattle.plain_world.specs.declared.advances.Advance.TheVariants as advances
use Rattle.tree_answers.specs.declared.answers.Step.TheVariants as steps
use Rattle.tree_answers.specs.declared.answers.Visit.TheVariants as visits
use Rattle.plain_world.specs.Admitting.{LAST, may_sit, may_open, may_go_on, may_finish, may_answer, may_begin, may_step, may_stage, may_commit, may_govern, may_roll}
use Rattle.plain_world.specs.Events.{Event, TakeSeat, OpenSearch, VisitNext, Finish, DropSearch, Answer, Begin, Stage, AdvanceWalk, Commit, Abort, Govern, Tend, Roll, Reply, Visited, Advanced, Tended, Ended, Failed, is_memory, Happens, Sees, Walks, Visits, Advances, Finishes, Answers, Applies, CommitsAs, Governs, Rolls, Tends, recorded, without_transaction}
use Rattle.plain_world.specs.Laws.{StandsAs, HasOneMore, AddsAlone}
use Rattle.plain_world.specs.Staging.{TransactionData, next_placement, staged_in}
use Rattle.plain_world.specs.States.{WorldData, most_features}
use Rattle.plain_world.proofs.AdmittedLemmas.{by_if, by_unless, committer}

stands_same : (old new : WorldData) → new ≡ old → StandsAs old new
stands_same old new e = subst (λ (w : WorldData). StandsAs old w) (sym e) (refl, refl, refl, refl)

-- a world that equals one with the old state, base and trail has them too
stands_by : (old new w : WorldData) → new ≡ w → StandsAs old w → StandsAs old new
stands_by old new w e h = subst (λ (w : WorldData). StandsAs old w) (sym e) h

stands_sees : (number : ℕ) (old new : WorldData) (reply : Reply) → Sees number old new reply → StandsAs old new
stands_sees number old new (Visited visits.More) d = stands_same old new d
stands_sees number old new (Visited visits.Ready) d = stands_by old new _ d (refl, refl, refl, refl)
stands_sees number old new (Failed (faults.Tree tree.Overrun)) d = stands_by old new _ d (refl, refl, refl, refl)
stands_sees number old new _ d = absurd d

stands_walks : (number : ℕ) (shape : List Point) (old new : WorldData) (reply : Reply) → Walks number shape old new reply → StandsAs old new
stands_walks number shape old new (Advanced (advances.Walked steps.Moved)) d = stands_same old new d
stands_walks number shape old new (Advanced (advances.Walked steps.Split)) d = stands_same old new d
stands_walks number shape old new (Advanced (advances.Walked steps.Installed)) d = stands_same old new d
stands_walks number shape old new (Advanced (advances.Walked steps.Restarted)) d = stands_same old new d
stands_walks number shape old new (Advanced (advances.Walked steps.Placed)) d = stands_by old new _ d.1 (refl, refl, refl, refl)
stands_walks number shape old new (Failed (faults.Tree (tree.Held search))) d = stands_same old new d.1
stands_walks number shape old new (Failed (faults.Tree tree.Full)) d = stands_same old new d
stands_walks number shape old new (Failed (faults.Tree tree.TooHigh)) d = stands_same old new d
stands_walks number shape old new (Failed (faults.Tree tree.Spent)) d = stands_same old new d
stands_walks number shape old new (Failed (faults.Tree tree.Overrun)) d = stands_by old new _ d (refl, refl, refl, refl)
stands_walks number shape old new _ d = absurd d

stands_tends : (old new : WorldData) (reply : Reply) → Tends old new reply → StandsAs old new
stands_tends old new (Tended tending) d = stands_same old new d
stands_tends old new (Failed (faults.Tree tree.Spent)) d = stands_same old new d
stands_tends old new _ d = absurd d

stands_visits : (s : Search) (old new : WorldData) (reply : Reply) → Visits s old new reply → StandsAs old new
stands_visits s old new reply d = go s.ready d
  where
    go : (b : Bool) → MatchBool b ((new ≡ old) × (reply ≡ Visited visits.Ready)) (MatchBool (is_memory reply) (new ≡ old) (Sees s.number old new reply)) → StandsAs old new
    go true d = stands_same old new d.0
    go false d = by_unless old new reply _ (λ _. StandsAs old new) (λ fault want same. stands_same old new same) (λ d. stands_sees s.number old new reply d) d

stands_advances : (number : ℕ) (t : TransactionData) (old new : WorldData) (reply : Reply) → Advances number t old new reply → StandsAs old new
stands_advances number t old new reply d = go (next_placement t) d
  where
    go : (o : Option (ℕ × List Point)) → MatchOption o ((new ≡ old) × (reply ≡ Advanced advances.AllPlaced)) (λ placement. MatchBool (is_memory reply) (new ≡ old) (Walks number placement.1 old new reply)) → StandsAs old new
    go None d = stands_same old new d.0
    go (Some placement) d = by_unless old new reply _ (λ _. StandsAs old new) (λ fault want same. stands_same old new same) (λ d. stands_walks number placement.1 old new reply d) d

one_more_by : (seat : ℕ) (deed : _) (old new w : WorldData) → new ≡ w → HasOneMore seat deed old w → HasOneMore seat deed old new
one_more_by seat deed old new w e h = subst (λ (w : WorldData). HasOneMore seat deed old w) (sym e) h

adds_finishes : (seat number : ℕ) (who : Subject × Search) (old new : WorldData) (reply : Reply) → Finishes seat who old new reply → AddsAlone (Finish seat number) old new reply
adds_finishes seat number who old new reply d =
    subst (λ (r : Reply). AddsAlone (Finish seat number) old new r) (sym d.2) (one_more_by seat _ old new _ d.3 (refl, refl, refl, refl))

adds_answers : (seat : ℕ) (subject : Subject) (window : List Point) (old new : WorldData) (reply : Reply) → Answers seat subject window old new reply → AddsAlone (Answer seat window) old new reply
adds_answers seat subject window old new reply d =
    subst (λ (r : Reply). AddsAlone (Answer seat window) old new r) (sym d.2) (one_more_by seat _ old new _ d.3 (refl, refl, refl, refl))

adds_applies : (seat number : ℕ) (subject : Subject) (old new : WorldData) (reply : Reply) → IsSeated seat old.seats subject
    → Applies seat number subject (staged_in number old.transactions) old new reply → AddsAlone (Commit seat number) old new reply
adds_applies seat number subject old new reply seated d =
    go (old.state.version == LAST) (nat_lt (most_features old) (length (after (old.state.version + 1) subject.office (staged_in number old.transactions) old.state.features))) d
  where
    go : (last full : Bool) → MatchBool last ((new ≡ old) × (reply ≡ Failed faults.Spent)) (MatchBool full ((new ≡ old) × (reply ≡ Failed faults.StoreFull))
        ((reply ≡ Ended (outcomes.Applied (old.state.version + 1))) × (new ≡ without_transaction number (recorded seat (applied subject (old.state.version + 1) (staged_in number old.transactions)) old))))
        → AddsAlone (Commit seat number) old new reply
    go true full d = subst (λ (r : Reply). AddsAlone (Commit seat number) old new r) (sym d.1) (stands_same old new d.0)
    go false true d = subst (λ (r : Reply). AddsAlone (Commit seat number) old new r) (sym d.1) (stands_same old new d.0)
    go false false d =
        subst (λ (r : Reply). AddsAlone (Commit seat number) old new r) (sym d.0) (subject, seated, one_more_by seat _ old new _ d.1 (refl, refl, refl, refl))

adds_commits_as : (judgement : Judgement) (seat number : ℕ) (subject : Subject) (old new : WorldData) (reply : Reply) → IsSeated seat old.seats subject
    → CommitsAs judgement seat number subject (staged_in number old.transactions) old new reply → AddsAlone (Commit seat number) old new reply
adds_commits_as judgements.Accepted seat number subject old new reply seated d = adds_applies seat number subject old new reply seated d
adds_commits_as (judgements.Refused refusal question) seat number subject old new reply seated d =
    subst (λ (r : Reply). AddsAlone (Commit seat number) old new r) (sym d.0) (subject, seated, one_more_by seat _ old new _ d.1 (refl, refl, refl, refl))

adds_governs : (seat : ℕ) (document : DocumentData) (old new : WorldData) (reply : Reply) → Governs seat document old new reply → AddsAlone (Govern seat document) old new reply
adds_governs seat document old new reply d =
    subst (λ (r : Reply). AddsAlone (Govern seat document) old new r) (sym d.0) (one_more_by seat _ old new _ d.1 (refl, refl, refl, refl))

adds_rolls : (seat : ℕ) (old new : WorldData) (reply : Reply) → Rolls old new reply → AddsAlone (Roll seat) old new reply
adds_rolls seat old new reply d =
    subst (λ (r : Reply). AddsAlone (Roll seat) old new r) (sym d.0)
    (subst (λ (w : WorldData). (w.trail ≡ []) × (w.state ≡ old.state) × (w.base ≡ old.state) × (w.first ≡ old.first + length old.trail)) (sym d.1) (refl, refl, refl, refl))

pub adds_alone : (event : Event) (old new : WorldData) (reply : Reply) → Happens event old new reply → AddsAlone event old new reply
adds_alone (TakeSeat name) old new reply happens =
    by_if (may_sit name old) old new reply _ (λ _. StandsAs old new) (λ fault may same. stands_same old new same)
    (λ x may d. by_unless old new reply _ (λ _. StandsAs old new) (λ fault want same. stands_same old new same) (λ d. stands_by old new _ d.0 (refl, refl, refl, refl)) d) happens
adds_alone (OpenSearch seat window) old new reply happens =
    by_if (may_open seat old) old new reply _ (λ _. StandsAs old new) (λ fault may same. stands_same old new same)
    (λ x may d. by_unless old new reply _ (λ _. StandsAs old new) (λ fault want same. stands_same old new same) (λ d. stands_by old new _ d.0 (refl, refl, refl, refl)) d) happens
adds_alone (VisitNext seat number) old new reply happens =
    by_if (may_go_on seat number old) old new reply _ (λ _. StandsAs old new) (λ fault may same. stands_same old new same) (λ s may d. stands_visits s old new reply d) happens
adds_alone (Finish seat number) old new reply happens =
    by_if (may_finish seat number old) old new reply _ (λ r. AddsAlone (Finish seat number) old new r) (λ fault may same. stands_same old new same)
    (λ who may d. by_unless old new reply _ (λ r. AddsAlone (Finish seat number) old new r) (λ fault want same. stands_same old new same) (λ d. adds_finishes seat number who old new reply d) d) happens
adds_alone (DropSearch seat number) old new reply happens =
    by_if (may_go_on seat number old) old new reply _ (λ _. StandsAs old new) (λ fault may same. stands_same old new same) (λ s may d. stands_by old new _ d.0 (refl, refl, refl, refl)) happens
adds_alone (Answer seat window) old new reply happens =
    by_if (may_answer seat old) old new reply _ (λ r. AddsAlone (Answer seat window) old new r) (λ fault may same. stands_same old new same)
    (λ subject may d. by_unless old new reply _ (λ r. AddsAlone (Answer seat window) old new r) (λ fault want same. stands_same old new same) (λ d. adds_answers seat subject window old new reply d) d) happens
adds_alone (Begin seat) old new reply happens =
    by_if (may_begin seat old) old new reply _ (λ _. StandsAs old new) (λ fault may same. stands_same old new same)
    (λ x may d. by_unless old new reply _ (λ _. StandsAs old new) (λ fault want same. stands_same old new same) (λ d. stands_by old new _ d.0 (refl, refl, refl, refl)) d) happens
adds_alone (Stage seat number change) old new reply happens =
    by_if (may_stage seat number change old) old new reply _ (λ _. StandsAs old new) (λ fault may same. stands_same old new same) (λ u may d. stands_by old new _ d.0 (refl, refl, refl, refl)) happens
adds_alone (AdvanceWalk seat number) old new reply happens =
    by_if (may_step seat number old) old new reply _ (λ _. StandsAs old new) (λ fault may same. stands_same old new same) (λ t may d. stands_advances number t old new reply d) happens
adds_alone (Commit seat number) old new reply happens =
    by_if (may_commit seat number old) old new reply _ (λ r. AddsAlone (Commit seat number) old new r) (λ fault may same. stands_same old new same)
    (λ subject may d. by_unless old new reply _ (λ r. AddsAlone (Commit seat number) old new r) (λ fault want same. stands_same old new same)
    (λ d. adds_commits_as d.0 seat number subject old new reply (committer seat number old subject may).0 d.2) d) happens
adds_alone (Abort seat number) old new reply happens =
    by_if (may_step seat number old) old new reply _ (λ _. StandsAs old new) (λ fault may same. stands_same old new same) (λ t may d. stands_by old new _ d.0 (refl, refl, refl, refl)) happens
adds_alone (Govern seat document) old new reply happens =
    by_if (may_govern seat old) old new reply _ (λ r. AddsAlone (Govern seat document) old new r) (λ fault may same. stands_same old new same)
    (λ u may d. by_unless old new reply _ (λ r. AddsAlone (Govern seat document) old new r) (λ fault want same. stands_same old new same) (λ d. adds_governs seat document old new reply d) d) happens
adds_alone (Tend slot) old new reply happens = stands_tends old new reply happens
adds_alone (Roll seat) old new reply happens =
    by_if (may_roll seat old) old new reply _ (λ r. AddsAlone (Roll seat) old new r) (λ fault may same. stands_same old new same)
    (λ u may d. by_unless old new reply _ (λ r. AddsAlone (Roll seat) old new r) (λ fault want same. stands_same old new same) (λ d. adds_rolls seat old new reply d) d) happens
