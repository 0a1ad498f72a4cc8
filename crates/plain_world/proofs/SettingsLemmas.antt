-- No event gives a number twice, or changes what a world was opened with.
use Rattle.std.proofs.Common.{◌≡◌, ℕ, ◌+◌, ◌==◌, nat_lt, Bool, true, false, List, length, Option, None, Some, MatchOption, sym, ap, subst}
use Rattle.std.specs.Bool.{MatchBool}
use Rattle.plane.specs.declared.point.Point.{Point}
use Rattle.features.specs.declared.actors.Subject.{Subject}
use Rattle.features.specs.declared.rows.Change.{Change}
use Rattle.features.specs.Changes.{after}
use Rattle.judging.specs.declared.causes.Judgement.{Judgement}
use Rattle.judging.specs.declared.causes.Judgement.TheVariants as judgements
use Rattle.audit_trail.specs.Records.{applied}
use Rattle.plain_world.specs.declared.faults.Fault.TheVariants as faults
use Rattle.tree_answers.specs.declared.fault.TreeFault.TheVariants as tree
use Rattle.plain_world.specs.declared.outcomes.Outcome.TheVariants as outcomes
use Rattle.plain_world.specs.declared.open_searches.Search.{Search}
use Rattle.plain_world.specs.declared.advances.Advance.TheVariants as advances
use Rattle.tree_answers.specs.declared.answers.Step.TheVariants as steps
use Rattle.tree_answers.specs.declared.answers.Visit.TheVariants as visits
use Rattle.plain_world.specs.Admitting.{LAST, may_sit, may_open, may_go_on, may_finish, may_answer, may_begin, may_step, may_stage, may_commit, may_govern, may_roll}
use Rattle.plain_world.specs.Events.{Event, TakeSeat, OpenSearch, VisitNext, Finish, DropSearch, Answer, Begin, Stage, AdvanceWalk, Commit, Abort, Govern, Tend, Roll, Reply, Visited, Advanced, Tended, Ended, Failed, is_memory, Happens, Sees, Walks, Visits, Advances, CommitsAs, Tends, recorded, without_transaction}
use Rattle.plain_world.specs.Settings.{IsSettled, settings}
use Rattle.plain_world.specs.Staging.{TransactionData, next_placement, staged_in}
use Rattle.plain_world.specs.States.{WorldData, most_features}
use Rattle.plain_world.proofs.AdmittedLemmas.{by_if, by_unless}
use Rattle.plain_world.proofs.UnderWayLemmas.{begin_number, open_number}

module _ (old new : WorldData) where
  abbrev Stay : Type 0
  Stay = settings new ≡ settings old

  stay_same : new ≡ old → Stay
  stay_same e = ap settings e

  stay_sees : (number : ℕ) (reply : Reply) → Sees number old new reply → Stay
  stay_sees number (Visited visits.More) d = ap settings d
  stay_sees number (Visited visits.Ready) d = ap settings d
  stay_sees number (Failed (faults.Tree tree.Overrun)) d = ap settings d
  stay_sees number _ d = absurd d

  stay_walks : (number : ℕ) (shape : List Point) (reply : Reply) → Walks number shape old new reply → Stay
  stay_walks number shape (Advanced (advances.Walked steps.Moved)) d = ap settings d
  stay_walks number shape (Advanced (advances.Walked steps.Split)) d = ap settings d
  stay_walks number shape (Advanced (advances.Walked steps.Installed)) d = ap settings d
  stay_walks number shape (Advanced (advances.Walked steps.Restarted)) d = ap settings d
  stay_walks number shape (Advanced (advances.Walked steps.Placed)) d = ap settings d.1
  stay_walks number shape (Failed (faults.Tree (tree.Held search))) d = ap settings d.1
  stay_walks number shape (Failed (faults.Tree tree.Full)) d = ap settings d
  stay_walks number shape (Failed (faults.Tree tree.TooHigh)) d = ap settings d
  stay_walks number shape (Failed (faults.Tree tree.Spent)) d = ap settings d
  stay_walks number shape (Failed (faults.Tree tree.Overrun)) d = ap settings d
  stay_walks number shape _ d = absurd d

  stay_tends : (reply : Reply) → Tends old new reply → Stay
  stay_tends (Tended tending) d = ap settings d
  stay_tends (Failed (faults.Tree tree.Spent)) d = ap settings d
  stay_tends _ d = absurd d

  stay_visits : (s : Search) (reply : Reply) → Visits s old new reply → Stay
  stay_visits s reply d = go s.ready d
    where
      go : (b : Bool) → MatchBool b ((new ≡ old) × (reply ≡ Visited visits.Ready)) (MatchBool (is_memory reply) (new ≡ old) (Sees s.number old new reply)) → Stay
      go true d = ap settings d.0
      go false d = by_unless old new reply _ (λ _. Stay) (λ fault want same. ap settings same) (λ d. stay_sees s.number reply d) d

  stay_advances : (number : ℕ) (t : TransactionData) (reply : Reply) → Advances number t old new reply → Stay
  stay_advances number t reply d = go (next_placement t) d
    where
      go : (o : Option (ℕ × List Point)) → MatchOption o ((new ≡ old) × (reply ≡ Advanced advances.AllPlaced)) (λ placement. MatchBool (is_memory reply) (new ≡ old) (Walks number placement.1 old new reply)) → Stay
      go None d = ap settings d.0
      go (Some placement) d = by_unless old new reply _ (λ _. Stay) (λ fault want same. ap settings same) (λ d. stay_walks number placement.1 reply d) d

  stay_commits_as : (judgement : Judgement) (seat number : ℕ) (subject : Subject) (changes : List Change) (reply : Reply) → CommitsAs judgement seat number subject changes old new reply → Stay
  stay_commits_as judgements.Accepted seat number subject changes reply d =
      go (old.state.version == LAST) (nat_lt (most_features old) (length (after (old.state.version + 1) subject.office changes old.state.features))) d
    where
      go : (last full : Bool) → MatchBool last ((new ≡ old) × (reply ≡ Failed faults.Spent)) (MatchBool full ((new ≡ old) × (reply ≡ Failed faults.StoreFull))
          ((reply ≡ Ended (outcomes.Applied (old.state.version + 1))) × (new ≡ without_transaction number (recorded seat (applied subject (old.state.version + 1) changes) old)))) → Stay
      go true full d = ap settings d.0
      go false true d = ap settings d.0
      go false false d = ap settings d.1
  stay_commits_as (judgements.Refused refusal question) seat number subject changes reply d = ap settings d.1

pub settled : (event : Event) (old new : WorldData) (reply : Reply) → Happens event old new reply → IsSettled event old new reply
settled (TakeSeat name) old new reply h =
    by_if (may_sit name old) old new reply _ (λ _. Stay old new) (λ fault may same. stay_same old new same)
    (λ x may d. by_unless old new reply _ (λ _. Stay old new) (λ fault want same. stay_same old new same) (λ d. ap settings d.0) d) h
settled (OpenSearch seat window) old new reply h =
    by_if (may_open seat old) old new reply _ (λ r. IsSettled (OpenSearch seat window) old new r) (λ fault may same. stay_same old new same)
    (λ number may d. by_unless old new reply _ (λ r. IsSettled (OpenSearch seat window) old new r) (λ fault want same. stay_same old new same)
    (λ d. subst (λ (r : Reply). IsSettled (OpenSearch seat window) old new r) (sym d.1) (open_number seat old number may, ap settings d.0)) d) h
settled (VisitNext seat number) old new reply h =
    by_if (may_go_on seat number old) old new reply _ (λ _. Stay old new) (λ fault may same. stay_same old new same) (λ s may d. stay_visits old new s reply d) h
settled (Finish seat number) old new reply h =
    by_if (may_finish seat number old) old new reply _ (λ _. Stay old new) (λ fault may same. stay_same old new same)
    (λ who may d. by_unless old new reply _ (λ _. Stay old new) (λ fault want same. stay_same old new same) (λ d. ap settings d.3) d) h
settled (DropSearch seat number) old new reply h =
    by_if (may_go_on seat number old) old new reply _ (λ _. Stay old new) (λ fault may same. stay_same old new same) (λ s may d. ap settings d.0) h
settled (Answer seat window) old new reply h =
    by_if (may_answer seat old) old new reply _ (λ _. Stay old new) (λ fault may same. stay_same old new same)
    (λ subject may d. by_unless old new reply _ (λ _. Stay old new) (λ fault want same. stay_same old new same) (λ d. ap settings d.3) d) h
settled (Begin seat) old new reply h =
    by_if (may_begin seat old) old new reply _ (λ r. IsSettled (Begin seat) old new r) (λ fault may same. stay_same old new same)
    (λ number may d. by_unless old new reply _ (λ r. IsSettled (Begin seat) old new r) (λ fault want same. stay_same old new same)
    (λ d. subst (λ (r : Reply). IsSettled (Begin seat) old new r) (sym d.1) (begin_number seat old number may, ap settings d.0)) d) h
settled (Stage seat number change) old new reply h =
    by_if (may_stage seat number change old) old new reply _ (λ _. Stay old new) (λ fault may same. stay_same old new same) (λ u may d. ap settings d.0) h
settled (AdvanceWalk seat number) old new reply h =
    by_if (may_step seat number old) old new reply _ (λ _. Stay old new) (λ fault may same. stay_same old new same) (λ t may d. stay_advances old new number t reply d) h
settled (Commit seat number) old new reply h =
    by_if (may_commit seat number old) old new reply _ (λ _. Stay old new) (λ fault may same. stay_same old new same)
    (λ subject may d. by_unless old new reply _ (λ _. Stay old new) (λ fault want same. stay_same old new same)
    (λ d. stay_commits_as old new d.0 seat number subject (staged_in number old.transactions) reply d.2) d) h
settled (Abort seat number) old new reply h =
    by_if (may_step seat number old) old new reply _ (λ _. Stay old new) (λ fault may same. stay_same old new same) (λ t may d. ap settings d.0) h
settled (Govern seat document) old new reply h =
    by_if (may_govern seat old) old new reply _ (λ _. Stay old new) (λ fault may same. stay_same old new same)
    (λ u may d. by_unless old new reply _ (λ _. Stay old new) (λ fault want same. stay_same old new same) (λ d. ap settings d.1) d) h
settled (Tend slot) old new reply h = stay_tends old new reply h
settled (Roll seat) old new reply h =
    by_if (may_roll seat old) old new reply _ (λ _. Stay old new) (λ fault may same. stay_same old new same)
    (λ u may d. by_unless old new reply _ (λ _. Stay old new) (λ fault want same. stay_same old new same) (λ d. ap settings d.1) d) h
