-- A commit ends as its judgement says.
use Rattle.std.proofs.Common.{◌≡◌, ◌⊎◌, inl, inr, ℕ, ◌+◌, ◌==◌, nat_lt, Bool, true, false, List, length, Option, Some, refl, sym, subst, ◌∙◌}
use Rattle.std.specs.Bool.{MatchBool}
use Rattle.features.specs.declared.actors.Subject.{Subject}
use Rattle.features.specs.declared.rows.Change.{Change}
use Rattle.features.specs.Changes.{after}
use Rattle.judging.specs.declared.causes.Judgement.{Judgement}
use Rattle.judging.specs.declared.causes.Judgement.TheVariants as judgements
use Rattle.judging.specs.Judging.{Judged}
use Rattle.audit_trail.specs.Legal.{IsSeated}
use Rattle.audit_trail.specs.Records.{applied}
use Rattle.judging.proofs.JudgingLemmas.{JudgedFrom-one}
use Rattle.plain_world.specs.declared.faults.Fault.{Fault}
use Rattle.plain_world.specs.declared.faults.Fault.TheVariants as faults
use Rattle.plain_world.specs.declared.outcomes.Outcome.TheVariants as outcomes
use Rattle.plain_world.specs.Admitting.{LAST, may_commit}
use Rattle.plain_world.specs.Events.{Commit, Reply, Ended, Failed, Happens, Applies, CommitsAs, recorded, without_transaction}
use Rattle.plain_world.specs.Laws.{outcome_of}
use Rattle.plain_world.specs.Staging.{TransactionData, transaction_with, staged_in}
use Rattle.plain_world.specs.States.{WorldData, most_features}
use Rattle.plain_world.proofs.AdmittedLemmas.{by_if, by_unless, committer, staged_of}

-- refused, or ended as the judgement says
abbrev pub EndsAsJudged : WorldData → Judgement → Reply → Type 0
EndsAsJudged old judgement reply = ((fault : Fault) × (reply ≡ Failed fault)) ⊎ (reply ≡ Ended (outcome_of old.state judgement))

applies_as : (seat number : ℕ) (subject : Subject) (changes : List Change) (old new : WorldData) (reply : Reply) → Applies seat number subject changes old new reply → EndsAsJudged old judgements.Accepted reply
applies_as seat number subject changes old new reply d =
    go (old.state.version == LAST) (nat_lt (most_features old) (length (after (old.state.version + 1) subject.office changes old.state.features))) d
  where
    go : (last full : Bool) → MatchBool last ((new ≡ old) × (reply ≡ Failed faults.Spent)) (MatchBool full ((new ≡ old) × (reply ≡ Failed faults.StoreFull))
        ((reply ≡ Ended (outcomes.Applied (old.state.version + 1))) × (new ≡ without_transaction number (recorded seat (applied subject (old.state.version + 1) changes) old)))) → EndsAsJudged old judgements.Accepted reply
    go true full d = inl (faults.Spent, d.1)
    go false true d = inl (faults.StoreFull, d.1)
    go false false d = inr d.0

commits_as : (judgement : Judgement) (seat number : ℕ) (subject : Subject) (changes : List Change) (old new : WorldData) (reply : Reply) → CommitsAs judgement seat number subject changes old new reply → EndsAsJudged old judgement reply
commits_as judgements.Accepted seat number subject changes old new reply d = applies_as seat number subject changes old new reply d
commits_as (judgements.Refused refusal question) seat number subject changes old new reply d = inr d.0

some_same : {A : Type 0} (x y : A) → ◌≡◌ {A = Option A} (Some x) (Some y) → x ≡ y
some_same x y e = cc

pub ends_as_judged : (old new : WorldData) (seat number : ℕ) (subject : Subject) (t : TransactionData) (judgement : Judgement) (reply : Reply)
    → IsSeated seat old.seats subject → transaction_with number old.transactions ≡ Some t → Judged old.state subject t.changes judgement
    → Happens (Commit seat number) old new reply → EndsAsJudged old judgement reply
ends_as_judged old new seat number subject t judgement reply seated found judged happens =
    by_if (may_commit seat number old) old new reply _ (λ r. EndsAsJudged old judgement r) (λ fault may same. inl (fault, refl))
    (λ who may d. by_unless old new reply _ (λ r. EndsAsJudged old judgement r) (λ fault want same. inl (fault, refl))
    (λ d.
    let one : who ≡ subject = some_same who subject (sym (committer seat number old who may).0 ∙ seated) in
    let same : staged_in number old.transactions ≡ t.changes = staged_of number old.transactions t found in
    let here : Judged old.state subject t.changes d.0 =
    subst (λ (changes : List Change). Judged old.state subject changes d.0) same (subst (λ (s : Subject). Judged old.state s (staged_in number old.transactions) d.0) one d.1) in
    let judgements : d.0 ≡ judgement = JudgedFrom-one 1 old.state.decider.document old.state.features subject t.changes d.0 judgement here judged in
    subst (λ (j : Judgement). EndsAsJudged old j reply) judgements (commits_as d.0 seat number who (staged_in number old.transactions) old new reply d.2)) d) happens
