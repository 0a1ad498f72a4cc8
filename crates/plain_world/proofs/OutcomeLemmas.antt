-- Where an outcome comes from.
use Rattle.std.proofs.Common.{◌≡◌, ℕ, ◌+◌, ◌==◌, nat_lt, Bool, true, false, List, length, Option, None, Some, refl, sym, ap, subst}
use Rattle.std.specs.Bool.{MatchBool}
use Rattle.features.specs.declared.actors.Subject.{Subject}
use Rattle.features.specs.declared.rows.Change.{Change}
use Rattle.features.specs.Changes.{after}
use Rattle.combining.specs.declared.questions.Question.{Question}
use Rattle.decision.specs.Deciders.{DeciderData}
use Rattle.judging.specs.declared.causes.Cause.{Cause}
use Rattle.judging.specs.declared.causes.Cause.TheVariants.{Denied, Exists, Absent, Stale}
use Rattle.judging.specs.declared.causes.Judgement.{Judgement}
use Rattle.judging.specs.declared.causes.Judgement.TheVariants as judgements
use Rattle.judging.specs.Judging.{Judged, IsFounded}
use Rattle.audit_trail.specs.Records.{applied}
use Rattle.judging.proofs.JudgingLemmas.{JudgedFrom_founded}
use Rattle.plain_world.specs.declared.faults.Fault.TheVariants as faults
use Rattle.plain_world.specs.declared.outcomes.Outcome.{Outcome}
use Rattle.plain_world.specs.declared.outcomes.Outcome.TheVariants as outcomes
use Rattle.plain_world.specs.Admitting.{LAST, may_commit}
use Rattle.plain_world.specs.Answers.{denial_of}
use Rattle.plain_world.specs.Events.{Commit, Ended, Failed, Happens, CommitsAs, Applies, without_transaction, recorded}
use Rattle.plain_world.specs.Laws.{IsJudgement, EndsAs, GoesWith, asked}
use Rattle.plain_world.specs.Staging.{TransactionData, staged_in}
use Rattle.plain_world.specs.States.{WorldData, most_features}
use Rattle.plain_world.proofs.AdmittedLemmas.{admitted, committer, staged_of}

outcome_same : (a b : Outcome) → Ended a ≡ Ended b → a ≡ b
outcome_same a b e = cc

-- the denial of a founded cause has the question that was denied
asked_of : (decider : DeciderData) (cause : Cause) (question : Option Question) → IsFounded decider.document cause question → asked (denial_of decider cause question) ≡ question
asked_of decider (Denied rule) None founded = absurd founded
asked_of decider (Denied rule) (Some question) founded = refl
asked_of decider Exists question founded = sym founded
asked_of decider Absent question founded = sym founded
asked_of decider (Stale current) question founded = sym founded

goes_with : (decider : DeciderData) (cause : Cause) (question : Option Question) → IsFounded decider.document cause question → GoesWith decider cause (denial_of decider cause question)
goes_with decider (Denied rule) None founded = absurd founded
goes_with decider (Denied rule) (Some question) founded = (refl, refl, founded)
goes_with decider Exists question founded = refl
goes_with decider Absent question founded = refl
goes_with decider (Stale current) question founded = refl

-- an accepted list ends as applied
ends_applied : (seat number : ℕ) (subject : Subject) (t : TransactionData) (old new : WorldData) (outcome : Outcome)
    → Judged old.state subject t.changes judgements.Accepted → Applies seat number subject t.changes old new (Ended outcome) → IsJudgement subject t old.state new.state outcome
ends_applied seat number subject t old new outcome judged d =
    go (old.state.version == LAST) (nat_lt (most_features old) (length (after (old.state.version + 1) subject.office t.changes old.state.features))) d
  where
    go : (last full : Bool) → MatchBool last ((new ≡ old) × (Ended outcome ≡ Failed faults.Spent)) (MatchBool full ((new ≡ old) × (Ended outcome ≡ Failed faults.StoreFull))
        ((Ended outcome ≡ Ended (outcomes.Applied (old.state.version + 1))) × (new ≡ without_transaction number (recorded seat (applied subject (old.state.version + 1) t.changes) old)))) → IsJudgement subject t old.state new.state outcome
    go true full d = absurd (cc (d.1))
    go false true d = absurd (cc (d.1))
    go false false d = subst (λ (o : Outcome). IsJudgement subject t old.state new.state o) (sym (outcome_same outcome _ d.0))
        (judged, refl, ap (λ (w : WorldData). w.state.features) d.1, ap (λ (w : WorldData). w.state.version) d.1, ap (λ (w : WorldData). w.state.decider) d.1)

-- a commit that ends as judged has the outcome of its judgement
ends_as : (judgement : Judgement) (seat number : ℕ) (subject : Subject) (t : TransactionData) (old new : WorldData) (outcome : Outcome)
    → Judged old.state subject t.changes judgement → CommitsAs judgement seat number subject t.changes old new (Ended outcome) → IsJudgement subject t old.state new.state outcome
ends_as judgements.Accepted seat number subject t old new outcome judged d = ends_applied seat number subject t old new outcome judged d
ends_as (judgements.Refused refusal question) seat number subject t old new outcome judged d =
    let founded = JudgedFrom_founded 1 old.state.decider.document old.state.features subject t.changes (judgements.Refused refusal question) judged in
    subst (λ (o : Outcome). IsJudgement subject t old.state new.state o) (sym (outcome_same outcome _ d.0)) (
      subst (λ (q : Option Question). Judged old.state subject t.changes (judgements.Refused refusal q)) (sym (asked_of old.state.decider refusal.cause question founded)) judged,
      goes_with old.state.decider refusal.cause question founded,
      ap (λ (w : WorldData). w.state) d.1,
    )

pub outcome_judgement : (seat number : ℕ) (mid new : WorldData) (outcome : Outcome) → Happens (Commit seat number) mid new (Ended outcome) → EndsAs seat number mid new outcome
outcome_judgement seat number mid new outcome happens =
    let d = admitted (may_commit seat number mid) mid new (Ended outcome) _ refl happens in
    let who = committer seat number mid d.0 d.1 in
    let t = who.1.0 in
    let staged : staged_in number mid.transactions ≡ t.changes = staged_of number mid.transactions t who.1.1 in (
      d.0,
      t,
      who.0,
      who.1.1,
      who.1.2,
      ends_as d.2.0 seat number d.0 t mid new outcome
          (subst (λ (changes : List Change). Judged mid.state d.0 changes d.2.0) staged d.2.1)
          (subst (λ (changes : List Change). CommitsAs d.2.0 seat number d.0 changes mid new (Ended outcome)) staged d.2.2),
    )
