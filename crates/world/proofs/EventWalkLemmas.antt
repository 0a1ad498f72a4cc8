-- The walks of open transactions, event by event.
use Rattle.std.proofs.Common.{◌≡◌, ℕ, ◌+◌, ◌==◌, nat_lt, Bool, true, false, List, [], ◌∷◌, ◌++◌, length, refl, sym, ap, subst}
use Rattle.std.specs.Bool.{MatchBool}
use Rattle.features.specs.declared.actors.Subject.{Subject}
use Rattle.features.specs.declared.rows.Change.{Change}
use Rattle.features.specs.Changes.{after}
use Rattle.policy_documents.specs.Documents.{DocumentData}
use Rattle.judging.specs.declared.causes.Judgement.{Judgement}
use Rattle.judging.specs.declared.causes.Judgement.TheVariants as judgements
use Rattle.audit_trail.specs.Records.{applied}
use Rattle.plain_world.specs.declared.faults.Fault.TheVariants as faults
use Rattle.plain_world.specs.declared.outcomes.Outcome.{Outcome}
use Rattle.plain_world.specs.declared.outcomes.Outcome.TheVariants as outcomes
use Rattle.plain_world.specs.Admitting.{LAST, may_sit, may_begin, may_step, may_stage, may_commit, may_govern, may_roll}
use Rattle.plain_world.specs.Events.{TakeSeat, Begin, Stage, Commit, Abort, Govern, Roll, Reply, Done, Number, Ended, Failed, Happens, Applies, CommitsAs, recorded, without_transaction}
use Rattle.plain_world.specs.Staging.{TransactionData, staged_in, ended as without}
use Rattle.plain_world.specs.States.{WorldData, most_features}
use Rattle.plain_world.proofs.AdmittedLemmas.{admitted, by_if, by_unless}
use Rattle.world.specs.Walks.{AreWalks, JourneyData, walk_begun, walk_ended}
use Rattle.world.proofs.WalkLemmas.{walks_begun, walks_ended, walks_staged}

-- what holds of a world holds of one that equals it
known : (P : WorldData → Type 0) (new w : WorldData) → new ≡ w → P w → P new
known P new w e h = subst P (sym e) h

-- the transactions are unchanged
abbrev Stay : WorldData → WorldData → Type 0
Stay old new = new.transactions ≡ old.transactions

stay : (old new : WorldData) → new ≡ old → Stay old new
stay old new e = ap (λ (w : WorldData). w.transactions) e

pub transactions_seat : (name : List ℕ) (old new : WorldData) (reply : Reply) → Happens (TakeSeat name) old new reply → new.transactions ≡ old.transactions
transactions_seat name old new reply happens =
    by_if (may_sit name old) old new reply _ (λ _. Stay old new) (λ fault may same. stay old new same)
    (λ subject may d. by_unless old new reply _ (λ _. Stay old new) (λ fault want same. stay old new same)
    (λ d. known (Stay old) new _ d.0 refl) d) happens

pub transactions_govern : (seat : ℕ) (document : DocumentData) (old new : WorldData) (reply : Reply) → Happens (Govern seat document) old new reply → new.transactions ≡ old.transactions
transactions_govern seat document old new reply happens =
    by_if (may_govern seat old) old new reply _ (λ _. Stay old new) (λ fault may same. stay old new same)
    (λ x may d. by_unless old new reply _ (λ _. Stay old new) (λ fault want same. stay old new same)
    (λ d. known (Stay old) new _ d.1 refl) d) happens

pub transactions_roll : (seat : ℕ) (old new : WorldData) (reply : Reply) → Happens (Roll seat) old new reply → new.transactions ≡ old.transactions
transactions_roll seat old new reply happens =
    by_if (may_roll seat old) old new reply _ (λ _. Stay old new) (λ fault may same. stay old new same)
    (λ x may d. by_unless old new reply _ (λ _. Stay old new) (λ fault want same. stay old new same)
    (λ d. known (Stay old) new _ d.1 refl) d) happens

-- ---- staging, beginning and aborting

pub walks_stage : (seat number : ℕ) (change : Change) (old new : WorldData) (js : List JourneyData) (reply : Reply) → Happens (Stage seat number change) old new reply → AreWalks old.transactions js → AreWalks new.transactions js
walks_stage seat number change old new js reply happens h =
    by_if (may_stage seat number change old) old new reply _ (λ _. AreWalks new.transactions js) (λ fault may same. known (λ (w : WorldData). AreWalks w.transactions js) new old same h)
    (λ x may d. known (λ (w : WorldData). AreWalks w.transactions js) new _ d.0 (walks_staged number change old.transactions js h)) happens

pub walks_begin : (seat number : ℕ) (old new : WorldData) (js : List JourneyData) → Happens (Begin seat) old new (Number number) → AreWalks old.transactions js → AreWalks new.transactions (walk_begun number js)
walks_begin seat number old new js happens h =
    let d = admitted (may_begin seat old) old new (Number number) _ refl happens in
    let same : d.0 ≡ number = cc (d.2.1) in
    let t : TransactionData = record { number = d.0; seat = seat; changes = []; placed = 0 } in
    known (λ (w : WorldData). AreWalks w.transactions (walk_begun number js)) new _ d.2.0
    (subst (λ (n : ℕ). AreWalks (old.transactions ++ t ∷ []) (walk_begun n js)) same (walks_begun t old.transactions js h))

pub walks_abort : (seat number : ℕ) (old new : WorldData) (js : List JourneyData) → Happens (Abort seat number) old new Done → AreWalks old.transactions js → AreWalks new.transactions (walk_ended number js)
walks_abort seat number old new js happens h =
    let d = admitted (may_step seat number old) old new Done _ refl happens in
    known (λ (w : WorldData). AreWalks w.transactions (walk_ended number js)) new _ d.2.0 (walks_ended number old.transactions js h)

-- ---- commits

abbrev Ends : ℕ → WorldData → WorldData → Type 0
Ends number old new = new.transactions ≡ without number old.transactions

ends_applied : (seat number : ℕ) (subject : Subject) (changes : List Change) (old new : WorldData) (outcome : Outcome) → Applies seat number subject changes old new (Ended outcome) → Ends number old new
ends_applied seat number subject changes old new outcome d =
    go (old.state.version == LAST) (nat_lt (most_features old) (length (after (old.state.version + 1) subject.office changes old.state.features))) d
  where
    go : (last full : Bool) → MatchBool last ((new ≡ old) × (Ended outcome ≡ Failed faults.Spent)) (MatchBool full ((new ≡ old) × (Ended outcome ≡ Failed faults.StoreFull))
        ((Ended outcome ≡ Ended (outcomes.Applied (old.state.version + 1))) × (new ≡ without_transaction number (recorded seat (applied subject (old.state.version + 1) changes) old)))) → Ends number old new
    go true full d = absurd (cc (d.1))
    go false true d = absurd (cc (d.1))
    go false false d = known (Ends number old) new _ d.1 refl

ends_as : (judgement : Judgement) (seat number : ℕ) (subject : Subject) (changes : List Change) (old new : WorldData) (outcome : Outcome) → CommitsAs judgement seat number subject changes old new (Ended outcome) → Ends number old new
ends_as judgements.Accepted seat number subject changes old new outcome d = ends_applied seat number subject changes old new outcome d
ends_as (judgements.Refused refusal question) seat number subject changes old new outcome d = known (Ends number old) new _ d.1 refl

pub walks_commit : (seat number : ℕ) (old new : WorldData) (js : List JourneyData) (outcome : Outcome) → Happens (Commit seat number) old new (Ended outcome) → AreWalks old.transactions js → AreWalks new.transactions (walk_ended number js)
walks_commit seat number old new js outcome happens h =
    let d = admitted (may_commit seat number old) old new (Ended outcome) _ refl happens in
    let ends = ends_as d.2.0 seat number d.0 (staged_in number old.transactions) old new outcome d.2.2 in
    subst (λ (ts : List TransactionData). AreWalks ts (walk_ended number js)) (sym ends) (walks_ended number old.transactions js h)
