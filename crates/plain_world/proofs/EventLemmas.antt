-- Events that are admitted and do what `Happens` says.
use Rattle.std.proofs.Common.{◌≡◌, ◌≢◌, ℕ, ◌+◌, ◌<◌, ◌≤◌, ◌==◌, nat_lt, Bool, true, false, List, length, Result, Ok, Err, IsErrAnd, refl, subst, sym, arith}
use Rattle.std.specs.Bool.{MatchBool}
use Rattle.std.proofs.lemmas.Bool.Decides.{nat_tests}
use Rattle.features.specs.declared.actors.Subject.{Subject}
use Rattle.features.specs.declared.rows.Change.{Change}
use Rattle.features.specs.Changes.{after}
use Rattle.judging.specs.declared.causes.Judgement.TheVariants as judgements
use Rattle.judging.specs.Judging.{Judged}
use Rattle.audit_trail.specs.Records.{applied}
use Rattle.plain_world.specs.declared.faults.Fault.{Fault}
use Rattle.plain_world.specs.declared.faults.Fault.TheVariants as faults
use Rattle.plain_world.specs.declared.outcomes.Outcome.TheVariants as outcomes
use Rattle.plain_world.specs.Admitting.{LAST}
use Rattle.plain_world.specs.Events.{Reply, Ended, Failed, reply_of, If, UnlessMemory, is_memory, Applies, Commits, recorded, without_transaction}
use Rattle.feature_store.specs.declared.stores.StoreFault.{StoreFault}
use Rattle.feature_store.specs.declared.stores.StoreFault.TheVariants.{Full, Memory}
use Rattle.plain_world.specs.Staging.{staged_in}
use Rattle.plain_world.specs.StoreFaults.{fault_of_store}
use Rattle.plain_world.specs.States.{WorldData, most_features}

pub admitted : {T : Type 0} (may : Result T Fault) (x : T) (old new : WorldData) (reply : Reply) (Does : T → Type 0) → may ≡ Ok x → Does x → If may old new reply Does
admitted may x old new reply Does e h = subst (λ (r : Result _ Fault). If r old new reply Does) (sym e) h

-- a fault that is passed on
pub handed_on : {T : Type 0} (gives : T → Reply) (result : Result T Fault) (fault : Fault) (old new : WorldData) (Does : Type 0) → IsErrAnd result (λ f. f ≡ fault)
    → UnlessMemory old new (Failed fault) Does → UnlessMemory old new (reply_of gives result) Does
handed_on gives (Ok x) fault old new Does h same = absurd h
handed_on gives (Err f) fault old new Does h same = subst (λ (g : Fault). UnlessMemory old new (Failed g) Does) (sym h) same

-- an accepted list that is applied as a whole
pub applied_whole : (seat number : ℕ) (subject : Subject) (changes : List Change) (old new : WorldData) (count : ℕ) → old.state.version ≢ LAST → count ≤ most_features old → count ≡ length (after (old.state.version + 1) subject.office changes old.state.features)
    → new ≡ without_transaction number (recorded seat (applied subject (old.state.version + 1) changes) old)
    → Applies seat number subject changes old new (Ended (outcomes.Applied (old.state.version + 1)))
applied_whole seat number subject changes old new count left few counted told =
    let not_last : (old.state.version == LAST) ≡ false = grind (arith, nat_tests, left) in
    let fits : nat_lt (most_features old) (length (after (old.state.version + 1) subject.office changes old.state.features)) ≡ false = rw (← counted) (grind (arith, nat_tests, few)) in
    go _ _ not_last fits
  where
    go : (last over : Bool) → last ≡ false → over ≡ false
        → MatchBool last ((new ≡ old) × (Ended (outcomes.Applied (old.state.version + 1)) ≡ Failed faults.Spent))
        (MatchBool over ((new ≡ old) × (Ended (outcomes.Applied (old.state.version + 1)) ≡ Failed faults.StoreFull))
        ((Ended (outcomes.Applied (old.state.version + 1)) ≡ Ended (outcomes.Applied (old.state.version + 1)))
        × (new ≡ without_transaction number (recorded seat (applied subject (old.state.version + 1) changes) old))))
    go true over e f = absurd cc
    go false true e f = absurd cc
    go false false e f = (refl, told)

-- a store refuses a list that leaves no more features than may be for want of memory alone
pub store_refused : (fault : StoreFault) (old new : WorldData) (Does : Type 0) → fault ≢ Full → new ≡ old → UnlessMemory old new (Failed (fault_of_store fault)) Does
store_refused Full old new Does other same = absurd (other refl)
store_refused (Memory refused) old new Does other same = same

-- an accepted list that would leave too many features
pub too_many : (seat number : ℕ) (subject : Subject) (changes : List Change) (old : WorldData) (count : ℕ) → old.state.version ≢ LAST → most_features old < count → count ≡ length (after (old.state.version + 1) subject.office changes old.state.features)
    → Applies seat number subject changes old old (Failed faults.StoreFull)
too_many seat number subject changes old count left more counted =
    let not_last : (old.state.version == LAST) ≡ false = grind (arith, nat_tests, left) in
    let full : nat_lt (most_features old) (length (after (old.state.version + 1) subject.office changes old.state.features)) ≡ true = rw (← counted) (grind (arith, nat_tests, more)) in
    go _ _ not_last full
  where
    go : (last over : Bool) → last ≡ false → over ≡ true
        → MatchBool last ((old ≡ old) × (Failed faults.StoreFull ≡ Failed faults.Spent)) (MatchBool over ((old ≡ old) × (Failed faults.StoreFull ≡ Failed faults.StoreFull))
        ((Failed faults.StoreFull ≡ Ended (outcomes.Applied (old.state.version + 1))) × (old ≡ without_transaction number (recorded seat (applied subject (old.state.version + 1) changes) old))))
    go true over e f = absurd cc
    go false true e f = (refl, refl)
    go false false e f = absurd cc

-- an accepted list that is applied, or ends with X12
pub commits_accepted : (seat number : ℕ) (subject : Subject) (changes : List Change) (old new : WorldData) (reply : Reply) → changes ≡ staged_in number old.transactions → Judged old.state subject changes judgements.Accepted
    → UnlessMemory old new reply (Applies seat number subject changes old new reply) → UnlessMemory old new reply (Commits seat number subject old new reply)
commits_accepted seat number subject changes old new reply e judged h = go (is_memory reply) h
  where
    go : (b : Bool) → MatchBool b (new ≡ old) (Applies seat number subject changes old new reply) → MatchBool b (new ≡ old) (Commits seat number subject old new reply)
    go true h = h
    go false h = (
      judgements.Accepted,
      subst (λ (list : List Change). Judged old.state subject list judgements.Accepted) e judged,
      subst (λ (list : List Change). Applies seat number subject list old new reply) e h,
    )
