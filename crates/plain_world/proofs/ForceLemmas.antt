-- The decider in force is the last one that was put in force.
use Rattle.std.proofs.Common.{◌≡◌, List, [], ◌∷◌, refl, sym, ap, ◌∙◌}
use Rattle.features.specs.declared.actors.Subject.{Subject}
use Rattle.features.specs.declared.rows.Change.{Change}
use Rattle.decision.specs.Deciders.{DeciderData}
use Rattle.audit_trail.specs.Legal.{after_deed}
use Rattle.judging.specs.States.{PlainState}
use Rattle.plain_world.specs.declared.outcomes.Outcome.{Outcome}
use Rattle.plain_world.specs.declared.outcomes.Outcome.TheVariants as outcomes
use Rattle.plain_world.specs.Events.{Event, Finish, Answer, Commit, Govern, Roll, Reply, Number, Rows, Ended, TakenOut, Run}
use Rattle.plain_world.specs.Laws.{AddsAlone, deed_of, in_force}
use Rattle.plain_world.specs.States.{WorldData}
use Rattle.plain_world.proofs.RecordLemmas.{adds_alone}

-- an outcome changes no decider
outcome_keeps : (subject : Subject) (changes : List Change) (outcome : Outcome) (state : PlainState) → (after_deed (deed_of subject changes outcome) state).decider ≡ state.decider
outcome_keeps subject changes (outcomes.Applied version) state = refl
outcome_keeps subject changes (outcomes.Refused refusal denial) state = refl

forced_by : (event : Event) (reply : Reply) (old new : WorldData) → AddsAlone event old new reply → new.state.decider ≡ in_force old.state.decider ((event, reply) ∷ [])
forced_by (Finish seat search) (Rows answer) old new h = ap (λ (s : PlainState). s.decider) h.1
forced_by (Answer seat window) (Rows answer) old new h = ap (λ (s : PlainState). s.decider) h.1
forced_by (Commit seat number) (Ended outcome) old new h = ap (λ (s : PlainState). s.decider) h.2.1 ∙ outcome_keeps h.0 _ outcome old.state
forced_by (Govern seat document) (Number edition) old new h = ap (λ (s : PlainState). s.decider) h.1
forced_by (Roll seat) (TakenOut piece) old new h = ap (λ (s : PlainState). s.decider) h.1
forced_by _ _ old new h = ap (λ (s : PlainState). s.decider) h.1

in_force_first : (event : Event) (reply : Reply) (decider : DeciderData) (steps : List (Event × Reply)) → in_force decider ((event, reply) ∷ steps) ≡ in_force (in_force decider ((event, reply) ∷ [])) steps
in_force_first (Govern seat document) (Number edition) decider steps = refl
in_force_first _ _ decider steps = refl

pub forced : (old : WorldData) (events : List (Event × Reply)) (new : WorldData) → Run old events new → new.state.decider ≡ in_force old.state.decider events
forced old [] new e = ap (λ (w : WorldData). w.state.decider) e
forced old (event ∷ events) new run =
    forced run.0 events new run.2
    ∙ ap (λ (decider : DeciderData). in_force decider events) (forced_by event.0 event.1 old run.0 (adds_alone event.0 old run.0 event.1 run.1))
    ∙ sym (in_force_first event.0 event.1 old.state.decider events)
