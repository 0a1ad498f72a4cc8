-- An answer that was made at a state is taken in there.
use Rattle.std.proofs.Common.{◌≡◌, ◌<◌, ℕ, List, [], ◌∷◌, ◌++◌, length, map, Option, Result, Ok, refl, ap, subst, ◌∙◌}
use Rattle.features.specs.declared.actors.Subject.{Subject}
use Rattle.features.specs.declared.rows.Feature.{Feature}
use Rattle.judging.specs.States.{PlainState}
use Rattle.audit_trail.specs.Legal.{after_deed, IsLegalDeed, IsSeated}
use Rattle.audit_trail.specs.Records.{DeedData, answered, applied, turned_away, governed, RecordData}
use Rattle.plain_world.specs.declared.faults.Fault.{Fault}
use Rattle.plain_world.specs.Admitting.{and_then, given, may_answer, may_record}
use Rattle.plain_world.specs.Answering.{IsAnswered, IsLegalAnswer, TakesIn}
use Rattle.plain_world.specs.Answers.{AnswerData, answer_deed}
use Rattle.plain_world.specs.Events.{Rows}
use Rattle.plain_world.specs.States.{WorldData, Keeps}
use Rattle.plain_world.specs.declared.settings.Limits.{Limits}
use Rattle.plain_world.proofs.EventLemmas.{admitted}
use Rattle.plain_world.proofs.SoundLemmas.{keeps_added}

-- the record of an answer changes no state
answered_still : (deed : DeedData) (state : PlainState) → IsAnswered deed → after_deed deed state ≡ state
answered_still (answered subject window ids versions) state is = refl
answered_still (applied subject version changes) state is = absurd is
answered_still (turned_away subject changes refusal) state is = absurd is
answered_still (governed edition decider) state is = absurd is

-- a world keeps what it keeps
pub keeps_answered : (limits : Limits) (seats : List Subject) (base : PlainState) (trail : List RecordData) (state : PlainState) (r : RecordData) → Keeps limits seats base trail state → length trail < limits.records
    → IsLegalAnswer seats state r → Keeps limits seats base (trail ++ r ∷ []) state
keeps_answered limits seats base trail state r h below legal =
    subst (λ (s : PlainState). Keeps limits seats base (trail ++ r ∷ []) s) (answered_still r.deed state legal.0) (keeps_added limits seats base trail state r h below legal.1)

may_answer_given : (seat : ℕ) (w : WorldData) (subject : Subject) → IsSeated seat w.seats subject → may_record w ≡ Ok tt → may_answer seat w ≡ Ok subject
may_answer_given seat w subject seated room =
    ap (λ (o : Option Subject). and_then (given o) (λ (s : Subject). and_then (may_record w) (λ _. Ok s))) seated
    ∙ ap (λ (m : Result (Unit {0}) Fault). and_then m (λ _. Ok subject)) room

-- the record, put at the trail's end, is that of the event
pub takes_in : (r : RecordData) (w : WorldData) → may_record w ≡ Ok tt → IsLegalAnswer w.seats w.state r → TakesIn r w (record w { trail = w.trail ++ r ∷ [] })
takes_in r w room legal = go r.deed refl legal.0 legal.1
  where
    go : (deed : DeedData) → r.deed ≡ deed → IsAnswered deed → IsLegalDeed w.seats w.state r.seat deed → TakesIn r w (record w { trail = w.trail ++ r ∷ [] })
    go (answered subject window ids versions) same is deed =
        let rows = deed.1.0 in
        let answer : AnswerData = record { subject = subject; window = window; decider = w.state.decider; rows = rows } in
        let told : r.deed ≡ answer_deed answer =
        same ∙ ap (λ (xs : List ℕ). answered subject window xs versions) deed.1.2
        ∙ ap (λ (xs : List ℕ). answered subject window (map (λ (row : Feature). row.id) rows) xs) deed.1.3 in
        record {
          answer = answer;
          told = told;
          happens = admitted (may_answer r.seat w) subject w _ (Rows answer) _ (may_answer_given r.seat w subject deed.0 room)
              (rows, deed.1.1, refl, ap (λ (d : DeedData). let e : WorldData = record w { trail = w.trail ++ record { seat = r.seat; deed = d } ∷ [] } in e) told);
          added = refl;
        }
    go (applied subject version changes) same is deed = absurd is
    go (turned_away subject changes refusal) same is deed = absurd is
    go (governed edition decider) same is deed = absurd is
