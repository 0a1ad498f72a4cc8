-- What a call that writes a record makes of a chronicle.
use Rattle.std.proofs.Common.{◌≡◌, ◌≢◌, ◌<◌, ◌≤◌, ℕ, ◌+◌, ◌==◌, Bool, true, false, List, [], ◌∷◌, ◌++◌, length, map, nat_eq, Option, None, Some, Result, Ok, Err, refl, sym, ap, subst, ◌∙◌, if◌then◌else◌, arith}
use Rattle.std.specs.Prelude.{IfOk, OnErr, OnOk, nat_le}
use Rattle.std.specs.Cmp.Lexicographic.{pointwise}
use Rattle.std.proofs.lemmas.Slice.Eq.{bytes_eq-Decides}
use Rattle.plane.specs.declared.point.Point.{Point}
use Rattle.features.specs.declared.actors.Subject.{Subject}
use Rattle.features.specs.declared.rows.Change.{Change}
use Rattle.features.specs.Subjects.{subject_named}
use Rattle.policy_documents.specs.Documents.{DocumentData}
use Rattle.decision.specs.Deciders.{DeciderData}
use Rattle.audit_trail.specs.Legal.{IsSeated, subject_of}
use Rattle.audit_trail.specs.Records.{DeedData, answered, governed, RecordData}
use Rattle.judging.specs.States.{PlainState}
use Rattle.plain_world.specs.Admitting.{given, may_go_on, may_sit, own_search, owned, placed, search_with, subject_at}
use Rattle.plain_world.specs.Answers.{AnswerData}
use Rattle.plain_world.specs.Answering.{TakesIn}
use Rattle.plain_world.specs.Events.{Answer, Commit, Ended, Finish, Govern, Happens, Number, Failed, Reply, Roll, Rows, TakenOut, TakeSeat, reply_of}
use Rattle.plain_world.specs.Laws.{AddsAlone, HasOneMore, IsJudgement, deed_of}
use Rattle.plain_world.specs.Rolls.{RolledData}
use Rattle.plain_world.specs.Staging.{TransactionData, staged_in}
use Rattle.plain_world.specs.States.{IsSoundWorld, WorldData}
use Rattle.plain_world.specs.declared.faults.Fault.{Fault}
use Rattle.plain_world.specs.declared.faults.Fault.TheVariants as faults
use Rattle.plain_world.specs.declared.outcomes.Outcome.{Outcome}
use Rattle.plain_world.specs.declared.outcomes.Outcome.TheVariants as outcomes
use Rattle.plain_world.specs.declared.open_searches.Search.{Search}
use Rattle.plain_world.specs.declared.settings.TheConstants.{SEAT_LIMIT}
use Rattle.plain_world.proofs.AdmittedLemmas.{admitted, seat_same, staged_of}
use Rattle.plain_world.proofs.AnswerLemmas.{answer_exact, piece_leads_on, policy_stewards}
use Rattle.plain_world.proofs.OutcomeLemmas.{outcome_judgement}
use Rattle.plain_world.proofs.RecordLemmas.{adds_alone}
use Rattle.plain_world.proofs.RefusalLemmas.{leaves}
use Rattle.plain_world.proofs.RunLemmas.{and_then_ok, given_ok}
use Rattle.chronicle.specs.Changing.{after_list, after_policy}
use Rattle.chronicle.specs.Chronicles.{ChronicleData, IsHeld, IsLastChange, noted, seen}
use Rattle.chronicle.specs.Noting.{IsAnswered, IsEndedBy, IsGovernedBy, IsJudged, IsSeatGiven, told_answer}
use Rattle.chronicle.proofs.EventLemmas.{adds, held_changed, held_on, held_still, rolls}

-- an unchanged world is seen as an unchanged chronicle
seen_same : (base : PlainState) (rolled : List RecordData) (old new : WorldData) → new ≡ old → seen base rolled new ≡ seen base rolled old
seen_same base rolled old new e = ap (seen base rolled) e

number_same : (a b : ℕ) → Number a ≡ Number b → a ≡ b
number_same a b e = cc

-- Seats.

-- the subject that may sit is the one of the name
sat_by_name : (name : List ℕ) (w : WorldData) (subject : Subject) → may_sit name w ≡ Ok subject → subject_named name w.subjects ≡ Some subject
sat_by_name name w subject e = go (subject_named name w.subjects) refl e
  where
    full : (b : Bool) (x : Subject) → ◌≡◌ {A = Result Subject Fault} (if b then Err faults.NoPlace else Ok x) (Ok subject) → x ≡ subject
    full true x e = absurd cc
    full false x e = cc

    go : (o : Option Subject) → subject_named name w.subjects ≡ o → placed (length w.seats) o ≡ Ok subject → subject_named name w.subjects ≡ Some subject
    go None is e = absurd cc
    go (Some x) is e = is ∙ ap Some (full (nat_le SEAT_LIMIT (length w.seats)) x e)

pub seat_given : (base : PlainState) (rolled : List RecordData) (name : List ℕ) (old new : WorldData) (result : Result ℕ Fault) → Happens (TakeSeat name) old new (reply_of Number result)
    → IfOk result (λ number. number ≤ SEAT_LIMIT) → IfOk result (λ number. IsSeatGiven name number (seen base rolled old) (seen base rolled new))
seat_given base rolled name old new (Ok number) happens few =
    let d = admitted (may_sit name old) old new (Number number) _ refl happens in
    record { next = number_same number (length old.seats + 1) d.2.1; few = few; subject = d.0; named = sat_by_name name old d.0 d.1; given = ap (seen base rolled) d.2.0 }
seat_given base rolled name old new (Err fault) happens few = tt

pub seat_refused : (base : PlainState) (rolled : List RecordData) (name : List ℕ) (old new : WorldData) (result : Result ℕ Fault) → Happens (TakeSeat name) old new (reply_of Number result)
    → OnErr result (seen base rolled new ≡ seen base rolled old)
seat_refused base rolled name old new (Ok number) happens = tt
seat_refused base rolled name old new (Err fault) happens = seen_same base rolled old new (leaves (TakeSeat name) old new fault happens)

-- Searches.

-- a search that may go on is the open one of its number
runs : (seat number : ℕ) (w : WorldData) (s : Search) → may_go_on seat number w ≡ Ok s → search_with number w.searches ≡ Some s
runs seat number w s e =
    let a = and_then_ok (subject_at seat w) (λ _. own_search seat number w) s e in
    let b = and_then_ok (given (search_with number w.searches)) (owned seat) s a.2 in
    given_ok (search_with number w.searches) b.0 b.1 ∙ ap Some (seat_same seat b.0 s b.2).0

-- what a chronicle keeps, after a search was to be finished
pub held_answered : (seat number : ℕ) (old new : WorldData) (result : Result AnswerData Fault) (base : PlainState) (rolled : List RecordData) (changed : ℕ)
    → Happens (Finish seat number) old new (reply_of Rows result) → IsHeld base rolled changed old → IsHeld base rolled changed new
held_answered seat number old new (Ok answer) base rolled changed happens held =
    held_still (Finish seat number) old new (Rows answer) base rolled changed seat (told_answer answer) happens (λ state. refl)
    (adds_alone (Finish seat number) old new (Rows answer) happens) held
held_answered seat number old new (Err fault) base rolled changed happens held =
    held_on (Finish seat number) old new (Failed fault) base rolled changed happens (adds_alone (Finish seat number) old new (Failed fault) happens) held

pub search_answered : (base : PlainState) (rolled : List RecordData) (seat number : ℕ) (s : Search) (old new : WorldData) (result : Result AnswerData Fault)
    → may_go_on seat number old ≡ Ok s → Happens (Finish seat number) old new (reply_of Rows result)
    → IfOk result (λ answer. IsAnswered seat s.window answer (seen base rolled old) (seen base rolled new))
search_answered base rolled seat number s old new (Ok answer) may happens =
    let exact = answer_exact seat number old new answer happens in
    let one : s ≡ exact.search = some_same s exact.search (sym (runs seat number old s may) ∙ exact.running) in
    record {
      seated = exact.seated;
      window = exact.window ∙ sym (ap (λ (t : Search). t.window) one);
      decider = exact.decider;
      listed = exact.listed;
      told = adds (Finish seat number) old new (Rows answer) base rolled seat (told_answer answer) tt happens (adds_alone (Finish seat number) old new (Rows answer) happens);
    }
  where
    some_same : (a b : Search) → Some a ≡ Some b → a ≡ b
    some_same a b e = cc
search_answered base rolled seat number s old new (Err fault) may happens = tt

pub finish_refused : (base : PlainState) (rolled : List RecordData) (seat number : ℕ) (old new : WorldData) (result : Result AnswerData Fault) → Happens (Finish seat number) old new (reply_of Rows result)
    → OnErr result (seen base rolled new ≡ seen base rolled old)
finish_refused base rolled seat number old new (Ok answer) happens = tt
finish_refused base rolled seat number old new (Err fault) happens = seen_same base rolled old new (leaves (Finish seat number) old new fault happens)

-- Whole searches.

-- what a chronicle keeps, after an answer was to be taken in
pub held_taken : {E : Type 0} (r : RecordData) (old new : WorldData) (result : Result (Unit {0}) E) (base : PlainState) (rolled : List RecordData) (changed : ℕ)
    → OnOk result (TakesIn r old new) → OnErr result (new ≡ old) → IsHeld base rolled changed old → IsHeld base rolled changed new
held_taken r old new (Ok u) base rolled changed takes same held =
    let event = Answer r.seat takes.answer.window in
    held_still event old new (Rows takes.answer) base rolled changed r.seat (told_answer takes.answer) takes.happens (λ state. refl)
    (adds_alone event old new (Rows takes.answer) takes.happens) held
held_taken r old new (Err e) base rolled changed takes same held = subst (IsHeld base rolled changed) (sym same) held

-- Lists of changes.

-- what a chronicle keeps, after a list was to be committed
pub held_committed : (seat number : ℕ) (old new : WorldData) (result : Result Outcome Fault) (base : PlainState) (rolled : List RecordData) (changed now : ℕ)
    → Happens (Commit seat number) old new (reply_of Ended result) → now ≡ length (rolled ++ new.trail) → IsHeld base rolled changed old
    → IsHeld base rolled (after_list result changed now) new
held_committed seat number old new (Ok (outcomes.Applied version)) base rolled changed now happens all held =
    let alone = adds_alone (Commit seat number) old new (Ended (outcomes.Applied version)) happens in
    held_changed (Commit seat number) old new (Ended (outcomes.Applied version)) base rolled changed now seat
    (deed_of alone.0 (staged_in number old.transactions) (outcomes.Applied version)) happens alone.2 all held
held_committed seat number old new (Ok (outcomes.Refused refusal denial)) base rolled changed now happens all held =
    let alone = adds_alone (Commit seat number) old new (Ended (outcomes.Refused refusal denial)) happens in
    held_still (Commit seat number) old new (Ended (outcomes.Refused refusal denial)) base rolled changed seat
    (deed_of alone.0 (staged_in number old.transactions) (outcomes.Refused refusal denial)) happens (λ state. refl) alone.2 held
held_committed seat number old new (Err fault) base rolled changed now happens all held =
    held_on (Commit seat number) old new (Failed fault) base rolled changed happens (adds_alone (Commit seat number) old new (Failed fault) happens) held

-- a transaction's judgement is that of its list
judged_so : (subject : Subject) (t : TransactionData) (old new : PlainState) (outcome : Outcome) → IsJudgement subject t old new outcome → IsJudged subject t.changes old outcome
judged_so subject t old new (outcomes.Applied version) h = (h.0, h.1)
judged_so subject t old new (outcomes.Refused refusal denial) h = (h.0, h.1)

one_seated : (seat : ℕ) (seats : List Subject) (one other : Subject) → IsSeated seat seats one → IsSeated seat seats other → one ≡ other
one_seated seat seats one other h k = some_same one other (sym h ∙ k)
  where
    some_same : (a b : Subject) → Some a ≡ Some b → a ≡ b
    some_same a b e = cc

pub list_ended : (base : PlainState) (rolled : List RecordData) (seat number : ℕ) (changes : List Change) (old new : WorldData) (result : Result Outcome Fault)
    → staged_in number old.transactions ≡ changes → Happens (Commit seat number) old new (reply_of Ended result)
    → IfOk result (λ outcome. IsEndedBy seat changes outcome (seen base rolled old) (seen base rolled new))
list_ended base rolled seat number changes old new (Ok outcome) same happens =
    let alone = adds_alone (Commit seat number) old new (Ended outcome) happens in
    let ends = outcome_judgement seat number old new outcome happens in
    let own : ends.0 ≡ alone.0 = one_seated seat old.seats ends.0 alone.0 ends.2 alone.1 in
    let list : ends.1.changes ≡ changes = sym (staged_of number old.transactions ends.1 ends.3) ∙ same in
    let judged : IsJudged ends.0 ends.1.changes old.state outcome = judged_so ends.0 ends.1 old.state new.state outcome ends.5 in
    record {
      subject = alone.0;
      seated = alone.1;
      judged = subst (λ (s : Subject). IsJudged s changes old.state outcome) own
          (subst (λ (cs : List Change). IsJudged ends.0 cs old.state outcome) list judged);
      told = subst (λ (cs : List Change). seen base rolled new ≡ noted seat (deed_of alone.0 cs outcome) (seen base rolled old)) same
          (adds (Commit seat number) old new (Ended outcome) base rolled seat (deed_of alone.0 (staged_in number old.transactions) outcome) tt happens alone.2);
    }
list_ended base rolled seat number changes old new (Err fault) same happens = tt

pub commit_refused : (base : PlainState) (rolled : List RecordData) (seat number : ℕ) (old new : WorldData) (result : Result Outcome Fault) → Happens (Commit seat number) old new (reply_of Ended result)
    → OnErr result (seen base rolled new ≡ seen base rolled old)
commit_refused base rolled seat number old new (Ok outcome) happens = tt
commit_refused base rolled seat number old new (Err fault) happens = seen_same base rolled old new (leaves (Commit seat number) old new fault happens)

-- Policies.

-- what a chronicle keeps, after a document was to be put in force
pub held_governed : (seat : ℕ) (document : DocumentData) (old new : WorldData) (result : Result ℕ Fault) (base : PlainState) (rolled : List RecordData) (changed now : ℕ)
    → Happens (Govern seat document) old new (reply_of Number result) → now ≡ length (rolled ++ new.trail) → IsHeld base rolled changed old
    → IsHeld base rolled (after_policy result changed now) new
held_governed seat document old new (Ok edition) base rolled changed now happens all held =
    held_changed (Govern seat document) old new (Number edition) base rolled changed now seat (governed edition (record { document = document; edition = edition })) happens
    (adds_alone (Govern seat document) old new (Number edition) happens) all held
held_governed seat document old new (Err fault) base rolled changed now happens all held =
    held_on (Govern seat document) old new (Failed fault) base rolled changed happens (adds_alone (Govern seat document) old new (Failed fault) happens) held

pub governed_next : (base : PlainState) (rolled : List RecordData) (seat : ℕ) (decider : DeciderData) (old new : WorldData) (result : Result ℕ Fault)
    → Happens (Govern seat decider.document) old new (reply_of Number result) → decider.edition ≡ old.state.decider.edition + 1
    → IfOk result (λ edition. IsGovernedBy seat decider edition (seen base rolled old) (seen base rolled new))
governed_next base rolled seat decider old new (Ok edition) happens fits =
    let stewards = policy_stewards seat decider.document edition old new happens in
    let there : edition ≡ decider.edition = stewards.1 ∙ sym fits in
    record {
      subject = stewards.0.0;
      seated = stewards.0.1;
      steward = stewards.0.2;
      edition_told = there;
      next = stewards.1;
      told = adds (Govern seat decider.document) old new (Number edition) base rolled seat (governed decider.edition decider) tt happens
          (subst (λ (n : ℕ). HasOneMore seat (governed n (record { document = decider.document; edition = n })) old new) there (adds_alone (Govern seat decider.document) old new (Number edition) happens));
    }
governed_next base rolled seat decider old new (Err fault) happens fits = tt

pub govern_refused : (base : PlainState) (rolled : List RecordData) (seat : ℕ) (document : DocumentData) (old new : WorldData) (result : Result ℕ Fault) → Happens (Govern seat document) old new (reply_of Number result)
    → OnErr result (seen base rolled new ≡ seen base rolled old)
govern_refused base rolled seat document old new (Ok edition) happens = tt
govern_refused base rolled seat document old new (Err fault) happens = seen_same base rolled old new (leaves (Govern seat document) old new fault happens)

-- Rolling.

-- a roll that takes the trail out keeps all records
pub roll_kept : (seat : ℕ) (old new : WorldData) (piece : RolledData) (base : PlainState) (rolled : List RecordData) (changed : ℕ) → IsSoundWorld old → Happens (Roll seat) old new (TakenOut piece)
    → IsHeld base rolled changed old → (seen base (rolled ++ piece.records) new ≡ seen base rolled old) × IsHeld base (rolled ++ piece.records) changed new
roll_kept seat old new piece base rolled changed sound happens held =
    let kept = rolls seat old new piece base rolled happens sound (piece_leads_on seat old new piece sound happens) (adds_alone (Roll seat) old new (TakenOut piece) happens).1 held.leads in (
      kept.0,
      record { leads = kept.1; last_change = subst (IsLastChange changed) (sym (ap (λ (c : ChronicleData). c.records) kept.0)) held.last_change },
    )

-- the piece has the trail's records
pub roll_held : (seat : ℕ) (old new : WorldData) (piece : RolledData) → IsSoundWorld old → Happens (Roll seat) old new (TakenOut piece) → piece.records ≡ old.trail
roll_held seat old new piece sound happens = (piece_leads_on seat old new piece sound happens).5
