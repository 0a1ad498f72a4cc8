-- Any line but OPEN, STEP and FINISH, and the visits of an open search, one after another.
use Rattle.std.proofs.Common.{◌≡◌, ℕ, zero, suc, ◌+◌, ◌<◌, List, Option, None, Result, Ok, Err, sym, ap, subst, ◌∙◌, arith}
use Rattle.std.specs.Bool.{MatchBool}
use Rattle.features.specs.declared.rows.Change.{Change}
use Rattle.plain_world.specs.declared.faults.Fault.{Fault}
use Rattle.tree_answers.specs.declared.answers.Visit.{Visit}
use Rattle.tree_answers.specs.declared.answers.Visit.TheVariants as visits
use Rattle.plain_world.specs.Admitting.{may_go_on}
use Rattle.plain_world.specs.Events.{VisitNext, Happens, Visited, Failed}
use Rattle.plain_world.specs.States.{WorldData}
use Rattle.session_lines.specs.Desks.{Answers, desk}
use Rattle.session_lines.specs.Replies.{SaidData}
use Rattle.scripts.specs.Scripts.{Manner, TakesPlain, desk_of, keeps_seat}
use Rattle.scripts.specs.States.{SessionIn, SessionState, solo}
use Rattle.scripts.specs.Stepping.{FindsMore, GoesOn, SeesMore, VisitsOn}
use Rattle.scripts.proofs.SearchLemmas.{more_same}
use Rattle.world.specs.Index.{Index}
use Rattle.world.specs.Stepping.{VisitsIndex}

-- a session is served, and its open search stays or is dropped
pub plain_so : {W : Type 0} (how : Manner W) (text : List ℕ) (old mid new : SessionIn W) (before : Option ℕ) (said : SaidData) → Answers how.subject_of how.serves text (desk_of old) (desk_of mid) said
    → mid.session.search ≡ old.session.search → new.session ≡ record mid.session { search = new.session.search } → before ≡ old.session.seat
    → MatchBool (keeps_seat before mid.session.seat) ((new.session.search ≡ mid.session.search) × (new.world ≡ mid.world)) ((new.session.search ≡ None) × how.drops before mid.session.search mid.world new.world)
    → TakesPlain how text old new said
plain_so how text old mid new before said answers search kept was settles =
    let seat : new.session.seat ≡ mid.session.seat = ap (λ (x : SessionState). x.seat) kept in
    let staged : new.session.staged ≡ mid.session.staged = ap (λ (x : SessionState). x.staged) kept in (
      mid.world,
      subst (λ (at : Option ℕ). Answers how.subject_of how.serves text (desk_of old) (desk new.session.staged (solo mid.world at)) said) (sym seat)
          (subst (λ (xs : List Change). Answers how.subject_of how.serves text (desk_of old) (desk xs (solo mid.world mid.session.seat)) said) (sym staged) answers),
      subst (λ (at : Option ℕ). MatchBool (keeps_seat old.session.seat at) ((new.session.search ≡ old.session.search) × (new.world ≡ mid.world)) ((new.session.search ≡ None) × how.drops old.session.seat old.session.search mid.world new.world)) (sym seat)
          (subst (λ (o : Option ℕ). MatchBool (keeps_seat old.session.seat mid.session.seat) ((new.session.search ≡ o) × (new.world ≡ mid.world)) ((new.session.search ≡ None) × how.drops old.session.seat o mid.world new.world)) search
          (subst (λ (at : Option ℕ). MatchBool (keeps_seat at mid.session.seat) ((new.session.search ≡ mid.session.search) × (new.world ≡ mid.world)) ((new.session.search ≡ None) × how.drops at mid.session.search mid.world new.world)) was settles)),
    )

module _ (seat number count : ℕ) (start old new : WorldData) (more : FindsMore seat number count start old) where
  pub finds_one_more : Happens (VisitNext seat number) old new (Visited visits.More) → FindsMore seat number (count + 1) start new
  finds_one_more h = let next : suc count ≡ count + 1 = omega arith in subst (λ (n : ℕ). FindsMore seat number n start new) next (old, more, h)

  pub goes_ready : (most : ℕ) → count < most → Happens (VisitNext seat number) old new (Visited visits.Ready) → GoesOn seat number most start new (Ok visits.Ready)
  goes_ready most lt h = (count, old, lt, more, h)

  pub goes_refused : (most : ℕ) (fault : Fault) → count < most → Happens (VisitNext seat number) old new (Failed fault) → GoesOn seat number most start new (Err fault)
  goes_refused most fault lt h = (count, old, lt, more, h)

-- visits that find more to see leave the world unchanged
pub finds_same : (seat number count : ℕ) (old new : WorldData) → FindsMore seat number count old new → new ≡ old
finds_same seat number zero old new h = h
finds_same seat number (suc count) old new h = more_same seat number h.0 new h.2 ∙ finds_same seat number count old h.0 h.1

-- the same in the index
module _ (seat number count : ℕ) (start world : WorldData) (more : FindsMore seat number count start world) (first old new : Index) (seen : SeesMore (may_go_on seat number start) number count first old) where
  here : (result : Result Visit Fault) → VisitsIndex (may_go_on seat number world) number old new result → VisitsIndex (may_go_on seat number start) number old new result
  here result visit = subst (λ (w : WorldData). VisitsIndex (may_go_on seat number w) number old new result) (finds_same seat number count start world more) visit

  pub sees_one_more : VisitsIndex (may_go_on seat number world) number old new (Ok visits.More) → SeesMore (may_go_on seat number start) number (count + 1) first new
  sees_one_more visit =
      let next : suc count ≡ count + 1 = omega arith in
      subst (λ (n : ℕ). SeesMore (may_go_on seat number start) number n first new) next (old, seen, here (Ok visits.More) visit)

  pub sees_ready : (most : ℕ) → count < most → VisitsIndex (may_go_on seat number world) number old new (Ok visits.Ready) → VisitsOn (may_go_on seat number start) number most first new (Ok visits.Ready)
  sees_ready most lt visit = (count, old, lt, seen, here (Ok visits.Ready) visit)

  pub sees_refused : (most : ℕ) (fault : Fault) → count < most → VisitsIndex (may_go_on seat number world) number old new (Err fault) → VisitsOn (may_go_on seat number start) number most first new (Err fault)
  sees_refused most fault lt visit = (count, old, lt, seen, here (Err fault) visit)
