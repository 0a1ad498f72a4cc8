-- Which faults are the index's, and what searches and lists do to the index.
use Rattle.std.proofs.Common.{◌≡◌, ℕ, suc, ◌+◌, ◌<◌, ◌==◌, Bool, true, false, List, Option, None, Some, MatchOption, Result, Ok, Err, IfErr, if◌then◌else◌, refl, sym, ap, subst, ◌∙◌, inl, inr, arith, nat_le, nat_lt, length}
use Rattle.std.specs.Prelude.{⊤}
use Rattle.std.specs.Bool.{MatchBool}
use Rattle.plane.specs.declared.point.Point.{Point}
use Rattle.features.specs.declared.actors.Subject.{Subject}
use Rattle.features.specs.declared.rows.Change.{Change}
use Rattle.features.specs.Changes.{after, change_id}
use Rattle.judging.specs.declared.causes.Judgement.{Judgement}
use Rattle.judging.specs.declared.causes.Judgement.TheVariants as judgements
use Rattle.audit_trail.specs.Legal.{subject_of}
use Rattle.audit_trail.specs.Records.{applied}
use Rattle.plain_world.specs.declared.faults.Fault.{Fault}
use Rattle.plain_world.specs.declared.faults.Fault.TheVariants as faults
use Rattle.plain_world.specs.declared.outcomes.Outcome.{Outcome}
use Rattle.plain_world.specs.declared.outcomes.Outcome.TheVariants as outcomes
use Rattle.plain_world.specs.declared.settings.TheConstants.{CHANGE_LIMIT, STEP_LIMIT}
use Rattle.plain_world.specs.declared.advances.Advance.TheVariants.{Walked}
use Rattle.plain_world.specs.Admitting.{LAST, and_then, given, subject_at, may_record, may_go_on, transaction_owned, own_transaction, may_step, may_stage, all_placed, may_commit}
use Rattle.plain_world.specs.Answers.{AnswerData}
use Rattle.plain_world.specs.Events.{Stage, Commit, Happens, Reply, Failed, Rows, Ended, Applies, CommitsAs, is_want, recorded, reply_of, without_transaction}
use Rattle.plain_world.specs.Staging.{names, placements, staged_in, transaction_with}
use Rattle.plain_world.specs.States.{WorldData, most_features}
use Rattle.plain_world.proofs.AdmittedLemmas.{by_if, by_unless}
use Rattle.tree_answers.specs.declared.answers.Step.{Step}
use Rattle.tree_answers.specs.declared.answers.Visit.TheVariants as visits
use Rattle.tree_answers.specs.declared.fault.TreeFault.TheVariants as tree
use Rattle.world.specs.Index.{Index, IndexedWorld}
use Rattle.world.specs.Stepping.{EndsInIndex, VisitsIndex}
use Rattle.world.specs.Walks.{JourneyData, walk_begun as with_place, walk_ended, if_done}
use Rattle.session_lines.specs.declared.faults.LineFault.TheVariants.{BeforeHello}
use Rattle.session_lines.specs.declared.replies.Reply.TheVariants.{Error}
use Rattle.scripts.specs.Causes.{AdvancesIn, Causes, CommitsIn, ConcludesIn, IsOwn, LetsGo, SearchesIn, SeeksIn, StayBeside, WalksMore}
use Rattle.session_lines.specs.Replies.{SaidData, line, outcome_reply, rows, told}
use Rattle.session_lines.specs.Services.{Commit as CommitList, Search as SearchFor}
use Rattle.scripts.specs.Services.{CommitsCall, SearchesCall, ServesCall}
use Rattle.scripts.specs.States.{SoloState, WhereAtRest, IsAtRest, begun}
use Rattle.scripts.specs.Stepping.{SeesMore}
use Rattle.scripts.proofs.SearchLemmas.{want_is}

-- ---- faults that are not the index's

-- each fault with which a test fails fits
module _ (Fits : Fault → Type 0) where
  abbrev pub Fails : {T : Type 0} → Result T Fault → Type 0
  Fails r = (fault : Fault) → r ≡ Err fault → Fits fault

  fails_ok : {T : Type 0} (x : T) → Fails (Ok x)
  fails_ok x fault e = absurd cc

  fails_err : {T : Type 0} (met : Fault) → Fits met → Fails {T = T} (Err met)
  fails_err met fits fault e = subst Fits (cc) fits

  fails_then : {T U : Type 0} (r : Result T Fault) (next : T → Result U Fault) → Fails r → ((x : T) → Fails (next x)) → Fails (and_then r next)
  fails_then (Ok x) next first each = each x
  fails_then (Err met) next first each = fails_err met (first met refl)

  fails_given : {T : Type 0} (o : Option T) → Fits faults.NoSuch → Fails (given o)
  fails_given None fits = fails_err faults.NoSuch fits
  fails_given (Some x) fits = fails_ok x

  fails_if : {T : Type 0} (b : Bool) (met : Fault) (r : Result T Fault) → Fits met → Fails r → Fails (if b then Err met else r)
  fails_if true met r fits rest = fails_err met fits
  fails_if false met r fits rest = rest

  fails_unless : {T : Type 0} (b : Bool) (met : Fault) (x : T) → Fits met → Fails (if b then Ok x else Err met)
  fails_unless true met x fits = fails_ok x
  fails_unless false met x fits = fails_err met fits

  -- if the reply is a refusal, its fault fits
  abbrev pub Answered : Reply → Type 0
  Answered (Failed fault) = Fits fault
  Answered _ = ⊤

  want_fits : ((refusal : _) → Fits (faults.Memory refusal)) → (fault : Fault) → is_want fault ≡ true → Fits fault
  want_fits wants fault e = let is = want_is fault e in subst Fits (sym is.1) (wants is.0)

own_subject : (seat : ℕ) (w : WorldData) → Fails IsOwn (subject_at seat w)
own_subject seat w = fails_given IsOwn (subject_of seat w.seats) refl

own_record : (w : WorldData) → Fails IsOwn (may_record w)
own_record w = fails_if IsOwn (nat_le w.limits.records (length w.trail)) faults.TrailFull (Ok tt) refl (fails_ok IsOwn tt)

own_transaction_fails : (seat number : ℕ) (w : WorldData) → Fails IsOwn (own_transaction seat number w)
own_transaction_fails seat number w =
    fails_then IsOwn (given (transaction_with number w.transactions)) (transaction_owned seat) (fails_given IsOwn _ refl) (λ t. fails_unless IsOwn (t.seat == seat) faults.NotYours t refl)

own_step : (seat number : ℕ) (w : WorldData) → Fails IsOwn (may_step seat number w)
own_step seat number w = fails_then IsOwn (subject_at seat w) _ (own_subject seat w) (λ _. own_transaction_fails seat number w)

own_stage : (seat number : ℕ) (change : Change) (w : WorldData) → Fails IsOwn (may_stage seat number change w)
own_stage seat number change w =
    fails_then IsOwn (may_step seat number w) _ (own_step seat number w) (λ t.
    fails_if IsOwn (nat_le CHANGE_LIMIT (length t.changes)) faults.TooManyChanges _ refl
    (fails_if IsOwn (names (change_id change) t.changes) faults.NamedTwice (Ok tt) refl (fails_ok IsOwn tt)))

own_commit : (seat number : ℕ) (w : WorldData) → Fails IsOwn (may_commit seat number w)
own_commit seat number w =
    fails_then IsOwn (subject_at seat w) _ (own_subject seat w) (λ subject.
    fails_then IsOwn (own_transaction seat number w) _ (own_transaction_fails seat number w) (λ t.
    fails_then IsOwn (all_placed t) _ (fails_if IsOwn (nat_lt t.placed (length (placements t.changes))) faults.NotPlaced (Ok tt) refl (fails_ok IsOwn tt)) (λ _.
    fails_then IsOwn (may_record w) _ (own_record w) (λ _. fails_ok IsOwn subject))))

own_wants : (fault : Fault) → is_want fault ≡ true → IsOwn fault
own_wants = want_fits IsOwn (λ refusal. refl)

-- events whose refusals are never the index's
pub stage_own : (seat number : ℕ) (change : Change) (old new : WorldData) (reply : Reply) → Happens (Stage seat number change) old new reply → Answered IsOwn reply
stage_own seat number change old new reply h =
    by_if (may_stage seat number change old) old new reply _ (Answered IsOwn) (λ fault may same. own_stage seat number change old fault may) (λ u may d. subst (Answered IsOwn) (sym d.1) tt) h

applies_own : (seat number : ℕ) (subject : Subject) (changes : List Change) (old new : WorldData) (reply : Reply) → Applies seat number subject changes old new reply → Answered IsOwn reply
applies_own seat number subject changes old new reply h =
    last (old.state.version == LAST) (nat_lt (most_features old) (length (after (old.state.version + 1) subject.office changes old.state.features))) h
  where
    Applied : Type 0
    Applied = (reply ≡ Ended (outcomes.Applied (old.state.version + 1))) × (new ≡ without_transaction number (recorded seat (applied subject (old.state.version + 1) changes) old))

    last : (l o : Bool) → MatchBool l ((new ≡ old) × (reply ≡ Failed faults.Spent)) (MatchBool o ((new ≡ old) × (reply ≡ Failed faults.StoreFull)) Applied) → Answered IsOwn reply
    last true o d = subst (Answered IsOwn) (sym d.1) refl
    last false true d = subst (Answered IsOwn) (sym d.1) refl
    last false false d = subst (Answered IsOwn) (sym d.0) tt

judged_own : (judgement : Judgement) (seat number : ℕ) (subject : Subject) (changes : List Change) (old new : WorldData) (reply : Reply) → CommitsAs judgement seat number subject changes old new reply → Answered IsOwn reply
judged_own judgements.Accepted seat number subject changes old new reply h = applies_own seat number subject changes old new reply h
judged_own (judgements.Refused refusal question) seat number subject changes old new reply h = subst (Answered IsOwn) (sym h.0) tt

pub commit_own : (seat number : ℕ) (old new : WorldData) (reply : Reply) → Happens (Commit seat number) old new reply → Answered IsOwn reply
commit_own seat number old new reply h =
    by_if (may_commit seat number old) old new reply _ (Answered IsOwn) (λ fault may same. own_commit seat number old fault may)
    (λ subject may d. by_unless old new reply _ (Answered IsOwn) (λ fault want same. own_wants fault want)
    (λ d. judged_own d.0 seat number subject (staged_in number old.transactions) old new reply d.2) d) h

pub ends_own : {T : Type 0} (make : T → Reply) (r : Result T Fault) → Answered IsOwn (reply_of make r) → IfErr r IsOwn
ends_own make (Ok x) own = tt
ends_own make (Err fault) own = own

-- ---- searches

module _ (seat number count : ℕ) (start world : WorldData) (same : world ≡ start) (first old : Index) (seen : SeesMore (may_go_on seat number start) number count first old) where
  -- one visit more
  pub seeks_further : (new : Index) → VisitsIndex (may_go_on seat number world) number old new (Ok visits.More) → SeesMore (may_go_on seat number start) number (count + 1) first new
  seeks_further new visit =
      let next : suc count ≡ count + 1 = omega arith in
      subst (λ (n : ℕ). SeesMore (may_go_on seat number start) number n first new) next
      (old, seen, subst (λ (w : WorldData). VisitsIndex (may_go_on seat number w) number old new (Ok visits.More)) same visit)

  -- the visit is refused
  pub seeks_refused_in : {T : Type 0} (new : Index) (fault : Fault) → VisitsIndex (may_go_on seat number world) number old new (Err fault) → SeeksIn {T = T} (may_go_on seat number start) number first new (Err fault)
  seeks_refused_in new fault visit =
      (count, old, seen, inl (fault, subst (λ (w : WorldData). VisitsIndex (may_go_on seat number w) number old new (Err fault)) same visit, refl))

  -- the search is ready, and is finished
  pub seeks_ready_in : {T : Type 0} (mid new : Index) (result : Result T Fault) → VisitsIndex (may_go_on seat number world) number old mid (Ok visits.Ready) → EndsInIndex number mid new result
      → SeeksIn (may_go_on seat number start) number first new result
  seeks_ready_in mid new result visit ends =
      (count, old, seen, inr (inl (mid, subst (λ (w : WorldData). VisitsIndex (may_go_on seat number w) number old mid (Ok visits.Ready)) same visit, ends)))

  -- the visits are at their upper bound
  pub seeks_no_longer_in : {T : Type 0} → STEP_LIMIT < count → SeeksIn {T = T} (may_go_on seat number start) number first old (Err (faults.Tree tree.Overrun))
  seeks_no_longer_in lt = (count, old, seen, inr (inr (lt, refl, refl)))

-- ---- lists

module _ (seat number count : ℕ) (first old : IndexedWorld) (walks : WalksMore seat number count first old) where
  -- one step more
  pub walks_further : (new : IndexedWorld) (step : Step) → AdvancesIn seat number old new (Ok (Walked step)) → WalksMore seat number (count + 1) first new
  walks_further new step h =
      let next : suc count ≡ count + 1 = omega arith in
      subst (λ (n : ℕ). WalksMore seat number n first new) next (old, step, walks, h)

-- a transaction's place may be removed once more
pub lets_go : {T : Type 0} (number : ℕ) (start old new : List JourneyData) (r : Result T Fault) → LetsGo number start old → new ≡ if_done r old (λ _. walk_ended number old) → LetsGo number start new
lets_go number start old new (Ok x) gone is = (suc gone.0, is ∙ ap (walk_ended number) gone.1)
lets_go number start old new (Err fault) gone is = (gone.0, is ∙ gone.1)

-- a list that is staged in its transaction, from the transaction's beginning on
pub commits_in : {T : Type 0} (seat number : ℕ) (changes : List Change) (old mid new : IndexedWorld) (result : Result T Fault) → number ≡ old.plain.next_transaction → mid.index ≡ old.index → mid.walks ≡ with_place number old.walks
    → ConcludesIn seat number changes (begun old.plain) mid.index mid.walks new result → CommitsIn seat changes old new result
commits_in seat number changes old mid new result is index walks h =
    inr (subst (λ (n : ℕ). ConcludesIn seat n changes (begun old.plain) old.index (with_place n old.walks) new result) is (
      h.0,
      record { stands = h.1.stands; index_is = h.1.index_is ∙ index; walks_are = h.1.walks_are ∙ walks },
      h.2,
      h.3,
      h.4,
      h.5,
      h.6,
      h.7,
    ))

-- ---- a session's calls

-- a search, by its result
module _ (seat : ℕ) (window : List Point) (end : Result AnswerData Fault) (said : SaidData) (shown : said ≡ told rows end) where
  pub search_so : (old new : SoloState) → old.seat ≡ Some seat → new.seat ≡ old.seat → WhereAtRest old.world new.world (SearchesCall seat window old.world new.world (reply_of Rows end)) → ServesCall (SearchFor window) old new said
  search_so old new is same ends =
      subst (λ (s : Option ℕ). MatchOption s ((new ≡ old) × (said ≡ line (Error BeforeHello))) (λ seat. (new.seat ≡ old.seat)
      × WhereAtRest old.world new.world ((end : Result AnswerData Fault) × SearchesCall seat window old.world new.world (reply_of Rows end) × (said ≡ told rows end)))) (sym is)
      (same, λ still. let all = ends still in (all.0, (end, all.1, shown)))

  pub search_there : (at : Option ℕ) (old new : IndexedWorld) → at ≡ Some seat → SearchesIn seat window old new end → Causes (SearchFor window) at old new said
  search_there at old new is h =
      subst (λ (s : Option ℕ). MatchOption s (StayBeside old new) (λ seat. (end : Result AnswerData Fault) × SearchesIn seat window old new end × (said ≡ told rows end))) (sym is) (end, h, shown)

-- a commit, by its result
module _ (seat : ℕ) (changes : List Change) (end : Result Outcome Fault) (said : SaidData) (shown : said ≡ told (λ outcome. line (outcome_reply outcome)) end) where
  pub commit_so : (old new : SoloState) → old.seat ≡ Some seat → new.seat ≡ old.seat → WhereAtRest old.world new.world (CommitsCall seat changes old.world new.world (reply_of Ended end)) → ServesCall (CommitList changes) old new said
  commit_so old new is same ends =
      subst (λ (s : Option ℕ). MatchOption s ((new ≡ old) × (said ≡ line (Error BeforeHello))) (λ seat. (new.seat ≡ old.seat)
      × WhereAtRest old.world new.world ((end : Result Outcome Fault) × CommitsCall seat changes old.world new.world (reply_of Ended end) × (said ≡ told (λ outcome. line (outcome_reply outcome)) end)))) (sym is)
      (same, λ still. let all = ends still in (all.0, (end, all.1, shown)))

  pub commit_there : (at : Option ℕ) (old new : IndexedWorld) → at ≡ Some seat → (IsAtRest old.plain → CommitsIn seat changes old new end) → Causes (CommitList changes) at old new said
  commit_there at old new is h =
      subst (λ (s : Option ℕ). MatchOption s (StayBeside old new) (λ seat. (end : Result Outcome Fault) × (IsAtRest old.plain → CommitsIn seat changes old new end)
      × (said ≡ told (λ outcome. line (outcome_reply outcome)) end))) (sym is) (end, h, shown)
