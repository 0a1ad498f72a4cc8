-- Every run keeps the features sorted, and the changes of a staged list distinct.
use Rattle.std.proofs.Common.{◌≡◌, ℕ, ◌+◌, ◌==◌, ◌≤◌, nat_lt, nat_le, not, Bool, true, false, List, [], ◌∷◌, ◌++◌, length, Option, None, Some, MatchOption, Ok, Err, if◌then◌else◌, refl, sym, subst, arith}
use Rattle.std.specs.Bool.{MatchBool}
use Rattle.plane.specs.declared.point.Point.{Point}
use Rattle.features.specs.declared.actors.Subject.{Subject}
use Rattle.features.specs.declared.rows.Change.{Change}
use Rattle.features.specs.declared.rows.Change.TheVariants.{Add, Reshape, Delete}
use Rattle.features.specs.declared.rows.Feature.{Feature}
use Rattle.features.specs.Changes.{after, after_change, change_id, IsUnnamed, CanChange, CanApply}
use Rattle.features.specs.Rows.{IsSortedById}
use Rattle.feature_store.proofs.ChangeLemmas.{can_apply_rest}
use Rattle.feature_store.proofs.RowLemmas.{sorted_with_row, sorted_with_shape, sorted_without}
use Rattle.decision.specs.Deciders.{DeciderData}
use Rattle.judging.specs.declared.causes.Judgement.{Judgement}
use Rattle.judging.specs.declared.causes.Judgement.TheVariants as judgements
use Rattle.judging.specs.Judging.{Judged, AreDistinct}
use Rattle.audit_trail.specs.Records.{applied}
use Rattle.judging.proofs.AcceptedLemmas.{can_apply, distinct_push}
use Rattle.judging.proofs.ListingLemmas.{listed_sorted}
use Rattle.plain_world.specs.declared.faults.Fault.TheVariants as faults
use Rattle.tree_answers.specs.declared.fault.TreeFault.TheVariants as tree
use Rattle.plain_world.specs.declared.outcomes.Outcome.TheVariants as outcomes
use Rattle.plain_world.specs.declared.open_searches.Search.{Search}
use Rattle.plain_world.specs.declared.settings.Limits.{Limits}
use Rattle.plain_world.specs.declared.settings.Starts.{Starts}
use Rattle.plain_world.specs.declared.settings.TheConstants.{SEAT_LIMIT, CHANGE_LIMIT}
use Rattle.plain_world.specs.declared.advances.Advance.TheVariants as advances
use Rattle.tree_answers.specs.declared.answers.Step.TheVariants as steps
use Rattle.tree_answers.specs.declared.answers.Visit.TheVariants as visits
use Rattle.plain_world.specs.Admitting.{LAST, subject_at, own_transaction, may_add, may_sit, may_open, may_go_on, may_finish, may_answer, may_begin, may_step, may_stage, may_commit, may_govern, may_roll}
use Rattle.plain_world.specs.Answers.{AnswerData}
use Rattle.plain_world.specs.Events.{Event, TakeSeat, OpenSearch, VisitNext, Finish, DropSearch, Answer, Begin, Stage, AdvanceWalk, Commit, Abort, Govern, Tend, Roll, Reply, Visited, Advanced, Tended, Rows, Ended, Failed, is_memory, Happens, Run, Sees, Walks, Visits, Advances, Applies, CommitsAs, Tends, recorded, without_transaction}
use Rattle.plain_world.specs.Laws.{AreApart, IsOrdered}
use Rattle.plain_world.specs.Staging.{TransactionData, transaction_with, staged_in, with_step, staged, one_placed, ended, names, next_placement}
use Rattle.judging.specs.States.{PlainState}
use Rattle.plain_world.specs.States.{WorldData, IsSoundWorld, opened, opened_from, most_features}
use Rattle.plain_world.proofs.AnswerLemmas.{answer_exact, whole_answer_exact}
use Rattle.plain_world.proofs.AdmittedLemmas.{by_if, by_unless, own_open}
use Rattle.plain_world.proofs.RunLemmas.{and_then_ok}
use Rattle.plain_world.proofs.TransactionLemmas.{unnamed}

-- An applied list keeps the features sorted.

sorted_change : (version : ℕ) (office : List ℕ) (change : Change) (rows : List Feature) → CanChange change rows → IsSortedById rows → IsSortedById (after_change version office change rows)
sorted_change version office (Add id class shape) rows can sorted =
    sorted_with_row (record { id = id; version = version; office = office; class = class; shape = shape }) rows sorted can
sorted_change version office (Reshape id known shape) rows can sorted = sorted_with_shape id version shape rows sorted
sorted_change version office (Delete id known) rows can sorted = sorted_without id rows sorted

sorted_after : (version : ℕ) (office : List ℕ) (changes : List Change) (rows : List Feature) → CanApply changes rows → IsSortedById rows → IsSortedById (after version office changes rows)
sorted_after version office [] rows can sorted = sorted
sorted_after version office (change ∷ changes) rows can sorted =
    sorted_after version office changes (after_change version office change rows)
    (can_apply_rest version office change changes rows can.1 can.2) (sorted_change version office change rows can.0 sorted)

-- The changes of a staged list stay distinct.

apart_append : (ts : List TransactionData) (t : TransactionData) → AreApart ts → AreDistinct t.changes → AreApart (ts ++ t ∷ [])
apart_append [] t apart distinct = (distinct, tt)
apart_append (first ∷ ts) t apart distinct = (apart.0, apart_append ts t apart.1 distinct)

apart_placed : (number : ℕ) (ts : List TransactionData) → AreApart ts → AreApart (with_step one_placed number ts)
apart_placed number [] apart = tt
apart_placed number (first ∷ ts) apart = go (first.number == number) (apart_placed number ts apart.1)
  where
    go : (b : Bool) → AreApart (with_step one_placed number ts) → AreApart (if b then one_placed first ∷ ts else first ∷ with_step one_placed number ts)
    go true rest = (apart.0, apart.1)
    go false rest = (apart.0, rest)

apart_staged : (number : ℕ) (change : Change) (ts : List TransactionData) (t : TransactionData) → transaction_with number ts ≡ Some t → IsUnnamed (change_id change) t.changes
    → AreApart ts → AreApart (with_step (staged change) number ts)
apart_staged number change [] t found free apart = tt
apart_staged number change (first ∷ ts) t found free apart = go (first.number == number) found (λ e. apart_staged number change ts t e free apart.1)
  where
    go : (b : Bool) → (if b then Some first else transaction_with number ts) ≡ Some t → (transaction_with number ts ≡ Some t → AreApart (with_step (staged change) number ts))
        → AreApart (if b then staged change first ∷ ts else first ∷ with_step (staged change) number ts)
    go true e rest =
        let same : t ≡ first = cc (e) in
        (distinct_push first.changes change apart.0 (subst (λ (x : TransactionData). IsUnnamed (change_id change) x.changes) same free), apart.1)
    go false e rest = (apart.0, rest e)

apart_ended : (number : ℕ) (ts : List TransactionData) → AreApart ts → AreApart (ended number ts)
apart_ended number [] apart = tt
apart_ended number (first ∷ ts) apart = go (not (first.number == number)) (apart_ended number ts apart.1)
  where
    go : (b : Bool) → AreApart (ended number ts) → AreApart (if b then first ∷ ended number ts else ended number ts)
    go true rest = (apart.0, rest)
    go false rest = rest

apart_in : (number : ℕ) (ts : List TransactionData) → AreApart ts → AreDistinct (staged_in number ts)
apart_in number [] apart = tt
apart_in number (first ∷ ts) apart = go (first.number == number) (apart_in number ts apart.1)
  where
    go : (b : Bool) → AreDistinct (staged_in number ts) → AreDistinct (if b then first.changes else staged_in number ts)
    go true rest = apart.0
    go false rest = rest

-- a change that is admitted names no feature of its list
added_unnamed : (change : Change) (changes : List Change) (u : Unit {0}) → may_add change changes ≡ Ok u → IsUnnamed (change_id change) changes
added_unnamed change changes u e = go (nat_le CHANGE_LIMIT (length changes)) (names (change_id change) changes) refl e
  where
    go : (full named : Bool) → names (change_id change) changes ≡ named → (if full then Err faults.TooManyChanges else if named then Err faults.NamedTwice else Ok tt) ≡ Ok u → IsUnnamed (change_id change) changes
    go true named is h = absurd cc
    go false true is h = absurd cc
    go false false is h = unnamed (change_id change) changes is

staged_apart : (seat number : ℕ) (change : Change) (w : WorldData) (u : Unit {0}) → may_stage seat number change w ≡ Ok u → AreApart w.transactions → AreApart (with_step (staged change) number w.transactions)
staged_apart seat number change w u e apart =
    let a = and_then_ok (may_step seat number w) (λ (t : TransactionData). may_add change t.changes) u e in
    let b = and_then_ok (subject_at seat w) (λ _. own_transaction seat number w) a.0 a.1 in
    apart_staged number change w.transactions a.0 (own_open seat number w a.0 b.2).0 (added_unnamed change a.0.changes u a.2) apart

-- Each event keeps a world in order.

ordered_same : (old new : WorldData) → new ≡ old → IsOrdered old → IsOrdered new
ordered_same old new e h = subst (λ (w : WorldData). IsOrdered w) (sym e) h

ordered_by : (new w : WorldData) → new ≡ w → IsSortedById w.state.features → AreApart w.transactions → IsOrdered new
ordered_by new w e sorted apart = subst (λ (w : WorldData). IsOrdered w) (sym e) (record { sorted = sorted; apart = apart })

ordered_sees : (number : ℕ) (old new : WorldData) (reply : Reply) → Sees number old new reply → IsOrdered old → IsOrdered new
ordered_sees number old new (Visited visits.More) d h = ordered_same old new d h
ordered_sees number old new (Visited visits.Ready) d h = ordered_by new _ d h.sorted h.apart
ordered_sees number old new (Failed (faults.Tree tree.Overrun)) d h = ordered_by new _ d h.sorted h.apart
ordered_sees number old new _ d h = absurd d

ordered_walks : (number : ℕ) (shape : List Point) (old new : WorldData) (reply : Reply) → Walks number shape old new reply → IsOrdered old → IsOrdered new
ordered_walks number shape old new (Advanced (advances.Walked steps.Moved)) d h = ordered_same old new d h
ordered_walks number shape old new (Advanced (advances.Walked steps.Split)) d h = ordered_same old new d h
ordered_walks number shape old new (Advanced (advances.Walked steps.Installed)) d h = ordered_same old new d h
ordered_walks number shape old new (Advanced (advances.Walked steps.Restarted)) d h = ordered_same old new d h
ordered_walks number shape old new (Advanced (advances.Walked steps.Placed)) d h = ordered_by new _ d.1 h.sorted (apart_placed number old.transactions h.apart)
ordered_walks number shape old new (Failed (faults.Tree (tree.Held search))) d h = ordered_same old new d.1 h
ordered_walks number shape old new (Failed (faults.Tree tree.Full)) d h = ordered_same old new d h
ordered_walks number shape old new (Failed (faults.Tree tree.TooHigh)) d h = ordered_same old new d h
ordered_walks number shape old new (Failed (faults.Tree tree.Spent)) d h = ordered_same old new d h
ordered_walks number shape old new (Failed (faults.Tree tree.Overrun)) d h = ordered_by new _ d h.sorted (apart_ended number old.transactions h.apart)
ordered_walks number shape old new _ d h = absurd d

ordered_tends : (old new : WorldData) (reply : Reply) → Tends old new reply → IsOrdered old → IsOrdered new
ordered_tends old new (Tended tending) d h = ordered_same old new d h
ordered_tends old new (Failed (faults.Tree tree.Spent)) d h = ordered_same old new d h
ordered_tends old new _ d h = absurd d

ordered_visits : (s : Search) (old new : WorldData) (reply : Reply) → Visits s old new reply → IsOrdered old → IsOrdered new
ordered_visits s old new reply d h = go s.ready d
  where
    go : (b : Bool) → MatchBool b ((new ≡ old) × (reply ≡ Visited visits.Ready)) (MatchBool (is_memory reply) (new ≡ old) (Sees s.number old new reply)) → IsOrdered new
    go true d = ordered_same old new d.0 h
    go false d = by_unless old new reply _ (λ _. IsOrdered new) (λ fault want same. ordered_same old new same h) (λ d. ordered_sees s.number old new reply d h) d

ordered_advances : (number : ℕ) (t : TransactionData) (old new : WorldData) (reply : Reply) → Advances number t old new reply → IsOrdered old → IsOrdered new
ordered_advances number t old new reply d h = go (next_placement t) d
  where
    go : (o : Option (ℕ × List Point)) → MatchOption o ((new ≡ old) × (reply ≡ Advanced advances.AllPlaced)) (λ placement. MatchBool (is_memory reply) (new ≡ old) (Walks number placement.1 old new reply)) → IsOrdered new
    go None d = ordered_same old new d.0 h
    go (Some placement) d = by_unless old new reply _ (λ _. IsOrdered new) (λ fault want same. ordered_same old new same h) (λ d. ordered_walks number placement.1 old new reply d h) d

ordered_applies : (seat number : ℕ) (subject : Subject) (old new : WorldData) (reply : Reply) → Judged old.state subject (staged_in number old.transactions) judgements.Accepted
    → Applies seat number subject (staged_in number old.transactions) old new reply → IsOrdered old → IsOrdered new
ordered_applies seat number subject old new reply judged d h =
    go (old.state.version == LAST) (nat_lt (most_features old) (length (after (old.state.version + 1) subject.office (staged_in number old.transactions) old.state.features))) d
  where
    go : (last full : Bool) → MatchBool last ((new ≡ old) × (reply ≡ Failed faults.Spent)) (MatchBool full ((new ≡ old) × (reply ≡ Failed faults.StoreFull))
        ((reply ≡ Ended (outcomes.Applied (old.state.version + 1))) × (new ≡ without_transaction number (recorded seat (applied subject (old.state.version + 1) (staged_in number old.transactions)) old))))
        → IsOrdered new
    go true full d = ordered_same old new d.0 h
    go false true d = ordered_same old new d.0 h
    go false false d = ordered_by new _ d.1
        (sorted_after (old.state.version + 1) subject.office (staged_in number old.transactions) old.state.features
        (can_apply old.state.decider.document old.state.features subject (staged_in number old.transactions) (apart_in number old.transactions h.apart) judged) h.sorted)
        (apart_ended number old.transactions h.apart)

ordered_commits_as : (judgement : Judgement) (seat number : ℕ) (subject : Subject) (old new : WorldData) (reply : Reply) → Judged old.state subject (staged_in number old.transactions) judgement
    → CommitsAs judgement seat number subject (staged_in number old.transactions) old new reply → IsOrdered old → IsOrdered new
ordered_commits_as judgements.Accepted seat number subject old new reply judged d h = ordered_applies seat number subject old new reply judged d h
ordered_commits_as (judgements.Refused refusal question) seat number subject old new reply judged d h = ordered_by new _ d.1 h.sorted (apart_ended number old.transactions h.apart)

pub ordered_event : (event : Event) (old new : WorldData) (reply : Reply) → Happens event old new reply → IsOrdered old → IsOrdered new
ordered_event (TakeSeat name) old new reply happens h =
    by_if (may_sit name old) old new reply _ (λ _. IsOrdered new) (λ fault may same. ordered_same old new same h)
    (λ x may d. by_unless old new reply _ (λ _. IsOrdered new) (λ fault want same. ordered_same old new same h) (λ d. ordered_by new _ d.0 h.sorted h.apart) d) happens
ordered_event (OpenSearch seat window) old new reply happens h =
    by_if (may_open seat old) old new reply _ (λ _. IsOrdered new) (λ fault may same. ordered_same old new same h)
    (λ x may d. by_unless old new reply _ (λ _. IsOrdered new) (λ fault want same. ordered_same old new same h) (λ d. ordered_by new _ d.0 h.sorted h.apart) d) happens
ordered_event (VisitNext seat number) old new reply happens h =
    by_if (may_go_on seat number old) old new reply _ (λ _. IsOrdered new) (λ fault may same. ordered_same old new same h) (λ s may d. ordered_visits s old new reply d h) happens
ordered_event (Finish seat number) old new reply happens h =
    by_if (may_finish seat number old) old new reply _ (λ _. IsOrdered new) (λ fault may same. ordered_same old new same h)
    (λ who may d. by_unless old new reply _ (λ _. IsOrdered new) (λ fault want same. ordered_same old new same h) (λ d. ordered_by new _ d.3 h.sorted h.apart) d) happens
ordered_event (DropSearch seat number) old new reply happens h =
    by_if (may_go_on seat number old) old new reply _ (λ _. IsOrdered new) (λ fault may same. ordered_same old new same h) (λ s may d. ordered_by new _ d.0 h.sorted h.apart) happens
ordered_event (Answer seat window) old new reply happens h =
    by_if (may_answer seat old) old new reply _ (λ _. IsOrdered new) (λ fault may same. ordered_same old new same h)
    (λ subject may d. by_unless old new reply _ (λ _. IsOrdered new) (λ fault want same. ordered_same old new same h) (λ d. ordered_by new _ d.3 h.sorted h.apart) d) happens
ordered_event (Begin seat) old new reply happens h =
    by_if (may_begin seat old) old new reply _ (λ _. IsOrdered new) (λ fault may same. ordered_same old new same h)
    (λ number may d. by_unless old new reply _ (λ _. IsOrdered new) (λ fault want same. ordered_same old new same h)
    (λ d. ordered_by new _ d.0 h.sorted (apart_append old.transactions (record { number = number; seat = seat; changes = []; placed = 0 }) h.apart tt)) d) happens
ordered_event (Stage seat number change) old new reply happens h =
    by_if (may_stage seat number change old) old new reply _ (λ _. IsOrdered new) (λ fault may same. ordered_same old new same h)
    (λ u may d. ordered_by new _ d.0 h.sorted (staged_apart seat number change old u may h.apart)) happens
ordered_event (AdvanceWalk seat number) old new reply happens h =
    by_if (may_step seat number old) old new reply _ (λ _. IsOrdered new) (λ fault may same. ordered_same old new same h) (λ t may d. ordered_advances number t old new reply d h) happens
ordered_event (Commit seat number) old new reply happens h =
    by_if (may_commit seat number old) old new reply _ (λ _. IsOrdered new) (λ fault may same. ordered_same old new same h)
    (λ subject may d. by_unless old new reply _ (λ _. IsOrdered new) (λ fault want same. ordered_same old new same h)
    (λ d. ordered_commits_as d.0 seat number subject old new reply d.1 d.2 h) d) happens
ordered_event (Abort seat number) old new reply happens h =
    by_if (may_step seat number old) old new reply _ (λ _. IsOrdered new) (λ fault may same. ordered_same old new same h)
    (λ t may d. ordered_by new _ d.0 h.sorted (apart_ended number old.transactions h.apart)) happens
ordered_event (Govern seat document) old new reply happens h =
    by_if (may_govern seat old) old new reply _ (λ _. IsOrdered new) (λ fault may same. ordered_same old new same h)
    (λ u may d. by_unless old new reply _ (λ _. IsOrdered new) (λ fault want same. ordered_same old new same h) (λ d. ordered_by new _ d.1 h.sorted h.apart) d) happens
ordered_event (Tend slot) old new reply happens h = ordered_tends old new reply happens h
ordered_event (Roll seat) old new reply happens h =
    by_if (may_roll seat old) old new reply _ (λ _. IsOrdered new) (λ fault may same. ordered_same old new same h)
    (λ u may d. by_unless old new reply _ (λ _. IsOrdered new) (λ fault want same. ordered_same old new same h) (λ d. ordered_by new _ d.1 h.sorted h.apart) d) happens

pub ordered_run : (old : WorldData) (events : List (Event × Reply)) (new : WorldData) → Run old events new → IsOrdered old → IsOrdered new
ordered_run old [] new e h = ordered_same old new e h
ordered_run old (event ∷ events) new run h = ordered_run run.0 events new run.2 (ordered_event event.0 old run.0 event.1 run.1 h)

-- a world that has just been opened
pub opened_sound : (subjects : List Subject) (decider : DeciderData) (starts : Starts) (limits : Limits) → IsSoundWorld (opened subjects decider starts limits)
opened_sound subjects decider starts limits =
    let few : 0 ≤ SEAT_LIMIT = omega arith in
    record { legal = tt; replayed = refl; few_seats = few }

pub opened_ordered : (subjects : List Subject) (decider : DeciderData) (starts : Starts) (limits : Limits) → IsOrdered (opened subjects decider starts limits)
opened_ordered subjects decider starts limits = record { sorted = tt; apart = tt }

-- a world that has just been opened at a state
pub opened_from_sound : (subjects : List Subject) (base : PlainState) (starts : Starts) (limits : Limits) → IsSoundWorld (opened_from subjects base starts limits)
opened_from_sound subjects base starts limits =
    let few : 0 ≤ SEAT_LIMIT = omega arith in
    record { legal = tt; replayed = refl; few_seats = few }

pub opened_from_ordered : (subjects : List Subject) (base : PlainState) (starts : Starts) (limits : Limits) → IsSortedById base.features → IsOrdered (opened_from subjects base starts limits)
opened_from_ordered subjects base starts limits sorted = record { sorted = sorted; apart = tt }

-- the rows of an answer are sorted by id
pub answer_rising : (seat number : ℕ) (mid new : WorldData) (answer : AnswerData) → IsOrdered mid → Happens (Finish seat number) mid new (Rows answer) → IsSortedById answer.rows
answer_rising seat number mid new answer h happens =
    let exact = answer_exact seat number mid new answer happens in
    listed_sorted mid.state.decider.document answer.subject answer.window mid.state.features answer.rows exact.listed h.sorted

pub whole_answer_rising : (seat : ℕ) (window : List Point) (mid new : WorldData) (answer : AnswerData) → IsOrdered mid → Happens (Answer seat window) mid new (Rows answer) → IsSortedById answer.rows
whole_answer_rising seat window mid new answer h happens =
    let exact = whole_answer_exact seat window mid new answer happens in
    listed_sorted mid.state.decider.document answer.subject answer.window mid.state.features answer.rows exact.listed h.sorted
