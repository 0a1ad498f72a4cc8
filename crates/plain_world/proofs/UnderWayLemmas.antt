-- Every run keeps the open searches and transactions in order: numbers rise and occur once, and no
-- list is longer, or placed further, than it may be.
use Rattle.std.proofs.Common.{◌≡◌, ℕ, ◌+◌, ◌==◌, ◌<◌, ◌≤◌, nat_lt, nat_le, not, Bool, true, false, List, [], ◌∷◌, ◌++◌, length, map, filter, Option, None, Some, MatchOption, Ok, Err, if◌then◌else◌, refl, sym, ap, subst, arith}
use Rattle.std.specs.Bool.{MatchBool}
use Rattle.std.proofs.lemmas.Bool.Decides.{nat_tests}
use Rattle.std.proofs.lemmas.Option.{slice_get_within}
use Rattle.std.proofs.Common.{length-append}
use Rattle.plane.specs.declared.point.Point.{Point}
use Rattle.features.specs.declared.actors.Subject.{Subject}
use Rattle.features.specs.declared.rows.Change.{Change}
use Rattle.features.specs.declared.rows.Change.TheVariants.{Add, Reshape, Delete}
use Rattle.features.specs.Changes.{after, change_id}
use Rattle.decision.specs.Deciders.{DeciderData}
use Rattle.judging.specs.declared.causes.Judgement.{Judgement}
use Rattle.judging.specs.declared.causes.Judgement.TheVariants as judgements
use Rattle.audit_trail.specs.Records.{applied}
use Rattle.plain_world.specs.declared.faults.Fault.TheVariants as faults
use Rattle.tree_answers.specs.declared.fault.TreeFault.TheVariants as tree
use Rattle.plain_world.specs.declared.outcomes.Outcome.TheVariants as outcomes
use Rattle.plain_world.specs.declared.open_searches.Search.{Search}
use Rattle.plain_world.specs.declared.settings.Limits.{Limits}
use Rattle.plain_world.specs.declared.settings.Starts.{Starts}
use Rattle.plain_world.specs.declared.settings.TheConstants.{CHANGE_LIMIT, SEARCH_LIMIT, TRANSACTION_LIMIT}
use Rattle.plain_world.specs.declared.advances.Advance.TheVariants as advances
use Rattle.tree_answers.specs.declared.answers.Step.TheVariants as steps
use Rattle.tree_answers.specs.declared.answers.Visit.TheVariants as visits
use Rattle.plain_world.specs.Admitting.{LAST, subject_at, next_search, next_transaction, own_transaction, may_add, may_sit, may_open, may_go_on, may_finish, may_answer, may_begin, may_step, may_stage, may_commit, may_govern, may_roll}
use Rattle.plain_world.specs.Events.{Event, TakeSeat, OpenSearch, VisitNext, Finish, DropSearch, Answer, Begin, Stage, AdvanceWalk, Commit, Abort, Govern, Tend, Roll, Reply, Visited, Advanced, Tended, Ended, Failed, is_memory, Happens, Run, Sees, Walks, Visits, Advances, Applies, CommitsAs, Tends, recorded, with_ready, without_transaction}
use Rattle.plain_world.specs.Laws.{IsBelowEach, AreGiven, IsWithin, AreWithin, IsUnderWay}
use Rattle.plain_world.specs.Staging.{TransactionData, transaction_with, staged_in, with_step, staged, one_placed, ended, names, next_placement, placements, brought_by}
use Rattle.judging.specs.States.{PlainState}
use Rattle.plain_world.specs.States.{WorldData, opened, opened_from, most_features}
use Rattle.plain_world.proofs.AdmittedLemmas.{by_if, by_unless, own_open}
use Rattle.plain_world.proofs.RunLemmas.{and_then_ok}

-- Numbers that were given.

module _ {A : Type 0} (number : A → ℕ) where
  below_append : (n : ℕ) (xs : List A) (x : A) → n < number x → IsBelowEach n (map number xs) → IsBelowEach n (map number (xs ++ x ∷ []))
  below_append n [] x lt below = (lt, tt)
  below_append n (y ∷ ys) x lt below = (below.0, below_append n ys x lt below.1)

  given_append : (next : ℕ) (xs : List A) (x : A) → number x ≡ next → AreGiven next (map number xs) → AreGiven (next + 1) (map number (xs ++ x ∷ []))
  given_append next [] x e given = (omega (arith, e), tt, tt)
  given_append next (y ∷ ys) x e given =
      (omega (arith, given.0), below_append (number y) ys x (omega (arith, given.0, e)) given.1, given_append next ys x e given.2)

  below_filter : (p : A → Bool) (n : ℕ) (xs : List A) → IsBelowEach n (map number xs) → IsBelowEach n (map number (filter p xs))
  below_filter p n [] below = tt
  below_filter p n (y ∷ ys) below = go (p y) (below_filter p n ys below.1)
    where
      go : (b : Bool) → IsBelowEach n (map number (filter p ys)) → IsBelowEach n (map number (if b then y ∷ filter p ys else filter p ys))
      go true rest = (below.0, rest)
      go false rest = rest

  given_filter : (p : A → Bool) (next : ℕ) (xs : List A) → AreGiven next (map number xs) → AreGiven next (map number (filter p xs))
  given_filter p next [] given = tt
  given_filter p next (y ∷ ys) given = go (p y) (given_filter p next ys given.2)
    where
      go : (b : Bool) → AreGiven next (map number (filter p ys)) → AreGiven next (map number (if b then y ∷ filter p ys else filter p ys))
      go true rest = (given.0, below_filter p (number y) ys given.1, rest)
      go false rest = rest

numbers_ready : (n : ℕ) (searches : List Search) → map (λ (s : Search). s.number) (with_ready n searches) ≡ map (λ (s : Search). s.number) searches
numbers_ready n [] = refl
numbers_ready n (first ∷ rest) = go (first.number == n) (numbers_ready n rest)
  where
    go : (b : Bool) → map (λ (s : Search). s.number) (with_ready n rest) ≡ map (λ (s : Search). s.number) rest
        → map (λ (s : Search). s.number) (if b then record first { ready = true } ∷ rest else first ∷ with_ready n rest) ≡ map (λ (s : Search). s.number) (first ∷ rest)
    go true e = refl
    go false e = ap (λ (ns : List ℕ). first.number ∷ ns) e

numbers_step : (step : TransactionData → TransactionData) → ((t : TransactionData) → (step t).number ≡ t.number) → (n : ℕ) (ts : List TransactionData)
    → map (λ (t : TransactionData). t.number) (with_step step n ts) ≡ map (λ (t : TransactionData). t.number) ts
numbers_step step same n [] = refl
numbers_step step same n (first ∷ ts) = go (first.number == n) (numbers_step step same n ts)
  where
    go : (b : Bool) → map (λ (t : TransactionData). t.number) (with_step step n ts) ≡ map (λ (t : TransactionData). t.number) ts
        → map (λ (t : TransactionData). t.number) (if b then step first ∷ ts else first ∷ with_step step n ts) ≡ map (λ (t : TransactionData). t.number) (first ∷ ts)
    go true e = ap (λ (m : ℕ). m ∷ map (λ (t : TransactionData). t.number) ts) (same first)
    go false e = ap (λ (ns : List ℕ). first.number ∷ ns) e

given_ready : (n next : ℕ) (searches : List Search) → AreGiven next (map (λ (s : Search). s.number) searches) → AreGiven next (map (λ (s : Search). s.number) (with_ready n searches))
given_ready n next searches given = subst (λ (ns : List ℕ). AreGiven next ns) (sym (numbers_ready n searches)) given

given_step : (step : TransactionData → TransactionData) → ((t : TransactionData) → (step t).number ≡ t.number) → (n next : ℕ) (ts : List TransactionData)
    → AreGiven next (map (λ (t : TransactionData). t.number) ts) → AreGiven next (map (λ (t : TransactionData). t.number) (with_step step n ts))
given_step step same n next ts given = subst (λ (ns : List ℕ). AreGiven next ns) (sym (numbers_step step same n ts)) given

-- Lists within their limits.

within_append : (ts : List TransactionData) (t : TransactionData) → AreWithin ts → IsWithin t → AreWithin (ts ++ t ∷ [])
within_append [] t within one = (one, tt)
within_append (first ∷ ts) t within one = (within.0, within_append ts t within.1 one)

within_ended : (number : ℕ) (ts : List TransactionData) → AreWithin ts → AreWithin (ended number ts)
within_ended number [] within = tt
within_ended number (first ∷ ts) within = go (not (first.number == number)) (within_ended number ts within.1)
  where
    go : (b : Bool) → AreWithin (ended number ts) → AreWithin (if b then first ∷ ended number ts else ended number ts)
    go true rest = (within.0, rest)
    go false rest = rest

-- a step that keeps the transaction of that number within its limits
within_step : (step : TransactionData → TransactionData) (number : ℕ) (ts : List TransactionData) (t : TransactionData) → transaction_with number ts ≡ Some t → (IsWithin t → IsWithin (step t))
    → AreWithin ts → AreWithin (with_step step number ts)
within_step step number [] t found keeps within = tt
within_step step number (first ∷ ts) t found keeps within = go (first.number == number) found (λ e. within_step step number ts t e keeps within.1)
  where
    go : (b : Bool) → (if b then Some first else transaction_with number ts) ≡ Some t → (transaction_with number ts ≡ Some t → AreWithin (with_step step number ts))
        → AreWithin (if b then step first ∷ ts else first ∷ with_step step number ts)
    go true e rest = let same : t ≡ first = cc (e) in (subst (λ (x : TransactionData). IsWithin x → IsWithin (step x)) same keeps within.0, within.1)
    go false e rest = (within.0, rest e)

brought_more : (first : Change) (xs ys : List (ℕ × List Point)) → length xs ≤ length ys → length (brought_by first xs) ≤ length (brought_by first ys)
brought_more (Add id class shape) xs ys le = omega (arith, le)
brought_more (Reshape id seen shape) xs ys le = omega (arith, le)
brought_more (Delete id seen) xs ys le = le

placements_more : (changes : List Change) (change : Change) → length (placements changes) ≤ length (placements (changes ++ change ∷ []))
placements_more [] change = omega arith
placements_more (first ∷ changes) change = brought_more first (placements changes) (placements (changes ++ change ∷ [])) (placements_more changes change)

within_staged : (change : Change) (t : TransactionData) → length t.changes < CHANGE_LIMIT → IsWithin t → IsWithin (staged change t)
within_staged change t few within =
    (omega (arith, few, length-append t.changes (change ∷ [])), omega (arith, within.1, placements_more t.changes change))

within_placed : (t : TransactionData) (placement : ℕ × List Point) → next_placement t ≡ Some placement → IsWithin t → IsWithin (one_placed t)
within_placed t placement e within =
    let lt : t.placed < length (placements t.changes) = slice_get_within (placements t.changes) t.placed placement e in
    (within.0, omega (arith, lt))

-- a change that is admitted finds room in its list
added_room : (change : Change) (changes : List Change) (u : Unit {0}) → may_add change changes ≡ Ok u → length changes < CHANGE_LIMIT
added_room change changes u e = go (nat_le CHANGE_LIMIT (length changes)) (names (change_id change) changes) refl e
  where
    go : (full named : Bool) → nat_le CHANGE_LIMIT (length changes) ≡ full → (if full then Err faults.TooManyChanges else if named then Err faults.NamedTwice else Ok tt) ≡ Ok u → length changes < CHANGE_LIMIT
    go true named is h = absurd cc
    go false true is h = absurd cc
    go false false is h = grind (arith, nat_tests, is)

staged_within : (seat number : ℕ) (change : Change) (w : WorldData) (u : Unit {0}) → may_stage seat number change w ≡ Ok u → AreWithin w.transactions → AreWithin (with_step (staged change) number w.transactions)
staged_within seat number change w u e within =
    let a = and_then_ok (may_step seat number w) (λ (t : TransactionData). may_add change t.changes) u e in
    let b = and_then_ok (subject_at seat w) (λ _. own_transaction seat number w) a.0 a.1 in
    within_step (staged change) number w.transactions a.0 (own_open seat number w a.0 b.2).0 (within_staged change a.0 (added_room change a.0.changes u a.2)) within

-- the transaction that advances is open
step_open : (seat number : ℕ) (w : WorldData) (t : TransactionData) → may_step seat number w ≡ Ok t → transaction_with number w.transactions ≡ Some t
step_open seat number w t e =
    let a = and_then_ok (subject_at seat w) (λ _. own_transaction seat number w) t e in
    (own_open seat number w t a.2).0

-- the numbers that are given next are the world's next numbers

pub open_number : (seat : ℕ) (w : WorldData) (number : ℕ) → may_open seat w ≡ Ok number → number ≡ w.next_search
open_number seat w number e =
    let a = and_then_ok (subject_at seat w) (λ _. next_search w) number e in
    go (nat_le SEARCH_LIMIT (length w.searches)) (w.next_search == LAST) a.2
  where
    go : (full last : Bool) → (if full then Err (faults.Tree tree.TooMany) else if last then Err (faults.Tree tree.Spent) else Ok w.next_search) ≡ Ok number → number ≡ w.next_search
    go true last h = absurd cc
    go false true h = absurd cc
    go false false h = cc

pub begin_number : (seat : ℕ) (w : WorldData) (number : ℕ) → may_begin seat w ≡ Ok number → number ≡ w.next_transaction
begin_number seat w number e =
    let a = and_then_ok (subject_at seat w) (λ _. next_transaction w) number e in
    go (nat_le TRANSACTION_LIMIT (length w.transactions)) (w.next_transaction == LAST) a.2
  where
    go : (full last : Bool) → (if full then Err faults.TooMany else if last then Err faults.Spent else Ok w.next_transaction) ≡ Ok number → number ≡ w.next_transaction
    go true last h = absurd cc
    go false true h = absurd cc
    go false false h = cc

-- Each event keeps the open searches and transactions in order.

way_same : (old new : WorldData) → new ≡ old → IsUnderWay old → IsUnderWay new
way_same old new e h = subst (λ (w : WorldData). IsUnderWay w) (sym e) h

way_by : (new w : WorldData) → new ≡ w → AreGiven w.next_search (map (λ (s : Search). s.number) w.searches) → AreGiven w.next_transaction (map (λ (t : TransactionData). t.number) w.transactions) → AreWithin w.transactions → IsUnderWay new
way_by new w e searches transactions within = subst (λ (w : WorldData). IsUnderWay w) (sym e) (record { searches = searches; transactions = transactions; within = within })

given_ended : (number : ℕ) (w : WorldData) → IsUnderWay w → AreGiven w.next_transaction (map (λ (t : TransactionData). t.number) (ended number w.transactions))
given_ended number w h = given_filter (λ (t : TransactionData). t.number) (λ t. not (t.number == number)) w.next_transaction w.transactions h.transactions

given_left : (number : ℕ) (w : WorldData) → IsUnderWay w → AreGiven w.next_search (map (λ (s : Search). s.number) (filter (λ (s : Search). not (s.number == number)) w.searches))
given_left number w h = given_filter (λ (s : Search). s.number) (λ s. not (s.number == number)) w.next_search w.searches h.searches

way_sees : (number : ℕ) (old new : WorldData) (reply : Reply) → Sees number old new reply → IsUnderWay old → IsUnderWay new
way_sees number old new (Visited visits.More) d h = way_same old new d h
way_sees number old new (Visited visits.Ready) d h = way_by new _ d (given_ready number old.next_search old.searches h.searches) h.transactions h.within
way_sees number old new (Failed (faults.Tree tree.Overrun)) d h = way_by new _ d (given_left number old h) h.transactions h.within
way_sees number old new _ d h = absurd d

way_walks : (number : ℕ) (t : TransactionData) (placement : ℕ × List Point) (old new : WorldData) (reply : Reply) → transaction_with number old.transactions ≡ Some t → next_placement t ≡ Some placement → Walks number placement.1 old new reply → IsUnderWay old → IsUnderWay new
way_walks number t placement old new (Advanced (advances.Walked steps.Moved)) found next d h = way_same old new d h
way_walks number t placement old new (Advanced (advances.Walked steps.Split)) found next d h = way_same old new d h
way_walks number t placement old new (Advanced (advances.Walked steps.Installed)) found next d h = way_same old new d h
way_walks number t placement old new (Advanced (advances.Walked steps.Restarted)) found next d h = way_same old new d h
way_walks number t placement old new (Advanced (advances.Walked steps.Placed)) found next d h =
    way_by new _ d.1 h.searches (given_step one_placed (λ t. refl) number old.next_transaction old.transactions h.transactions)
    (within_step one_placed number old.transactions t found (within_placed t placement next) h.within)
way_walks number t placement old new (Failed (faults.Tree (tree.Held search))) found next d h = way_same old new d.1 h
way_walks number t placement old new (Failed (faults.Tree tree.Full)) found next d h = way_same old new d h
way_walks number t placement old new (Failed (faults.Tree tree.TooHigh)) found next d h = way_same old new d h
way_walks number t placement old new (Failed (faults.Tree tree.Spent)) found next d h = way_same old new d h
way_walks number t placement old new (Failed (faults.Tree tree.Overrun)) found next d h = way_by new _ d h.searches (given_ended number old h) (within_ended number old.transactions h.within)
way_walks number t placement old new _ found next d h = absurd d

way_tends : (old new : WorldData) (reply : Reply) → Tends old new reply → IsUnderWay old → IsUnderWay new
way_tends old new (Tended tending) d h = way_same old new d h
way_tends old new (Failed (faults.Tree tree.Spent)) d h = way_same old new d h
way_tends old new _ d h = absurd d

way_visits : (s : Search) (old new : WorldData) (reply : Reply) → Visits s old new reply → IsUnderWay old → IsUnderWay new
way_visits s old new reply d h = go s.ready d
  where
    go : (b : Bool) → MatchBool b ((new ≡ old) × (reply ≡ Visited visits.Ready)) (MatchBool (is_memory reply) (new ≡ old) (Sees s.number old new reply)) → IsUnderWay new
    go true d = way_same old new d.0 h
    go false d = by_unless old new reply _ (λ _. IsUnderWay new) (λ fault want same. way_same old new same h) (λ d. way_sees s.number old new reply d h) d

way_advances : (number : ℕ) (t : TransactionData) (old new : WorldData) (reply : Reply) → transaction_with number old.transactions ≡ Some t → Advances number t old new reply → IsUnderWay old → IsUnderWay new
way_advances number t old new reply found d h = go (next_placement t) refl d
  where
    go : (o : Option (ℕ × List Point)) → next_placement t ≡ o → MatchOption o ((new ≡ old) × (reply ≡ Advanced advances.AllPlaced)) (λ placement. MatchBool (is_memory reply) (new ≡ old) (Walks number placement.1 old new reply)) → IsUnderWay new
    go None e d = way_same old new d.0 h
    go (Some placement) e d = by_unless old new reply _ (λ _. IsUnderWay new) (λ fault want same. way_same old new same h) (λ d. way_walks number t placement old new reply found e d h) d

way_applies : (seat number : ℕ) (subject : Subject) (changes : List Change) (old new : WorldData) (reply : Reply) → Applies seat number subject changes old new reply → IsUnderWay old → IsUnderWay new
way_applies seat number subject changes old new reply d h =
    go (old.state.version == LAST) (nat_lt (most_features old) (length (after (old.state.version + 1) subject.office changes old.state.features))) d
  where
    go : (last full : Bool) → MatchBool last ((new ≡ old) × (reply ≡ Failed faults.Spent)) (MatchBool full ((new ≡ old) × (reply ≡ Failed faults.StoreFull))
        ((reply ≡ Ended (outcomes.Applied (old.state.version + 1))) × (new ≡ without_transaction number (recorded seat (applied subject (old.state.version + 1) changes) old)))) → IsUnderWay new
    go true full d = way_same old new d.0 h
    go false true d = way_same old new d.0 h
    go false false d = way_by new _ d.1 h.searches (given_ended number old h) (within_ended number old.transactions h.within)

way_commits_as : (judgement : Judgement) (seat number : ℕ) (subject : Subject) (changes : List Change) (old new : WorldData) (reply : Reply) → CommitsAs judgement seat number subject changes old new reply → IsUnderWay old → IsUnderWay new
way_commits_as judgements.Accepted seat number subject changes old new reply d h = way_applies seat number subject changes old new reply d h
way_commits_as (judgements.Refused refusal question) seat number subject changes old new reply d h = way_by new _ d.1 h.searches (given_ended number old h) (within_ended number old.transactions h.within)

pub way_event : (event : Event) (old new : WorldData) (reply : Reply) → Happens event old new reply → IsUnderWay old → IsUnderWay new
way_event (TakeSeat name) old new reply happens h =
    by_if (may_sit name old) old new reply _ (λ _. IsUnderWay new) (λ fault may same. way_same old new same h)
    (λ x may d. by_unless old new reply _ (λ _. IsUnderWay new) (λ fault want same. way_same old new same h) (λ d. way_by new _ d.0 h.searches h.transactions h.within) d) happens
way_event (OpenSearch seat window) old new reply happens h =
    by_if (may_open seat old) old new reply _ (λ _. IsUnderWay new) (λ fault may same. way_same old new same h)
    (λ number may d. by_unless old new reply _ (λ _. IsUnderWay new) (λ fault want same. way_same old new same h)
    (λ d. way_by new _ d.0
    (subst (λ (n : ℕ). AreGiven (n + 1) (map (λ (s : Search). s.number) (old.searches ++ record { number = number; seat = seat; window = window; ready = false } ∷ []))) (sym (open_number seat old number may))
    (given_append (λ (s : Search). s.number) old.next_search old.searches (record { number = number; seat = seat; window = window; ready = false }) (open_number seat old number may) h.searches))
    h.transactions h.within) d) happens
way_event (VisitNext seat number) old new reply happens h =
    by_if (may_go_on seat number old) old new reply _ (λ _. IsUnderWay new) (λ fault may same. way_same old new same h) (λ s may d. way_visits s old new reply d h) happens
way_event (Finish seat number) old new reply happens h =
    by_if (may_finish seat number old) old new reply _ (λ _. IsUnderWay new) (λ fault may same. way_same old new same h)
    (λ who may d. by_unless old new reply _ (λ _. IsUnderWay new) (λ fault want same. way_same old new same h) (λ d. way_by new _ d.3 (given_left who.1.number old h) h.transactions h.within) d) happens
way_event (DropSearch seat number) old new reply happens h =
    by_if (may_go_on seat number old) old new reply _ (λ _. IsUnderWay new) (λ fault may same. way_same old new same h) (λ s may d. way_by new _ d.0 (given_left number old h) h.transactions h.within) happens
way_event (Answer seat window) old new reply happens h =
    by_if (may_answer seat old) old new reply _ (λ _. IsUnderWay new) (λ fault may same. way_same old new same h)
    (λ subject may d. by_unless old new reply _ (λ _. IsUnderWay new) (λ fault want same. way_same old new same h) (λ d. way_by new _ d.3 h.searches h.transactions h.within) d) happens
way_event (Begin seat) old new reply happens h =
    by_if (may_begin seat old) old new reply _ (λ _. IsUnderWay new) (λ fault may same. way_same old new same h)
    (λ number may d. by_unless old new reply _ (λ _. IsUnderWay new) (λ fault want same. way_same old new same h)
    (λ d. way_by new _ d.0 h.searches
    (subst (λ (n : ℕ). AreGiven (n + 1) (map (λ (t : TransactionData). t.number) (old.transactions ++ record { number = number; seat = seat; changes = []; placed = 0 } ∷ []))) (sym (begin_number seat old number may))
    (given_append (λ (t : TransactionData). t.number) old.next_transaction old.transactions (record { number = number; seat = seat; changes = []; placed = 0 }) (begin_number seat old number may) h.transactions))
    (within_append old.transactions (record { number = number; seat = seat; changes = []; placed = 0 }) h.within (omega arith, omega arith))) d) happens
way_event (Stage seat number change) old new reply happens h =
    by_if (may_stage seat number change old) old new reply _ (λ _. IsUnderWay new) (λ fault may same. way_same old new same h)
    (λ u may d. way_by new _ d.0 h.searches (given_step (staged change) (λ t. refl) number old.next_transaction old.transactions h.transactions) (staged_within seat number change old u may h.within)) happens
way_event (AdvanceWalk seat number) old new reply happens h =
    by_if (may_step seat number old) old new reply _ (λ _. IsUnderWay new) (λ fault may same. way_same old new same h) (λ t may d. way_advances number t old new reply (step_open seat number old t may) d h) happens
way_event (Commit seat number) old new reply happens h =
    by_if (may_commit seat number old) old new reply _ (λ _. IsUnderWay new) (λ fault may same. way_same old new same h)
    (λ subject may d. by_unless old new reply _ (λ _. IsUnderWay new) (λ fault want same. way_same old new same h)
    (λ d. way_commits_as d.0 seat number subject (staged_in number old.transactions) old new reply d.2 h) d) happens
way_event (Abort seat number) old new reply happens h =
    by_if (may_step seat number old) old new reply _ (λ _. IsUnderWay new) (λ fault may same. way_same old new same h)
    (λ t may d. way_by new _ d.0 h.searches (given_ended number old h) (within_ended number old.transactions h.within)) happens
way_event (Govern seat document) old new reply happens h =
    by_if (may_govern seat old) old new reply _ (λ _. IsUnderWay new) (λ fault may same. way_same old new same h)
    (λ u may d. by_unless old new reply _ (λ _. IsUnderWay new) (λ fault want same. way_same old new same h) (λ d. way_by new _ d.1 h.searches h.transactions h.within) d) happens
way_event (Tend slot) old new reply happens h = way_tends old new reply happens h
way_event (Roll seat) old new reply happens h =
    by_if (may_roll seat old) old new reply _ (λ _. IsUnderWay new) (λ fault may same. way_same old new same h)
    (λ u may d. by_unless old new reply _ (λ _. IsUnderWay new) (λ fault want same. way_same old new same h) (λ d. way_by new _ d.1 h.searches h.transactions h.within) d) happens

pub way_run : (old : WorldData) (events : List (Event × Reply)) (new : WorldData) → Run old events new → IsUnderWay old → IsUnderWay new
way_run old [] new e h = way_same old new e h
way_run old (event ∷ events) new run h = way_run run.0 events new run.2 (way_event event.0 old run.0 event.1 run.1 h)

pub opened_way : (subjects : List Subject) (decider : DeciderData) (starts : Starts) (limits : Limits) → IsUnderWay (opened subjects decider starts limits)
opened_way subjects decider starts limits = record { searches = tt; transactions = tt; within = tt }

pub opened_from_way : (subjects : List Subject) (base : PlainState) (starts : Starts) (limits : Limits) → IsUnderWay (opened_from subjects base starts limits)
opened_from_way subjects base starts limits = record { searches = tt; transactions = tt; within = tt }
