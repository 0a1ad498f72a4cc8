-- What is open after an event was open before it, or the event asked for it.
use Rattle.std.proofs.Common.{◌≡◌, ◌⊎◌, inl, inr, ℕ, ◌+◌, ◌==◌, nat_lt, nat_le, not, Bool, true, false, List, [], ◌∷◌, ◌++◌, length, filter, Option, None, Some, MatchOption, Result, Ok, Err, if◌then◌else◌, refl, sym, ap, subst, ◌∙◌, arith}
use Rattle.std.specs.Bool.{MatchBool}
use Rattle.std.proofs.lemmas.Bool.Decides.{nat_tests}
use Rattle.plane.specs.declared.point.Point.{Point}
use Rattle.features.specs.declared.actors.Subject.{Subject}
use Rattle.features.specs.declared.rows.Change.{Change}
use Rattle.features.specs.Changes.{after}
use Rattle.features.specs.Subjects.{subject_named}
use Rattle.judging.specs.declared.causes.Judgement.{Judgement}
use Rattle.judging.specs.declared.causes.Judgement.TheVariants as judgements
use Rattle.audit_trail.specs.Records.{applied}
use Rattle.plain_world.specs.declared.faults.Fault.{Fault}
use Rattle.plain_world.specs.declared.faults.Fault.TheVariants as faults
use Rattle.tree_answers.specs.declared.fault.TreeFault.TheVariants as tree
use Rattle.plain_world.specs.declared.outcomes.Outcome.TheVariants as outcomes
use Rattle.plain_world.specs.declared.open_searches.Search.{Search}
use Rattle.plain_world.specs.declared.settings.TheConstants.{SEAT_LIMIT}
use Rattle.plain_world.specs.declared.advances.Advance.TheVariants as advances
use Rattle.tree_answers.specs.declared.answers.Step.TheVariants as steps
use Rattle.tree_answers.specs.declared.answers.Visit.TheVariants as visits
use Rattle.plain_world.specs.Admitting.{LAST, search_with, subject_at, placed, own_transaction, may_add, may_sit, may_open, may_go_on, may_finish, may_answer, may_begin, may_step, may_stage, may_commit, may_govern, may_roll}
use Rattle.plain_world.specs.Events.{Event, TakeSeat, OpenSearch, VisitNext, Finish, DropSearch, Answer, Begin, Stage, AdvanceWalk, Commit, Abort, Govern, Tend, Roll, Reply, Number, Done, Visited, Advanced, Tended, Ended, Failed, is_memory, Happens, Sees, Walks, Visits, Advances, Applies, CommitsAs, Tends, recorded, with_ready, without_transaction}
use Rattle.plain_world.specs.Laws.{IsAsked, IsAskedSearch, IsAskedTransaction}
use Rattle.plain_world.specs.Staging.{TransactionData, transaction_with, staged_in, with_step, staged, one_placed, ended, next_placement}
use Rattle.plain_world.specs.States.{WorldData, most_features}
use Rattle.plain_world.proofs.AdmittedLemmas.{by_if, by_unless, own_open}
use Rattle.plain_world.proofs.RunLemmas.{and_then_ok}

-- Searches.

-- these have a search of that number, of the same seat and window
abbrev Ran : ℕ → List Search → Search → Type 0
Ran n ss s = (before : Search) × (search_with n ss ≡ Some before) × (s.seat ≡ before.seat) × (s.window ≡ before.window)

ran_ready : (k n : ℕ) (ss : List Search) (s : Search) → search_with n (with_ready k ss) ≡ Some s → Ran n ss s
ran_ready k n [] s e = absurd cc
ran_ready k n (x ∷ xs) s e = go (x.number == k) (ran_ready k n xs s) e
  where
    here : (b : Bool) → (if b then Some (record x { ready = true }) else search_with n xs) ≡ Some s → (before : Search) × ((if b then Some x else search_with n xs) ≡ Some before) × (s.seat ≡ before.seat) × (s.window ≡ before.window)
    here true e = let same : s ≡ record x { ready = true } = cc (e) in (x, refl, ap (λ (y : Search). y.seat) same, ap (λ (y : Search). y.window) same)
    here false e = (s, e, refl, refl)

    behind : (b : Bool) → (search_with n (with_ready k xs) ≡ Some s → Ran n xs s) → (if b then Some x else search_with n (with_ready k xs)) ≡ Some s → (before : Search) × ((if b then Some x else search_with n xs) ≡ Some before) × (s.seat ≡ before.seat) × (s.window ≡ before.window)
    behind true rest e = let same : s ≡ x = cc (e) in (x, refl, ap (λ (y : Search). y.seat) same, ap (λ (y : Search). y.window) same)
    behind false rest e = rest e

    go : (b : Bool) → (search_with n (with_ready k xs) ≡ Some s → Ran n xs s) → search_with n (if b then record x { ready = true } ∷ xs else x ∷ with_ready k xs) ≡ Some s → Ran n (x ∷ xs) s
    go true rest e = here (x.number == n) e
    go false rest e = behind (x.number == n) rest e

abbrev searches_left : ℕ → List Search → List Search
searches_left k ss = filter (λ (s : Search). not (s.number == k)) ss

search_gone : (k : ℕ) (ss : List Search) → search_with k (searches_left k ss) ≡ None
search_gone k [] = refl
search_gone k (x ∷ xs) = go (x.number == k) refl (search_gone k xs)
  where
    go : (b : Bool) → (x.number == k) ≡ b → search_with k (searches_left k xs) ≡ None → search_with k (if not b then x ∷ searches_left k xs else searches_left k xs) ≡ None
    go true is rest = rest
    go false is rest = ap (λ (b : Bool). if b then Some x else search_with k (searches_left k xs)) is ∙ rest

ran_left : (k n : ℕ) (ss : List Search) (s : Search) → search_with n (searches_left k ss) ≡ Some s → search_with n ss ≡ Some s
ran_left k n [] s e = e
ran_left k n (x ∷ xs) s e = go (x.number == k) refl (ran_left k n xs s) e
  where
    out : (b : Bool) → (x.number == n) ≡ b → x.number ≡ k → (search_with n (searches_left k xs) ≡ Some s → search_with n xs ≡ Some s) → search_with n (searches_left k xs) ≡ Some s → (if b then Some x else search_with n xs) ≡ Some s
    out true is at rest e =
        let one : n ≡ k = grind (arith, nat_tests, is, at) in
        absurd (cc (subst (λ (m : ℕ). search_with m (searches_left k xs) ≡ Some s) one e, search_gone k xs))
    out false is at rest e = rest e

    stay : (b : Bool) → (search_with n (searches_left k xs) ≡ Some s → search_with n xs ≡ Some s) → (if b then Some x else search_with n (searches_left k xs)) ≡ Some s → (if b then Some x else search_with n xs) ≡ Some s
    stay true rest e = e
    stay false rest e = rest e

    go : (b : Bool) → (x.number == k) ≡ b → (search_with n (searches_left k xs) ≡ Some s → search_with n xs ≡ Some s) → search_with n (if not b then x ∷ searches_left k xs else searches_left k xs) ≡ Some s → search_with n (x ∷ xs) ≡ Some s
    go true is rest e = out (x.number == n) refl (grind (arith, nat_tests, is)) rest e
    go false is rest e = stay (x.number == n) rest e

ran_or_new : (n : ℕ) (ss : List Search) (more s : Search) → search_with n (ss ++ more ∷ []) ≡ Some s → (search_with n ss ≡ Some s) ⊎ ((s ≡ more) × (more.number ≡ n))
ran_or_new n [] more s e = go (more.number == n) refl e
  where
    go : (b : Bool) → (more.number == n) ≡ b → ◌≡◌ {A = Option Search} (if b then Some more else None) (Some s) → (◌≡◌ {A = Option Search} None (Some s)) ⊎ ((s ≡ more) × (more.number ≡ n))
    go true is e = inr (cc (e), grind (arith, nat_tests, is))
    go false is e = inl e
ran_or_new n (x ∷ xs) more s e = go (x.number == n) (ran_or_new n xs more s) e
  where
    go : (b : Bool) → (search_with n (xs ++ more ∷ []) ≡ Some s → (search_with n xs ≡ Some s) ⊎ ((s ≡ more) × (more.number ≡ n))) → (if b then Some x else search_with n (xs ++ more ∷ [])) ≡ Some s → ((if b then Some x else search_with n xs) ≡ Some s) ⊎ ((s ≡ more) × (more.number ≡ n))
    go true rest e = inl e
    go false rest e = rest e

-- Transactions.

transaction_gone : (k : ℕ) (ts : List TransactionData) → transaction_with k (ended k ts) ≡ None
transaction_gone k [] = refl
transaction_gone k (x ∷ xs) = go (x.number == k) refl (transaction_gone k xs)
  where
    go : (b : Bool) → (x.number == k) ≡ b → transaction_with k (ended k xs) ≡ None → transaction_with k (if not b then x ∷ ended k xs else ended k xs) ≡ None
    go true is rest = rest
    go false is rest = ap (λ (b : Bool). if b then Some x else transaction_with k (ended k xs)) is ∙ rest

open_left : (k n : ℕ) (ts : List TransactionData) (t : TransactionData) → transaction_with n (ended k ts) ≡ Some t → transaction_with n ts ≡ Some t
open_left k n [] t e = e
open_left k n (x ∷ xs) t e = go (x.number == k) refl (open_left k n xs t) e
  where
    out : (b : Bool) → (x.number == n) ≡ b → x.number ≡ k → (transaction_with n (ended k xs) ≡ Some t → transaction_with n xs ≡ Some t) → transaction_with n (ended k xs) ≡ Some t → (if b then Some x else transaction_with n xs) ≡ Some t
    out true is at rest e =
        let one : n ≡ k = grind (arith, nat_tests, is, at) in
        absurd (cc (subst (λ (m : ℕ). transaction_with m (ended k xs) ≡ Some t) one e, transaction_gone k xs))
    out false is at rest e = rest e

    stay : (b : Bool) → (transaction_with n (ended k xs) ≡ Some t → transaction_with n xs ≡ Some t) → (if b then Some x else transaction_with n (ended k xs)) ≡ Some t → (if b then Some x else transaction_with n xs) ≡ Some t
    stay true rest e = e
    stay false rest e = rest e

    go : (b : Bool) → (x.number == k) ≡ b → (transaction_with n (ended k xs) ≡ Some t → transaction_with n xs ≡ Some t) → transaction_with n (if not b then x ∷ ended k xs else ended k xs) ≡ Some t → transaction_with n (x ∷ xs) ≡ Some t
    go true is rest e = out (x.number == n) refl (grind (arith, nat_tests, is)) rest e
    go false is rest e = stay (x.number == n) rest e

open_or_new : (n : ℕ) (ts : List TransactionData) (more t : TransactionData) → transaction_with n (ts ++ more ∷ []) ≡ Some t → (transaction_with n ts ≡ Some t) ⊎ ((t ≡ more) × (more.number ≡ n))
open_or_new n [] more t e = go (more.number == n) refl e
  where
    go : (b : Bool) → (more.number == n) ≡ b → ◌≡◌ {A = Option TransactionData} (if b then Some more else None) (Some t) → (◌≡◌ {A = Option TransactionData} None (Some t)) ⊎ ((t ≡ more) × (more.number ≡ n))
    go true is e = inr (cc (e), grind (arith, nat_tests, is))
    go false is e = inl e
open_or_new n (x ∷ xs) more t e = go (x.number == n) (open_or_new n xs more t) e
  where
    go : (b : Bool) → (transaction_with n (xs ++ more ∷ []) ≡ Some t → (transaction_with n xs ≡ Some t) ⊎ ((t ≡ more) × (more.number ≡ n))) → (if b then Some x else transaction_with n (xs ++ more ∷ [])) ≡ Some t → ((if b then Some x else transaction_with n xs) ≡ Some t) ⊎ ((t ≡ more) × (more.number ≡ n))
    go true rest e = inl e
    go false rest e = rest e

-- `t` is `before`, or, for number `k`, `step` of it
abbrev Stepped : (TransactionData → TransactionData) → ℕ → ℕ → TransactionData → TransactionData → Type 0
Stepped step k n before t = (t ≡ before) ⊎ ((n ≡ k) × (t ≡ step before))

open_stepped : (step : TransactionData → TransactionData) → ((t : TransactionData) → (step t).number ≡ t.number) → (k n : ℕ) (ts : List TransactionData) (t : TransactionData) → transaction_with n (with_step step k ts) ≡ Some t
    → (before : TransactionData) × (transaction_with n ts ≡ Some before) × Stepped step k n before t
open_stepped step same k n [] t e = absurd cc
open_stepped step same k n (x ∷ xs) t e = go (x.number == k) refl (open_stepped step same k n xs t) e
  where
    here : (b : Bool) → (x.number == n) ≡ b → x.number ≡ k → (if b then Some (step x) else transaction_with n xs) ≡ Some t
        → (before : TransactionData) × ((if b then Some x else transaction_with n xs) ≡ Some before) × Stepped step k n before t
    here true is at e = let own : t ≡ step x = cc (e) in (x, refl, inr (grind (arith, nat_tests, is, at), own))
    here false is at e = (t, e, inl refl)

    behind : (b : Bool) → (transaction_with n (with_step step k xs) ≡ Some t → (before : TransactionData) × (transaction_with n xs ≡ Some before) × Stepped step k n before t) → (if b then Some x else transaction_with n (with_step step k xs)) ≡ Some t
        → (before : TransactionData) × ((if b then Some x else transaction_with n xs) ≡ Some before) × Stepped step k n before t
    behind true rest e = (t, e, inl refl)
    behind false rest e = rest e

    go : (b : Bool) → (x.number == k) ≡ b → (transaction_with n (with_step step k xs) ≡ Some t → (before : TransactionData) × (transaction_with n xs ≡ Some before) × Stepped step k n before t)
        → transaction_with n (if b then step x ∷ xs else x ∷ with_step step k xs) ≡ Some t → (before : TransactionData) × (transaction_with n (x ∷ xs) ≡ Some before) × Stepped step k n before t
    go true is rest e = here (x.number == n) refl (grind (arith, nat_tests, is)) (subst (λ (m : ℕ). (if m == n then Some (step x) else transaction_with n xs) ≡ Some t) (same x) e)
    go false is rest e = behind (x.number == n) rest e

-- Seats.

-- a seat is given to the subject of the name
sat : (name : List ℕ) (w : WorldData) (subject : Subject) → may_sit name w ≡ Ok subject → subject_named name w.subjects ≡ Some subject
sat name w subject e = go (subject_named name w.subjects) e
  where
    full : (b : Bool) (x : Subject) → ◌≡◌ {A = Result Subject Fault} (if b then Err faults.NoPlace else Ok x) (Ok subject) → x ≡ subject
    full true x e = absurd cc
    full false x e = cc

    go : (o : Option Subject) → placed (length w.seats) o ≡ Ok subject → o ≡ Some subject
    go None e = absurd cc
    go (Some x) e = ap (λ (y : Subject). Some y) (full (nat_le SEAT_LIMIT (length w.seats)) x e)

-- Each event.

module _ (event : Event) (old : WorldData) (reply : Reply) where
  abbrev FromSearches : List Search → Type 0
  FromSearches ss = (number : ℕ) (s : Search) → search_with number ss ≡ Some s → IsAskedSearch event old reply number s

  abbrev FromTransactions : List TransactionData → Type 0
  FromTransactions ts = (number : ℕ) (t : TransactionData) → transaction_with number ts ≡ Some t → IsAskedTransaction event old reply number t

  searches_stay : FromSearches old.searches
  searches_stay number s is = inl (s, is, refl, refl)

  searches_ready : (k : ℕ) → FromSearches (with_ready k old.searches)
  searches_ready k number s is = inl (ran_ready k number old.searches s is)

  searches_end : (k : ℕ) → FromSearches (searches_left k old.searches)
  searches_end k number s is = inl (s, ran_left k number old.searches s is, refl, refl)

  transactions_stay : FromTransactions old.transactions
  transactions_stay number t is = inl (t, is, refl, inl refl)

  transactions_end : (k : ℕ) → FromTransactions (ended k old.transactions)
  transactions_end k number t is = inl (t, open_left k number old.transactions t is, refl, inl refl)

  transactions_placed : (k : ℕ) → FromTransactions (with_step one_placed k old.transactions)
  transactions_placed k number t is =
      let from = open_stepped one_placed (λ x. refl) k number old.transactions t is in
      let same : (t.seat ≡ from.0.seat) × (t.changes ≡ from.0.changes) = elim from.2 [
        | inl e ↦ (ap (λ (x : TransactionData). x.seat) e, ap (λ (x : TransactionData). x.changes) e)
        | inr e ↦ (ap (λ (x : TransactionData). x.seat) e.1, ap (λ (x : TransactionData). x.changes) e.1)
      ] in
      inl (from.0, from.1, same.0, inl same.1)

  asked_to : (new w : WorldData) → new ≡ w → FromSearches w.searches → FromTransactions w.transactions → w.seats ≡ old.seats → IsAsked event old new reply
  asked_to new w e searches transactions seats =
      subst (λ (x : WorldData). IsAsked event old x reply) (sym e) (record { searches = searches; transactions = transactions; seats = inl seats })

  asked_same : (new : WorldData) → new ≡ old → IsAsked event old new reply
  asked_same new e = asked_to new old e searches_stay transactions_stay refl

asked_sees : (event : Event) (number : ℕ) (old new : WorldData) (reply : Reply) → Sees number old new reply → IsAsked event old new reply
asked_sees event number old new (Visited visits.More) d = asked_same event old _ new d
asked_sees event number old new (Visited visits.Ready) d = asked_to event old _ new _ d (searches_ready event old _ number) (transactions_stay event old _) refl
asked_sees event number old new (Failed (faults.Tree tree.Overrun)) d = asked_to event old _ new _ d (searches_end event old _ number) (transactions_stay event old _) refl
asked_sees event number old new _ d = absurd d

asked_walks : (event : Event) (number : ℕ) (shape : List Point) (old new : WorldData) (reply : Reply) → Walks number shape old new reply → IsAsked event old new reply
asked_walks event number shape old new (Advanced (advances.Walked steps.Moved)) d = asked_same event old _ new d
asked_walks event number shape old new (Advanced (advances.Walked steps.Split)) d = asked_same event old _ new d
asked_walks event number shape old new (Advanced (advances.Walked steps.Installed)) d = asked_same event old _ new d
asked_walks event number shape old new (Advanced (advances.Walked steps.Restarted)) d = asked_same event old _ new d
asked_walks event number shape old new (Advanced (advances.Walked steps.Placed)) d = asked_to event old _ new _ d.1 (searches_stay event old _) (transactions_placed event old _ number) refl
asked_walks event number shape old new (Failed (faults.Tree (tree.Held search))) d = asked_same event old _ new d.1
asked_walks event number shape old new (Failed (faults.Tree tree.Full)) d = asked_same event old _ new d
asked_walks event number shape old new (Failed (faults.Tree tree.TooHigh)) d = asked_same event old _ new d
asked_walks event number shape old new (Failed (faults.Tree tree.Spent)) d = asked_same event old _ new d
asked_walks event number shape old new (Failed (faults.Tree tree.Overrun)) d = asked_to event old _ new _ d (searches_stay event old _) (transactions_end event old _ number) refl
asked_walks event number shape old new _ d = absurd d

asked_tends : (event : Event) (old new : WorldData) (reply : Reply) → Tends old new reply → IsAsked event old new reply
asked_tends event old new (Tended tending) d = asked_same event old _ new d
asked_tends event old new (Failed (faults.Tree tree.Spent)) d = asked_same event old _ new d
asked_tends event old new _ d = absurd d

-- events that may end with X12, and events that may be refused
asked_unless : (event : Event) (old new : WorldData) (reply : Reply) (Does : Type 0) → (Does → IsAsked event old new reply) → MatchBool (is_memory reply) (new ≡ old) Does → IsAsked event old new reply
asked_unless event old new reply Does each d = by_unless old new reply Does (λ r. IsAsked event old new r) (λ fault want same. asked_same event old (Failed fault) new same) each d

asked_visits : (event : Event) (s : Search) (old new : WorldData) (reply : Reply) → Visits s old new reply → IsAsked event old new reply
asked_visits event s old new reply d = go s.ready d
  where
    go : (b : Bool) → MatchBool b ((new ≡ old) × (reply ≡ Visited visits.Ready)) (MatchBool (is_memory reply) (new ≡ old) (Sees s.number old new reply)) → IsAsked event old new reply
    go true d = asked_same event old reply new d.0
    go false d = asked_unless event old new reply _ (λ d. asked_sees event s.number old new reply d) d

asked_advances : (event : Event) (number : ℕ) (t : TransactionData) (old new : WorldData) (reply : Reply) → Advances number t old new reply → IsAsked event old new reply
asked_advances event number t old new reply d = go (next_placement t) d
  where
    go : (o : Option (ℕ × List Point)) → MatchOption o ((new ≡ old) × (reply ≡ Advanced advances.AllPlaced)) (λ placement. MatchBool (is_memory reply) (new ≡ old) (Walks number placement.1 old new reply)) → IsAsked event old new reply
    go None d = asked_same event old reply new d.0
    go (Some placement) d = asked_unless event old new reply _ (λ d. asked_walks event number placement.1 old new reply d) d

asked_applies : (event : Event) (seat number : ℕ) (subject : Subject) (changes : List Change) (old new : WorldData) (reply : Reply) → Applies seat number subject changes old new reply → IsAsked event old new reply
asked_applies event seat number subject changes old new reply d =
    go (old.state.version == LAST) (nat_lt (most_features old) (length (after (old.state.version + 1) subject.office changes old.state.features))) d
  where
    go : (last full : Bool) → MatchBool last ((new ≡ old) × (reply ≡ Failed faults.Spent)) (MatchBool full ((new ≡ old) × (reply ≡ Failed faults.StoreFull))
        ((reply ≡ Ended (outcomes.Applied (old.state.version + 1))) × (new ≡ without_transaction number (recorded seat (applied subject (old.state.version + 1) changes) old)))) → IsAsked event old new reply
    go true full d = asked_same event old reply new d.0
    go false true d = asked_same event old reply new d.0
    go false false d = asked_to event old reply new _ d.1 (searches_stay event old reply) (transactions_end event old reply number) refl

asked_commits_as : (event : Event) (judgement : Judgement) (seat number : ℕ) (subject : Subject) (changes : List Change) (old new : WorldData) (reply : Reply) → CommitsAs judgement seat number subject changes old new reply → IsAsked event old new reply
asked_commits_as event judgements.Accepted seat number subject changes old new reply d = asked_applies event seat number subject changes old new reply d
asked_commits_as event (judgements.Refused refusal question) seat number subject changes old new reply d =
    asked_to event old reply new _ d.1 (searches_stay event old reply) (transactions_end event old reply number) refl

-- a search that is opened
asked_opened : (seat n : ℕ) (window : List Point) (old : WorldData) (reply : Reply) → reply ≡ Number n → FromSearches (OpenSearch seat window) old reply (old.searches ++ record { number = n; seat = seat; window = window; ready = false } ∷ [])
asked_opened seat n window old reply told number s is = elim (ran_or_new number old.searches (record { number = n; seat = seat; window = window; ready = false }) s is) [
  | inl e ↦ inl (s, e, refl, refl)
  | inr e ↦ (
      let seats : s.seat ≡ seat = ap (λ (x : Search). x.seat) e.0 in
      let windows : s.window ≡ window = ap (λ (x : Search). x.window) e.0 in
      inr (ap (λ (m : ℕ). OpenSearch m window) (sym seats) ∙ ap (λ (v : List Point). OpenSearch s.seat v) (sym windows), told ∙ ap (λ (m : ℕ). Number m) e.1))
]

-- a transaction that is opened
asked_begun : (seat n : ℕ) (old : WorldData) (reply : Reply) → reply ≡ Number n → FromTransactions (Begin seat) old reply (old.transactions ++ record { number = n; seat = seat; changes = []; placed = 0 } ∷ [])
asked_begun seat n old reply told number t is = elim (open_or_new number old.transactions (record { number = n; seat = seat; changes = []; placed = 0 }) t is) [
  | inl e ↦ inl (t, e, refl, inl refl)
  | inr e ↦ inr (ap (λ (m : ℕ). Begin m) (sym (ap (λ (x : TransactionData). x.seat) e.0)), told ∙ ap (λ (m : ℕ). Number m) e.1, ap (λ (x : TransactionData). x.changes) e.0)
]

-- a change that is staged
asked_staged : (seat k : ℕ) (change : Change) (old : WorldData) (reply : Reply) (u : Unit {0}) → may_stage seat k change old ≡ Ok u → reply ≡ Done → FromTransactions (Stage seat k change) old reply (with_step (staged change) k old.transactions)
asked_staged seat k change old reply u may told number t is =
    let a = and_then_ok (may_step seat k old) (λ (t : TransactionData). may_add change t.changes) u may in
    let b = and_then_ok (subject_at seat old) (λ _. own_transaction seat k old) a.0 a.1 in
    let own = own_open seat k old a.0 b.2 in
    let from = open_stepped (staged change) (λ x. refl) k number old.transactions t is in
    elim from.2 [
      | inl e ↦ inl (from.0, from.1, ap (λ (x : TransactionData). x.seat) e, inl (ap (λ (x : TransactionData). x.changes) e))
      | inr e ↦ (
          let same : from.0 ≡ a.0 = cc (subst (λ (m : ℕ). transaction_with m old.transactions ≡ Some from.0) e.0 from.1, own.0) in
          let seats : t.seat ≡ from.0.seat = ap (λ (x : TransactionData). x.seat) e.1 in
          let here : t.seat ≡ seat = seats ∙ ap (λ (x : TransactionData). x.seat) same ∙ own.1 in
          inl (from.0, from.1, seats, inr (change, ap (λ (m : ℕ). Stage m k change) (sym here) ∙ ap (λ (m : ℕ). Stage t.seat m change) (sym e.0), told, ap (λ (x : TransactionData). x.changes) e.1)))
    ]

pub is_asked : (event : Event) (old new : WorldData) (reply : Reply) → Happens event old new reply → IsAsked event old new reply
is_asked (TakeSeat name) old new reply happens =
    by_if (may_sit name old) old new reply _ (λ r. IsAsked (TakeSeat name) old new r) (λ fault may same. asked_same (TakeSeat name) old (Failed fault) new same)
    (λ subject may d. asked_unless (TakeSeat name) old new reply _ (λ d. subst (λ (x : WorldData). IsAsked (TakeSeat name) old x reply) (sym d.0) (record {
      searches = searches_stay (TakeSeat name) old reply;
      transactions = transactions_stay (TakeSeat name) old reply;
      seats = inr (name, subject, refl, sat name old subject may, d.1, refl);
    })) d) happens
is_asked (OpenSearch seat window) old new reply happens =
    by_if (may_open seat old) old new reply _ (λ r. IsAsked (OpenSearch seat window) old new r) (λ fault may same. asked_same (OpenSearch seat window) old (Failed fault) new same)
    (λ number may d. asked_unless (OpenSearch seat window) old new reply _
    (λ d. asked_to (OpenSearch seat window) old reply new _ d.0 (asked_opened seat number window old reply d.1) (transactions_stay (OpenSearch seat window) old reply) refl) d) happens
is_asked (VisitNext seat number) old new reply happens =
    by_if (may_go_on seat number old) old new reply _ (λ r. IsAsked (VisitNext seat number) old new r) (λ fault may same. asked_same (VisitNext seat number) old (Failed fault) new same)
    (λ s may d. asked_visits (VisitNext seat number) s old new reply d) happens
is_asked (Finish seat number) old new reply happens =
    by_if (may_finish seat number old) old new reply _ (λ r. IsAsked (Finish seat number) old new r) (λ fault may same. asked_same (Finish seat number) old (Failed fault) new same)
    (λ who may d. asked_unless (Finish seat number) old new reply _
    (λ d. asked_to (Finish seat number) old reply new _ d.3 (searches_end (Finish seat number) old reply who.1.number) (transactions_stay (Finish seat number) old reply) refl) d) happens
is_asked (DropSearch seat number) old new reply happens =
    by_if (may_go_on seat number old) old new reply _ (λ r. IsAsked (DropSearch seat number) old new r) (λ fault may same. asked_same (DropSearch seat number) old (Failed fault) new same)
    (λ s may d. asked_to (DropSearch seat number) old reply new _ d.0 (searches_end (DropSearch seat number) old reply number) (transactions_stay (DropSearch seat number) old reply) refl) happens
is_asked (Answer seat window) old new reply happens =
    by_if (may_answer seat old) old new reply _ (λ r. IsAsked (Answer seat window) old new r) (λ fault may same. asked_same (Answer seat window) old (Failed fault) new same)
    (λ subject may d. asked_unless (Answer seat window) old new reply _
    (λ d. asked_to (Answer seat window) old reply new _ d.3 (searches_stay (Answer seat window) old reply) (transactions_stay (Answer seat window) old reply) refl) d) happens
is_asked (Begin seat) old new reply happens =
    by_if (may_begin seat old) old new reply _ (λ r. IsAsked (Begin seat) old new r) (λ fault may same. asked_same (Begin seat) old (Failed fault) new same)
    (λ number may d. asked_unless (Begin seat) old new reply _
    (λ d. asked_to (Begin seat) old reply new _ d.0 (searches_stay (Begin seat) old reply) (asked_begun seat number old reply d.1) refl) d) happens
is_asked (Stage seat number change) old new reply happens =
    by_if (may_stage seat number change old) old new reply _ (λ r. IsAsked (Stage seat number change) old new r) (λ fault may same. asked_same (Stage seat number change) old (Failed fault) new same)
    (λ u may d. asked_to (Stage seat number change) old reply new _ d.0 (searches_stay (Stage seat number change) old reply) (asked_staged seat number change old reply u may d.1) refl) happens
is_asked (AdvanceWalk seat number) old new reply happens =
    by_if (may_step seat number old) old new reply _ (λ r. IsAsked (AdvanceWalk seat number) old new r) (λ fault may same. asked_same (AdvanceWalk seat number) old (Failed fault) new same)
    (λ t may d. asked_advances (AdvanceWalk seat number) number t old new reply d) happens
is_asked (Commit seat number) old new reply happens =
    by_if (may_commit seat number old) old new reply _ (λ r. IsAsked (Commit seat number) old new r) (λ fault may same. asked_same (Commit seat number) old (Failed fault) new same)
    (λ subject may d. asked_unless (Commit seat number) old new reply _
    (λ d. asked_commits_as (Commit seat number) d.0 seat number subject (staged_in number old.transactions) old new reply d.2) d) happens
is_asked (Abort seat number) old new reply happens =
    by_if (may_step seat number old) old new reply _ (λ r. IsAsked (Abort seat number) old new r) (λ fault may same. asked_same (Abort seat number) old (Failed fault) new same)
    (λ t may d. asked_to (Abort seat number) old reply new _ d.0 (searches_stay (Abort seat number) old reply) (transactions_end (Abort seat number) old reply number) refl) happens
is_asked (Govern seat document) old new reply happens =
    by_if (may_govern seat old) old new reply _ (λ r. IsAsked (Govern seat document) old new r) (λ fault may same. asked_same (Govern seat document) old (Failed fault) new same)
    (λ u may d. asked_unless (Govern seat document) old new reply _
    (λ d. asked_to (Govern seat document) old reply new _ d.1 (searches_stay (Govern seat document) old reply) (transactions_stay (Govern seat document) old reply) refl) d) happens
is_asked (Tend slot) old new reply happens = asked_tends (Tend slot) old new reply happens
is_asked (Roll seat) old new reply happens =
    by_if (may_roll seat old) old new reply _ (λ r. IsAsked (Roll seat) old new r) (λ fault may same. asked_same (Roll seat) old (Failed fault) new same)
    (λ u may d. asked_unless (Roll seat) old new reply _
    (λ d. asked_to (Roll seat) old reply new _ d.1 (searches_stay (Roll seat) old reply) (transactions_stay (Roll seat) old reply) refl) d) happens
