-- Each open search is one that a session of the script has open. So none is open once all of these
-- are dropped.
use Rattle.std.proofs.Common.{◌≡◌, ◌⊎◌, ℕ, zero, suc, ◌<◌, ◌==◌, not, Bool, true, false, List, [], ◌∷◌, ◌++◌, length, map, filter, slice_set, slice_index_or, Option, None, Some, Ok, Err, if◌then◌else◌, refl, sym, ap, subst, ◌∙◌, inl, inr, arith, append-nil}
use Rattle.std.specs.Bool.{MatchBool}
use Rattle.std.proofs.lemmas.Bool.Decides.{nat_tests}
use Rattle.features.specs.declared.actors.Subject.{Subject}
use Rattle.audit_trail.specs.Legal.{subject_of}
use Rattle.audit_trail.proofs.LegalLemmas.{subject_of-append}
use Rattle.plain_world.specs.declared.faults.Fault.TheVariants as faults
use Rattle.tree_answers.specs.declared.fault.TreeFault.TheVariants as tree
use Rattle.plain_world.specs.declared.open_searches.Search.{Search}
use Rattle.tree_answers.specs.declared.answers.Visit.TheVariants as visits
use Rattle.plain_world.specs.Admitting.{and_then, given, owned, search_with, may_go_on, may_finish}
use Rattle.plain_world.specs.Answers.{AnswerData}
use Rattle.plain_world.specs.Events.{Event, VisitNext, Finish, DropSearch, Happens, Reply, Visited, Rows, Failed, is_memory, Sees, Finishes, with_ready, without_search}
use Rattle.plain_world.specs.Laws.{AreGiven, AreWithin, IsBelowEach, IsUnderWay}
use Rattle.plain_world.specs.Staging.{TransactionData}
use Rattle.plain_world.specs.States.{WorldData}
use Rattle.plain_world.proofs.AdmittedLemmas.{admitted, by_if, by_unless, finisher}
use Rattle.plain_world.proofs.RefusalLemmas.{leaves}
use Rattle.plain_world.proofs.UnderWayLemmas.{way_event}
use Rattle.scripts.specs.States.{IsAtRest, SessionState}
use Rattle.scripts.specs.Stepping.{AllDrop, Drops}
use Rattle.scripts.proofs.SearchLemmas.{same_number}

-- a session at seat `at` with the open search `number_open` has opened the search `number` of
-- `seat`
abbrev pub HasOpen : Option ℕ → Option ℕ → ℕ → ℕ → Type 0
HasOpen at number_open seat number = (at ≡ Some seat) × (number_open ≡ Some number)

abbrev pub AnyHas : List SessionState → ℕ → ℕ → Type 0
AnyHas [] seat number = ⊥
AnyHas (x ∷ xs) seat number = HasOpen x.seat x.search seat number ⊎ AnyHas xs seat number

-- a search of a seat that was given, which one of the sessions has open
abbrev pub IsHeld : List Subject → List SessionState → Search → Type 0
IsHeld seats xs s = ((subject : Subject) × (subject_of s.seat seats ≡ Some subject)) × AnyHas xs s.seat s.number

abbrev pub AreHeld : List Subject → List SessionState → List Search → Type 0
AreHeld seats xs [] = Unit {0}
AreHeld seats xs (s ∷ ss) = IsHeld seats xs s × AreHeld seats xs ss

held_filter : (p : Search → Bool) (seats : List Subject) (xs : List SessionState) (ss : List Search) → AreHeld seats xs ss → AreHeld seats xs (filter p ss)
held_filter p seats xs [] h = tt
held_filter p seats xs (s ∷ ss) h = go (p s) (held_filter p seats xs ss h.1)
  where
    go : (b : Bool) → AreHeld seats xs (filter p ss) → AreHeld seats xs (if b then s ∷ filter p ss else filter p ss)
    go true rest = (h.0, rest)
    go false rest = rest

held_ready : (n : ℕ) (seats : List Subject) (xs : List SessionState) (ss : List Search) → AreHeld seats xs ss → AreHeld seats xs (with_ready n ss)
held_ready n seats xs [] h = tt
held_ready n seats xs (s ∷ ss) h = go (s.number == n) (held_ready n seats xs ss h.1)
  where
    go : (b : Bool) → AreHeld seats xs (with_ready n ss) → AreHeld seats xs (if b then record s { ready = true } ∷ ss else s ∷ with_ready n ss)
    go true rest = (h.0, h.1)
    go false rest = (h.0, rest)

pub held_push : (seats : List Subject) (xs : List SessionState) (ss : List Search) (s : Search) → AreHeld seats xs ss → IsHeld seats xs s → AreHeld seats xs (ss ++ s ∷ [])
held_push seats xs [] s h one = (one, tt)
held_push seats xs (first ∷ ss) s h one = (h.0, held_push seats xs ss s h.1 one)

-- more seats, and sessions that have open what the former ones had
pub held_more : (seats more : List Subject) (xs ys : List SessionState) (ss : List Search) → ((seat number : ℕ) → AnyHas xs seat number → AnyHas ys seat number) → AreHeld seats xs ss → AreHeld (seats ++ more) ys ss
held_more seats more xs ys [] has h = tt
held_more seats more xs ys (s ∷ ss) has h =
    (((h.0.0.0, subject_of-append s.seat seats more h.0.0.0 h.0.0.1), has s.seat s.number h.0.1), held_more seats more xs ys ss has h.1)

has_pushed : (xs : List SessionState) (x : SessionState) (seat number : ℕ) → AnyHas xs seat number → AnyHas (xs ++ x ∷ []) seat number
has_pushed [] x seat number h = absurd h
has_pushed (first ∷ xs) x seat number (inl h) = inl h
has_pushed (first ∷ xs) x seat number (inr h) = inr (has_pushed xs x seat number h)

pub held_pushed : (seats : List Subject) (xs : List SessionState) (x : SessionState) (ss : List Search) → AreHeld seats xs ss → AreHeld seats (xs ++ x ∷ []) ss
held_pushed seats xs x ss h =
    subst (λ (all : List Subject). AreHeld all (xs ++ x ∷ []) ss) (append-nil seats) (held_more seats [] xs (xs ++ x ∷ []) ss (has_pushed xs x) h)

-- ---- one session is changed

has_set : (xs : List SessionState) (at : ℕ) (d after : SessionState) (seat number : ℕ)
    → (HasOpen (slice_index_or xs at d).seat (slice_index_or xs at d).search seat number → HasOpen after.seat after.search seat number)
    → AnyHas xs seat number → AnyHas (slice_set xs at after) seat number
has_set [] at d after seat number keeps h = absurd h
has_set (x ∷ xs) zero d after seat number keeps (inl h) = inl (keeps h)
has_set (x ∷ xs) zero d after seat number keeps (inr h) = inr h
has_set (x ∷ xs) (suc at) d after seat number keeps (inl h) = inl h
has_set (x ∷ xs) (suc at) d after seat number keeps (inr h) = inr (has_set xs at d after seat number keeps h)

pub set_has : (xs : List SessionState) (at : ℕ) (after : SessionState) (seat number : ℕ) → at < length xs → HasOpen after.seat after.search seat number → AnyHas (slice_set xs at after) seat number
set_has [] at after seat number lt h = absurd (omega (arith, lt))
set_has (x ∷ xs) zero after seat number lt h = inl h
set_has (x ∷ xs) (suc at) after seat number lt h = inr (set_has xs at after seat number (omega (arith, lt)) h)

-- of the open searches, those that the session had open it has open afterwards
abbrev pub AllStay : SessionState → SessionState → List Search → Type 0
AllStay before after [] = Unit {0}
AllStay before after (s ∷ ss) = (HasOpen before.seat before.search s.seat s.number → HasOpen after.seat after.search s.seat s.number) × AllStay before after ss

pub all_stay : (before after : SessionState) → ((seat number : ℕ) → HasOpen before.seat before.search seat number → HasOpen after.seat after.search seat number) → (ss : List Search) → AllStay before after ss
all_stay before after each [] = tt
all_stay before after each (s ∷ ss) = (each s.seat s.number, all_stay before after each ss)

pub held_set : (seats : List Subject) (xs : List SessionState) (at : ℕ) (d before after : SessionState) (ss : List Search) → slice_index_or xs at d ≡ before → AllStay before after ss
    → AreHeld seats xs ss → AreHeld seats (slice_set xs at after) ss
held_set seats xs at d before after [] e stay h = tt
held_set seats xs at d before after (s ∷ ss) e stay h =
    let keeps = subst (λ (x : SessionState). HasOpen x.seat x.search s.seat s.number → HasOpen after.seat after.search s.seat s.number) (sym e) stay.0 in
    ((h.0.0, has_set xs at d after s.seat s.number keeps h.0.1), held_set seats xs at d before after ss e stay.1 h.1)

-- ---- searches that are gone

abbrev pub AreGone : Option ℕ → Option ℕ → List Search → Type 0
AreGone at number_open [] = Unit {0}
AreGone at number_open (s ∷ ss) = (HasOpen at number_open s.seat s.number → ⊥) × AreGone at number_open ss

gone_all : (at number_open : Option ℕ) → ((seat number : ℕ) → HasOpen at number_open seat number → ⊥) → (ss : List Search) → AreGone at number_open ss
gone_all at number_open none [] = tt
gone_all at number_open none (s ∷ ss) = (none s.seat s.number, gone_all at number_open none ss)

pub gone_stay : (before after : SessionState) (ss : List Search) → AreGone before.seat before.search ss → AllStay before after ss
gone_stay before after [] gone = tt
gone_stay before after (s ∷ ss) gone = ((λ h. absurd (gone.0 h)), gone_stay before after ss gone.1)

some_same : (a b : ℕ) → ◌≡◌ {A = Option ℕ} (Some a) (Some b) → a ≡ b
some_same a b e = cc

apart_from : (n number : ℕ) → (n == number) ≡ false → number ≡ n → ⊥
apart_from n number e same = absurd (cc (sym (same_number number) ∙ ap (λ (m : ℕ). m == number) same ∙ e))

pub gone_left : (at : Option ℕ) (number : ℕ) (ss : List Search) → AreGone at (Some number) (filter (λ (s : Search). not (s.number == number)) ss)
gone_left at number [] = tt
gone_left at number (s ∷ ss) = go (s.number == number) refl (gone_left at number ss)
  where
    go : (b : Bool) → (s.number == number) ≡ b → AreGone at (Some number) (filter (λ (s : Search). not (s.number == number)) ss)
        → AreGone at (Some number) (if not b then s ∷ filter (λ (s : Search). not (s.number == number)) ss else filter (λ (s : Search). not (s.number == number)) ss)
    go true e rest = rest
    go false e rest = ((λ h. apart_from s.number number e (some_same number s.number h.1)), rest)

gone_above : (at : Option ℕ) (number n : ℕ) (ss : List Search) → n ≡ number → IsBelowEach n (map (λ (s : Search). s.number) ss) → AreGone at (Some number) ss
gone_above at number n [] e below = tt
gone_above at number n (s ∷ ss) e below =
    ((λ h. (let same = some_same number s.number h.1 in omega (arith, e, same, below.0))), gone_above at number n ss e below.1)

-- a search that the seat may not go on with is not open
refused_gone : (seat number next : ℕ) (seats : List Subject) (xs : List SessionState) (ss : List Search) → AreGiven next (map (λ (s : Search). s.number) ss) → AreHeld seats xs ss
    → ((s : Search) → and_then (given (subject_of seat seats)) (λ _. and_then (given (search_with number ss)) (owned seat)) ≡ Ok s → ⊥) → AreGone (Some seat) (Some number) ss
refused_gone seat number next seats xs [] order held refused = tt
refused_gone seat number next seats xs (s ∷ ss) order held refused =
    go (s.number == number) refl refused (λ later. refused_gone seat number next seats xs ss order.2 held.1 later)
  where
    Refuses : Bool → Type 0
    Refuses b = (r : Search) → and_then (given (subject_of seat seats)) (λ _. and_then (given (if b then Some s else search_with number ss)) (owned seat)) ≡ Ok r → ⊥

    -- the search is the seat's own
    own : Refuses true → seat ≡ s.seat → ⊥
    own refused e =
        refused s
        (ap (λ (n : ℕ). and_then (given (subject_of n seats)) (λ _. owned n s)) e
        ∙ ap (λ (o : Option Subject). and_then (given o) (λ _. owned s.seat s)) held.0.0.1
        ∙ ap (λ (b : Bool). if b then Ok s else Err faults.NotYours) (same_number s.seat))

    go : (b : Bool) → (s.number == number) ≡ b → Refuses b → (Refuses false → AreGone (Some seat) (Some number) ss) → AreGone (Some seat) (Some number) (s ∷ ss)
    go true e refused later =
        let here : s.number ≡ number = grind (arith, nat_tests, e) in
        ((λ h. own refused (some_same seat s.seat h.0)), gone_above (Some seat) number s.number ss here order.1)
    go false e refused later = ((λ h. apart_from s.number number e (some_same number s.number h.1)), later refused)

-- ---- events of searches

-- an event of an open search: the searches that are left are held by the sessions that held them
pub record Goes (old new : WorldData) : Type 0 where
  pub transactions : new.transactions ≡ old.transactions
  pub seats : new.seats ≡ old.seats
  pub held : (seats : List Subject) (xs : List SessionState) → AreHeld seats xs old.searches → AreHeld seats xs new.searches

goes_by : (old new w : WorldData) → new ≡ w → Goes old w → Goes old new
goes_by old new w e g = subst (λ (x : WorldData). Goes old x) (sym e) g

goes_none : (old : WorldData) → Goes old old
goes_none old = record { transactions = refl; seats = refl; held = λ seats xs h. h }

pub goes_same : (old new : WorldData) → new ≡ old → Goes old new
goes_same old new e = goes_by old new old e (goes_none old)

pub goes_then : (old mid new : WorldData) → Goes old mid → Goes mid new → Goes old new
goes_then old mid new first later =
    record { transactions = later.transactions ∙ first.transactions; seats = later.seats ∙ first.seats; held = λ seats xs h. later.held seats xs (first.held seats xs h) }

sees_goes : (number : ℕ) (old new : WorldData) (reply : Reply) → Sees number old new reply → Goes old new
sees_goes number old new (Visited visits.More) d = goes_same old new d
sees_goes number old new (Visited visits.Ready) d =
    goes_by old new (record old { searches = with_ready number old.searches }) d (record { transactions = refl; seats = refl; held = λ seats xs h. held_ready number seats xs old.searches h })
sees_goes number old new (Failed (faults.Tree tree.Overrun)) d =
    goes_by old new (without_search number old) d (record { transactions = refl; seats = refl; held = λ seats xs h. held_filter (λ (s : Search). not (s.number == number)) seats xs old.searches h })
sees_goes number old new _ d = absurd d

pub visit_goes : (seat number : ℕ) (old new : WorldData) (reply : Reply) → Happens (VisitNext seat number) old new reply → Goes old new
visit_goes seat number old new reply h =
    by_if (may_go_on seat number old) old new reply _ (λ _. Goes old new) (λ fault may same. goes_same old new same) (λ s may d. go s s.ready d) h
  where
    go : (s : Search) (b : Bool) → MatchBool b ((new ≡ old) × (reply ≡ Visited visits.Ready)) (MatchBool (is_memory reply) (new ≡ old) (Sees s.number old new reply)) → Goes old new
    go s true d = goes_same old new d.0
    go s false d = by_unless old new reply _ (λ _. Goes old new) (λ fault want same. goes_same old new same) (λ d. sees_goes s.number old new reply d) d

pub finish_goes : (seat number : ℕ) (old new : WorldData) (reply : Reply) → Happens (Finish seat number) old new reply → Goes old new
finish_goes seat number old new reply h =
    by_if (may_finish seat number old) old new reply _ (λ _. Goes old new) (λ fault may same. goes_same old new same)
    (λ who may d. by_unless old new reply _ (λ _. Goes old new) (λ fault want same. goes_same old new same)
    (λ d. goes_by old new _ d.3 (record { transactions = refl; seats = refl; held = λ seats xs h. held_filter (λ (s : Search). not (s.number == who.1.number)) seats xs old.searches h })) d) h

pub drop_goes : (seat number : ℕ) (old new : WorldData) (reply : Reply) → Happens (DropSearch seat number) old new reply → Goes old new
drop_goes seat number old new reply h =
    by_if (may_go_on seat number old) old new reply _ (λ _. Goes old new) (λ fault may same. goes_same old new same)
    (λ s may d. goes_by old new _ d.0 (record { transactions = refl; seats = refl; held = λ seats xs h. held_filter (λ (s : Search). not (s.number == number)) seats xs old.searches h })) h

pub drops_goes : (at number_open : Option ℕ) (old new : WorldData) → Drops at number_open old new → Goes old new
drops_goes None number_open old new d = goes_same old new d
drops_goes (Some seat) None old new d = goes_same old new d
drops_goes (Some seat) (Some number) old new d = drop_goes seat number old new d.0 d.1

-- ---- worlds at rest

under_way : (w : WorldData) → IsAtRest w → IsUnderWay w
under_way w still =
    record {
      searches = still.searches;
      transactions = subst (λ (ts : List TransactionData). AreGiven w.next_transaction (map (λ (t : TransactionData). t.number) ts)) (sym still.transactions) tt;
      within = subst (λ (ts : List TransactionData). AreWithin ts) (sym still.transactions) tt;
    }

-- an event that leaves the transactions unchanged leaves a world at rest
pub event_rests : (event : Event) (old new : WorldData) (reply : Reply) → Happens event old new reply → new.transactions ≡ old.transactions → IsAtRest old → IsAtRest new
event_rests event old new reply h same still =
    record { searches = (way_event event old new reply h (under_way old still)).searches; transactions = same ∙ still.transactions }

pub visit_rests : (seat number : ℕ) (old new : WorldData) (reply : Reply) → Happens (VisitNext seat number) old new reply → IsAtRest old → IsAtRest new
visit_rests seat number old new reply h still = event_rests (VisitNext seat number) old new reply h (visit_goes seat number old new reply h).transactions still

pub finish_rests : (seat number : ℕ) (old new : WorldData) (reply : Reply) → Happens (Finish seat number) old new reply → IsAtRest old → IsAtRest new
finish_rests seat number old new reply h still = event_rests (Finish seat number) old new reply h (finish_goes seat number old new reply h).transactions still

pub drop_rests : (seat number : ℕ) (old new : WorldData) (reply : Reply) → Happens (DropSearch seat number) old new reply → IsAtRest old → IsAtRest new
drop_rests seat number old new reply h still = event_rests (DropSearch seat number) old new reply h (drop_goes seat number old new reply h).transactions still

pub drops_rest : (at number_open : Option ℕ) (old new : WorldData) → Drops at number_open old new → IsAtRest old → IsAtRest new
drops_rest None number_open old new d still = subst (λ (w : WorldData). IsAtRest w) (sym d) still
drops_rest (Some seat) None old new d still = subst (λ (w : WorldData). IsAtRest w) (sym d) still
drops_rest (Some seat) (Some number) old new d still = drop_rests seat number old new d.0 d.1 still

-- ---- what is gone

-- a search that is dropped is gone
pub drop_gone : (seat number : ℕ) (xs : List SessionState) (old new : WorldData) (reply : Reply) → Happens (DropSearch seat number) old new reply → IsAtRest old → AreHeld old.seats xs old.searches
    → AreGone (Some seat) (Some number) new.searches
drop_gone seat number xs old new reply h still held =
    by_if (may_go_on seat number old) old new reply _ (λ _. AreGone (Some seat) (Some number) new.searches)
    (λ fault may same. subst (λ (w : WorldData). AreGone (Some seat) (Some number) w.searches) (sym same)
    (refused_gone seat number old.next_search old.seats xs old.searches still.searches held (λ s e. (let wrong = sym may ∙ e in absurd cc))))
    (λ s may d. subst (λ (w : WorldData). AreGone (Some seat) (Some number) w.searches) (sym d.0) (gone_left (Some seat) number old.searches)) h

pub drops_gone : (at number_open : Option ℕ) (xs : List SessionState) (old new : WorldData) → Drops at number_open old new → IsAtRest old → AreHeld old.seats xs old.searches → AreGone at number_open new.searches
drops_gone None number_open xs old new d still held = gone_all None number_open (λ seat number h. (let wrong = h.0 in absurd cc)) new.searches
drops_gone (Some seat) None xs old new d still held = gone_all (Some seat) None (λ seat number h. (let wrong = h.1 in absurd cc)) new.searches
drops_gone (Some seat) (Some number) xs old new d still held = drop_gone seat number xs old new d.0 d.1 still held

number_found : (number : ℕ) (ss : List Search) (s : Search) → search_with number ss ≡ Some s → s.number ≡ number
number_found number [] s e = absurd cc
number_found number (first ∷ ss) s e = go (first.number == number) refl e (λ found. number_found number ss s found)
  where
    go : (b : Bool) → (first.number == number) ≡ b → (if b then Some first else search_with number ss) ≡ Some s → (search_with number ss ≡ Some s → s.number ≡ number) → s.number ≡ number
    go true is e later =
        let same : s ≡ first = cc (e) in
        let here : first.number ≡ number = grind (arith, nat_tests, is) in
        ap (λ (x : Search). x.number) same ∙ here
    go false is e later = later e

-- a search that is finished is gone
pub finish_gone : (at : Option ℕ) (seat number : ℕ) (old new : WorldData) (answer : AnswerData) → Happens (Finish seat number) old new (Rows answer) → AreGone at (Some number) new.searches
finish_gone at seat number old new answer h =
    let a = admitted (may_finish seat number old) old new (Rows answer) (λ who. Finishes seat who old new (Rows answer)) refl h in
    let is : a.0.1.number ≡ number = number_found number old.searches a.0.1 (finisher seat number old a.0 a.1).running in
    subst (λ (w : WorldData). AreGone at (Some number) w.searches) (sym a.2.3)
    (subst (λ (n : ℕ). AreGone at (Some number) (filter (λ (s : Search). not (s.number == n)) old.searches)) (sym is) (gone_left at number old.searches))

-- a search that ends with S7 is gone
pub overrun_gone : (at : Option ℕ) (seat number : ℕ) (old new : WorldData) → Happens (VisitNext seat number) old new (Failed (faults.Tree tree.Overrun)) → AreGone at (Some number) new.searches
overrun_gone at seat number old new h =
    subst (λ (w : WorldData). AreGone at (Some number) w.searches) (sym (leaves (VisitNext seat number) old new (faults.Tree tree.Overrun) h)) (gone_left at number old.searches)

-- ---- all are dropped

held_others : (seats : List Subject) (x : SessionState) (xs : List SessionState) (ss : List Search) → AreGone x.seat x.search ss → AreHeld seats (x ∷ xs) ss → AreHeld seats xs ss
held_others seats x xs [] gone h = tt
held_others seats x xs (s ∷ ss) gone h = ((h.0.0, go h.0.1), held_others seats x xs ss gone.1 h.1)
  where
    go : AnyHas (x ∷ xs) s.seat s.number → AnyHas xs s.seat s.number
    go (inl has) = absurd (gone.0 has)
    go (inr has) = has

held_none : (seats : List Subject) (ss : List Search) → AreHeld seats [] ss → ss ≡ []
held_none seats [] h = refl
held_none seats (s ∷ ss) h = absurd h.0.1

pub all_dropped : (xs : List SessionState) (old new : WorldData) → AllDrop xs old new → IsAtRest old → AreHeld old.seats xs old.searches → IsAtRest new × (new.searches ≡ [])
all_dropped [] old new e still held = (subst (λ (w : WorldData). IsAtRest w) (sym e) still, ap (λ (w : WorldData). w.searches) e ∙ held_none old.seats old.searches held)
all_dropped (x ∷ xs) old new d still held =
    let goes = drops_goes x.seat x.search old d.0 d.1 in
    let left : AreHeld d.0.seats (x ∷ xs) d.0.searches = subst (λ (seats : List Subject). AreHeld seats (x ∷ xs) d.0.searches) (sym goes.seats) (goes.held old.seats (x ∷ xs) held) in
    all_dropped xs d.0 new d.2 (drops_rest x.seat x.search old d.0 d.1 still) (held_others d.0.seats x xs d.0.searches (drops_gone x.seat x.search (x ∷ xs) old d.0 d.1 still held) left)
