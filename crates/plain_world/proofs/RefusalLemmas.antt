-- What refused events leave of the world.
use Rattle.std.proofs.Common.{◌≡◌, ℕ, ◌+◌, ◌==◌, nat_lt, Bool, true, false, List, [], ◌∷◌, length, Option, None, Some, MatchOption, Result, Ok, Err, if◌then◌else◌, refl, sym, subst, arith}
use Rattle.std.specs.Bool.{MatchBool}
use Rattle.std.proofs.lemmas.Bool.Decides.{nat_tests}
use Rattle.plane.specs.declared.point.Point.{Point}
use Rattle.features.specs.declared.actors.Subject.{Subject}
use Rattle.features.specs.declared.rows.Change.{Change}
use Rattle.features.specs.Changes.{after}
use Rattle.judging.specs.declared.causes.Judgement.{Judgement}
use Rattle.judging.specs.declared.causes.Judgement.TheVariants as judgements
use Rattle.audit_trail.specs.Legal.{subject_of}
use Rattle.audit_trail.specs.Records.{applied}
use Rattle.plain_world.specs.declared.faults.Fault.{Fault}
use Rattle.plain_world.specs.declared.faults.Fault.TheVariants as faults
use Rattle.tree_answers.specs.declared.fault.TreeFault.TheVariants as tree
use Rattle.plain_world.specs.declared.outcomes.Outcome.TheVariants as outcomes
use Rattle.plain_world.specs.declared.open_searches.Search.{Search}
use Rattle.plain_world.specs.declared.advances.Advance.TheVariants as advances
use Rattle.tree_answers.specs.declared.answers.Visit.TheVariants as visits
use Rattle.plain_world.specs.Admitting.{LAST, and_then, given, subject_at, search_with, owned, transaction_owned, may_sit, may_open, may_go_on, may_finish, may_answer, may_begin, may_step, may_stage, may_commit, may_govern, may_roll}
use Rattle.plain_world.specs.Events.{Event, TakeSeat, OpenSearch, VisitNext, Finish, DropSearch, Answer, Begin, Stage, AdvanceWalk, Commit, Abort, Govern, Tend, Roll, Reply, Visited, Advanced, Ended, Failed, If, UnlessMemory, is_want, Happens, Sees, Walks, Visits, Advances, Applies, CommitsAs, Tends, recorded, without_search, without_transaction}
use Rattle.plain_world.specs.Laws.{Leaves}
use Rattle.plain_world.specs.Staging.{TransactionData, transaction_with, next_placement, staged_in}
use Rattle.plain_world.specs.States.{WorldData, most_features}
use Rattle.plain_world.proofs.AdmittedLemmas.{seat_same}
use Rattle.plain_world.proofs.RunLemmas.{and_then_ok, given_ok}

abbrev pub is_overrun : Fault → Bool
is_overrun (faults.Tree tree.Overrun) = true
is_overrun _ = false

fault_same : (a b : Fault) → Failed a ≡ Failed b → a ≡ b
fault_same a b e = cc

err_same : {T : Type 0} (a b : Fault) → ◌≡◌ {A = Result T Fault} (Err a) (Err b) → a ≡ b
err_same a b e = cc

-- Tests whose faults are no overruns.
abbrev pub IsPlain : {T : Type 0} → Result T Fault → Type 0
IsPlain m = (fault : Fault) → m ≡ Err fault → is_overrun fault ≡ false

plain_err : {T : Type 0} (by : Fault) → is_overrun by ≡ false → IsPlain {T = T} (Err by)
plain_err by apart fault e = subst (λ (f : Fault). is_overrun f ≡ false) (err_same by fault e) apart

plain_and_then : {A B : Type 0} (m : Result A Fault) (next : A → Result B Fault) → IsPlain m → ((x : A) → IsPlain (next x)) → IsPlain (and_then m next)
plain_and_then (Ok x) next first later = later x
plain_and_then (Err by) next first later = plain_err by (first by refl)

plain_given : {A : Type 0} (o : Option A) → IsPlain (given o)
plain_given (Some x) fault e = absurd cc
plain_given None fault e = plain_err faults.NoSuch refl fault e

plain_if : {A : Type 0} (b : Bool) (x : A) → IsPlain (if b then Ok x else Err faults.NotYours)
plain_if true x fault e = absurd cc
plain_if false x fault e = plain_err faults.NotYours refl fault e

plain_go_on : (seat number : ℕ) (w : WorldData) → IsPlain (may_go_on seat number w)
plain_go_on seat number w =
    plain_and_then (subject_at seat w) _ (plain_given (subject_of seat w.seats))
    (λ _. plain_and_then (given (search_with number w.searches)) (owned seat) (plain_given (search_with number w.searches)) (λ s. plain_if (s.seat == seat) s))

plain_step : (seat number : ℕ) (w : WorldData) → IsPlain (may_step seat number w)
plain_step seat number w =
    plain_and_then (subject_at seat w) _ (plain_given (subject_of seat w.seats))
    (λ _. plain_and_then (given (transaction_with number w.transactions)) (transaction_owned seat) (plain_given (transaction_with number w.transactions)) (λ t. plain_if (t.seat == seat) t))

-- The number under which a search is found is its own.

number_found : (number : ℕ) (searches : List Search) (s : Search) → search_with number searches ≡ Some s → s.number ≡ number
number_found number [] s e = absurd cc
number_found number (first ∷ rest) s e = go (first.number == number) refl e (number_found number rest s)
  where
    go : (b : Bool) → (first.number == number) ≡ b → (if b then Some first else search_with number rest) ≡ Some s → (search_with number rest ≡ Some s → s.number ≡ number) → s.number ≡ number
    go true is h next = let same : first ≡ s = cc (h) in subst (λ (x : Search). x.number ≡ number) same (grind (arith, nat_tests, is))
    go false is h next = next h

visited_number : (seat number : ℕ) (w : WorldData) (s : Search) → may_go_on seat number w ≡ Ok s → s.number ≡ number
visited_number seat number w s e =
    let a = and_then_ok (subject_at seat w) _ s e in
    let f = and_then_ok (given (search_with number w.searches)) (owned seat) s a.2 in
    let same = (seat_same seat f.0 s f.2).0 in
    subst (λ (x : Search). x.number ≡ number) same (number_found number w.searches f.0 (given_ok (search_with number w.searches) f.0 f.1))

-- an overrun leaves the world without its search or transaction, and any other fault changes
-- nothing
abbrev pub EndsBy : Fault → WorldData → WorldData → WorldData → Type 0
EndsBy fault old new without = MatchBool (is_overrun fault) (new ≡ without) (new ≡ old)

keeps : (b : Bool) (P Q : Type 0) → b ≡ false → Q → MatchBool b P Q
keeps true P Q e q = absurd cc
keeps false P Q e q = q

want_no_overrun : (fault : Fault) → is_want fault ≡ true → is_overrun fault ≡ false
want_no_overrun (faults.Memory refused) e = refl
want_no_overrun _ e = absurd cc

sees_refused : (number : ℕ) (old new : WorldData) (fault : Fault) → Sees number old new (Failed fault) → EndsBy fault old new (without_search number old)
sees_refused number old new (faults.Tree tree.Overrun) d = d
sees_refused number old new _ d = absurd d

walks_refused : (number : ℕ) (shape : List Point) (old new : WorldData) (fault : Fault) → Walks number shape old new (Failed fault) → EndsBy fault old new (without_transaction number old)
walks_refused number shape old new (faults.Tree (tree.Held search)) d = d.1
walks_refused number shape old new (faults.Tree tree.Full) d = d
walks_refused number shape old new (faults.Tree tree.TooHigh) d = d
walks_refused number shape old new (faults.Tree tree.Spent) d = d
walks_refused number shape old new (faults.Tree tree.Overrun) d = d
walks_refused number shape old new _ d = absurd d

unless_ends : (fault : Fault) (old new without : WorldData) (Does : Type 0) → (Does → EndsBy fault old new without) → UnlessMemory old new (Failed fault) Does → EndsBy fault old new without
unless_ends fault old new without Does each h = go (is_want fault) refl h
  where
    go : (b : Bool) → is_want fault ≡ b → MatchBool b (new ≡ old) Does → EndsBy fault old new without
    go true e h = keeps (is_overrun fault) _ _ (want_no_overrun fault e) h
    go false e h = each h

visits_refused : (s : Search) (old new : WorldData) (fault : Fault) → Visits s old new (Failed fault) → EndsBy fault old new (without_search s.number old)
visits_refused s old new fault d = go s.ready d
  where
    go : (b : Bool) → MatchBool b ((new ≡ old) × (Failed fault ≡ Visited visits.Ready)) (MatchBool (is_want fault) (new ≡ old) (Sees s.number old new (Failed fault))) → EndsBy fault old new (without_search s.number old)
    go true d = absurd (cc (d.1))
    go false d = unless_ends fault old new _ _ (λ d. sees_refused s.number old new fault d) d

advances_refused : (number : ℕ) (t : TransactionData) (old new : WorldData) (fault : Fault) → Advances number t old new (Failed fault) → EndsBy fault old new (without_transaction number old)
advances_refused number t old new fault d = go (next_placement t) d
  where
    go : (o : Option (ℕ × List Point)) → MatchOption o ((new ≡ old) × (Failed fault ≡ Advanced advances.AllPlaced)) (λ placement. MatchBool (is_want fault) (new ≡ old) (Walks number placement.1 old new (Failed fault))) → EndsBy fault old new (without_transaction number old)
    go None d = absurd (cc (d.1))
    go (Some placement) d = unless_ends fault old new _ _ (λ d. walks_refused number placement.1 old new fault d) d

if_ends : {T : Type 0} (may : Result T Fault) (fault : Fault) (old new without : WorldData) (Does : T → Type 0) → IsPlain may → ((x : T) → may ≡ Ok x → Does x → EndsBy fault old new without)
    → If may old new (Failed fault) Does → EndsBy fault old new without
if_ends (Err by) fault old new without Does plain each h =
    keeps (is_overrun fault) _ _ (subst (λ (f : Fault). is_overrun f ≡ false) (sym (fault_same fault by h.1)) (plain by refl)) h.0
if_ends (Ok x) fault old new without Does plain each h = each x refl h

leaves_visit : (seat number : ℕ) (old new : WorldData) (fault : Fault) → EndsBy fault old new (without_search number old) → Leaves (VisitNext seat number) old new fault
leaves_visit seat number old new (faults.Tree tree.Overrun) h = h
leaves_visit seat number old new _ h = h

leaves_advance : (seat number : ℕ) (old new : WorldData) (fault : Fault) → EndsBy fault old new (without_transaction number old) → Leaves (AdvanceWalk seat number) old new fault
leaves_advance seat number old new (faults.Tree tree.Overrun) h = h
leaves_advance seat number old new _ h = h

-- Every other refusal changes nothing.

if_same : {T : Type 0} (may : Result T Fault) (reply : Reply) (old new : WorldData) (Does : T → Type 0) → ((x : T) → Does x → new ≡ old) → If may old new reply Does → new ≡ old
if_same (Err by) reply old new Does each h = h.0
if_same (Ok x) reply old new Does each h = each x h

unless_same : (b : Bool) (old new : WorldData) (Does : Type 0) → (Does → new ≡ old) → MatchBool b (new ≡ old) Does → new ≡ old
unless_same true old new Does each h = h
unless_same false old new Does each h = each h

tends_same : (old new : WorldData) (fault : Fault) → Tends old new (Failed fault) → new ≡ old
tends_same old new (faults.Tree tree.Spent) d = d
tends_same old new _ d = absurd d

applies_same : (seat number : ℕ) (subject : Subject) (changes : List Change) (old new : WorldData) (fault : Fault) → Applies seat number subject changes old new (Failed fault) → new ≡ old
applies_same seat number subject changes old new fault d =
    go (old.state.version == LAST) (nat_lt (most_features old) (length (after (old.state.version + 1) subject.office changes old.state.features))) d
  where
    go : (last full : Bool) → MatchBool last ((new ≡ old) × (Failed fault ≡ Failed faults.Spent)) (MatchBool full ((new ≡ old) × (Failed fault ≡ Failed faults.StoreFull))
        ((Failed fault ≡ Ended (outcomes.Applied (old.state.version + 1))) × (new ≡ without_transaction number (recorded seat (applied subject (old.state.version + 1) changes) old)))) → new ≡ old
    go true full d = d.0
    go false true d = d.0
    go false false d = absurd (cc (d.0))

commits_same : (judgement : Judgement) (seat number : ℕ) (subject : Subject) (changes : List Change) (old new : WorldData) (fault : Fault) → CommitsAs judgement seat number subject changes old new (Failed fault) → new ≡ old
commits_same judgements.Accepted seat number subject changes old new fault d = applies_same seat number subject changes old new fault d
commits_same (judgements.Refused refusal question) seat number subject changes old new fault d = absurd (cc (d.0))

pub leaves : (event : Event) (old new : WorldData) (fault : Fault) → Happens event old new (Failed fault) → Leaves event old new fault
leaves (TakeSeat name) old new fault happens =
    if_same (may_sit name old) (Failed fault) old new _ (λ x d. unless_same (is_want fault) old new _ (λ d. absurd (cc (d.1))) d) happens
leaves (OpenSearch seat window) old new fault happens =
    if_same (may_open seat old) (Failed fault) old new _ (λ x d. unless_same (is_want fault) old new _ (λ d. absurd (cc (d.1))) d) happens
leaves (VisitNext seat number) old new fault happens =
    leaves_visit seat number old new fault (if_ends (may_go_on seat number old) fault old new (without_search number old) _ (plain_go_on seat number old)
    (λ s may d. subst (λ (n : ℕ). EndsBy fault old new (without_search n old)) (visited_number seat number old s may) (visits_refused s old new fault d)) happens)
leaves (Finish seat number) old new fault happens =
    if_same (may_finish seat number old) (Failed fault) old new _ (λ x d. unless_same (is_want fault) old new _ (λ d. absurd (cc (d.2))) d) happens
leaves (DropSearch seat number) old new fault happens = if_same (may_go_on seat number old) (Failed fault) old new _ (λ x d. absurd (cc (d.1))) happens
leaves (Answer seat window) old new fault happens =
    if_same (may_answer seat old) (Failed fault) old new _ (λ x d. unless_same (is_want fault) old new _ (λ d. absurd (cc (d.2))) d) happens
leaves (Begin seat) old new fault happens =
    if_same (may_begin seat old) (Failed fault) old new _ (λ x d. unless_same (is_want fault) old new _ (λ d. absurd (cc (d.1))) d) happens
leaves (Stage seat number change) old new fault happens = if_same (may_stage seat number change old) (Failed fault) old new _ (λ x d. absurd (cc (d.1))) happens
leaves (AdvanceWalk seat number) old new fault happens =
    leaves_advance seat number old new fault (if_ends (may_step seat number old) fault old new (without_transaction number old) _ (plain_step seat number old)
    (λ t may d. advances_refused number t old new fault d) happens)
leaves (Commit seat number) old new fault happens =
    if_same (may_commit seat number old) (Failed fault) old new _ (λ subject d. unless_same (is_want fault) old new _
    (λ d. commits_same d.0 seat number subject (staged_in number old.transactions) old new fault d.2) d) happens
leaves (Abort seat number) old new fault happens = if_same (may_step seat number old) (Failed fault) old new _ (λ x d. absurd (cc (d.1))) happens
leaves (Govern seat document) old new fault happens =
    if_same (may_govern seat old) (Failed fault) old new _ (λ x d. unless_same (is_want fault) old new _ (λ d. absurd (cc (d.0))) d) happens
leaves (Tend slot) old new fault happens = tends_same old new fault happens
leaves (Roll seat) old new fault happens =
    if_same (may_roll seat old) (Failed fault) old new _ (λ x d. unless_same (is_want fault) old new _ (λ d. absurd (cc (d.0))) d) happens
