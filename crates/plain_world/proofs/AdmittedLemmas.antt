-- What the reply says of an event that was admitted.
use Rattle.std.proofs.Common.{◌≡◌, ℕ, ◌==◌, nat_lt, Bool, true, false, IsTrue, List, [], ◌∷◌, Some, Result, Ok, Err, if◌then◌else◌, refl, sym, ap, subst, ◌∙◌, arith}
use Rattle.std.specs.Bool.{MatchBool}
use Rattle.std.proofs.lemmas.Bool.Decides.{nat_tests}
use Rattle.features.specs.declared.actors.Subject.{Subject}
use Rattle.audit_trail.specs.Legal.{subject_of, IsSeated}
use Rattle.audit_trail.specs.declared.trails.TheConstants.{FIRST_LIMIT}
use Rattle.plain_world.specs.declared.faults.Fault.{Fault}
use Rattle.plain_world.specs.declared.faults.Fault.TheVariants as faults
use Rattle.plain_world.specs.declared.open_searches.Search.{Search}
use Rattle.plain_world.specs.Admitting.{and_then, given, subject_at, stewarded, owned, own_search, has_answered_ready, may_record, may_finish, transaction_owned, own_transaction, all_placed, may_commit, edition_left, may_govern, next_first, refused_if, may_roll}
use Rattle.plain_world.specs.Events.{Reply, Number, Done, Visited, Advanced, Tended, Rows, Ended, TakenOut, Failed, If, UnlessMemory, is_want}
use Rattle.plain_world.specs.Staging.{TransactionData, transaction_with, staged_in}
use Rattle.plain_world.specs.States.{WorldData}
use Rattle.plain_world.specs.Admitting as admitting
use Rattle.plain_world.proofs.RunLemmas.{and_then_ok, given_ok, same_ok}

abbrev pub is_refusal : Reply → Bool
is_refusal (Failed fault) = true
is_refusal _ = false

-- an event whose reply is no refusal was admitted
pub admitted : {T : Type 0} (may : Result T Fault) (old new : WorldData) (reply : Reply) (Does : T → Type 0) → is_refusal reply ≡ false → If may old new reply Does → (x : T) × (may ≡ Ok x) × Does x
admitted (Err fault) old new reply Does apart h = absurd (cc (subst (λ (r : Reply). is_refusal r ≡ false) h.1 apart))
admitted (Ok x) old new reply Does apart h = (x, refl, h)

-- a claim on the reply that holds for a refused event and for an admitted one holds
pub by_if : {T : Type 0} (may : Result T Fault) (old new : WorldData) (reply : Reply) (Does : T → Type 0) (P : Reply → Type 0)
    → ((fault : Fault) → may ≡ Err fault → new ≡ old → P (Failed fault)) → ((x : T) → may ≡ Ok x → Does x → P reply) → If may old new reply Does → P reply
by_if (Err fault) old new reply Does P refused each h = subst P (sym h.1) (refused fault refl h.0)
by_if (Ok x) old new reply Does P refused each h = each x refl h

-- as `by_if`, for an event that may end with X12
pub by_unless : (old new : WorldData) (reply : Reply) (Does : Type 0) (P : Reply → Type 0)
    → ((fault : Fault) → is_want fault ≡ true → new ≡ old → P (Failed fault)) → (Does → P reply) → UnlessMemory old new reply Does → P reply
by_unless old new (Failed fault) Does P refused each h = go (is_want fault) refl h
  where
    go : (b : Bool) → is_want fault ≡ b → MatchBool b (new ≡ old) Does → P (Failed fault)
    go true e h = refused fault e h
    go false e h = each h
by_unless old new (Number n) Does P refused each h = each h
by_unless old new Done Does P refused each h = each h
by_unless old new (Visited v) Does P refused each h = each h
by_unless old new (Advanced a) Does P refused each h = each h
by_unless old new (Tended t) Does P refused each h = each h
by_unless old new (Rows a) Does P refused each h = each h
by_unless old new (Ended o) Does P refused each h = each h
by_unless old new (TakenOut p) Does P refused each h = each h

pub seat_same : (seat : ℕ) (s r : Search) → owned seat s ≡ Ok r → (s ≡ r) × (r.seat ≡ seat)
seat_same seat s r = go (s.seat == seat) refl
  where
    go : (b : Bool) → (s.seat == seat) ≡ b → (if b then Ok s else Err faults.NotYours) ≡ Ok r → (s ≡ r) × (r.seat ≡ seat)
    go true is e = let same = same_ok s r e in (same, subst (λ (x : Search). x.seat ≡ seat) same (grind (arith, nat_tests, is)))
    go false is e = absurd cc

is_ready : (s : Search) (u : Unit {0}) → has_answered_ready s ≡ Ok u → IsTrue s.ready
is_ready s u = go s.ready
  where
    go : (b : Bool) → (if b then Ok tt else Err faults.NotReady) ≡ Ok u → IsTrue b
    go true e = refl
    go false e = absurd cc

-- the subject that finishes has the seat, and the search is open, the seat's own and ready
pub record IsFinisher (seat number : ℕ) (w : WorldData) (subject : Subject) (search : Search) : Type 0 where
  pub seated : IsSeated seat w.seats subject
  pub running : admitting.search_with number w.searches ≡ Some search
  pub own : search.seat ≡ seat
  pub ready : IsTrue search.ready

pub finisher : (seat number : ℕ) (w : WorldData) (who : Subject × Search) → may_finish seat number w ≡ Ok who → IsFinisher seat number w who.0 who.1
finisher seat number w who e =
    let a = and_then_ok (subject_at seat w) _ who e in
    let b = and_then_ok (own_search seat number w) (λ (s : Search). and_then (has_answered_ready s) (λ _. and_then (may_record w) (λ _. Ok (a.0, s)))) who a.2 in
    let c = and_then_ok (has_answered_ready b.0) (λ _. and_then (may_record w) (λ _. Ok (a.0, b.0))) who b.2 in
    let d = and_then_ok (may_record w) (λ _. Ok (a.0, b.0)) who c.2 in
    let f = and_then_ok (given (admitting.search_with number w.searches)) (owned seat) b.0 b.1 in
    let g = seat_same seat f.0 b.0 f.2 in
    subst (λ (p : Subject × Search). IsFinisher seat number w p.0 p.1) (same_ok (a.0, b.0) who d.2)
    (let finisher : IsFinisher seat number w a.0 b.0 = record {
      seated = given_ok (subject_of seat w.seats) a.0 a.1;
      running = given_ok (admitting.search_with number w.searches) f.0 f.1 ∙ ap (λ (s : Search). Some s) g.0;
      own = g.1;
      ready = is_ready b.0 c.0 c.1;
    } in finisher)

transaction_same : (seat : ℕ) (t r : TransactionData) → transaction_owned seat t ≡ Ok r → (t ≡ r) × (r.seat ≡ seat)
transaction_same seat t r = go (t.seat == seat) refl
  where
    go : (b : Bool) → (t.seat == seat) ≡ b → (if b then Ok t else Err faults.NotYours) ≡ Ok r → (t ≡ r) × (r.seat ≡ seat)
    go true is e = let same = same_ok t r e in (same, subst (λ (x : TransactionData). x.seat ≡ seat) same (grind (arith, nat_tests, is)))
    go false is e = absurd cc

-- the changes staged in a transaction that is open
pub staged_of : (number : ℕ) (ts : List TransactionData) (t : TransactionData) → transaction_with number ts ≡ Some t → staged_in number ts ≡ t.changes
staged_of number [] t e = absurd cc
staged_of number (first ∷ ts) t e = go (first.number == number) e (staged_of number ts t)
  where
    go : (b : Bool) → (if b then Some first else transaction_with number ts) ≡ Some t → (transaction_with number ts ≡ Some t → staged_in number ts ≡ t.changes)
        → (if b then first.changes else staged_in number ts) ≡ t.changes
    go true h rest = let same : first ≡ t = cc (h) in ap (λ (x : TransactionData). x.changes) same
    go false h rest = rest h

-- a seat's own transaction is open
pub own_open : (seat number : ℕ) (w : WorldData) (t : TransactionData) → own_transaction seat number w ≡ Ok t → (transaction_with number w.transactions ≡ Some t) × (t.seat ≡ seat)
own_open seat number w t e =
    let f = and_then_ok (given (transaction_with number w.transactions)) (transaction_owned seat) t e in
    let g = transaction_same seat f.0 t f.2 in
    (given_ok (transaction_with number w.transactions) f.0 f.1 ∙ ap (λ (x : TransactionData). Some x) g.0, g.1)

-- the subject that commits has the seat, and the transaction is the seat's own
pub committer : (seat number : ℕ) (w : WorldData) (subject : Subject) → may_commit seat number w ≡ Ok subject
    → IsSeated seat w.seats subject × ((t : TransactionData) × (transaction_with number w.transactions ≡ Some t) × (t.seat ≡ seat))
committer seat number w subject e =
    let a = and_then_ok (subject_at seat w) _ subject e in
    let b = and_then_ok (own_transaction seat number w) (λ (t : TransactionData). and_then (all_placed t) (λ _. and_then (may_record w) (λ _. Ok a.0))) subject a.2 in
    let c = and_then_ok (all_placed b.0) (λ _. and_then (may_record w) (λ _. Ok a.0)) subject b.2 in
    let d = and_then_ok (may_record w) (λ _. Ok a.0) subject c.2 in
    let o = own_open seat number w b.0 b.1 in
    (given_ok (subject_of seat w.seats) a.0 a.1 ∙ ap (λ (p : Subject). Some p) (same_ok a.0 subject d.2), (b.0, o.0, o.1))

steward_true : (s : Subject) (u : Unit {0}) → stewarded s ≡ Ok u → IsTrue s.steward
steward_true s u = go s.steward
  where
    go : (b : Bool) → (if b then Ok tt else Err faults.NotSteward) ≡ Ok u → IsTrue b
    go true e = refl
    go false e = absurd cc

-- the subject that rolls has the seat, and is a steward
pub roller : (seat : ℕ) (w : WorldData) (u : Unit {0}) → may_roll seat w ≡ Ok u → (subject : Subject) × IsSeated seat w.seats subject × IsTrue subject.steward
roller seat w u e =
    let a = and_then_ok (subject_at seat w) (λ subject. and_then (stewarded subject) (λ _. refused_if (nat_lt FIRST_LIMIT (next_first w)) faults.Spent)) u e in
    let b = and_then_ok (stewarded a.0) (λ _. refused_if (nat_lt FIRST_LIMIT (next_first w)) faults.Spent) u a.2 in
    (a.0, given_ok (subject_of seat w.seats) a.0 a.1, steward_true a.0 b.0 b.1)

-- the subject that governs has the seat, and is a steward
pub governor : (seat : ℕ) (w : WorldData) (subject : Subject) → may_govern seat w ≡ Ok subject → IsSeated seat w.seats subject × IsTrue subject.steward
governor seat w subject e =
    let a = and_then_ok (subject_at seat w) _ subject e in
    let b = and_then_ok (stewarded a.0) (λ _. and_then (edition_left w) (λ _. and_then (may_record w) (λ _. Ok a.0))) subject a.2 in
    let c = and_then_ok (edition_left w) (λ _. and_then (may_record w) (λ _. Ok a.0)) subject b.2 in
    let d = and_then_ok (may_record w) (λ _. Ok a.0) subject c.2 in
    let same = same_ok a.0 subject d.2 in
    (given_ok (subject_of seat w.seats) a.0 a.1 ∙ ap (λ (p : Subject). Some p) same, subst (λ (s : Subject). IsTrue s.steward) same (steward_true a.0 b.0 b.1))
