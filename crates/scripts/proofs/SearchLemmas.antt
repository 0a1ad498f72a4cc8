-- A whole search, beside other open searches.
use Rattle.std.proofs.Common.{◌≡◌, ◌⊎◌, ℕ, ◌+◌, ◌<◌, ◌==◌, nat_le, not, Bool, true, false, List, [], ◌∷◌, ◌++◌, length, map, filter, Option, None, Some, Result, Ok, Err, if◌then◌else◌, refl, sym, ap, subst, ◌∙◌, inl, inr, eq-eqb, arith}
use Rattle.std.specs.Bool.{MatchBool}
use Rattle.std.proofs.lemmas.Bool.Decides.{nat_tests}
use Rattle.plane.specs.declared.point.Point.{Point}
use Rattle.memory.specs.declared.no_memory.NoMemory.{NoMemory}
use Rattle.features.specs.declared.actors.Subject.{Subject}
use Rattle.features.specs.declared.rows.Feature.{Feature}
use Rattle.judging.specs.Listing.{Listed}
use Rattle.audit_trail.specs.Records.{RecordData, answered}
use Rattle.judging.specs.States.{PlainState}
use Rattle.plain_world.specs.declared.faults.Fault.{Fault}
use Rattle.plain_world.specs.declared.faults.Fault.TheVariants as faults
use Rattle.tree_answers.specs.declared.fault.TreeFault.TheVariants as tree
use Rattle.plain_world.specs.declared.open_searches.Search.{Search}
use Rattle.plain_world.specs.declared.settings.TheConstants.{SEARCH_LIMIT}
use Rattle.tree_answers.specs.declared.answers.Visit.TheVariants as visits
use Rattle.plain_world.specs.Admitting.{LAST, and_then, given, map_ok, owned, search_with, subject_at, own_search, has_answered_ready, may_record, may_go_on, may_finish, may_open, next_search}
use Rattle.plain_world.specs.Answers.{AnswerData}
use Rattle.plain_world.specs.Events.{Event, OpenSearch, VisitNext, Finish, DropSearch, Happens, If, Reply, Number, Visited, Rows, Failed, UnlessMemory, Sees, Visits, Finishes, is_memory, is_want, recorded, with_ready, without_search}
use Rattle.plain_world.specs.Laws.{AreGiven}
use Rattle.plain_world.specs.States.{WorldData}
use Rattle.scripts.specs.Services.{SearchesCall, ListsRows, is_full, is_overrun_reply, may_search}
use Rattle.scripts.specs.States.{IsAtRest, searched}
use Rattle.scripts.specs.Stepping.{Seeks}
use Rattle.scripts.specs.UnderWay.{searching}

pub same_number : (n : ℕ) → (n == n) ≡ true
same_number n = eq-eqb n n refl

-- a fault that means out of memory carries a refusal
pub want_is : (fault : Fault) → is_want fault ≡ true → (refusal : NoMemory) × (fault ≡ faults.Memory refusal)
want_is (faults.Memory refusal) e = (refusal, refl)
want_is _ e = absurd cc

-- what an admitted event does
pub does : {T : Type 0} (may : Result T Fault) (x : T) (old new : WorldData) (reply : Reply) (Does : T → Type 0) → may ≡ Ok x → If may old new reply Does → Does x
does may x old new reply Does e h = subst (λ (r : Result _ Fault). If r old new reply Does) e h

-- a refused event changes nothing
pub refuses : {T : Type 0} (may : Result T Fault) (fault : Fault) (old new : WorldData) (reply : Reply) (Does : T → Type 0) → may ≡ Err fault → If may old new reply Does → (new ≡ old) × (reply ≡ Failed fault)
refuses may fault old new reply Does e h = subst (λ (r : Result _ Fault). If r old new reply Does) e h

-- an admitted event, from what it does
pub done : {T : Type 0} (may : Result T Fault) (x : T) (old new : WorldData) (reply : Reply) (Does : T → Type 0) → may ≡ Ok x → Does x → If may old new reply Does
done may x old new reply Does e h = subst (λ (r : Result _ Fault). If r old new reply Does) (sym e) h

pub turned : {T : Type 0} (may : Result T Fault) (fault : Fault) (old new : WorldData) (reply : Reply) (Does : T → Type 0) → may ≡ Err fault → (new ≡ old) × (reply ≡ Failed fault) → If may old new reply Does
turned may fault old new reply Does e h = subst (λ (r : Result _ Fault). If r old new reply Does) (sym e) h

-- an event of a world is an event of an equal world
pub from_same : (event : Event) (old other new : WorldData) (reply : Reply) → old ≡ other → Happens event old new reply → Happens event other new reply
from_same event old other new reply e h = subst (λ (x : WorldData). Happens event x new reply) e h

-- ---- a number that no search has

other_number : (n number : ℕ) → n < number → (n == number) ≡ false
other_number n number lt = grind (arith, nat_tests, lt)

abbrev pub IsFree : ℕ → List Search → Type 0
IsFree number ss = AreGiven number (map (λ (s : Search). s.number) ss)

module _ (number : ℕ) (one : Search) (is : one.number ≡ number) where
  last_found : (ss : List Search) → IsFree number ss → search_with number (ss ++ one ∷ []) ≡ Some one
  last_found [] free =
      ap (λ (n : ℕ). if n == number then Some one else None) is ∙ ap (λ (b : Bool). if b then Some one else None) (same_number number)
  last_found (s ∷ ss) free =
      ap (λ (b : Bool). if b then Some s else search_with number (ss ++ one ∷ [])) (other_number s.number number free.0) ∙ last_found ss free.2

  last_ready : (ss : List Search) → IsFree number ss → with_ready number (ss ++ one ∷ []) ≡ ss ++ record one { ready = true } ∷ []
  last_ready [] free =
      ap (λ (n : ℕ). if n == number then record one { ready = true } ∷ [] else one ∷ []) is
      ∙ ap (λ (b : Bool). if b then record one { ready = true } ∷ [] else one ∷ []) (same_number number)
  last_ready (s ∷ ss) free =
      ap (λ (b : Bool). if b then record s { ready = true } ∷ (ss ++ one ∷ []) else s ∷ with_ready number (ss ++ one ∷ [])) (other_number s.number number free.0)
      ∙ ap (λ (rest : List Search). s ∷ rest) (last_ready ss free.2)

  last_gone : (ss : List Search) → IsFree number ss → filter (λ (s : Search). not (s.number == number)) (ss ++ one ∷ []) ≡ ss
  last_gone [] free =
      ap (λ (n : ℕ). if not (n == number) then one ∷ [] else []) is ∙ ap (λ (b : Bool). if not b then one ∷ [] else []) (same_number number)
  last_gone (s ∷ ss) free =
      ap (λ (b : Bool). if not b then s ∷ filter (λ (s : Search). not (s.number == number)) (ss ++ one ∷ []) else filter (λ (s : Search). not (s.number == number)) (ss ++ one ∷ []))
      (other_number s.number number free.0)
      ∙ ap (λ (rest : List Search). s ∷ rest) (last_gone ss free.2)

none_found : (number : ℕ) (ss : List Search) → IsFree number ss → search_with number ss ≡ None
none_found number [] free = refl
none_found number (s ∷ ss) free = ap (λ (b : Bool). if b then Some s else search_with number ss) (other_number s.number number free.0) ∙ none_found number ss free.2

-- ---- the open search

module _ (number seat : ℕ) (window : List Point) (w : WorldData) (subject : Subject) (seated : subject_at seat w ≡ Ok subject) (free : IsFree number w.searches) where
  abbrev one : Bool → Search
  one ready = record { number = number; seat = seat; window = window; ready = ready }

  own : (ready : Bool) → own_search seat number (searching number seat window ready w) ≡ Ok (one ready)
  own ready =
      ap (λ (o : Option Search). and_then (given o) (owned seat)) (last_found number (one ready) refl w.searches free)
      ∙ ap (λ (b : Bool). if b then Ok (one ready) else Err faults.NotYours) (same_number seat)

  goes_on : (ready : Bool) → may_go_on seat number (searching number seat window ready w) ≡ Ok (one ready)
  goes_on ready = ap (λ (r : Result Subject Fault). and_then r (λ _. own_search seat number (searching number seat window ready w))) seated ∙ own ready

  gone : (ready : Bool) → filter (λ (s : Search). not (s.number == number)) (w.searches ++ one ready ∷ []) ≡ w.searches
  gone ready = last_gone number (one ready) refl w.searches free

  -- what a visit leaves
  abbrev Visiting : WorldData → Reply → Type 0
  Visiting mid (Visited visits.Ready) = mid ≡ searching number seat window true w
  Visiting mid (Failed (faults.Memory refusal)) = mid ≡ searching number seat window false w
  Visiting mid (Failed (faults.Tree tree.Overrun)) = mid ≡ w
  Visiting mid (Failed fault) = ⊥
  Visiting mid _ = Unit {0}

  sees : (mid : WorldData) (reply : Reply) → UnlessMemory (searching number seat window false w) mid reply (Sees number (searching number seat window false w) mid reply) → Visiting mid reply
  sees mid (Visited visits.More) d = tt
  sees mid (Visited visits.Ready) d = d ∙ ap (λ (ss : List Search). record w { searches = ss }) (last_ready number (one false) refl w.searches free)
  sees mid (Failed (faults.Memory refusal)) d = d
  sees mid (Failed (faults.Tree tree.Overrun)) d = d ∙ ap (λ (ss : List Search). record w { searches = ss }) (gone false)
  sees mid _ d = absurd d

  visiting : (mid : WorldData) (reply : Reply) → Happens (VisitNext seat number) (searching number seat window false w) mid reply → Visiting mid reply
  visiting mid reply h =
      sees mid reply (does _ (one false) (searching number seat window false w) mid reply (λ s. Visits s (searching number seat window false w) mid reply) (goes_on false) h)

  -- why a search fails
  abbrev pub Fails : Fault → Type 0
  Fails fault = ((refusal : NoMemory) × (fault ≡ faults.Memory refusal)) ⊎ ((fault ≡ faults.Tree tree.Overrun) ⊎ ((is_full w ≡ true) × (fault ≡ faults.TrailFull)))

  -- the search after a visit: open, or gone
  abbrev pub Stays : WorldData → Type 0
  Stays mid = ((ready : Bool) × (mid ≡ searching number seat window ready w)) ⊎ (mid ≡ w)

  abbrev pub Sought : WorldData → Reply → Type 0
  Sought mid (Rows answer) =
      (is_full w ≡ false) × ((rows : List Feature) × Listed w.state subject window rows
      × (Rows answer ≡ Rows (record { subject = subject; window = window; decider = w.state.decider; rows = rows }))
      × (mid ≡ recorded seat (answered subject window (map (λ row. row.id) rows) (map (λ row. row.version) rows)) w))
  Sought mid (Failed fault) = Fails fault × Stays mid
  Sought mid _ = ⊥

  finishes : (mid new : WorldData) (reply : Reply) → mid ≡ searching number seat window true w → Happens (Finish seat number) mid new reply → Sought new reply
  finishes mid new reply e h = go (is_full w) refl (subst (λ (x : WorldData). Happens (Finish seat number) x new reply) e h)
    where
      there : WorldData
      there = searching number seat window true w

      admitted : may_finish seat number there ≡ and_then (may_record w) (λ _. Ok (subject, one true))
      admitted =
          ap (λ (r : Result Subject Fault). and_then r (λ subject. and_then (own_search seat number there) (λ s. and_then (has_answered_ready s) (λ _. and_then (may_record there) (λ _. Ok (subject, s)))))) seated
          ∙ ap (λ (r : Result Search Fault). and_then r (λ s. and_then (has_answered_ready s) (λ _. and_then (may_record there) (λ _. Ok (subject, s))))) (own true)

      ends : is_full w ≡ false → (reply : Reply) → UnlessMemory there new reply (Finishes seat (subject, one true) there new reply) → Sought new reply
      ends room (Failed fault) d = wants (is_want fault) refl d
        where
          wants : (b : Bool) → is_want fault ≡ b → MatchBool b (new ≡ there) (Finishes seat (subject, one true) there new (Failed fault)) → Sought new (Failed fault)
          wants true e d = (inl (want_is fault e), inl (true, d))
          wants false e d = (let wrong = d.2 in absurd cc)
      ends room (Rows answer) d = (room, (d.0, d.1, d.2, d.3 ∙ ap (λ (ss : List Search). record (recorded seat (answered subject window (map (λ row. row.id) d.0) (map (λ row. row.version) d.0)) w) { searches = ss }) (gone true)))
      ends room _ d = (let wrong = d.2 in absurd cc)

      go : (full : Bool) → is_full w ≡ full → Happens (Finish seat number) there new reply → Sought new reply
      go true e h =
          let left = refuses _ faults.TrailFull there new reply _ (admitted ∙ ap (λ (b : Bool). and_then (if b then Err faults.TrailFull else Ok tt) (λ _. Ok (subject, one true))) e) h in
          subst (λ (r : Reply). Sought new r) (sym left.1) (inr (inr (e, refl)), inl (true, left.0))
      go false e h =
          let does_so = does _ (subject, one true) there new reply _ (admitted ∙ ap (λ (b : Bool). and_then (if b then Err faults.TrailFull else Ok tt) (λ _. Ok (subject, one true))) e) h in
          ends e reply does_so

  pub sought : (new : WorldData) (reply : Reply) → Seeks seat number (searching number seat window false w) new reply → Sought new reply
  sought new reply (inl (fault, h, e)) = subst (λ (r : Reply). Sought new r) (sym e) (unseen fault (visiting new (Failed fault) h))
    where
      unseen : (fault : Fault) → Visiting new (Failed fault) → Sought new (Failed fault)
      unseen (faults.Memory refusal) d = (inl (refusal, refl), inl (false, d))
      unseen (faults.Tree tree.Overrun) d = (inr (inl refl), inr d)
      unseen _ d = absurd d
  sought new reply (inr (inl (mid, h, f))) = finishes mid new reply (visiting mid (Visited visits.Ready) h) f
  sought new reply (inr (inr (more, e, r))) = subst (λ (r : Reply). Sought new r) (sym r) (inr (inl refl), inl (false, e))

  -- dropping the search, if it is still open, leaves the world without it
  pub dropped : (mid new : WorldData) (reply : Reply) → Stays mid → Happens (DropSearch seat number) mid new reply → new ≡ w
  dropped mid new reply (inl (ready, e)) h =
      let there = searching number seat window ready w in
      let d = does _ (one ready) there new reply (λ _. (new ≡ without_search number there) × (reply ≡ Reply.Done)) (goes_on ready) (subst (λ (x : WorldData). Happens (DropSearch seat number) x new reply) e h) in
      d.0 ∙ ap (λ (ss : List Search). record w { searches = ss }) (gone ready)
  dropped mid new reply (inr e) h =
      let none =
      ap (λ (r : Result Subject Fault). and_then r (λ _. own_search seat number w)) seated
      ∙ ap (λ (o : Option Search). and_then (given o) (owned seat)) (none_found number w.searches free) in
      (refuses _ faults.NoSuch w new reply (λ _. (new ≡ without_search number w) × (reply ≡ Reply.Done)) none (subst (λ (x : WorldData). Happens (DropSearch seat number) x new reply) e h)).0

-- ---- a world at rest

given_more : (n : ℕ) (ns : List ℕ) → AreGiven n ns → AreGiven (n + 1) ns
given_more n [] given = tt
given_more n (m ∷ ms) given = (omega (arith, given.0), given.1, given_more n ms given.2)

-- a world at rest stays at rest when one more number is used up and the trail has one more record
pub rests_searched : (old new : WorldData) (state : PlainState) (trail : List RecordData) → IsAtRest old → new ≡ searched (record old { state = state; trail = trail }) → IsAtRest new
rests_searched old new state trail still e =
    subst (λ (x : WorldData). IsAtRest x) (sym e) (record { searches = given_more old.next_search (map (λ (s : Search). s.number) old.searches) still.searches; transactions = still.transactions })

pub rests_same : (old new : WorldData) → IsAtRest old → new ≡ old → IsAtRest new
rests_same old new still e = subst (λ (x : WorldData). IsAtRest x) (sym e) still

-- ---- whole searches

-- the number of the next search
room_number : (w : WorldData) (number : ℕ) → next_search w ≡ Ok number → number ≡ w.next_search
room_number w number e = go (nat_le SEARCH_LIMIT (length w.searches)) (w.next_search == LAST) e
  where
    go : (full last : Bool) → (if full then Err (faults.Tree tree.TooMany) else if last then Err (faults.Tree tree.Spent) else Ok w.next_search) ≡ Ok number → number ≡ w.next_search
    go true last h = absurd cc
    go false true h = absurd cc
    go false false h = cc

module _ (seat : ℕ) (window : List Point) (old new : WorldData) where
  -- a world with one more search, of this number
  abbrev opening : ℕ → WorldData
  opening number =
      record old { searches = old.searches ++ record { number = number; seat = seat; window = window; ready = false } ∷ []; next_search = number + 1 }

  may_open_as : (subject : Subject) (room : Result ℕ Fault) → subject_at seat old ≡ Ok subject → next_search old ≡ room → may_open seat old ≡ room
  may_open_as subject room e l = ap (λ (r : Result Subject Fault). and_then r (λ _. next_search old)) e ∙ l

  may_search_as : (subject : Subject) (room : Result ℕ Fault) → subject_at seat old ≡ Ok subject → next_search old ≡ room → may_search seat old ≡ map_ok (λ _. subject) room
  may_search_as subject room e l =
      ap (λ (r : Result Subject Fault). and_then r (λ subject. map_ok (λ _. subject) (next_search old))) e ∙ ap (λ (r : Result ℕ Fault). map_ok (λ _. subject) r) l

  -- a search that is not opened
  pub open_refused : (fault : Fault) → IsAtRest old → Happens (OpenSearch seat window) old new (Failed fault) → IsAtRest new × SearchesCall seat window old new (Failed fault)
  open_refused fault still h = let ends = go (subject_at seat old) (next_search old) refl refl in (rests_same old new still ends.0, ends.1)
    where
      Does : Subject → Type 0
      Does subject =
          MatchBool (is_want fault) ((new ≡ old) ⊎ (new ≡ searched old))
          (MatchBool (is_overrun_reply (Failed fault)) (new ≡ searched old)
          (MatchBool (is_full old) ((Failed fault ≡ Failed faults.TrailFull) × (new ≡ searched old))
          (ListsRows seat subject window old new (Failed fault))))

      wants : (subject : Subject) (number : ℕ) (b : Bool) → is_want fault ≡ b → MatchBool b (new ≡ old) ((new ≡ opening number) × (Failed fault ≡ Number number)) → (new ≡ old) × Does subject
      wants subject number true e d = (
        d,
        subst (λ (b : Bool). MatchBool b ((new ≡ old) ⊎ (new ≡ searched old))
            (MatchBool (is_overrun_reply (Failed fault)) (new ≡ searched old)
            (MatchBool (is_full old) ((Failed fault ≡ Failed faults.TrailFull) × (new ≡ searched old)) (ListsRows seat subject window old new (Failed fault))))) (sym e) (inl d),
      )
      wants subject number false e d = (let wrong = d.1 in absurd cc)

      go : (who : Result Subject Fault) (room : Result ℕ Fault) → subject_at seat old ≡ who → next_search old ≡ room → (new ≡ old) × SearchesCall seat window old new (Failed fault)
      go (Err f) room e l =
          let left = refuses _ f old new (Failed fault) _ (ap (λ (r : Result Subject Fault). and_then r (λ _. next_search old)) e) h in
          (left.0, turned _ f old new (Failed fault) Does (ap (λ (r : Result Subject Fault). and_then r (λ subject. map_ok (λ _. subject) (next_search old))) e) left)
      go (Ok subject) (Err f) e l =
          let left = refuses _ f old new (Failed fault) _ (may_open_as subject (Err f) e l) h in
          (left.0, turned _ f old new (Failed fault) Does (may_search_as subject (Err f) e l) left)
      go (Ok subject) (Ok number) e l =
          let d = does _ number old new (Failed fault) _ (may_open_as subject (Ok number) e l) h in
          let ends = wants subject number (is_want fault) refl d in
          (ends.0, done _ subject old new (Failed fault) Does (may_search_as subject (Ok number) e l) ends.1)

-- a search that is opened
pub record Opened (seat : ℕ) (window : List Point) (old new : WorldData) (number : ℕ) : Type 0 where
  pub subject : Subject
  pub seated : subject_at seat old ≡ Ok subject
  pub room : next_search old ≡ Ok number
  pub is : number ≡ old.next_search
  pub stands : new ≡ searching number seat window false (searched old)

pub opened : (seat : ℕ) (window : List Point) (old new : WorldData) (number : ℕ) → Happens (OpenSearch seat window) old new (Number number) → Opened seat window old new number
opened seat window old new number h = go (subject_at seat old) (next_search old) refl refl
  where
    go : (who : Result Subject Fault) (room : Result ℕ Fault) → subject_at seat old ≡ who → next_search old ≡ room → Opened seat window old new number
    go (Err f) room e l =
        (let left = refuses _ f old new (Number number) _ (ap (λ (r : Result Subject Fault). and_then r (λ _. next_search old)) e) h in let wrong = left.1 in absurd cc)
    go (Ok subject) (Err f) e l = (let left = refuses _ f old new (Number number) _ (may_open_as seat window old new subject (Err f) e l) h in let wrong = left.1 in absurd cc)
    go (Ok subject) (Ok n) e l =
        let d = does _ n old new (Number number) _ (may_open_as seat window old new subject (Ok n) e l) h in
        let same : n ≡ number = cc (d.1) in
        let room : next_search old ≡ Ok number = l ∙ ap (λ (m : ℕ). Ok m) same in
        let is : number ≡ old.next_search = room_number old number room in
        record {
          subject = subject;
          seated = e;
          room = room;
          is = is;
          stands = d.0 ∙ ap (opening seat window old new) same ∙ ap (λ (m : ℕ). record old { searches = old.searches ++ record { number = number; seat = seat; window = window; ready = false } ∷ []; next_search = m + 1 }) is;
        }

module _ (seat : ℕ) (window : List Point) (old mid : WorldData) (number : ℕ) (still : IsAtRest old) (h : Happens (OpenSearch seat window) old mid (Number number)) where
  started : Opened seat window old mid number
  started = opened seat window old mid number h

  admits : may_search seat old ≡ Ok started.subject
  admits = may_search_as seat window old mid started.subject (Ok number) started.seated started.room

  free : IsFree number old.searches
  free = subst (λ (n : ℕ). IsFree n old.searches) (sym started.is) still.searches

  found : (stopped : WorldData) (reply : Reply) → Seeks seat number mid stopped reply → Sought number seat window (searched old) started.subject started.seated free stopped reply
  found stopped reply seeks =
      sought number seat window (searched old) started.subject started.seated free stopped reply (subst (λ (x : WorldData). Seeks seat number x stopped reply) started.stands seeks)

  abbrev Does : WorldData → Reply → Subject → Type 0
  Does new reply subject =
      MatchBool (is_memory reply) ((new ≡ old) ⊎ (new ≡ searched old))
      (MatchBool (is_overrun_reply reply) (new ≡ searched old)
      (MatchBool (is_full old) ((reply ≡ Failed faults.TrailFull) × (new ≡ searched old))
      (ListsRows seat subject window old new reply)))

  whole : (new : WorldData) (reply : Reply) → Does new reply started.subject → SearchesCall seat window old new reply
  whole new reply d = done _ started.subject old new reply (Does new reply) admits d

  -- a search that fails, and is dropped
  pub search_refused : (stopped new : WorldData) (fault : Fault) (reply : Reply) → Seeks seat number mid stopped (Failed fault) → Happens (DropSearch seat number) stopped new reply → IsAtRest new × SearchesCall seat window old new (Failed fault)
  search_refused stopped new fault reply seeks drops =
      let end = found stopped (Failed fault) seeks in
      let left = dropped number seat window (searched old) started.subject started.seated free stopped new reply end.1 drops in
      (rests_searched old new old.state old.trail still left, whole new (Failed fault) (why fault left end.0))
    where
      why : (fault : Fault) → new ≡ searched old → Fails number seat window (searched old) started.subject started.seated free fault → Does new (Failed fault) started.subject
      why fault left (inl (refusal, e)) = subst (λ (f : Fault). Does new (Failed f) started.subject) (sym e) (inr left)
      why fault left (inr (inl e)) = subst (λ (f : Fault). Does new (Failed f) started.subject) (sym e) left
      why fault left (inr (inr (full, e))) =
          subst (λ (f : Fault). Does new (Failed f) started.subject) (sym e)
          (subst (λ (b : Bool). MatchBool b ((Failed faults.TrailFull ≡ Failed faults.TrailFull) × (new ≡ searched old)) (ListsRows seat started.subject window old new (Failed faults.TrailFull))) (sym full) (refl, left))

  -- a search that is answered
  pub search_answered : (new : WorldData) (answer : AnswerData) → Seeks seat number mid new (Rows answer) → IsAtRest new × SearchesCall seat window old new (Rows answer)
  search_answered new answer seeks =
      let end = found new (Rows answer) seeks in
      let rows = end.1 in (
        rests_searched old new _ _ still rows.3,
        whole new (Rows answer)
            (subst (λ (b : Bool). MatchBool b ((Rows answer ≡ Failed faults.TrailFull) × (new ≡ searched old)) (ListsRows seat started.subject window old new (Rows answer))) (sym end.0) rows),
      )

-- ---- visits, one after another

-- a visit that finds more to see leaves the world unchanged
pub more_same : (seat number : ℕ) (old new : WorldData) → Happens (VisitNext seat number) old new (Visited visits.More) → new ≡ old
more_same seat number old new h = go (may_go_on seat number old) h
  where
    ready : (s : Search) (b : Bool) → MatchBool b ((new ≡ old) × (Visited visits.More ≡ Visited visits.Ready)) (new ≡ old) → new ≡ old
    ready s true d = d.0
    ready s false d = d

    go : (may : Result Search Fault) → If may old new (Visited visits.More) (λ s. Visits s old new (Visited visits.More)) → new ≡ old
    go (Err fault) d = d.0
    go (Ok s) d = ready s s.ready d

module _ (seat number : ℕ) (start old : WorldData) (same : old ≡ start) where
  pub seeks_refused : (new : WorldData) (fault : Fault) → Happens (VisitNext seat number) old new (Failed fault) → Seeks seat number start new (Failed fault)
  seeks_refused new fault h = inl (fault, subst (λ (x : WorldData). Happens (VisitNext seat number) x new (Failed fault)) same h, refl)

  pub seeks_ready : (mid new : WorldData) (reply : Reply) → Happens (VisitNext seat number) old mid (Visited visits.Ready) → Happens (Finish seat number) mid new reply → Seeks seat number start new reply
  seeks_ready mid new reply h f = inr (inl (mid, subst (λ (x : WorldData). Happens (VisitNext seat number) x mid (Visited visits.Ready)) same h, f))

  -- another visit that finds more to see, after any number of them
  pub seeks_on : (new : WorldData) → Happens (VisitNext seat number) old new (Visited visits.More) → (new ≡ start) × Happens (VisitNext seat number) start start (Visited visits.More)
  seeks_on new h =
      let stays : new ≡ start = more_same seat number old new h ∙ same in
      (stays, subst (λ (x : WorldData). Happens (VisitNext seat number) start x (Visited visits.More)) stays (subst (λ (x : WorldData). Happens (VisitNext seat number) x new (Visited visits.More)) same h))

  pub seeks_none : Happens (VisitNext seat number) start start (Visited visits.More) → Seeks seat number start old (Failed (faults.Tree tree.Overrun))
  seeks_none more = inr (inr (more, same, refl))
