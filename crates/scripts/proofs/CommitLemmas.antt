-- A whole commit, over a world with no other open transaction.
use Rattle.std.proofs.Common.{◌≡◌, ◌≢◌, ◌⊎◌, ℕ, zero, suc, ◌+◌, ◌<◌, ◌≤◌, ◌==◌, ◌||◌, nat_le, nat_lt, not, Bool, true, false, List, [], ◌∷◌, ◌++◌, length, take, length-take, get_or, slice_get, Option, None, Some, MatchOption, Result, Ok, Err, if◌then◌else◌, refl, sym, ap, subst, ◌∙◌, inl, inr, arith}
use Rattle.std.specs.Bool.{MatchBool}
use Rattle.std.proofs.lemmas.Bool.{cases_eq, ne_eqb}
use Rattle.std.proofs.lemmas.Bool.Decides.{nat_tests}
use Rattle.plane.specs.declared.point.Point.{Point}
use Rattle.memory.specs.declared.no_memory.NoMemory.{NoMemory}
use Rattle.features.specs.declared.actors.Subject.{Subject}
use Rattle.features.specs.declared.rows.Change.{Change}
use Rattle.features.specs.Changes.{after, change_id, IsUnnamed}
use Rattle.judging.specs.declared.causes.Judgement.{Judgement}
use Rattle.judging.specs.declared.causes.Judgement.TheVariants as judgements
use Rattle.judging.specs.Judging.{AreDistinct, Judged}
use Rattle.audit_trail.specs.Records.{applied, turned_away}
use Rattle.plain_world.specs.declared.faults.Fault.{Fault}
use Rattle.plain_world.specs.declared.faults.Fault.TheVariants as faults
use Rattle.tree_answers.specs.declared.fault.TreeFault.TheVariants as tree
use Rattle.plain_world.specs.declared.outcomes.Outcome.{Outcome}
use Rattle.plain_world.specs.declared.outcomes.Outcome.TheVariants as outcomes
use Rattle.plain_world.specs.declared.settings.TheConstants.{CHANGE_LIMIT}
use Rattle.plain_world.specs.declared.advances.Advance.TheVariants as advances
use Rattle.tree_answers.specs.declared.answers.Step.TheVariants as steps
use Rattle.plain_world.specs.Admitting.{LAST, and_then, given, transaction_owned, subject_at, own_transaction, may_step, may_add, all_placed, may_record, may_commit, next_transaction}
use Rattle.plain_world.specs.Answers.{denial_of}
use Rattle.plain_world.specs.Events.{Begin, Stage, AdvanceWalk, Commit, Abort, Happens, Reply, Number, Done, Advanced, Ended, Failed, UnlessMemory, NoReadySeeks, Walks, Advances, Applies, CommitsAs, Commits as CommitsEvent, is_memory, is_want, recorded, reply_of, without_transaction}
use Rattle.plain_world.specs.Staging.{TransactionData, placements, with_step, staged, one_placed, ended, names}
use Rattle.plain_world.specs.States.{WorldData, most_features}
use Rattle.scripts.specs.Services.{Brings, CommitsCall, EndsCallAs, HoldsList, NoReadySeeksAny, holder, is_full, is_unplaced, may_conclude}
use Rattle.scripts.specs.States.{IsAtRest, begun}
use Rattle.scripts.specs.UnderWay.{Concludes, ConcludesAll, IsStuck, NoReadySeeksFirst, Stands, closed, under}
use Rattle.scripts.proofs.SearchLemmas.{IsFree, same_number, want_is, does, refuses, done, turned, rests_same}

-- ---- a world at rest

closed_same : (w : WorldData) → w.transactions ≡ [] → w ≡ closed w
closed_same w none = λ i. record w { transactions = none i }

is_rest : (w new : WorldData) → IsFree w.next_search w.searches → new ≡ closed w → IsAtRest new
is_rest w new free e = subst (λ (x : WorldData). IsAtRest x) (sym e) (record { searches = free; transactions = refl })

-- ---- changes that name different features

length_take_lt : {T : Type 0} (i : ℕ) (xs : List T) → i < length xs → length (take i xs) ≡ i
length_take_lt i xs lt = simp length-take (omega (arith, lt))

unnamed_at : (id : ℕ) (changes : List Change) (i : ℕ) (d : Change) → IsUnnamed id changes → i < length changes → change_id (get_or changes i d) ≢ id
unnamed_at id [] i d unnamed lt = absurd (omega (arith, lt))
unnamed_at id (first ∷ changes) zero d unnamed lt = unnamed.0
unnamed_at id (first ∷ changes) (suc i) d unnamed lt = unnamed_at id changes i d unnamed.1 (omega (arith, lt))

-- a change names no feature that one before it names
pub distinct_at : (changes : List Change) (i : ℕ) (d : Change) → AreDistinct changes → i < length changes → names (change_id (get_or changes i d)) (take i changes) ≡ false
distinct_at [] i d distinct lt = absurd (omega (arith, lt))
distinct_at (first ∷ changes) zero d distinct lt = refl
distinct_at (first ∷ changes) (suc i) d distinct lt =
    let other = unnamed_at (change_id first) changes i d distinct.0 (omega (arith, lt)) in
    ap (λ (b : Bool). b || names (change_id (get_or changes i d)) (take i changes)) (ne_eqb (change_id first) (change_id (get_or changes i d)) (λ e. other (sym e)))
    ∙ distinct_at changes i d distinct.1 (omega (arith, lt))

pub may_add_at : (change : Change) (changes : List Change) → length changes < CHANGE_LIMIT → names (change_id change) changes ≡ false → may_add change changes ≡ Ok tt
may_add_at change changes few other =
    let room : nat_le CHANGE_LIMIT (length changes) ≡ false = grind (arith, nat_tests, few) in
    ap (λ (b : Bool). if b then Err faults.TooManyChanges else if names (change_id change) changes then Err faults.NamedTwice else Ok tt) room
    ∙ ap (λ (b : Bool). if b then Err faults.NamedTwice else Ok tt) other

-- a change may be staged after those before it, if all name different features
pub may_stage_at : (changes : List Change) (i : ℕ) (change : Change) → AreDistinct changes → length changes ≤ CHANGE_LIMIT → i < length changes → change ≡ get_or changes i change → may_add change (take i changes) ≡ Ok tt
may_stage_at changes i change distinct few lt is =
    let other = subst (λ (x : Change). names (change_id x) (take i changes) ≡ false) (sym is) (distinct_at changes i change distinct lt) in
    let shorter : length (take i changes) ≡ i = length_take_lt i changes lt in
    may_add_at change (take i changes) (rw shorter (omega (arith, few, lt))) other

-- a place past the end of a list
not_within : {T : Type 0} (xs : List T) (n : ℕ) → slice_get xs n ≡ None → nat_lt n (length xs) ≡ false
not_within [] n none = grind (arith, nat_tests)
not_within (x ∷ xs) zero none = absurd cc
not_within (x ∷ xs) (suc n) none = let rest = not_within xs n none in grind (arith, nat_tests, rest)

-- an element is before a place past the end of the list
before_end : {T : Type 0} (xs : List T) (at n : ℕ) (x : T) → slice_get xs at ≡ Some x → slice_get xs n ≡ None → at < n
before_end [] at n x e none = absurd cc
before_end (first ∷ xs) at zero x e none = absurd cc
before_end (first ∷ xs) zero (suc n) x e none = omega (arith)
before_end (first ∷ xs) (suc at) (suc n) x e none = let lt = before_end xs at n x e none in omega (arith, lt)

-- a list that has an element at a place is not empty
has_some : {T : Type 0} (xs : List T) (at : ℕ) (x : T) → slice_get xs at ≡ Some x → xs ≢ []
has_some [] at x e none = absurd cc
has_some (first ∷ xs) at x e none = absurd cc

brings : (changes : List Change) (at : ℕ) (placement : ℕ × List Point) → slice_get (placements changes) at ≡ Some placement → Brings changes
brings changes at placement e = has_some (placements changes) at placement e

-- ---- searches that look for what a list brings

pub none_yet : (changes : List Change) (w : WorldData) → NoReadySeeksFirst 0 changes w
none_yet changes w at placement lt e = absurd (omega (arith, lt))

-- one more of the shapes is placed
one_further : (changes : List Change) (w : WorldData) (placed : ℕ) (placement : ℕ × List Point) → slice_get (placements changes) placed ≡ Some placement → NoReadySeeks placement.1 w
    → NoReadySeeksFirst placed changes w → NoReadySeeksFirst (placed + 1) changes w
one_further changes w placed placement is none before at other lt e = elim (cases_eq at placed) [
  | inl same ↦
      let one : Some placement ≡ Some other = sym is ∙ (ap (slice_get (placements changes)) (sym same) ∙ e) in
      let here : placement ≡ other = cc (one) in
      subst (λ (p : ℕ × List Point). NoReadySeeks p.1 w) here none
  | inr apart ↦ before at other (omega (arith, lt, apart)) e
]

-- all of them are placed
all_placed_so : (changes : List Change) (w : WorldData) (placed : ℕ) → slice_get (placements changes) placed ≡ None → NoReadySeeksFirst placed changes w → NoReadySeeksAny changes w
all_placed_so changes w placed none before at placement e = before at placement (before_end (placements changes) at placed placement e none) e

-- ---- the open transaction

module _ (number seat : ℕ) (w : WorldData) (subject : Subject) (seated : subject_at seat w ≡ Ok subject) where
  abbrev one : List Change → ℕ → TransactionData
  one changes placed = record { number = number; seat = seat; changes = changes; placed = placed }

  own : (changes : List Change) (placed : ℕ) → own_transaction seat number (under number seat changes placed w) ≡ Ok (one changes placed)
  own changes placed =
      ap (λ (b : Bool). and_then (given (if b then Some (one changes placed) else None)) (transaction_owned seat)) (same_number number)
      ∙ ap (λ (b : Bool). if b then Ok (one changes placed) else Err faults.NotYours) (same_number seat)

  stepped : (changes : List Change) (placed : ℕ) → may_step seat number (under number seat changes placed w) ≡ Ok (one changes placed)
  stepped changes placed = ap (λ (r : Result Subject Fault). and_then r (λ _. own_transaction seat number (under number seat changes placed w))) seated ∙ own changes placed

  gone : (changes : List Change) (placed : ℕ) → ended number (one changes placed ∷ []) ≡ []
  gone changes placed = ap (λ (b : Bool). if not b then one changes placed ∷ [] else []) (same_number number)

  next_step : (step : TransactionData → TransactionData) (t : TransactionData) → t.number ≡ number → with_step step number (t ∷ []) ≡ step t ∷ []
  next_step step t e = ap (λ (n : ℕ). if n == number then step t ∷ [] else t ∷ []) e ∙ ap (λ (b : Bool). if b then step t ∷ [] else t ∷ []) (same_number number)

  -- one more change is staged
  pub stage_one : (changes : List Change) (placed : ℕ) (change : Change) (new : WorldData) (result : Result (Unit {0}) Fault) → may_add change changes ≡ Ok tt
      → Happens (Stage seat number change) (under number seat changes placed w) new (reply_of (λ _. Done) result)
      → (result ≡ Ok tt) × (new ≡ under number seat (changes ++ change ∷ []) placed w)
  stage_one changes placed change new result may h =
      let there = under number seat changes placed w in
      let admitted = ap (λ (r : Result TransactionData Fault). and_then r (λ t. may_add change t.changes)) (stepped changes placed) ∙ may in
      let d = does _ tt there new (reply_of (λ _. Done) result) (λ _. (new ≡ record there { transactions = with_step (staged change) number there.transactions }) × (reply_of (λ _. Done) result ≡ Done)) admitted h in
      (well result d.1, d.0 ∙ ap (λ (ts : List TransactionData). record w { transactions = ts }) (next_step (staged change) (one changes placed) refl))
    where
      well : (r : Result (Unit {0}) Fault) → reply_of (λ _. Done) r ≡ Done → r ≡ Ok tt
      well (Ok tt) e = refl
      well (Err fault) e = absurd cc

  -- what a step of a walk leaves
  abbrev pub Advancing : List Change → ℕ → WorldData → Reply → Type 0
  Advancing changes placed new (Advanced advances.AllPlaced) = (new ≡ under number seat changes placed w) × (slice_get (placements changes) placed ≡ None) × NoReadySeeksAny changes w
  Advancing changes placed new (Advanced (advances.Walked step)) = (further : ℕ) × (new ≡ under number seat changes further w) × NoReadySeeksFirst further changes w × Brings changes
  Advancing changes placed new (Failed fault) = IsStuck changes w fault × Stands seat number changes w new
  Advancing changes placed new _ = ⊥

  walks : (changes : List Change) (placed : ℕ) (placement : ℕ × List Point) (is : slice_get (placements changes) placed ≡ Some placement) (before : NoReadySeeksFirst placed changes w) (new : WorldData) (reply : Reply)
      → UnlessMemory (under number seat changes placed w) new reply (Walks number placement.1 (under number seat changes placed w) new reply) → Advancing changes placed new reply
  walks changes placed placement is before new (Advanced (advances.Walked steps.Moved)) d = (placed, d, before, brings changes placed placement is)
  walks changes placed placement is before new (Advanced (advances.Walked steps.Split)) d = (placed, d, before, brings changes placed placement is)
  walks changes placed placement is before new (Advanced (advances.Walked steps.Installed)) d = (placed, d, before, brings changes placed placement is)
  walks changes placed placement is before new (Advanced (advances.Walked steps.Restarted)) d = (placed, d, before, brings changes placed placement is)
  walks changes placed placement is before new (Advanced (advances.Walked steps.Placed)) d =
      (placed + 1, d.1 ∙ ap (λ (ts : List TransactionData). record w { transactions = ts }) (next_step one_placed (one changes placed) refl), one_further changes w placed placement is d.0 before, brings changes placed placement is)
  walks changes placed placement is before new (Failed (faults.Memory refusal)) d = (tt, inl (placed, d))
  walks changes placed placement is before new (Failed (faults.Tree (tree.Held search))) d = ((placed, placement, is, d.0), inl (placed, d.1))
  walks changes placed placement is before new (Failed (faults.Tree tree.Full)) d = (brings changes placed placement is, inl (placed, d))
  walks changes placed placement is before new (Failed (faults.Tree tree.TooHigh)) d = (brings changes placed placement is, inl (placed, d))
  walks changes placed placement is before new (Failed (faults.Tree tree.Spent)) d = (brings changes placed placement is, inl (placed, d))
  walks changes placed placement is before new (Failed (faults.Tree tree.Overrun)) d =
      (brings changes placed placement is, inr (d ∙ ap (λ (ts : List TransactionData). record w { transactions = ts }) (gone changes placed)))
  walks changes placed placement is before new _ d = absurd d

  pub advancing : (changes : List Change) (placed : ℕ) → NoReadySeeksFirst placed changes w → (new : WorldData) (reply : Reply) → Happens (AdvanceWalk seat number) (under number seat changes placed w) new reply → Advancing changes placed new reply
  advancing changes placed before new reply h =
      go (slice_get (placements changes) placed) refl (does _ (one changes placed) (under number seat changes placed w) new reply (λ t. Advances number t (under number seat changes placed w) new reply) (stepped changes placed) h)
    where
      go : (next : Option (ℕ × List Point)) → slice_get (placements changes) placed ≡ next
          → MatchOption next ((new ≡ under number seat changes placed w) × (reply ≡ Advanced advances.AllPlaced))
          (λ placement. UnlessMemory (under number seat changes placed w) new reply (Walks number placement.1 (under number seat changes placed w) new reply))
          → Advancing changes placed new reply
      go None e d = subst (λ (r : Reply). Advancing changes placed new r) (sym d.1) (d.0, e, all_placed_so changes w placed e before)
      go (Some placement) e d = walks changes placed placement e before new reply d

  -- aborting the transaction, if it is still open, leaves the world without it
  pub aborted : (changes : List Change) (mid new : WorldData) (reply : Reply) → Stands seat number changes w mid → Happens (Abort seat number) mid new reply → new ≡ closed w
  aborted changes mid new reply (inl (placed, e)) h =
      let there = under number seat changes placed w in
      let d = does _ (one changes placed) there new reply (λ _. (new ≡ without_transaction number there) × (reply ≡ Done)) (stepped changes placed) (subst (λ (x : WorldData). Happens (Abort seat number) x new reply) e h) in
      d.0 ∙ ap (λ (ts : List TransactionData). record w { transactions = ts }) (gone changes placed)
  aborted changes mid new reply (inr e) h =
      let none = ap (λ (r : Result Subject Fault). and_then r (λ _. own_transaction seat number (closed w))) seated in
      (refuses _ faults.NoSuch (closed w) new reply (λ _. (new ≡ without_transaction number (closed w)) × (reply ≡ Done)) none (subst (λ (x : WorldData). Happens (Abort seat number) x new reply) e h)).0

  -- ---- the transaction is committed

  abbrev pub version : ℕ
  version = w.state.version + 1

  -- the end of a list that was judged
  abbrev pub EndsSo : List Change → ℕ → Judgement → WorldData → Reply → Type 0
  EndsSo changes placed judgements.Accepted new reply =
      MatchBool (w.state.version == LAST) ((reply ≡ Failed faults.Spent) × (new ≡ under number seat changes placed w))
      (MatchBool (nat_lt (most_features w) (length (after version subject.office changes w.state.features))) ((reply ≡ Failed faults.StoreFull) × (new ≡ under number seat changes placed w))
      ((reply ≡ Ended (outcomes.Applied version)) × (new ≡ closed (recorded seat (applied subject version changes) w))))
  EndsSo changes placed (judgements.Refused refusal question) new reply =
      (reply ≡ Ended (outcomes.Refused refusal (denial_of w.state.decider refusal.cause question)))
      × (new ≡ closed (recorded seat (turned_away subject changes refusal) w))

  abbrev pub Committed : List Change → ℕ → WorldData → Reply → Type 0
  Committed changes placed new reply =
      ((refusal : NoMemory) × (reply ≡ Failed (faults.Memory refusal)) × (new ≡ under number seat changes placed w))
      ⊎ (((is_full w ≡ true) × (reply ≡ Failed faults.TrailFull) × (new ≡ under number seat changes placed w))
      ⊎ ((is_full w ≡ false) × ((judgement : Judgement) × Judged w.state subject changes judgement × EndsSo changes placed judgement new reply)))

  module _ (changes : List Change) (placed : ℕ) (new : WorldData) where
    abbrev there : WorldData
    there = under number seat changes placed w

    left_of : (deed : _) → without_transaction number (recorded seat deed there) ≡ closed (recorded seat deed w)
    left_of deed = ap (λ (ts : List TransactionData). record (recorded seat deed w) { transactions = ts }) (gone changes placed)

    applies : (reply : Reply) → Applies seat number subject changes there new reply → EndsSo changes placed judgements.Accepted new reply
    applies reply d = go (w.state.version == LAST) (nat_lt (most_features w) (length (after version subject.office changes w.state.features))) d
      where
        go : (last over : Bool) → MatchBool last ((new ≡ there) × (reply ≡ Failed faults.Spent)) (MatchBool over ((new ≡ there) × (reply ≡ Failed faults.StoreFull))
            ((reply ≡ Ended (outcomes.Applied version)) × (new ≡ without_transaction number (recorded seat (applied subject version changes) there))))
            → MatchBool last ((reply ≡ Failed faults.Spent) × (new ≡ there)) (MatchBool over ((reply ≡ Failed faults.StoreFull) × (new ≡ there))
            ((reply ≡ Ended (outcomes.Applied version)) × (new ≡ closed (recorded seat (applied subject version changes) w))))
        go true over d = (d.1, d.0)
        go false true d = (d.1, d.0)
        go false false d = (d.0, d.1 ∙ left_of (applied subject version changes))

    ends_so : (reply : Reply) (judgement : Judgement) → CommitsAs judgement seat number subject changes there new reply → EndsSo changes placed judgement new reply
    ends_so reply judgements.Accepted d = applies reply d
    ends_so reply (judgements.Refused refusal question) d = (d.0, d.1 ∙ left_of (turned_away subject changes refusal))

    pub committed : (reply : Reply) → slice_get (placements changes) placed ≡ None → Happens (Commit seat number) there new reply → Committed changes placed new reply
    committed reply none h = go (is_full w) refl h
      where
        all : all_placed (one changes placed) ≡ Ok tt
        all = ap (λ (b : Bool). if b then Err faults.NotPlaced else Ok tt) (not_within (placements changes) placed none)

        admitted : may_commit seat number there ≡ and_then (may_record w) (λ _. Ok subject)
        admitted =
            ap (λ (r : Result Subject Fault). and_then r (λ subject. and_then (own_transaction seat number there) (λ t. and_then (all_placed t) (λ _. and_then (may_record there) (λ _. Ok subject))))) seated
            ∙ ap (λ (r : Result TransactionData Fault). and_then r (λ t. and_then (all_placed t) (λ _. and_then (may_record there) (λ _. Ok subject)))) (own changes placed)
            ∙ ap (λ (r : Result (Unit {0}) Fault). and_then r (λ _. and_then (may_record there) (λ _. Ok subject))) all

        staged_is : (b : Bool) → b ≡ true → (if b then changes else []) ≡ changes
        staged_is true e = refl
        staged_is false e = absurd cc

        judged : is_full w ≡ false → CommitsEvent seat number subject there new reply → Committed changes placed new reply
        judged room d =
            let d = subst (λ (list : List Change). (judgement : Judgement) × Judged w.state subject list judgement × CommitsAs judgement seat number subject list there new reply) (staged_is (number == number) (same_number number)) d in
            inr (inr (room, (d.0, d.1, ends_so reply d.0 d.2)))

        ends : is_full w ≡ false → (b : Bool) → is_memory reply ≡ b → MatchBool b (new ≡ there) (CommitsEvent seat number subject there new reply) → Committed changes placed new reply
        ends room true e d = wants reply e d
          where
            wants : (reply : Reply) → is_memory reply ≡ true → new ≡ there → Committed changes placed new reply
            wants (Failed fault) e d = let is = want_is fault e in inl (is.0, ap Failed is.1, d)
            wants _ e d = absurd cc
        ends room false e d = judged room d

        go : (full : Bool) → is_full w ≡ full → Happens (Commit seat number) there new reply → Committed changes placed new reply
        go true e h =
            let left = refuses _ faults.TrailFull there new reply _ (admitted ∙ ap (λ (b : Bool). and_then (if b then Err faults.TrailFull else Ok tt) (λ _. Ok subject)) e) h in
            inr (inl (e, left.1, left.0))
        go false e h =
            ends e (is_memory reply) refl (does _ subject there new reply (λ s. UnlessMemory there new reply (CommitsEvent seat number s there new reply))
            (admitted ∙ ap (λ (b : Bool). and_then (if b then Err faults.TrailFull else Ok tt) (λ _. Ok subject)) e) h)

-- ---- whole commits

-- a transaction that is not opened
pub begin_refused : (seat : ℕ) (changes : List Change) (old new : WorldData) (fault : Fault) → IsAtRest old → Happens (Begin seat) old new (Failed fault)
    → IsAtRest new × CommitsCall seat changes old new (Failed fault)
begin_refused seat changes old new fault still h =
    let ends = go (subject_at seat old) (old.next_transaction == LAST) refl refl (subst (λ (o : WorldData). Happens (Begin seat) o new (Failed fault)) (closed_same old still.transactions) h) in
    (rests_same old new still (ends.0 ∙ sym (closed_same old still.transactions)), subst (λ (o : WorldData). CommitsCall seat changes o new (Failed fault)) (sym (closed_same old still.transactions)) ends.1)
  where
    Does : Subject → Type 0
    Does subject =
        MatchBool (is_want fault) ((new ≡ closed old) ⊎ (new ≡ begun (closed old)))
        (MatchBool (is_unplaced (Failed fault)) (Brings changes × (new ≡ begun (closed old)))
        (MatchOption (holder (Failed fault))
        (NoReadySeeksAny changes (closed old)
        × MatchBool (is_full (closed old)) ((Failed fault ≡ Failed faults.TrailFull) × (new ≡ begun (closed old)))
        ((judgement : Judgement) × Judged old.state subject changes judgement × EndsCallAs judgement seat subject changes (closed old) new (Failed fault)))
        (λ search. (new ≡ begun (closed old)) × HoldsList search changes (closed old))))

    wants : (subject : Subject) (b : Bool) → is_want fault ≡ b → MatchBool b (new ≡ closed old) ((new ≡ under old.next_transaction seat [] 0 (begun old)) × (Failed fault ≡ Number old.next_transaction)) → (new ≡ closed old) × Does subject
    wants subject true e d = (
      d,
      subst (λ (b : Bool). MatchBool b ((new ≡ closed old) ⊎ (new ≡ begun (closed old)))
          (MatchBool (is_unplaced (Failed fault)) (Brings changes × (new ≡ begun (closed old)))
          (MatchOption (holder (Failed fault))
          (NoReadySeeksAny changes (closed old)
          × MatchBool (is_full (closed old)) ((Failed fault ≡ Failed faults.TrailFull) × (new ≡ begun (closed old)))
          ((judgement : Judgement) × Judged old.state subject changes judgement × EndsCallAs judgement seat subject changes (closed old) new (Failed fault)))
          (λ search. (new ≡ begun (closed old)) × HoldsList search changes (closed old))))) (sym e) (inl d),
    )
    wants subject false e d = (let wrong = d.1 in absurd cc)

    go : (who : Result Subject Fault) (last : Bool) → subject_at seat old ≡ who → (old.next_transaction == LAST) ≡ last → Happens (Begin seat) (closed old) new (Failed fault) → (new ≡ closed old) × CommitsCall seat changes (closed old) new (Failed fault)
    go (Err f) last e l h =
        let left = refuses _ f (closed old) new (Failed fault) _ (ap (λ (r : Result Subject Fault). and_then r (λ _. next_transaction (closed old))) e) h in
        (left.0, turned _ f (closed old) new (Failed fault) Does (ap (λ (r : Result Subject Fault). and_then r (λ subject. if old.next_transaction == LAST then Err faults.Spent else Ok subject)) e) left)
    go (Ok subject) true e l h =
        let left = refuses _ faults.Spent (closed old) new (Failed fault) _ (ap (λ (r : Result Subject Fault). and_then r (λ _. next_transaction (closed old))) e ∙ ap (λ (b : Bool). if b then Err faults.Spent else Ok old.next_transaction) l) h in
        (left.0, turned _ faults.Spent (closed old) new (Failed fault) Does (ap (λ (r : Result Subject Fault). and_then r (λ subject. if old.next_transaction == LAST then Err faults.Spent else Ok subject)) e ∙ ap (λ (b : Bool). if b then Err faults.Spent else Ok subject) l) left)
    go (Ok subject) false e l h =
        let d = does _ old.next_transaction (closed old) new (Failed fault) _ (ap (λ (r : Result Subject Fault). and_then r (λ _. next_transaction (closed old))) e ∙ ap (λ (b : Bool). if b then Err faults.Spent else Ok old.next_transaction) l) h in
        let ends = wants subject (is_want fault) refl d in
        (ends.0, done _ subject (closed old) new (Failed fault) Does (ap (λ (r : Result Subject Fault). and_then r (λ subject. if old.next_transaction == LAST then Err faults.Spent else Ok subject)) e ∙ ap (λ (b : Bool). if b then Err faults.Spent else Ok subject) l) ends.1)

-- a transaction that is opened
pub record Begun (seat : ℕ) (old new : WorldData) (number : ℕ) : Type 0 where
  pub subject : Subject
  pub seated : subject_at seat old ≡ Ok subject
  pub left : (old.next_transaction == LAST) ≡ false
  pub stands : new ≡ under number seat [] 0 (begun old)
  pub number_is : number ≡ old.next_transaction

pub begins : (seat : ℕ) (old new : WorldData) (number : ℕ) → IsAtRest old → Happens (Begin seat) old new (Number number) → Begun seat old new number
begins seat old new number still h = go (subject_at seat old) (old.next_transaction == LAST) refl refl (subst (λ (o : WorldData). Happens (Begin seat) o new (Number number)) (closed_same old still.transactions) h)
  where
    go : (who : Result Subject Fault) (last : Bool) → subject_at seat old ≡ who → (old.next_transaction == LAST) ≡ last → Happens (Begin seat) (closed old) new (Number number) → Begun seat old new number
    go (Err f) last e l h =
        (let left = refuses _ f (closed old) new (Number number) _ (ap (λ (r : Result Subject Fault). and_then r (λ _. next_transaction (closed old))) e) h in let wrong = left.1 in absurd cc)
    go (Ok subject) true e l h =
        (let left = refuses _ faults.Spent (closed old) new (Number number) _ (ap (λ (r : Result Subject Fault). and_then r (λ _. next_transaction (closed old))) e ∙ ap (λ (b : Bool). if b then Err faults.Spent else Ok old.next_transaction) l) h in let wrong = left.1 in absurd cc)
    go (Ok subject) false e l h =
        let d = does _ old.next_transaction (closed old) new (Number number) _ (ap (λ (r : Result Subject Fault). and_then r (λ _. next_transaction (closed old))) e ∙ ap (λ (b : Bool). if b then Err faults.Spent else Ok old.next_transaction) l) h in
        let is : number ≡ old.next_transaction = cc (d.1) in
        record { subject = subject; seated = e; left = l; stands = d.0 ∙ ap (λ (n : ℕ). under n seat [] 0 (begun old)) (sym is); number_is = is }

module _ (seat : ℕ) (changes : List Change) (old mid : WorldData) (number : ℕ) (still : IsAtRest old) (h : Happens (Begin seat) old mid (Number number)) where
  started : Begun seat old mid number
  started = begins seat old mid number still h

  admits : may_conclude seat (closed old) ≡ Ok started.subject
  admits =
      ap (λ (r : Result Subject Fault). and_then r (λ subject. if old.next_transaction == LAST then Err faults.Spent else Ok subject)) started.seated
      ∙ ap (λ (b : Bool). if b then Err faults.Spent else Ok started.subject) started.left

  abbrev Does : WorldData → Reply → Subject → Type 0
  Does new reply subject =
      MatchBool (is_memory reply) ((new ≡ closed old) ⊎ (new ≡ begun (closed old)))
      (MatchBool (is_unplaced reply) (Brings changes × (new ≡ begun (closed old)))
      (MatchOption (holder reply)
      (NoReadySeeksAny changes (closed old)
      × MatchBool (is_full (closed old)) ((reply ≡ Failed faults.TrailFull) × (new ≡ begun (closed old)))
      ((judgement : Judgement) × Judged old.state subject changes judgement × EndsCallAs judgement seat subject changes (closed old) new reply))
      (λ search. (new ≡ begun (closed old)) × HoldsList search changes (closed old))))

  whole : (new : WorldData) (reply : Reply) → Does new reply started.subject → CommitsCall seat changes old new reply
  whole new reply d =
      subst (λ (o : WorldData). CommitsCall seat changes o new reply) (sym (closed_same old still.transactions)) (done _ started.subject (closed old) new reply (Does new reply) admits d)

  -- the trail takes a record
  judged : (new : WorldData) (reply : Reply) → is_full old ≡ false → NoReadySeeksAny changes (closed old)
      → ((judgement : Judgement) × Judged old.state started.subject changes judgement × EndsCallAs judgement seat started.subject changes (closed old) new reply)
      → NoReadySeeksAny changes (closed old) × MatchBool (is_full (closed old)) ((reply ≡ Failed faults.TrailFull) × (new ≡ begun (closed old)))
      ((judgement : Judgement) × Judged old.state started.subject changes judgement × EndsCallAs judgement seat started.subject changes (closed old) new reply)
  judged new reply room none d = (
    none,
    subst (λ (b : Bool). MatchBool b ((reply ≡ Failed faults.TrailFull) × (new ≡ begun (closed old)))
        ((judgement : Judgement) × Judged old.state started.subject changes judgement × EndsCallAs judgement seat started.subject changes (closed old) new reply)) (sym room) d,
  )

  concluded : (stopped : WorldData) (reply : Reply) → Concludes seat number changes mid stopped reply → ConcludesAll seat number changes (begun old) stopped reply
  concluded stopped reply all = all (begun old) started.subject started.seated started.stands

  -- a commit that fails, and is aborted
  pub commit_refused : (stopped new : WorldData) (fault : Fault) (reply : Reply) → Concludes seat number changes mid stopped (Failed fault) → Happens (Abort seat number) stopped new reply → IsAtRest new × CommitsCall seat changes old new (Failed fault)
  commit_refused stopped new fault reply all drops = go (concluded stopped (Failed fault) all)
    where
      leaves : Stands seat number changes (begun old) stopped → new ≡ begun (closed old)
      leaves stands = aborted number seat (begun old) started.subject started.seated changes stopped new reply stands drops

      stuck : (fault : Fault) → IsStuck changes (begun old) fault → new ≡ begun (closed old) → Does new (Failed fault) started.subject
      stuck (faults.Memory refusal) s e = inr e
      stuck (faults.Tree (tree.Held search)) s e = (e, s)
      stuck (faults.Tree tree.Full) s e = (s, e)
      stuck (faults.Tree tree.TooHigh) s e = (s, e)
      stuck (faults.Tree tree.Spent) s e = (s, e)
      stuck (faults.Tree tree.Overrun) s e = (s, e)
      stuck _ s e = absurd s

      AppliesSo : Bool → Bool → Reply → Type 0
      AppliesSo last over said =
          MatchBool last ((said ≡ Failed faults.Spent) × (new ≡ begun (closed old)))
          (MatchBool over ((said ≡ Failed faults.StoreFull) × (new ≡ begun (closed old)))
          ((said ≡ Ended (outcomes.Applied (old.state.version + 1))) × (new ≡ begun (recorded seat (applied started.subject (old.state.version + 1) changes) (closed old)))))

      refused_so : (fault : Fault) (placed : ℕ) (judgement : Judgement) → is_full old ≡ false → NoReadySeeksAny changes (closed old) → Judged old.state started.subject changes judgement
          → EndsSo number seat (begun old) started.subject started.seated changes placed judgement stopped (Failed fault)
          → (stopped ≡ under number seat changes placed (begun old) → new ≡ begun (closed old))
          → IsAtRest new × Does new (Failed fault) started.subject
      refused_so fault placed judgements.Accepted room none accepted d last_of =
          decide (old.state.version == LAST) (nat_lt (most_features old) (length (after (old.state.version + 1) started.subject.office changes old.state.features))) refl refl d
        where
          decide : (last over : Bool) → (old.state.version == LAST) ≡ last → nat_lt (most_features old) (length (after (old.state.version + 1) started.subject.office changes old.state.features)) ≡ over
              → MatchBool last ((Failed fault ≡ Failed faults.Spent) × (stopped ≡ under number seat changes placed (begun old)))
              (MatchBool over ((Failed fault ≡ Failed faults.StoreFull) × (stopped ≡ under number seat changes placed (begun old)))
              ((Failed fault ≡ Ended (outcomes.Applied (old.state.version + 1))) × (stopped ≡ closed (recorded seat (applied started.subject (old.state.version + 1) changes) (begun old)))))
              → IsAtRest new × Does new (Failed fault) started.subject
          decide true over e f d =
              let left = last_of d.1 in (
                is_rest (begun old) new still.searches left,
                subst (λ (r : Reply). Does new r started.subject) (sym d.0)
                    (judged new (Failed faults.Spent) room none (judgements.Accepted, accepted, subst (λ (b : Bool). AppliesSo b (nat_lt (most_features old) (length (after (old.state.version + 1) started.subject.office changes old.state.features))) (Failed faults.Spent)) (sym e) (refl, left))),
              )
          decide false true e f d =
              let left = last_of d.1 in (
                is_rest (begun old) new still.searches left,
                subst (λ (r : Reply). Does new r started.subject) (sym d.0)
                    (judged new (Failed faults.StoreFull) room none (
                      judgements.Accepted,
                      accepted,
                      subst (λ (b : Bool). AppliesSo b (nat_lt (most_features old) (length (after (old.state.version + 1) started.subject.office changes old.state.features))) (Failed faults.StoreFull)) (sym e) (subst (λ (b : Bool). AppliesSo false b (Failed faults.StoreFull)) (sym f) (refl, left)),
                    )),
              )
          decide false false e f d = (let wrong = d.0 in absurd cc)
      refused_so fault placed (judgements.Refused refusal question) room none accepted d last_of = (let wrong = d.0 in absurd cc)

      ended_so : (placed : ℕ) → NoReadySeeksAny changes (closed old) → Committed number seat (begun old) started.subject started.seated changes placed stopped (Failed fault) → IsAtRest new × Does new (Failed fault) started.subject
      ended_so placed none (inl (refusal, e, stands)) =
          let left = leaves (inl (placed, stands)) in
          (is_rest (begun old) new still.searches left, subst (λ (r : Reply). Does new r started.subject) (sym e) (inr left))
      ended_so placed none (inr (inl (full, e, stands))) =
          let left = leaves (inl (placed, stands)) in (
            is_rest (begun old) new still.searches left,
            subst (λ (r : Reply). Does new r started.subject) (sym e) (
              none,
              subst (λ (b : Bool). MatchBool b ((Failed faults.TrailFull ≡ Failed faults.TrailFull) × (new ≡ begun (closed old)))
                  ((judgement : Judgement) × Judged old.state started.subject changes judgement × EndsCallAs judgement seat started.subject changes (closed old) new (Failed faults.TrailFull))) (sym full) (refl, left),
            ),
          )
      ended_so placed none (inr (inr (room, (judgement, is_judged, d)))) = refused_so fault placed judgement room none is_judged d (λ stands. leaves (inl (placed, stands)))

      go : ConcludesAll seat number changes (begun old) stopped (Failed fault) → IsAtRest new × CommitsCall seat changes old new (Failed fault)
      go (inl (f, is_stuck, stands, e)) =
          let left = leaves stands in
          (is_rest (begun old) new still.searches left, whole new (Failed fault) (subst (λ (r : Reply). Does new r started.subject) (sym e) (stuck f is_stuck left)))
      go (inr (placed, all, none, happens)) =
          let ends = ended_so placed none (committed number seat (begun old) started.subject started.seated changes placed stopped (Failed fault) all happens) in
          (ends.0, whole new (Failed fault) ends.1)

  -- a list that is judged
  pub commit_ended : (new : WorldData) (outcome : Outcome) → Concludes seat number changes mid new (Ended outcome) → IsAtRest new × CommitsCall seat changes old new (Ended outcome)
  commit_ended new outcome all = go (concluded new (Ended outcome) all)
    where
      ends : (placed : ℕ) (judgement : Judgement) → EndsSo number seat (begun old) started.subject started.seated changes placed judgement new (Ended outcome)
          → IsAtRest new × EndsCallAs judgement seat started.subject changes (closed old) new (Ended outcome)
      ends placed judgements.Accepted d =
          decide (old.state.version == LAST) (nat_lt (most_features old) (length (after (old.state.version + 1) started.subject.office changes old.state.features))) d
        where
          decide : (last over : Bool)
              → MatchBool last ((Ended outcome ≡ Failed faults.Spent) × (new ≡ under number seat changes placed (begun old)))
              (MatchBool over ((Ended outcome ≡ Failed faults.StoreFull) × (new ≡ under number seat changes placed (begun old)))
              ((Ended outcome ≡ Ended (outcomes.Applied (old.state.version + 1))) × (new ≡ closed (recorded seat (applied started.subject (old.state.version + 1) changes) (begun old)))))
              → IsAtRest new
              × MatchBool last ((Ended outcome ≡ Failed faults.Spent) × (new ≡ begun (closed old)))
              (MatchBool over ((Ended outcome ≡ Failed faults.StoreFull) × (new ≡ begun (closed old)))
              ((Ended outcome ≡ Ended (outcomes.Applied (old.state.version + 1))) × (new ≡ begun (recorded seat (applied started.subject (old.state.version + 1) changes) (closed old)))))
          decide true over d = (let wrong = d.0 in absurd cc)
          decide false true d = (let wrong = d.0 in absurd cc)
          decide false false d = (is_rest (recorded seat (applied started.subject (old.state.version + 1) changes) (begun old)) new still.searches d.1, d)
      ends placed (judgements.Refused refusal question) d = (is_rest (recorded seat (turned_away started.subject changes refusal) (begun old)) new still.searches d.1, d)

      ended_so : (placed : ℕ) → NoReadySeeksAny changes (closed old) → Committed number seat (begun old) started.subject started.seated changes placed new (Ended outcome) → IsAtRest new × Does new (Ended outcome) started.subject
      ended_so placed none (inl (refusal, e, stands)) = absurd cc
      ended_so placed none (inr (inl (full, e, stands))) = absurd cc
      ended_so placed none (inr (inr (room, (judgement, is_judged, d)))) =
          let end = ends placed judgement d in
          (end.0, judged new (Ended outcome) room none (judgement, is_judged, end.1))

      go : ConcludesAll seat number changes (begun old) new (Ended outcome) → IsAtRest new × CommitsCall seat changes old new (Ended outcome)
      go (inl (f, is_stuck, stands, e)) = absurd cc
      go (inr (placed, all, none, happens)) =
          let end = ended_so placed none (committed number seat (begun old) started.subject started.seated changes placed new (Ended outcome) all happens) in
          (end.0, whole new (Ended outcome) end.1)
