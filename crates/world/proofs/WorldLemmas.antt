-- Events keep what every world keeps.
use Rattle.std.proofs.Common.{◌≡◌, ℕ, ◌<◌, ◌+◌, ◌==◌, nat_le, Bool, true, false, not, zero, suc, List, [], ◌∷◌, ◌++◌, map, length, if◌then◌else◌, arith, Option, Some, None, Result, Ok, Err, refl, sym, ap, subst, ◌∙◌, IsTrue}
use Rattle.std.specs.List.{Contains, slice_index_or}
use Rattle.std.proofs.lemmas.Bool.Decides.{nat_tests}
use Rattle.std.proofs.lemmas.List.{length-map}
use Rattle.std.proofs.lemmas.List.Elements.{All-nil, All-cons}
use Rattle.plane.specs.declared.point.Point.{Point}
use Rattle.plane.specs.Rows.{Meet}
use Rattle.features.specs.declared.actors.Subject.{Subject}
use Rattle.features.specs.declared.rows.Change.{Change}
use Rattle.features.specs.declared.rows.Feature.{Feature}
use Rattle.policy_documents.specs.Documents.{DocumentData}
use Rattle.decision.specs.Deciders.{DeciderData}
use Rattle.audit_trail.specs.Records.{RecordData, answered}
use Rattle.plain_world.specs.declared.faults.Fault.{Fault}
use Rattle.plain_world.specs.declared.faults.Fault.TheVariants as faults
use Rattle.plain_world.specs.declared.advances.Advance.TheVariants as advances
use Rattle.plain_world.specs.declared.open_searches.Search.{Search}
use Rattle.plain_world.specs.declared.settings.Limits.{Limits}
use Rattle.plain_world.specs.declared.settings.Starts.{Starts}
use Rattle.plain_world.specs.declared.settings.TheConstants.{TRANSACTION_LIMIT}
use Rattle.plain_world.specs.Admitting.{LAST, given, may_begin, may_finish, may_go_on, may_open, may_step, next_transaction, own_search, owned, search_with, subject_at}
use Rattle.plain_world.specs.Answers.{AnswerData}
use Rattle.plain_world.specs.Events.{Event, TakeSeat, OpenSearch, Finish, DropSearch, Answer, AdvanceWalk, Begin, Stage, Commit, Abort, Govern, Roll, Reply, Done, Number, Advanced, Ended, Rows, Failed, Happens, recorded, without_search, without_transaction}
use Rattle.plain_world.specs.Answering.{TakesIn}
use Rattle.plain_world.specs.Finding.{FindsAll, NamesAll}
use Rattle.plain_world.specs.Laws.{IsUnderWay}
use Rattle.plain_world.specs.Staging.{TransactionData, transaction_with, next_placement, with_step, one_placed}
use Rattle.plain_world.specs.declared.outcomes.Outcome.{Outcome}
use Rattle.plain_world.specs.States.{WorldData, opened}
use Rattle.plain_world.proofs.AdmittedLemmas.{admitted, finisher, seat_same}
use Rattle.plain_world.proofs.RunLemmas.{and_then_ok, given_ok}
use Rattle.plain_world.proofs.EventLemmas.{admitted as admits}
use Rattle.plain_world.proofs.OrderLemmas.{opened_ordered, ordered_event}
use Rattle.plain_world.proofs.UnderWayLemmas.{open_number, opened_way, way_event}
use Rattle.search_tree.specs.Advances.{HasPlacedBehindNone}
use Rattle.tree_answers.specs.declared.answers.Step.TheVariants as steps
use Rattle.tree_answers.specs.declared.fault.TreeFault.TheVariants as tree
use Rattle.search_tree.specs.Calls.{IsComplete, IsOpen, IsShut}
use Rattle.search_tree.specs.Trees.{IsFirst, PlainWalk, SeenSearch, search_in, tree_of}
use Rattle.tree_reading.specs.Reading.{HasAll}
use Rattle.world.specs.Index.{HasFeatures, Index, IndexedWorld, IsWorld, IndexServes, frames}
use Rattle.world.specs.Walks.{AreWalks, IsWalkFor, JourneyData, walk_begun, walk_ended, with_walk}
use Rattle.world.proofs.SearchLemmas.{has_number}
use Rattle.world.proofs.ServeLemmas.{seen_of, serves_first, serves_opened, serves_placed, serves_shut}
use Rattle.world.proofs.StepLemmas.{GoesOn, goes_on_for, none_seeks, placed_happens, ended_happens}
use Rattle.world.proofs.WalkLemmas.{as_many_walks, walks_ended, walks_kept, walks_placed}
use Rattle.world.proofs.EventWalkLemmas.{transactions_govern, transactions_roll, transactions_seat, walks_abort, walks_begin, walks_commit, walks_stage}
use Rattle.world.proofs.BesideLemmas.{Beside, beside_ended, serves_beside, beside_seat, beside_begin, beside_stage, beside_commit, beside_abort, beside_govern, beside_roll}

abbrev pub indexed : WorldData → Index → List JourneyData → IndexedWorld
indexed w t js = record { plain = w; index = t; walks = js }

-- an event, after which the index serves the new world and the walks are those of its transactions
pub world_by : (event : Event) (w v : WorldData) (t u : Index) (js ks : List JourneyData) (reply : Reply) → Happens event w v reply → IsWorld (indexed w t js) → IndexServes v u → AreWalks v.transactions ks → IsWorld (indexed v u ks)
world_by event w v t u js ks reply happens h serves walks = record {
  ordered = ordered_event event w v reply happens h.ordered;
  under_way = way_event event w v reply happens h.under_way;
  serves = serves;
  walks = walks;
}

beside : (event : Event) (w v : WorldData) (t : Index) (js ks : List JourneyData) (reply : Reply) → Happens event w v reply → IsWorld (indexed w t js) → Beside w v → AreWalks v.transactions ks → IsWorld (indexed v t ks)
beside event w v t js ks reply happens h b walks = world_by event w v t t js ks reply happens h (serves_beside w v t b h.serves) walks

-- if the transactions are unchanged, the walks are still theirs
same_transactions : (w v : WorldData) (js : List JourneyData) → v.transactions ≡ w.transactions → AreWalks w.transactions js → AreWalks v.transactions js
same_transactions w v js same h = subst (λ (ts : List TransactionData). AreWalks ts js) (sym same) h

pub world_seat : (name : List ℕ) (w v : WorldData) (t : Index) (js : List JourneyData) (reply : Reply) → Happens (TakeSeat name) w v reply → IsWorld (indexed w t js) → IsWorld (indexed v t js)
world_seat name w v t js reply happens h = beside (TakeSeat name) w v t js js reply happens h (beside_seat name w v reply happens) (same_transactions w v js (transactions_seat name w v reply happens) h.walks)

pub world_stage : (seat number : ℕ) (change : Change) (w v : WorldData) (t : Index) (js : List JourneyData) (reply : Reply) → Happens (Stage seat number change) w v reply → IsWorld (indexed w t js) → IsWorld (indexed v t js)
world_stage seat number change w v t js reply happens h = beside (Stage seat number change) w v t js js reply happens h (beside_stage seat number change w v reply h.under_way happens) (walks_stage seat number change w v js reply happens h.walks)

pub world_govern : (seat : ℕ) (document : DocumentData) (w v : WorldData) (t : Index) (js : List JourneyData) (reply : Reply) → Happens (Govern seat document) w v reply → IsWorld (indexed w t js) → IsWorld (indexed v t js)
world_govern seat document w v t js reply happens h = beside (Govern seat document) w v t js js reply happens h (beside_govern seat document w v reply happens) (same_transactions w v js (transactions_govern seat document w v reply happens) h.walks)

pub world_roll : (seat : ℕ) (w v : WorldData) (t : Index) (js : List JourneyData) (reply : Reply) → Happens (Roll seat) w v reply → IsWorld (indexed w t js) → IsWorld (indexed v t js)
world_roll seat w v t js reply happens h = beside (Roll seat) w v t js js reply happens h (beside_roll seat w v reply happens) (same_transactions w v js (transactions_roll seat w v reply happens) h.walks)

-- ---- transactions begin and end

pub world_begun : (seat number : ℕ) (w v : WorldData) (t : Index) (js : List JourneyData) → Happens (Begin seat) w v (Number number) → IsWorld (indexed w t js) → IsWorld (indexed v t (walk_begun number js))
world_begun seat number w v t js happens h = beside (Begin seat) w v t js (walk_begun number js) (Number number) happens h (beside_begin seat w v (Number number) happens) (walks_begin seat number w v js happens h.walks)

-- there is room for one more walk
pub few_walks : (seat number : ℕ) (w v : WorldData) (t : Index) (js : List JourneyData) → Happens (Begin seat) w v (Number number) → IsWorld (indexed w t js) → length js < TRANSACTION_LIMIT
few_walks seat number w v t js happens h =
    let d = admitted (may_begin seat w) w v (Number number) _ refl happens in
    let a = and_then_ok (subject_at seat w) (λ _. next_transaction w) d.0 d.1 in
    let many = as_many_walks w.transactions js h.walks in
    let few = room d.0 w.next_transaction (length w.transactions) (nat_le TRANSACTION_LIMIT (length w.transactions)) (w.next_transaction == LAST) refl a.2 in
    omega (arith, few, many)
  where
    room : (x n l : ℕ) (full last : Bool) → nat_le TRANSACTION_LIMIT l ≡ full → ◌≡◌ {A = Result ℕ Fault} (if full then Err faults.TooMany else if last then Err faults.Spent else Ok n) (Ok x) → l < TRANSACTION_LIMIT
    room x n l true last is e = absurd cc
    room x n l false last is e = grind (arith, nat_tests, is)

pub world_aborted : (seat number : ℕ) (w v : WorldData) (t : Index) (js : List JourneyData) → Happens (Abort seat number) w v Done → IsWorld (indexed w t js) → IsWorld (indexed v t (walk_ended number js))
world_aborted seat number w v t js happens h = beside (Abort seat number) w v t js (walk_ended number js) Done happens h (beside_abort seat number w v Done happens) (walks_abort seat number w v js happens h.walks)

pub world_committed : (seat number : ℕ) (w v : WorldData) (t : Index) (js : List JourneyData) (outcome : Outcome) → Happens (Commit seat number) w v (Ended outcome) → IsWorld (indexed w t js) → IsWorld (indexed v t (walk_ended number js))
world_committed seat number w v t js outcome happens h = beside (Commit seat number) w v t js (walk_ended number js) (Ended outcome) happens h (beside_commit seat number w v (Ended outcome) happens) (walks_commit seat number w v js outcome happens h.walks)

-- ---- searches

-- a search that may go on is the one of its number
pub goes_on_with : (seat number : ℕ) (w : WorldData) (s : Search) → may_go_on seat number w ≡ Ok s → search_with number w.searches ≡ Some s
goes_on_with seat number w s e =
    let a = and_then_ok (subject_at seat w) (λ _. own_search seat number w) s e in
    let b = and_then_ok (given (search_with number w.searches)) (owned seat) s a.2 in
    let same = seat_same seat b.0 s b.2 in
    given_ok (search_with number w.searches) b.0 b.1 ∙ ap (λ (x : Search). Some x) same.0

pub world_dropped : (seat number : ℕ) (w v : WorldData) (t u : Index) (js : List JourneyData) → Happens (DropSearch seat number) w v Done → IsShut frames t u number → IsWorld (indexed w t js) → IsWorld (indexed v u js)
world_dropped seat number w v t u js happens shut h =
    let d = admitted (may_go_on seat number w) w v Done _ refl happens in
    world_by (DropSearch seat number) w v t u js js Done happens h
    (subst (λ (x : WorldData). IndexServes x u) (sym d.2.0) (serves_shut w t u number d.0 h.serves h.under_way (goes_on_with seat number w d.0 d.1) shut))
    (subst (λ (x : WorldData). AreWalks x.transactions js) (sym d.2.0) h.walks)

pub world_finished : (seat number : ℕ) (w v : WorldData) (t u : Index) (js : List JourneyData) (answer : AnswerData) → Happens (Finish seat number) w v (Rows answer) → IsShut frames t u number → IsWorld (indexed w t js) → IsWorld (indexed v u js)
world_finished seat number w v t u js answer happens shut h =
    let d = admitted (may_finish seat number w) w v (Rows answer) _ refl happens in
    let who = finisher seat number w d.0 d.1 in
    let s : Search = d.0.1 in
    let rows = d.2.0 in
    let w1 : WorldData = recorded seat (answered d.0.0 s.window (map (λ row. row.id) rows) (map (λ row. row.version) rows)) w in
    let serves1 : IndexServes w1 t = serves_beside w w1 t (record { searches = refl; next = refl; limits = refl; features = λ all f p. f; placements = λ all p. p }) h.serves in
    let way1 : IsUnderWay w1 = record { searches = h.under_way.searches; transactions = h.under_way.transactions; within = h.under_way.within } in
    let number_is : s.number ≡ number = has_number number w.searches s who.running in
    world_by (Finish seat number) w v t u js js (Rows answer) happens h
    (subst (λ (x : WorldData). IndexServes x u) (sym (d.2.3 ∙ ap (λ (n : ℕ). without_search n w1) number_is)) (serves_shut w1 t u number s serves1 way1 who.running shut))
    (subst (λ (x : WorldData). AreWalks x.transactions js) (sym d.2.3) h.walks)

-- the image of an element is in the mapped list
contains_map : {A B : Type 0} (f : A → B) (xs : List A) (x : A) → Contains xs x → Contains (map f xs) (f x)
contains_map {A = A} f xs x has = (has.0, subst (λ (n : ℕ). has.0 < n) (sym (length-map xs f)) has.1, there xs has.0 ∙ ap f has.2)
  where
    there : (ys : List A) (k : ℕ) → slice_index_or (map f ys) k (f x) ≡ f (slice_index_or ys k x)
    there [] k = refl
    there (y ∷ ys) zero = refl
    there (y ∷ ys) (suc k) = there ys k

-- a search that has answered Ready has found all that `finish` looks up
pub finds_all : (w : WorldData) (t : Index) (number : ℕ) (s : Search) (found : List (ℕ × List Point)) → IndexServes w t → search_with number w.searches ≡ Some s → IsTrue s.ready → IsComplete frames t number found → FindsAll w.state.features s.window found
finds_all w t number s found h is ready complete =
    let seen = seen_of w t number s h is in
    go w.state.features h.features seen
  where
    Seen-it : Type 0
    Seen-it = (seen : SeenSearch (List Point) (List Point)) × (search_in t number ≡ Some seen) × (seen.query ≡ s.window) × (seen.ready ≡ s.ready)

    Named : Feature → Type 0
    Named feature = Meet feature.shape s.window → Contains (map (λ (pair : ℕ × List Point). pair.0) found) feature.id

    go : (features : List Feature) → HasFeatures h.contents features → Seen-it → FindsAll features s.window found
    go [] has seen = All-nil Named
    go (feature ∷ features) has seen =
        All-cons Named feature features
        (λ meet. contains_map (λ (pair : ℕ × List Point). pair.0) found (feature.id, feature.shape)
        (complete seen.0 seen.1 (seen.3 ∙ ready) h.contents h.are_contents (feature.id, feature.shape) has.0 (subst (λ (query : List Point). Meet feature.shape query) (sym seen.2) meet)))
        (go features has.1 seen)

-- the ids that the index finds name each feature that meets the window
pub names_all : (w : WorldData) (t : Index) (window : List Point) (ids : List ℕ) → IndexServes w t → HasAll frames window (tree_of frames t) ids → NamesAll w.state.features window ids
names_all w t window ids h all = go w.state.features h.features
  where
    Named : Feature → Type 0
    Named feature = Meet feature.shape window → Contains ids feature.id

    go : (features : List Feature) → HasFeatures h.contents features → NamesAll features window ids
    go [] has = All-nil Named
    go (feature ∷ features) has =
        All-cons Named feature features
        (λ meet. all h.contents h.are_contents (feature.id, feature.shape) has.0 meet) (go features has.1)

-- an answer is taken in: the trail has one more record
pub world_taken : (r : RecordData) (w v : WorldData) (t : Index) (js : List JourneyData) → TakesIn r w v → IsWorld (indexed w t js) → IsWorld (indexed v t js)
world_taken r w v t js takes h =
    world_by (Answer r.seat takes.answer.window) w v t t js js (Rows takes.answer) takes.happens h
    (subst (λ (x : WorldData). IndexServes x t) (sym takes.added) (serves_beside w (record w { trail = w.trail ++ r ∷ [] }) t (record { searches = refl; next = refl; limits = refl; features = λ all f p. f; placements = λ all p. p }) h.serves))
    (subst (λ (x : WorldData). AreWalks x.transactions js) (sym takes.added) h.walks)

-- a search that is entered under the next number
pub entered : (seat number : ℕ) (window : List Point) (w v : WorldData) → number ≡ w.next_search
    → v ≡ record w { searches = w.searches ++ record { number = w.next_search; seat = seat; window = window; ready = false } ∷ []; next_search = w.next_search + 1 }
    → v ≡ record w { searches = w.searches ++ record { number = number; seat = seat; window = window; ready = false } ∷ []; next_search = number + 1 }
entered seat number window w v next is =
    is ∙ ap (λ (n : ℕ). record w { searches = w.searches ++ record { number = n; seat = seat; window = window; ready = false } ∷ []; next_search = n + 1 }) (sym next)

-- a search that is opened
pub world_opened : (seat number search : ℕ) (window : List Point) (w v : WorldData) (t u : Index) (js : List JourneyData) → may_open seat w ≡ Ok number
    → v ≡ record w { searches = w.searches ++ record { number = number; seat = seat; window = window; ready = false } ∷ []; next_search = number + 1 } → IsOpen frames t u window search → IsWorld (indexed w t js) → IsWorld (indexed v u js)
world_opened seat number search window w v t u js may is opens h =
    world_by (OpenSearch seat window) w v t u js js (Number number) (admits (may_open seat w) number w v (Number number) _ may (is, refl)) h
    (subst (λ (x : WorldData). IndexServes x u) (sym is) (serves_opened w t u seat number search window h.serves (open_number seat w number may) opens))
    (subst (λ (x : WorldData). AreWalks x.transactions js) (sym is) h.walks)

-- the index opens it under the number that the world gives it
pub opened_there : (seat number search : ℕ) (window : List Point) (w : WorldData) (t u z : Index) (js : List JourneyData) → may_open seat w ≡ Ok number → IsOpen frames t u window search → IsWorld (indexed w t js) → t ≡ z → IsOpen frames z u window number
opened_there seat number search window w t u z js may opens h same =
    let one : search ≡ number = opens.number ∙ (h.serves.next ∙ sym (open_number seat w number may)) in
    subst (λ (x : Index). IsOpen frames x u window number) same (subst (λ (n : ℕ). IsOpen frames t u window n) one opens)

-- a world whose new index serves it
pub world_served : (w : WorldData) (t u : Index) (js : List JourneyData) → IsWorld (indexed w t js) → IndexServes w u → IsWorld (indexed w u js)
world_served w t u js h serves = record { ordered = h.ordered; under_way = h.under_way; serves = serves; walks = h.walks }

-- a world that has just been opened
pub world_first : (subjects : List Subject) (decider : DeciderData) (starts : Starts) (limits : Limits) (w : WorldData) (t : Index) → w ≡ opened subjects decider starts limits → IsFirst frames starts.generation starts.counter starts.search limits.steps t → IsWorld (indexed w t [])
world_first subjects decider starts limits w t is first = subst (λ (x : WorldData). IsWorld (indexed x t [])) (sym is) (record {
  ordered = opened_ordered subjects decider starts limits;
  under_way = opened_way subjects decider starts limits;
  serves = serves_first subjects decider starts limits t first;
  walks = tt;
})

pub ready_of : (b : Bool) → not b ≡ false → b ≡ true
ready_of true e = refl
ready_of false e = absurd cc

pub unready_of : (b : Bool) → not b ≡ true → b ≡ false
unready_of true e = absurd cc
unready_of false e = refl

-- the same event for equal worlds and replies
pub happens_as : (event : Event) (w x v y : WorldData) (one other : Reply) → w ≡ x → v ≡ y → one ≡ other → Happens event w v one → Happens event x y other
happens_as event w x v y one other from to reply happens =
    subst (λ (r : Reply). Happens event x y r) reply (subst (λ (z : WorldData). Happens event x z one) to (subst (λ (z : WorldData). Happens event z v one) from happens))

pub plain_of : (one other : IndexedWorld) → one ≡ other → one.plain ≡ other.plain
plain_of one other e = ap (λ (x : IndexedWorld). x.plain) e

pub index_of : (one other : IndexedWorld) → one ≡ other → one.index ≡ other.index
index_of one other e = ap (λ (x : IndexedWorld). x.index) e

-- ---- walks

module _ (seat number : ℕ) (w : WorldData) (t u : Index) (js : List JourneyData) (walk : PlainWalk (List Point)) (tr : TransactionData)
    (may : may_step seat number w ≡ Ok tr) (found : transaction_with number w.transactions ≡ Some tr) (going : IsWalkFor tr walk) where
  same_one : (a b : TransactionData) → ◌≡◌ {A = Option TransactionData} (Some a) (Some b) → a ≡ b
  same_one a b e = cc

  -- the walk's pair is placed
  pub world_placed : (v : WorldData) (ks : List JourneyData) → HasPlacedBehindNone frames t u (walk.key, walk.item) → v ≡ record w { transactions = with_step one_placed number w.transactions } → ks ≡ with_walk number None js → IsWorld (indexed w t js) → IsWorld (indexed v u ks)
  world_placed v ks placed is left h =
      world_by (AdvanceWalk seat number) w v t u js ks (Advanced (advances.Walked steps.Placed)) (placed_happens seat number w tr (walk.key, walk.item) may going.next v (none_seeks w t u (walk.key, walk.item) h.serves placed) is) h
      (subst (λ (x : WorldData). IndexServes x u) (sym is) (serves_placed w t u number (walk.key, walk.item) h.serves placed
      (λ x there. subst (λ (y : TransactionData). next_placement y ≡ Some (walk.key, walk.item)) (same_one tr x (sym found ∙ there)) going.next)))
      (rw (is, left) (walks_placed number w.transactions js h.walks))

  -- the walk ends, and its transaction with it
  pub world_ended : (v : WorldData) (ks : List JourneyData) → IndexServes w u → v ≡ without_transaction number w → ks ≡ walk_ended number js → IsWorld (indexed w t js) → IsWorld (indexed v u ks)
  world_ended v ks serves is left h =
      world_by (AdvanceWalk seat number) w v t u js ks (Failed (faults.Tree tree.Overrun)) (ended_happens seat number w tr (walk.key, walk.item) may going.next v is) h
      (subst (λ (x : WorldData). IndexServes x u) (sym is) (serves_beside w (without_transaction number w) u (beside_ended number w w refl refl refl refl refl) serves))
      (rw (is, left) (walks_ended number w.transactions js h.walks))

  -- the walk is stored
  pub world_kept_walk : (after : PlainWalk (List Point)) (ks : List JourneyData) → IndexServes w u → GoesOn w t u walk after → ks ≡ with_walk number (Some after) js → IsWorld (indexed w t js) → IsWorld (indexed w u ks)
  world_kept_walk after ks serves on left h = record {
    ordered = h.ordered;
    under_way = h.under_way;
    serves = serves;
    walks = rw left (walks_kept number after tr w.transactions js found (goes_on_for tr walk after going on.key on.item on.waits) h.walks);
  }
