-- A step of a search or of a walk, by its answer: the index still serves the world.
use Rattle.std.proofs.Common.{◌≡◌, ℕ, Bool, true, false, List, Option, Some, None, MatchOption, Result, Ok, Err, refl, sym, ap, subst, ◌∙◌, inl, inr}
use Rattle.std.specs.Bool.{MatchBool}
use Rattle.std.specs.Option.{option_map}
use Rattle.plane.specs.declared.point.Point.{Point}
use Rattle.plane.specs.Rows.{Meet}
use Rattle.memory.specs.declared.no_memory.NoMemory.{NoMemory}
use Rattle.plain_world.specs.declared.faults.Fault.{Fault}
use Rattle.plain_world.specs.declared.faults.Fault.TheVariants as faults
use Rattle.plain_world.specs.declared.open_searches.Search.{Search}
use Rattle.plain_world.specs.declared.advances.Advance.TheVariants as advances
use Rattle.plain_world.specs.Admitting.{map_ok, may_go_on, may_step, own_transaction, search_with, subject_at}
use Rattle.plain_world.specs.Events.{Happens, HoldsBack, NoReadySeeks, VisitNext, AdvanceWalk, Advances, Visits, UnlessMemory, Walks, Reply, Visited, Advanced, Failed, without_search, without_transaction, with_ready}
use Rattle.plain_world.specs.Laws.{IsUnderWay}
use Rattle.plain_world.specs.Staging.{TransactionData, transaction_with, next_placement, with_step, one_placed}
use Rattle.plain_world.specs.States.{WorldData}
use Rattle.plain_world.proofs.AdmittedLemmas.{own_open}
use Rattle.plain_world.proofs.EventLemmas.{admitted as admits}
use Rattle.plain_world.proofs.RunLemmas.{and_then_ok}
use Rattle.search_tree.specs.Advances.{HasPlacedBehindNone, IsAdvance, IsHeldBy, MayRefuse, is_placed}
use Rattle.search_tree.specs.Advances.IsAdvance.{was_placed, overruns as walk_overruns, goes_on as walk_goes_on, is_refused}
use Rattle.search_tree.specs.Calls.{IsOverrun, IsVisit}
use Rattle.search_tree.specs.Calls.IsVisit.{none_runs, was_ready, overruns, goes_on, wants_memory}
use Rattle.search_tree.specs.Trees.{PlainWalk, SeenSearch, search_in}
use Rattle.tree_answers.specs.declared.answers.Step.{Step}
use Rattle.tree_answers.specs.declared.answers.Step.TheVariants as steps
use Rattle.tree_answers.specs.declared.answers.Visit.{Visit}
use Rattle.tree_answers.specs.declared.answers.Visit.TheVariants as visits
use Rattle.tree_answers.specs.declared.fault.TreeFault.{TreeFault}
use Rattle.tree_answers.specs.declared.fault.TreeFault.TheVariants as tree
use Rattle.world.specs.Index.{Index, IndexServes, frames}
use Rattle.world.specs.Refusing.{RefusesGrowth, is_overrun_fault, world_fault}
use Rattle.world.specs.Walks.{IsWalkFor}
use Rattle.world.proofs.ServeLemmas.{seen_of, told_of, serves_alike, serves_more, serves_ready, serves_shut}

-- ---- visits

module _ (w : WorldData) (t u : Index) (number : ℕ) (s : Search) where
  abbrev pub AfterVisit : Result Visit TreeFault → Type 0
  AfterVisit (Ok visits.More) = (s.ready ≡ false) × IndexServes w u
  AfterVisit (Ok visits.Ready) = (s.ready ≡ true → IndexServes w u) × (s.ready ≡ false → IndexServes (record w { searches = with_ready number w.searches }) u)
  AfterVisit (Err tree.Overrun) = (s.ready ≡ false) × IsOverrun t number × IndexServes (without_search number w) u
  AfterVisit (Err (tree.Memory refusal)) = (s.ready ≡ false) × IndexServes w u
  AfterVisit (Err fault) = ⊥

  module _ (h : IndexServes w t) (way : IsUnderWay w) (is : search_with number w.searches ≡ Some s) where
    -- a search that waits is not ready
    waiting : option_map (λ (x : SeenSearch (List Point) (List Point)). x.ready) (search_in t number) ≡ Some false → s.ready ≡ false
    waiting waits =
        let seen = seen_of w t number s h is in
        let same : Some seen.0.ready ≡ Some false = sym (ap (option_map (λ (x : SeenSearch (List Point) (List Point)). x.ready)) seen.1) ∙ waits in
        let unready : seen.0.ready ≡ false = cc (same) in
        sym seen.3 ∙ unready

    ready_there : option_map (λ (x : SeenSearch (List Point) (List Point)). x.ready) (search_in t number) ≡ Some true → s.ready ≡ true
    ready_there waits =
        let seen = seen_of w t number s h is in
        let same : Some seen.0.ready ≡ Some true = sym (ap (option_map (λ (x : SeenSearch (List Point) (List Point)). x.ready)) seen.1) ∙ waits in
        let ready : seen.0.ready ≡ true = cc (same) in
        sym seen.3 ∙ ready

    apart : {A : Type 0} → s.ready ≡ true → s.ready ≡ false → A
    apart ready unready = let wrong : true ≡ false = sym ready ∙ unready in absurd (cc (wrong))

    pub after_visit : (result : Result Visit TreeFault) → IsVisit frames t u number result → AfterVisit result
    after_visit _ (none_runs gone same) =
        let seen = seen_of w t number s h is in
        let wrong : None ≡ Some seen.0 = sym gone ∙ seen.1 in
        absurd (cc (wrong))
    after_visit _ (was_ready ready same) = (λ r. subst (λ (x : Index). IndexServes w x) (sym same) h, λ u. apart (ready_there ready) u)
    after_visit _ (overruns over shut) = (waiting over.waits, over, serves_shut w t u number s h way is shut)
    after_visit _ (goes_on visits.More under further) = serves_more w t u number s h is further
    after_visit _ (goes_on visits.Ready under further) = let after = serves_ready w t u number s h is further in (λ r. apart r after.0, λ u. after.1)
    after_visit _ (wants_memory refusal under untouched) = let alike = untouched.alike in (waiting under.waits, serves_alike w t u h alike.contents alike.searches alike.running alike.counts.limit)

-- a visit as an event, for a search that may go on
pub visit_happens : (seat number : ℕ) (w new : WorldData) (s : Search) (reply : Reply) → may_go_on seat number w ≡ Ok s → Visits s w new reply → Happens (VisitNext seat number) w new reply
visit_happens seat number w new s reply e d = admits (may_go_on seat number w) s w new reply (λ s. Visits s w new reply) e d

-- ---- walks

module _ (w : WorldData) (t u : Index) (old new : PlainWalk (List Point)) where
  -- the walk keeps its pair, which is not placed
  pub record GoesOn : Type 0 where
    pub key : new.key ≡ old.key
    pub item : new.item ≡ old.item
    pub waits : new.placed ≡ false

  abbrev pub AfterStep : Result Step TreeFault → Type 0
  AfterStep (Ok steps.Placed) = HasPlacedBehindNone frames t u (old.key, old.item)
  AfterStep (Ok step) = IndexServes w u × GoesOn
  AfterStep (Err tree.Overrun) = IndexServes w u
  AfterStep (Err fault) = IndexServes w u × GoesOn × MayRefuse frames t old.item fault

  pub after_step : IndexServes w t → old.placed ≡ false → (result : Result Step TreeFault) → IsAdvance frames t u old new result → AfterStep result
  after_step h waits _ (was_placed placed same stays) = let wrong : true ≡ false = sym placed ∙ waits in absurd (cc (wrong))
  after_step h waits _ (walk_overruns unplaced spent same stays) = subst (λ (x : Index). IndexServes w x) (sym same) h
  after_step h waits _ (walk_goes_on steps.Moved may stepped has) = (serves_alike w t u h has.contents has.searches has.running has.counts.limit, record { key = stepped.key; item = stepped.item; waits = stepped.placed })
  after_step h waits _ (walk_goes_on steps.Restarted may stepped has) = (serves_alike w t u h has.contents has.searches has.running has.counts.limit, record { key = stepped.key; item = stepped.item; waits = stepped.placed })
  after_step h waits _ (walk_goes_on steps.Installed may stepped has) = (serves_alike w t u h has.contents has.tended.searches has.tended.running has.tended.limit, record { key = stepped.key; item = stepped.item; waits = stepped.placed })
  after_step h waits _ (walk_goes_on steps.Split may stepped (inl has)) = (serves_alike w t u h has.contents has.searches has.running has.limit, record { key = stepped.key; item = stepped.item; waits = stepped.placed })
  after_step h waits _ (walk_goes_on steps.Split may stepped (inr has)) = (serves_alike w t u h has.contents has.searches has.running has.limit, record { key = stepped.key; item = stepped.item; waits = stepped.placed })
  after_step h waits _ (walk_goes_on steps.Placed may stepped has) = has
  after_step h waits _ (is_refused fault may why untouched stays) = refused fault why
    where
      same : IndexServes w u
      same = let alike = untouched.alike in serves_alike w t u h alike.contents alike.searches alike.running alike.counts.limit

      on : GoesOn
      on = record { key = ap (λ (x : PlainWalk (List Point)). x.key) stays; item = ap (λ (x : PlainWalk (List Point)). x.item) stays; waits = ap (λ (x : PlainWalk (List Point)). x.placed) stays ∙ waits }

      refused : (fault : TreeFault) → MayRefuse frames t old.item fault → AfterStep (Err fault)
      refused tree.NoSearch why = absurd why
      refused tree.TooMany why = absurd why
      refused (tree.Held search) why = (same, on, why)
      refused tree.Full why = (same, on, why)
      refused tree.TooHigh why = (same, on, why)
      refused tree.Spent why = (same, on, why)
      refused tree.Overrun why = absurd why
      refused (tree.Memory refusal) why = (same, on, why)

-- why a walk is refused, in the world's words
pub refuses_growth : (t : Index) (item : List Point) (fault : TreeFault) → MayRefuse frames t item fault → RefusesGrowth t (world_fault fault)
refuses_growth t item tree.NoSearch why = absurd why
refuses_growth t item tree.TooMany why = absurd why
refuses_growth t item (tree.Held search) why = tt
refuses_growth t item tree.Full why = why
refuses_growth t item tree.TooHigh why = why
refuses_growth t item tree.Spent why = why
refuses_growth t item tree.Overrun why = absurd why
refuses_growth t item (tree.Memory refusal) why = tt

-- a search that holds a walk back is open in the world, and looks for the shape
pub holds_back : (w : WorldData) (t : Index) (item : List Point) (search : ℕ) → IndexServes w t → IsHeldBy frames t item search → HoldsBack search item w
holds_back w t item search h held =
    let here = told_of w t search held.seen h held.runs in
    (here.0, here.1, subst (λ (window : List Point). Meet item window) (sym here.2) held.matches)

-- no search that is ready in the world looks for what the index has placed
pub none_seeks : (w : WorldData) (t u : Index) (pair : ℕ × List Point) → IndexServes w t → HasPlacedBehindNone frames t u pair → NoReadySeeks pair.1 w
none_seeks w t u pair h placed number s is ready meets =
    let seen = seen_of w t number s h is in
    placed.behind number seen.0 seen.1 (seen.3 ∙ ready) (subst (λ (window : List Point). Meet pair.1 window) (sym seen.2) meets)

-- a walk that goes on is one of the same placement
pub goes_on_for : (tr : TransactionData) (old new : PlainWalk (List Point)) → IsWalkFor tr old → new.key ≡ old.key → new.item ≡ old.item → new.placed ≡ false → IsWalkFor tr new
goes_on_for tr old new h key item waits = record {
  next = h.next ∙ (ap (λ (k : ℕ). Some (k, old.item)) (sym key) ∙ ap (λ (x : List Point). Some (new.key, x)) (sym item));
  waits = waits;
}

-- a step of a walk as an event, for a transaction that has something to place
pub advance_happens : (seat number : ℕ) (w new : WorldData) (tr : TransactionData) (pair : ℕ × List Point) (reply : Reply) → may_step seat number w ≡ Ok tr → next_placement tr ≡ Some pair
    → UnlessMemory w new reply (Walks number pair.1 w new reply) → Happens (AdvanceWalk seat number) w new reply
advance_happens seat number w new tr pair reply e next d =
    admits (may_step seat number w) tr w new reply (λ t. Advances number t w new reply) e
    (subst (λ (o : Option (ℕ × List Point)). MatchOption o ((new ≡ w) × (reply ≡ Advanced advances.AllPlaced)) (λ placement. UnlessMemory w new reply (Walks number placement.1 w new reply))) (sym next) d)

-- the transaction whose next placement this is
pub next_of : (seat number : ℕ) (w : WorldData) (pair : ℕ × List Point) → map_ok next_placement (may_step seat number w) ≡ Ok (Some pair)
    → (tr : TransactionData) × (may_step seat number w ≡ Ok tr) × (transaction_with number w.transactions ≡ Some tr) × (next_placement tr ≡ Some pair)
next_of seat number w pair e = go (may_step seat number w) refl e
  where
    go : (r : Result TransactionData Fault) → may_step seat number w ≡ r → map_ok next_placement r ≡ Ok (Some pair) → (tr : TransactionData) × (may_step seat number w ≡ Ok tr) × (transaction_with number w.transactions ≡ Some tr) × (next_placement tr ≡ Some pair)
    go (Err fault) is e = absurd cc
    go (Ok tr) is e =
        let a = and_then_ok (subject_at seat w) (λ _. own_transaction seat number w) tr is in
        (tr, is, (own_open seat number w tr a.2).0, cc (e))

-- what a visit leaves, where its answer is known
pub visited_as : (w : WorldData) (t u : Index) (number : ℕ) (s : Search) (result known : Result Visit TreeFault) → IndexServes w t → IsUnderWay w → search_with number w.searches ≡ Some s → result ≡ known → IsVisit frames t u number result → AfterVisit w t u number s known
visited_as w t u number s result known h way is same visit = subst (λ (r : Result Visit TreeFault). AfterVisit w t u number s r) same (after_visit w t u number s h way is result visit)

-- a search that was not ready becomes ready
pub ready_happens : (seat number : ℕ) (w v : WorldData) (s : Search) → may_go_on seat number w ≡ Ok s → s.number ≡ number → s.ready ≡ false → v ≡ record w { searches = with_ready number w.searches } → Happens (VisitNext seat number) w v (Visited visits.Ready)
ready_happens seat number w v s may named unready is =
    visit_happens seat number w v s (Visited visits.Ready) may
    (subst (λ (b : Bool). MatchBool b ((v ≡ w) × (Visited visits.Ready ≡ Visited visits.Ready)) (v ≡ record w { searches = with_ready s.number w.searches })) (sym unready)
    (is ∙ ap (λ (n : ℕ). record w { searches = with_ready n w.searches }) (sym named)))

-- a search has made all its steps
pub overrun_happens : (seat number : ℕ) (w v : WorldData) (s : Search) → may_go_on seat number w ≡ Ok s → s.number ≡ number → s.ready ≡ false → v ≡ without_search number w → Happens (VisitNext seat number) w v (Failed (faults.Tree tree.Overrun))
overrun_happens seat number w v s may named unready is =
    visit_happens seat number w v s (Failed (faults.Tree tree.Overrun)) may
    (subst (λ (b : Bool). MatchBool b ((v ≡ w) × (Failed (faults.Tree tree.Overrun) ≡ Visited visits.Ready)) (v ≡ without_search s.number w)) (sym unready)
    (is ∙ ap (λ (n : ℕ). without_search n w) (sym named)))

-- ---- steps of walks as events

-- what a step of a walk leaves, where its answer is known
pub stepped_as : (w : WorldData) (t u : Index) (old new : PlainWalk (List Point)) (result known : Result Step TreeFault) → IndexServes w t → old.placed ≡ false → result ≡ known → IsAdvance frames t u old new result → AfterStep w t u old new known
stepped_as w t u old new result known h waits same step = subst (λ (r : Result Step TreeFault). AfterStep w t u old new r) same (after_step w t u old new h waits result step)

-- ---- refusals by their faults

pub visit_ends : (w : WorldData) (t u : Index) (number : ℕ) (s : Search) (fault : TreeFault) → is_overrun_fault fault ≡ true → AfterVisit w t u number s (Err fault) → (fault ≡ tree.Overrun) × (s.ready ≡ false) × IndexServes (without_search number w) u
visit_ends w t u number s tree.Overrun e after = (refl, after.0, after.2)
visit_ends w t u number s fault e after = absurd cc

pub visit_wants : (w : WorldData) (t u : Index) (number : ℕ) (s : Search) (fault : TreeFault) → is_overrun_fault fault ≡ false → AfterVisit w t u number s (Err fault) → (s.ready ≡ false) × IndexServes w u × ((refusal : NoMemory) × (fault ≡ tree.Memory refusal))
visit_wants w t u number s tree.NoSearch e after = absurd after
visit_wants w t u number s tree.TooMany e after = absurd after
visit_wants w t u number s (tree.Held search) e after = absurd after
visit_wants w t u number s tree.Full e after = absurd after
visit_wants w t u number s tree.TooHigh e after = absurd after
visit_wants w t u number s tree.Spent e after = absurd after
visit_wants w t u number s tree.Overrun e after = absurd cc
visit_wants w t u number s (tree.Memory refusal) e after = (after.0, after.1, (refusal, refl))

-- a visit that ran out of memory
pub want_happens : (seat number : ℕ) (w : WorldData) (s : Search) (fault : TreeFault) (refusal : NoMemory) → may_go_on seat number w ≡ Ok s → s.ready ≡ false → fault ≡ tree.Memory refusal → Happens (VisitNext seat number) w w (Failed (world_fault fault))
want_happens seat number w s fault refusal may unready is =
    subst (λ (f : TreeFault). Happens (VisitNext seat number) w w (Failed (world_fault f))) (sym is)
    (visit_happens seat number w w s (Failed (faults.Memory refusal)) may
    (subst (λ (b : Bool). MatchBool b ((w ≡ w) × (Failed (faults.Memory refusal) ≡ Visited visits.Ready)) (w ≡ w)) (sym unready) refl))

-- ---- a walk's answer, by whether its pair is placed, and by what refuses it

module _ (w : WorldData) (t u : Index) (old new : PlainWalk (List Point)) where
  -- the pair is placed exactly where the answer says so
  pub placed_step : (step : Step) → old.placed ≡ false → IsAdvance frames t u old new (Ok step) → new.placed ≡ is_placed step
  placed_step _ waits (was_placed placed same stays) = let wrong : true ≡ false = sym placed ∙ waits in absurd (cc (wrong))
  placed_step _ waits (walk_goes_on step may stepped has) = stepped.placed

  pub is_the_placing : (step : Step) → is_placed step ≡ true → AfterStep w t u old new (Ok step) → (step ≡ steps.Placed) × HasPlacedBehindNone frames t u (old.key, old.item)
  is_the_placing steps.Placed e after = (refl, after)
  is_the_placing step e after = absurd cc

  pub is_no_placing : (step : Step) → is_placed step ≡ false → AfterStep w t u old new (Ok step) → IndexServes w u × GoesOn w t u old new
  is_no_placing steps.Moved e after = after
  is_no_placing steps.Split e after = after
  is_no_placing steps.Installed e after = after
  is_no_placing steps.Restarted e after = after
  is_no_placing steps.Placed e after = absurd cc

  pub is_the_overrun : (fault : TreeFault) → is_overrun_fault fault ≡ true → AfterStep w t u old new (Err fault) → (fault ≡ tree.Overrun) × IndexServes w u
  is_the_overrun tree.Overrun e after = (refl, after)
  is_the_overrun fault e after = absurd cc

  pub is_no_overrun : (fault : TreeFault) → is_overrun_fault fault ≡ false → AfterStep w t u old new (Err fault) → IndexServes w u × GoesOn w t u old new × MayRefuse frames t old.item fault
  is_no_overrun tree.NoSearch e after = after
  is_no_overrun tree.TooMany e after = after
  is_no_overrun (tree.Held search) e after = after
  is_no_overrun tree.Full e after = after
  is_no_overrun tree.TooHigh e after = after
  is_no_overrun tree.Spent e after = after
  is_no_overrun tree.Overrun e after = absurd cc
  is_no_overrun (tree.Memory refusal) e after = after

-- ---- a step of a walk as an event

module _ (seat number : ℕ) (w : WorldData) (tr : TransactionData) (pair : ℕ × List Point) (may : may_step seat number w ≡ Ok tr) (next : next_placement tr ≡ Some pair) where
  pub moved_happens : (step : Step) → is_placed step ≡ false → Happens (AdvanceWalk seat number) w w (Advanced (advances.Walked step))
  moved_happens steps.Moved e = advance_happens seat number w w tr pair _ may next refl
  moved_happens steps.Split e = advance_happens seat number w w tr pair _ may next refl
  moved_happens steps.Installed e = advance_happens seat number w w tr pair _ may next refl
  moved_happens steps.Restarted e = advance_happens seat number w w tr pair _ may next refl
  moved_happens steps.Placed e = absurd cc

  pub placed_happens : (v : WorldData) → NoReadySeeks pair.1 w → v ≡ record w { transactions = with_step one_placed number w.transactions } → Happens (AdvanceWalk seat number) w v (Advanced (advances.Walked steps.Placed))
  placed_happens v none is = advance_happens seat number w v tr pair _ may next (none, is)

  pub ended_happens : (v : WorldData) → v ≡ without_transaction number w → Happens (AdvanceWalk seat number) w v (Failed (faults.Tree tree.Overrun))
  ended_happens v is = advance_happens seat number w v tr pair _ may next is

  pub refused_happens : (t : Index) (fault : TreeFault) → IndexServes w t → MayRefuse frames t pair.1 fault → Happens (AdvanceWalk seat number) w w (Failed (world_fault fault))
  refused_happens t tree.NoSearch h why = absurd why
  refused_happens t tree.TooMany h why = absurd why
  refused_happens t (tree.Held search) h why = advance_happens seat number w w tr pair _ may next (holds_back w t pair.1 search h why, refl)
  refused_happens t tree.Full h why = advance_happens seat number w w tr pair _ may next refl
  refused_happens t tree.TooHigh h why = advance_happens seat number w w tr pair _ may next refl
  refused_happens t tree.Spent h why = advance_happens seat number w w tr pair _ may next refl
  refused_happens t tree.Overrun h why = absurd why
  refused_happens t (tree.Memory refusal) h why = advance_happens seat number w w tr pair _ may next refl
