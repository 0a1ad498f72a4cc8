-- The opening, the end and a visit of a search keep the clauses on searches.
use Rattle.std.proofs.Common.{◌≡◌, ◌≢◌, ◌⊎◌, ℕ, ◌≤◌, Bool, true, false, List, [], ◌∷◌, ◌++◌, Contains, Option, Some, None, IsTrue, if◌then◌else◌, sym, ap, subst, inl, inr, arith}
use Rattle.std.proofs.lemmas.Bool.{cases_eq}
use Rattle.std.proofs.lemmas.List.Elements.{Contains-append_cases, Contains-append_left, Contains-append_right}
use Rattle.node_arena.specs.declared.handle.Handle.{Handle}
use Rattle.tree_theory.specs.Changes.{IsOpened, IsClosed, IsVisited, IsVisitedGone}
use Rattle.tree_theory.specs.Invariant.{Shape, Searches}
use Rattle.tree_theory.specs.KeyClasses.{Class}
use Rattle.tree_theory.specs.Nodes.{PlainNode, Search, Tree, is_followed, onward, pushed, followed, opened, visited}
use Rattle.tree_theory.specs.Walks.{Leads, Done, Owed}
use Rattle.tree_theory.specs.Walks.Leads.{here}
use Rattle.tree_theory.proofs.ListLemmas.{first_in, nothing_in, in_one, map_in, map_from, picked_in}
use Rattle.tree_theory.proofs.Leads.{followed_marked, leads_map, leads_pop}
use Rattle.tree_theory.proofs.Replaced.{Keeps, one_node_keeps, same_nodes_keeps}
use Rattle.tree_theory.proofs.SearchKept.{Lives, Runs, Seen, SeenBy, After, Stays, searches_of, same_after, stays_kept, runs_kept, seen_kept, kept_searches, one_node_seen}

-- the memos of what a visit pushes
pub onward_memo : (right : Option Handle) (memo : ℕ) (h : Handle) (m : ℕ) → Contains (onward right memo) (h, m) → m ≡ memo
onward_memo None memo h m has = absurd (nothing_in (h, m) has)
onward_memo (Some r) memo h m has = sym (ap (λ e. e.1) (in_one (r, memo) (h, m) has))

pub followed_memo : (follows : Bool) (right : Option Handle) (memo : ℕ) (h : Handle) (m : ℕ) → Contains (if follows then onward right memo else []) (h, m) → m ≡ memo
followed_memo true right memo h m has = onward_memo right memo h m has
followed_memo false right memo h m has = absurd (nothing_in (h, m) has)

pub pushed_memo : {Key : Type 0} (counter : ℕ) (entries : List (Key × Handle)) (h : Handle) (m : ℕ) → Contains (pushed counter entries) (h, m) → m ≡ counter
pushed_memo {Key = Key} counter entries h m has =
    let push : Key × Handle → Handle × ℕ = λ entry. (entry.1, counter) in
    let found = map_from push entries (h, m) has in
    sym (ap (λ e. e.1) found.is)

pub pushed_in : {Key : Type 0} (counter : ℕ) (entries : List (Key × Handle)) (key : Key) (c : Handle) → Contains entries (key, c) → Contains (pushed counter entries) (c, counter)
pushed_in {Key = Key} counter entries key c has =
    let push : Key × Handle → Handle × ℕ = λ entry. (entry.1, counter) in
    map_in push entries (key, c) has

pub followed_in : {Key Item : Type 0} (node : PlainNode Key Item) (memo : ℕ) (r : Handle) → IsTrue (is_followed node.place node.seq memo) → node.right ≡ Some r → Contains (followed node memo) (r, memo)
followed_in node memo r follows right = rw (follows, right) (first_in (r, memo) [])

module _ {Key Query Item : Type 0} {C : Class Key Query Item} where
  pub searches_opened : {t u : Tree C} {query : Query} → Shape t → Searches t → IsOpened t u query → Searches u
  searches_opened {t = t} {u = u} {query = query} shape searches change = searches_of (λ s now is. runs s now is (cases_eq s t.next)) (λ h n is. seen_kept shape searches clock (λ s now running below. stay s now running (λ e. absurd (omega arith))) h n (cc (change.nodes.look h, is)))
    where
      clock : After t u
      clock =
          record {
            root = change.root;
            counter = let same = change.counter in omega arith;
            next = let rises = change.next in omega arith;
          }

      stay : (s : ℕ) (now : Search C) → u.searches s ≡ Some now → s ≢ t.next → Stays t u s now
      stay s now is apart = stays_kept (same_nodes_keeps change.nodes) searches clock s now (cc (change.others s apart, is))

      begun : (s : ℕ) → s ≡ t.next → Runs u s (opened t query)
      begun s e =
          record {
            root = subst (Owed u s (opened t query)) (sym change.root) (inr (record { from = t.root; memo = t.counter; on_stack = first_in (t.root, t.counter) []; leads = here }));
            given = let rises = change.next in omega arith;
            memo_counter = λ h memo on_stack. let same : t.counter ≡ memo = ap (λ e. e.1) (in_one (t.root, t.counter) (h, memo) on_stack) in let counter = change.counter in omega arith;
            memo_begun = λ h memo on_stack. let same : t.counter ≡ memo = ap (λ e. e.1) (in_one (t.root, t.counter) (h, memo) on_stack) in omega arith;
          }

      runs : (s : ℕ) (now : Search C) → u.searches s ≡ Some now → (s ≡ t.next) ⊎ (s ≢ t.next) → Runs u s now
      runs s now is (inl e) = let same : opened t query ≡ now = cc (change.search, is, e) in subst (Runs u s) same (begun s e)
      runs s now is (inr apart) = runs_kept shape searches clock s now (stay s now is apart)

  pub searches_closed : {t u : Tree C} {s : ℕ} → Shape t → Searches t → IsClosed t u s → Searches u
  searches_closed {t = t} {u = u} {s = s} shape searches change = kept_searches shape searches clock stay (λ h n is. seen_kept shape searches clock (λ s now running below. stay s now running) h n (cc (change.nodes.look h, is)))
    where
      clock : After t u
      clock = same_after change.clock

      go : (x : ℕ) (now : Search C) → u.searches x ≡ Some now → (x ≡ s) ⊎ (x ≢ s) → Stays t u x now
      go x now is (inl e) = absurd (cc (change.search, is, e))
      go x now is (inr apart) = stays_kept (same_nodes_keeps change.nodes) searches clock x now (cc (change.others x apart, is))

      stay : (x : ℕ) (now : Search C) → u.searches x ≡ Some now → Stays t u x now
      stay x now is = go x now is (cases_eq x s)

  pub searches_visited_gone : {t u : Tree C} {s : ℕ} {x : Handle} {memo : ℕ} → Shape t → Searches t → IsVisitedGone t u s x memo → Searches u
  searches_visited_gone {t = t} {u = u} {s = s} {x = x} {memo = memo} shape searches change = kept_searches shape searches clock stay (λ h n is. seen_kept shape searches clock (λ s now running below. stay s now running) h n (cc (change.nodes.look h, is)))
    where
      clock : After t u
      clock = same_after change.clock

      keeps : Keeps t u
      keeps = same_nodes_keeps change.nodes

      left : Search C
      left = record change.search { stack = change.rest }

      in_rest : (from : Handle) (m : ℕ) → Contains change.rest (from, m) → Contains change.search.stack (from, m)
      in_rest from m has = subst (λ l. Contains l (from, m)) (sym change.popped) (Contains-append_left change.rest ((x, memo) ∷ []) (from, m) has)

      -- a handle that is gone leads to no node that is left
      from_gone : (h : Handle) → Lives t h → Leads t memo h x → ⊥
      from_gone h lives leads = elim (leads_pop leads) [
        | inl e ↦ absurd (cc (lives.is, e, change.gone))
        | inr on ↦ absurd (cc (on.step.is, change.gone))
      ]

      owed : (h : Handle) → Lives t h → Owed t s change.search h → Owed u s left h
      owed h lives (inl done) = inl (keeps.done s change.search change.searches.before h done)
      owed h lives (inr stacked) = elim (Contains-append_cases change.rest ((x, memo) ∷ []) (stacked.from, stacked.memo) (subst (λ l. Contains l (stacked.from, stacked.memo)) change.popped stacked.on_stack)) [
        | inl has ↦ inr (record {
          from = stacked.from;
          memo = stacked.memo;
          on_stack = has;
          leads = leads_map (keeps.steps s change.search change.searches.before stacked.from stacked.memo stacked.on_stack) stacked.leads;
        })
        | inr has ↦
            let e = in_one (x, memo) (stacked.from, stacked.memo) has in
            absurd (from_gone h lives (subst (λ e. Leads t e.1 h e.0) (sym e) stacked.leads))
      ]

      this : Stays t u s left
      this =
          record {
            old = change.search;
            was = change.searches.before;
            query = λ _. change.search.query;
            found = λ pair has. has;
            memo_counter = λ h m has. let below = searches.memo_counter s change.search change.searches.before h m (in_rest h m has) in let rises = clock.counter in omega arith;
            memo_begun = λ h m has. searches.memo_begun s change.search change.searches.before h m (in_rest h m has);
            owed = owed;
          }

      go : (y : ℕ) (now : Search C) → u.searches y ≡ Some now → (y ≡ s) ⊎ (y ≢ s) → Stays t u y now
      go y now is (inl e) =
          let same : left ≡ now = cc (change.searches.after, is, e) in
          subst (λ y. Stays t u y now) (sym e) (subst (Stays t u s) same this)
      go y now is (inr apart) = stays_kept keeps searches clock y now (cc (change.searches.others y apart, is))

      stay : (y : ℕ) (now : Search C) → u.searches y ≡ Some now → Stays t u y now
      stay y now is = go y now is (cases_eq y s)

  pub searches_visited : {t u : Tree C} {s : ℕ} {x : Handle} {memo : ℕ} → Shape t → Searches t → IsVisited t u s x memo → Searches u
  searches_visited {t = t} {u = u} {s = s} {x = x} {memo = memo} shape searches change = one_node_seen shape searches clock stay change.nodes (λ _. change.node.place) (λ _. change.node.seq) by
    where
      clock : After t u
      clock = same_after change.clock

      keeps : Keeps t u
      keeps = one_node_keeps change.nodes (λ _. change.node.place) (λ _. change.node.seq) (λ _. change.node.right) change.numbers

      right : List (Handle × ℕ)
      right = followed change.node memo

      below : List (Handle × ℕ)
      below = pushed t.counter change.entries

      after : Search C
      after = visited t.counter memo change.node change.rest change.entries change.pairs change.search

      from_rest : (from : Handle) (m : ℕ) → Contains change.rest (from, m) → Contains after.stack (from, m)
      from_rest from m has = Contains-append_left (change.rest ++ right) below (from, m) (Contains-append_left change.rest right (from, m) has)

      from_right : (from : Handle) (m : ℕ) → Contains right (from, m) → Contains after.stack (from, m)
      from_right from m has = Contains-append_left (change.rest ++ right) below (from, m) (Contains-append_right change.rest right (from, m) has)

      from_below : (from : Handle) (m : ℕ) → Contains below (from, m) → Contains after.stack (from, m)
      from_below from m has = Contains-append_right (change.rest ++ right) below (from, m) has

      popped_in : Contains change.search.stack (x, memo)
      popped_in = subst (λ l. Contains l (x, memo)) (sym change.popped) (Contains-append_right change.rest ((x, memo) ∷ []) (x, memo) (first_in (x, memo) []))

      in_rest : (from : Handle) (m : ℕ) → Contains change.rest (from, m) → Contains change.search.stack (from, m)
      in_rest from m has = subst (λ l. Contains l (from, m)) (sym change.popped) (Contains-append_left change.rest ((x, memo) ∷ []) (from, m) has)

      -- the node is done now
      done : Done u s x
      done = record { node = record change.node { attached = change.attached }; is = change.nodes.after; attached = change.joins }

      -- where steps from the node lead
      from_node : (h : Handle) → Leads t memo h x → Owed u s after h
      from_node h leads = elim (leads_pop leads) [
        | inl e ↦ inl (subst (Done u s) e done)
        | inr on ↦
            let same : on.step.node ≡ change.node = cc (on.step.is, change.nodes.before) in
            let follows : IsTrue (is_followed change.node.place change.node.seq memo) = subst (λ n. IsTrue (is_followed n.place n.seq memo)) same on.step.follows in
            let right : change.node.right ≡ Some on.next = subst (λ n. n.right ≡ Some on.next) same on.step.right in
            inr (record {
              from = on.next;
              memo = memo;
              on_stack = from_right on.next memo (followed_in change.node memo on.next follows right);
              leads = leads_map (keeps.steps s change.search change.searches.before x memo popped_in) on.leads;
            })
      ]

      owed : (h : Handle) → Owed t s change.search h → Owed u s after h
      owed h (inl was) = inl (keeps.done s change.search change.searches.before h was)
      owed h (inr stacked) = elim (Contains-append_cases change.rest ((x, memo) ∷ []) (stacked.from, stacked.memo) (subst (λ l. Contains l (stacked.from, stacked.memo)) change.popped stacked.on_stack)) [
        | inl has ↦ inr (record {
          from = stacked.from;
          memo = stacked.memo;
          on_stack = from_rest stacked.from stacked.memo has;
          leads = leads_map (keeps.steps s change.search change.searches.before stacked.from stacked.memo stacked.on_stack) stacked.leads;
        })
        | inr has ↦
            let e = in_one (x, memo) (stacked.from, stacked.memo) has in
            from_node h (subst (λ e. Leads t e.1 h e.0) (sym e) stacked.leads)
      ]

      -- a memo of the new stack is one of the old stack, or the counter
      memos : (h : Handle) (m : ℕ) → Contains after.stack (h, m) → (change.search.begun ≤ m) × (m ≤ u.counter)
      memos h m has =
          let begun = searches.memo_begun s change.search change.searches.before x memo popped_in in
          let under = searches.memo_counter s change.search change.searches.before x memo popped_in in
          let rises = clock.counter in
          elim (Contains-append_cases (change.rest ++ right) below (h, m) has) [
            | inl front ↦ elim (Contains-append_cases change.rest right (h, m) front) [
              | inl at ↦
                  let from = in_rest h m at in
                  let high = searches.memo_counter s change.search change.searches.before h m from in
                  (searches.memo_begun s change.search change.searches.before h m from, omega arith)
              | inr at ↦
                  let same : m ≡ memo = followed_memo (is_followed change.node.place change.node.seq memo) change.node.right memo h m at in
                  (omega arith, omega arith)
            ]
            | inr at ↦
                let same : m ≡ t.counter = pushed_memo t.counter change.entries h m at in
                (omega arith, omega arith)
          ]

      this : Stays t u s after
      this =
          record {
            old = change.search;
            was = change.searches.before;
            query = λ _. change.search.query;
            found = λ pair has. Contains-append_left change.search.found change.pairs pair has;
            memo_counter = λ h m has. (memos h m has).1;
            memo_begun = λ h m has. (memos h m has).0;
            owed = λ h lives. owed h;
          }

      stay_cases : (y : ℕ) (now : Search C) → u.searches y ≡ Some now → (y ≡ s) ⊎ (y ≢ s) → Stays t u y now
      stay_cases y now is (inl e) =
          let same : after ≡ now = cc (change.searches.after, is, e) in
          subst (λ y. Stays t u y now) (sym e) (subst (Stays t u s) same this)
      stay_cases y now is (inr apart) = stays_kept keeps searches clock y now (cc (change.searches.others y apart, is))

      stay : (y : ℕ) (now : Search C) → u.searches y ≡ Some now → Stays t u y now
      stay y now is = stay_cases y now is (cases_eq y s)

      -- what the search has seen of the node, if it runs
      seen : SeenBy u change.node.body change.node.place change.node.right s
      seen =
          record {
            child = λ now is key c entry consistent.
                let same : now ≡ after = cc (change.searches.after, is) in
                let at : C.Consistent key change.search.query = subst (λ n. C.Consistent key n.query) same consistent in
                let has = picked_in (key, c) change.consistent entry at in
                inr (record { from = c; memo = t.counter; on_stack = subst (λ n. Contains n.stack (c, t.counter)) (sym same) (from_below c t.counter (pushed_in t.counter change.entries key c has)); leads = here });
            mark = λ now is marked r right.
                let same : now ≡ after = cc (change.searches.after, is) in
                let has = followed_in change.node memo r (followed_marked change.node.place change.node.seq memo marked) right in
                inr (record { from = r; memo = memo; on_stack = subst (λ n. Contains n.stack (r, memo)) (sym same) (from_right r memo has); leads = here });
            found = λ now is pair has matches.
                let same : now ≡ after = cc (change.searches.after, is) in
                let at : C.Matches pair.1 change.search.query = subst (λ n. C.Matches pair.1 n.query) same matches in
                subst (λ n. Contains n.found pair) (sym same) (Contains-append_right change.search.found change.pairs pair (picked_in pair change.matching has at));
            given = let below = searches.running_given s change.search change.searches.before in let rises = clock.next in omega arith;
          }

      by : Seen u change.node → (y : ℕ) → Contains change.attached y → SeenBy u change.node.body change.node.place change.node.right y
      by before y attached = elim (change.numbers.only y attached) [
        | inl has ↦ before.by y has
        | inr e ↦ subst (SeenBy u change.node.body change.node.place change.node.right) (sym e) seen
      ]
