-- What a running search has seen at one node, and what a step keeps of it.
use Rattle.std.proofs.Common.{◌≡◌, ◌⊎◌, ℕ, ◌<◌, ◌≤◌, Bool, List, Contains, Option, Some, IsTrue, sym, subst, inl, inr, arith}
use Rattle.node_arena.specs.declared.handle.Handle.{Handle}
use Rattle.tree_theory.specs.Changes.{SameClock, Ticked, SameSearches, OneNode, Numbers, Copied}
use Rattle.tree_theory.specs.Invariant.{Shape, Searches}
use Rattle.tree_theory.specs.KeyClasses.{Class}
use Rattle.tree_theory.specs.Nodes.{Body, Node, Search, Tree, is_marked, entries_of, pairs_of}
use Rattle.tree_theory.specs.Walks.{Owed}
use Rattle.tree_theory.specs.declared.position.Position.{Position}
use Rattle.tree_theory.specs.declared.position.Position.TheVariants.{Root, Linked, Unlinked, Retired}
use Rattle.tree_theory.proofs.Replaced.{Keeps, owed_kept, node_from, one_node_keeps}

-- a place of another kind is not retired
pub root_not_retired : (place : Position) (stamp : ℕ) → place ≡ Root → place ≡ Retired stamp → ⊥
root_not_retired place stamp is retired = absurd (cc)

pub linked_not_retired : (place : Position) (p : Handle) (marked : Bool) (stamp : ℕ) → place ≡ Linked p marked → place ≡ Retired stamp → ⊥
linked_not_retired place p marked stamp is retired = absurd (cc)

pub unlinked_not_retired : (place : Position) (l : Handle) (stamp : ℕ) → place ≡ Unlinked l → place ≡ Retired stamp → ⊥
unlinked_not_retired place l stamp is retired = absurd (cc)

module _ {Key Query Item : Type 0} {C : Class Key Query Item} where
  -- the handle names a node that is not retired
  pub record Lives (t : Tree C) (h : Handle) : Type 0 where
    pub node : Node C
    pub is : t.look h ≡ Some node
    pub place : (stamp : ℕ) → node.place ≡ Retired stamp → ⊥

  pub root_lives : {t : Tree C} → Shape t → Lives t t.root
  root_lives shape = let top = shape.root_place in record { node = top.node; is = top.is; place = λ stamp. root_not_retired top.node.place stamp top.place }

  pub child_lives : {t : Tree C} → Shape t → (p : Handle) (node : Node C) → t.look p ≡ Some node → (key : Key) (c : Handle) → Contains (entries_of node.body) (key, c) → Lives t c
  child_lives {t = t} shape p node is key c entry =
      let child = shape.entry_down p node is key c entry in
      record { node = child.node; is = child.is; place = λ stamp. linked_not_retired child.node.place p child.marked stamp child.place }

  pub right_lives : {t : Tree C} → Shape t → (l : Handle) (node : Node C) → t.look l ≡ Some node → IsTrue (is_marked node.place) → (r : Handle) → node.right ≡ Some r → Lives t r
  right_lives {t = t} shape l node is marked r right =
      let beside = shape.mark_right l node is marked in
      let same : beside.right ≡ r = cc (beside.is_right, right) in
      subst (Lives t) same (record { node = beside.node; is = beside.is; place = λ stamp. unlinked_not_retired beside.node.place l stamp beside.place })

  -- the clauses on a running search
  pub record Runs (u : Tree C) (s : ℕ) (now : Search C) : Type 0 where
    pub root : Owed u s now u.root
    pub given : s < u.next
    pub memo_counter : (h : Handle) (memo : ℕ) → Contains now.stack (h, memo) → memo ≤ u.counter
    pub memo_begun : (h : Handle) (memo : ℕ) → Contains now.stack (h, memo) → now.begun ≤ memo

  -- what a search has seen or will come to, if it is attached to a node with this body, place and
  -- rightlink
  pub record SeenBy (u : Tree C) (body : Body C) (place : Position) (right : Option Handle) (s : ℕ) : Type 0 where
    pub child : (now : Search C) → u.searches s ≡ Some now → (key : Key) (c : Handle) → Contains (entries_of body) (key, c) → C.Consistent key now.query → Owed u s now c
    pub mark : (now : Search C) → u.searches s ≡ Some now → IsTrue (is_marked place) → (r : Handle) → right ≡ Some r → Owed u s now r
    pub found : (now : Search C) → u.searches s ≡ Some now → (pair : ℕ × Item) → Contains (pairs_of body) pair → C.Matches pair.1 now.query → Contains now.found pair
    pub given : s < u.next

  -- the clauses on the searches of a node
  pub record Seen (u : Tree C) (n : Node C) : Type 0 where
    pub by : (s : ℕ) → Contains n.attached s → SeenBy u n.body n.place n.right s
    pub seq : n.seq ≤ u.counter
    pub retired : (stamp : ℕ) → n.place ≡ Retired stamp → n.seq < stamp

  -- both together are the clauses on searches
  pub searches_of : {u : Tree C} → ((s : ℕ) (now : Search C) → u.searches s ≡ Some now → Runs u s now) → ((h : Handle) (n : Node C) → u.look h ≡ Some n → Seen u n) → Searches u
  searches_of runs seen =
      record {
        search_root = λ s now is. (runs s now is).root;
        search_child = λ s now is h n at attached. ((seen h n at).by s attached).child now is;
        search_mark = λ s now is h n at attached. ((seen h n at).by s attached).mark now is;
        search_found = λ s now is h n at attached. ((seen h n at).by s attached).found now is;
        attached_given = λ h n at s attached. ((seen h n at).by s attached).given;
        running_given = λ s now is. (runs s now is).given;
        memo_counter = λ s now is. (runs s now is).memo_counter;
        memo_begun = λ s now is. (runs s now is).memo_begun;
        seq_counter = λ h n at. (seen h n at).seq;
        retired_seq = λ h n at. (seen h n at).retired;
      }

  -- the root is the same, and no number falls
  pub record After (t u : Tree C) : Type 0 where
    pub root : u.root ≡ t.root
    pub counter : t.counter ≤ u.counter
    pub next : t.next ≤ u.next

  pub same_after : {t u : Tree C} → SameClock t u → After t u
  same_after clock =
      record {
        root = clock.root;
        counter = let same = clock.counter in omega arith;
        next = let same = clock.next in omega arith;
      }

  pub ticked_after : {t u : Tree C} → Ticked t u → After t u
  ticked_after clock =
      record {
        root = clock.root;
        counter = let same = clock.counter in omega arith;
        next = let same = clock.next in omega arith;
      }

  -- A running search of the new tree ran in the old one, with the same query. Every node that is
  -- not retired and was owed to it still is, and it has kept all found pairs.
  pub record Stays (t u : Tree C) (s : ℕ) (now : Search C) : Type 0 where
    pub old : Search C
    pub was : t.searches s ≡ Some old
    pub query : old.query ≡ now.query
    pub found : (pair : ℕ × Item) → Contains old.found pair → Contains now.found pair
    pub memo_counter : (h : Handle) (memo : ℕ) → Contains now.stack (h, memo) → memo ≤ u.counter
    pub memo_begun : (h : Handle) (memo : ℕ) → Contains now.stack (h, memo) → now.begun ≤ memo
    pub owed : (h : Handle) → Lives t h → Owed t s old h → Owed u s now h

  -- a search that is the same
  pub stays_itself : {t u : Tree C} → Searches t → After t u → (s : ℕ) (now : Search C) → t.searches s ≡ Some now → ((h : Handle) → Lives t h → Owed t s now h → Owed u s now h) → Stays t u s now
  stays_itself searches clock s now was owed =
      record {
        old = now;
        was = was;
        query = λ _. now.query;
        found = λ pair h. h;
        memo_counter = λ h memo on_stack. let before = searches.memo_counter s now was h memo on_stack in let rises = clock.counter in omega arith;
        memo_begun = λ h memo on_stack. searches.memo_begun s now was h memo on_stack;
        owed = owed;
      }

  pub stays_kept : {t u : Tree C} → Keeps t u → Searches t → After t u → (s : ℕ) (now : Search C) → t.searches s ≡ Some now → Stays t u s now
  stays_kept keeps searches clock s now was = stays_itself searches clock s now was (λ h lives. owed_kept keeps s now was h)

  pub all_stay : {t u : Tree C} → Keeps t u → Searches t → After t u → SameSearches t u → (s : ℕ) (now : Search C) → u.searches s ≡ Some now → Stays t u s now
  all_stay keeps searches clock same s now is = stays_kept keeps searches clock s now (cc (same.search s, is))

  -- the clauses on a search and on a node of the old tree hold in the new one
  pub runs_kept : {t u : Tree C} → Shape t → Searches t → After t u → (s : ℕ) (now : Search C) → Stays t u s now → Runs u s now
  runs_kept {t = t} {u = u} shape searches clock s now stays =
      record {
        root = subst (Owed u s now) (sym clock.root) (stays.owed t.root (root_lives shape) (searches.search_root s stays.old stays.was));
        given = let below = searches.running_given s stays.old stays.was in let rises = clock.next in omega arith;
        memo_counter = stays.memo_counter;
        memo_begun = stays.memo_begun;
      }

  pub seen_kept : {t u : Tree C} → Shape t → Searches t → After t u → ((s : ℕ) (now : Search C) → u.searches s ≡ Some now → s < t.next → Stays t u s now) → (h : Handle) (n : Node C) → t.look h ≡ Some n → Seen u n
  seen_kept {t = t} {u = u} shape searches clock stay h n at =
      record {
        by = by;
        seq = let below = searches.seq_counter h n at in let rises = clock.counter in omega arith;
        retired = searches.retired_seq h n at;
      }
    where
      by : (s : ℕ) → Contains n.attached s → SeenBy u n.body n.place n.right s
      by s attached =
          let below = searches.attached_given h n at s attached in
          record {
            child = λ now is key c entry consistent.
                let stays = stay s now is below in
                stays.owed c (child_lives shape h n at key c entry) (searches.search_child s stays.old stays.was h n at attached key c entry (rw stays.query consistent));
            mark = λ now is marked r right.
                let stays = stay s now is below in
                stays.owed r (right_lives shape h n at marked r right) (searches.search_mark s stays.old stays.was h n at attached marked r right);
            found = λ now is pair has matches.
                let stays = stay s now is below in
                stays.found pair (searches.search_found s stays.old stays.was h n at attached pair has (rw stays.query matches));
            given = let rises = clock.next in omega arith;
          }

  -- where all running searches stay, only the nodes remain to be checked
  pub kept_searches : {t u : Tree C} → Shape t → Searches t → After t u → ((s : ℕ) (now : Search C) → u.searches s ≡ Some now → Stays t u s now) → ((h : Handle) (n : Node C) → u.look h ≡ Some n → Seen u n) → Searches u
  kept_searches shape searches clock stay seen = searches_of (λ s now is. runs_kept shape searches clock s now (stay s now is)) seen

  -- for a body with no more entries and pairs, the same rightlink, and no new mark
  pub seen_by_fewer : {u : Tree C} {s : ℕ} (one other : Body C) (place at : Position) (right : Option Handle) → SeenBy u one place right s → ((key : Key) (c : Handle) → Contains (entries_of other) (key, c) → Contains (entries_of one) (key, c)) → ((pair : ℕ × Item) → Contains (pairs_of other) pair → Contains (pairs_of one) pair) → (IsTrue (is_marked at) → IsTrue (is_marked place)) → SeenBy u other at right s
  seen_by_fewer one other place at right seen entries pairs marked =
      record {
        child = λ now is key c entry. seen.child now is key c (entries key c entry);
        mark = λ now is mark r to_right. seen.mark now is (marked mark) r to_right;
        found = λ now is pair has. seen.found now is pair (pairs pair has);
        given = seen.given;
      }

  -- one node is replaced that keeps its place, number and rightlink, and all running searches stay
  pub one_node_seen : {t u : Tree C} {h : Handle} {old new : Node C} → Shape t → Searches t → After t u → ((s : ℕ) (now : Search C) → u.searches s ≡ Some now → Stays t u s now) → OneNode t u h old new → new.place ≡ old.place → new.seq ≡ old.seq → (Seen u old → (s : ℕ) → Contains new.attached s → SeenBy u new.body new.place new.right s) → Searches u
  one_node_seen {t = t} {u = u} {h = h} {old = old} {new = new} shape searches clock stay change place seq by =
      kept_searches shape searches clock stay (λ x n is. go n (node_from change x n is))
    where
      kept : (x : Handle) (n : Node C) → t.look x ≡ Some n → Seen u n
      kept = seen_kept shape searches clock (λ s now is below. stay s now is)

      before : Seen u old
      before = kept h old change.before

      after : Seen u new
      after =
          record {
            by = by before;
            seq = rw seq before.seq;
            retired = λ stamp retired. rw seq (before.retired stamp (cc (place, retired)));
          }

      go : {x : Handle} (n : Node C) → ((x ≡ h) × (new ≡ n)) ⊎ (t.look x ≡ Some n) → Seen u n
      go n (inl e) = subst (Seen u) e.1 after
      go {x = x} n (inr stays) = kept x n stays

  pub one_node_searches : {t u : Tree C} {h : Handle} {old new : Node C} {Also : ℕ → Type 0} → Shape t → Searches t → SameClock t u → SameSearches t u → OneNode t u h old new → new.place ≡ old.place → new.seq ≡ old.seq → new.right ≡ old.right → Numbers t Also old.attached new.attached → (Keeps t u → Seen u old → (s : ℕ) → Contains new.attached s → SeenBy u new.body new.place new.right s) → Searches u
  one_node_searches {t = t} {u = u} shape searches clock same change place seq right numbers by =
      let keeps : Keeps t u = one_node_keeps change place seq right numbers in
      one_node_seen shape searches (same_after clock) (all_stay keeps searches (same_after clock) same) change place seq (by keeps)

  pub same_numbers : {t : Tree C} (numbers : List ℕ) → Copied t numbers numbers
  same_numbers numbers = record { keeps = λ s search is has. has; only = λ s has. inl has }
