-- Placing, cleaning, joining and enlarging keep the clauses on searches.
use Rattle.std.proofs.Common.{◌≡◌, ℕ, [], ◌∷◌, ◌++◌, Contains, slice_set, Some, sym, subst, inl, inr}
use Rattle.std.proofs.lemmas.List.Elements.{Contains-append_cases}
use Rattle.node_arena.specs.declared.handle.Handle.{Handle}
use Rattle.tree_theory.specs.Changes.{IsPlaced, IsJoined, IsEnlarged, IsCleaned, MayJoin, StandsBehind}
use Rattle.tree_theory.specs.Invariant.{CoversBody, Shape, Searches}
use Rattle.tree_theory.specs.KeyClasses.{Class, Laws}
use Rattle.tree_theory.specs.Nodes.{Body, Node, Search, Tree, entries_of}
use Rattle.tree_theory.specs.Nodes.PlainBody.{Leaf, Inner}
use Rattle.tree_theory.specs.Walks.{Owed}
use Rattle.tree_theory.proofs.ListLemmas.{nothing_in, in_one, got_in, set_cases, picked_from}
use Rattle.tree_theory.proofs.Replaced.{Keeps}
use Rattle.tree_theory.proofs.SearchKept.{Seen, SeenBy, one_node_searches, seen_by_fewer, same_numbers}

module _ {Key Query Item : Type 0} {C : Class Key Query Item} where
  pub searches_placed : {t u : Tree C} {h : Handle} {pair : ℕ × Item} → Shape t → Searches t → IsPlaced t u h pair → Searches u
  searches_placed {t = t} {u = u} {h = h} {pair = pair} shape searches change =
      one_node_searches shape searches change.clock change.searches change.nodes (λ _. change.node.place) (λ _. change.node.seq) (λ _. change.node.right) (same_numbers change.node.attached) by
    where
      now_body : Body C
      now_body = Leaf (change.pairs ++ pair ∷ [])

      by : Keeps t u → Seen u change.node → (s : ℕ) → Contains change.node.attached s → SeenBy u now_body change.node.place change.node.right s
      by keeps before s attached =
          let seen = before.by s attached in
          record {
            child = λ now is key c entry. absurd (nothing_in (key, c) entry);
            mark = seen.mark;
            found = λ now is other has matches. elim (Contains-append_cases change.pairs (pair ∷ []) other has) [
              | inl old ↦ seen.found now is other (rw change.body old) matches
              | inr new ↦
                  let same : pair ≡ other = in_one pair other new in
                  absurd (change.none_matches s now (cc (change.searches.search s, is)) attached (rw same matches))
            ];
            given = seen.given;
          }

  -- one that joins has nothing to look for in the node
  joiner_seen : {t u : Tree C} {h : Handle} {node : Node C} → Laws C → Shape t → Searches t → Keeps t u → ((s : ℕ) → u.searches s ≡ t.searches s) → u.next ≡ t.next → t.look h ≡ Some node → (s : ℕ) → MayJoin t h node s → SeenBy u node.body node.place node.right s
  joiner_seen {t = t} {u = u} {h = h} {node = node} laws shape searches keeps same next is s joins =
      record {
        child = λ now runs key c entry consistent. absurd (joins.inconsistent (laws.monotone joins.key key joins.search.query (covers.entries (key, c) entry) (subst (λ n. C.Consistent key n.query) (search now runs) consistent)));
        mark = λ now runs marked r right. inl (keeps.done s joins.search joins.running r (joins.right_done marked r right));
        found = λ now runs pair has matches. absurd (joins.inconsistent (laws.monotone joins.key (C.key_of pair.1) joins.search.query (covers.pairs pair has) (laws.sound pair.1 joins.search.query (subst (λ n. C.Matches pair.1 n.query) (search now runs) matches))));
        given = rw next (searches.running_given s joins.search joins.running);
      }
    where
      search : (now : Search C) → u.searches s ≡ Some now → now ≡ joins.search
      search now runs = cc (same s, runs, joins.running)

      go : StandsBehind t h joins.key → CoversBody C joins.key node.body
      go stands = elim stands.behind [
        | inl e ↦ shape.cover stands.parent stands.node stands.is joins.key stands.child stands.entry node (cc (is, e))
        | inr beside ↦ shape.cover_marked stands.parent stands.node stands.is joins.key stands.child stands.entry beside.0 beside.1 beside.2 h node beside.3 is
      ]

      covers : CoversBody C joins.key node.body
      covers = go joins.stands

  pub searches_joined : {t u : Tree C} {h : Handle} → Laws C → Shape t → Searches t → IsJoined t u h → Searches u
  searches_joined {t = t} {u = u} {h = h} laws shape searches change =
      one_node_searches shape searches change.clock change.searches change.nodes (λ _. change.node.place) (λ _. change.node.seq) (λ _. change.node.right) change.numbers by
    where
      by : Keeps t u → Seen u change.node → (s : ℕ) → Contains change.attached s → SeenBy u change.node.body change.node.place change.node.right s
      by keeps before s attached = elim (change.numbers.only s attached) [
        | inl was ↦ before.by s was
        | inr joins ↦ joiner_seen laws shape searches keeps change.searches.search change.clock.next change.nodes.before s joins
      ]

  pub searches_enlarged : {t u : Tree C} {p : Handle} {key : Key} → Shape t → Searches t → IsEnlarged t u p key → Searches u
  searches_enlarged {t = t} {u = u} {p = p} {key = key} shape searches change =
      one_node_searches shape searches change.clock change.searches change.nodes (λ _. change.node.place) (λ _. change.node.seq) (λ _. change.node.right) (same_numbers change.node.attached) by
    where
      set : Key × Handle
      set = (C.united change.old key, change.child)

      now_body : Body C
      now_body = Inner (slice_set change.entries change.index set)

      in_node : (k : Key) (c : Handle) → Contains change.entries (k, c) → Contains (entries_of change.node.body) (k, c)
      in_node k c has = rw change.body has

      by : Keeps t u → Seen u change.node → (s : ℕ) → Contains change.node.attached s → SeenBy u now_body change.node.place change.node.right s
      by keeps before s attached =
          let seen = before.by s attached in
          record {
            child = λ now is k c entry consistent. elim (set_cases change.entries change.index set (k, c) entry) [
              | inl e ↦
                  let was : t.searches s ≡ Some now = cc (change.searches.search s, is) in
                  let at : C.Consistent (C.united change.old key) now.query = subst (λ entry. C.Consistent entry.0 now.query) (sym e) consistent in
                  subst (λ entry. Owed u s now entry.1) e (elim (change.seen s now was attached at) [
                    | inl old ↦ seen.child now is change.old change.child (in_node change.old change.child (got_in change.entries change.index (change.old, change.child) change.entry)) old
                    | inr there ↦ inl (keeps.done s now was change.child there)
                  ])
              | inr old ↦ seen.child now is k c (in_node k c old) consistent
            ];
            mark = seen.mark;
            found = λ now is pair has. absurd (nothing_in pair has);
            given = seen.given;
          }

  pub searches_cleaned : {t u : Tree C} {Kept : ℕ × Item → Type 0} {h : Handle} → Shape t → Searches t → IsCleaned t u Kept h → Searches u
  searches_cleaned {t = t} {u = u} {h = h} shape searches change =
      one_node_searches shape searches change.clock change.searches change.nodes (λ _. change.node.place) (λ _. change.node.seq) (λ _. change.node.right) (same_numbers change.node.attached) by
    where
      by : Keeps t u → Seen u change.node → (s : ℕ) → Contains change.node.attached s → SeenBy u (Leaf change.left) change.node.place change.node.right s
      by keeps before s attached =
          seen_by_fewer change.node.body (Leaf change.left) change.node.place change.node.place change.node.right (before.by s attached) (λ key c entry. absurd (nothing_in (key, c) entry)) (λ pair has. rw change.body ((picked_from pair change.kept has).0)) (λ marked. marked)
