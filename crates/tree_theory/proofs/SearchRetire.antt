-- Retiring a leaf and freeing a node keep the clauses on searches, and the first tree meets them.
use Rattle.std.proofs.Common.{◌≡◌, ◌≢◌, ◌⊎◌, ℕ, ◌+◌, ◌<◌, false, List, [], Contains, remove, Some, None, IsTrue, refl, sym, subst, ◌∙◌, inl, inr, arith}
use Rattle.std.proofs.lemmas.Bool.{ltb-true}
use Rattle.node_arena.specs.declared.handle.Handle.{Handle}
use Rattle.tree_theory.specs.Changes.{IsRetired, IsFreed, IsStarted}
use Rattle.tree_theory.specs.Invariant.{Shape, Searches}
use Rattle.tree_theory.specs.KeyClasses.{Class}
use Rattle.tree_theory.specs.Nodes.{Node, Search, Tree, is_followed}
use Rattle.tree_theory.specs.Nodes.PlainBody.{Leaf, Inner}
use Rattle.tree_theory.specs.Walks.{Step, Leads, Owed}
use Rattle.tree_theory.specs.Walks.Leads.{here, along}
use Rattle.tree_theory.specs.declared.position.Position.TheVariants.{Root, Linked, Retired}
use Rattle.tree_theory.proofs.ListLemmas.{nothing_in, remove_from, handle_cases}
use Rattle.tree_theory.proofs.Leads.{leads_map}
use Rattle.tree_theory.proofs.Replaced.{Keeps}
use Rattle.tree_theory.proofs.SearchKept.{Lives, Seen, After, Stays, searches_of, same_after, ticked_after, stays_itself, all_stay, seen_kept, kept_searches, root_not_retired}
use Rattle.tree_theory.proofs.SearchMoved.{moved_itself, Goes, goes_moved, goes_keeps}
use Rattle.tree_theory.proofs.SearchSplit.{seen_by_part}

module _ {Key Query Item : Type 0} {C : Class Key Query Item} where
  pub searches_retired : {t u : Tree C} {l p : Handle} → Shape t → Searches t → IsRetired t u l p → Searches u
  searches_retired {t = t} {u = u} {l = l} {p = p} shape searches change = kept_searches shape searches clock (all_stay keeps searches clock change.searches) (λ x n is. from x n is (handle_cases x l) (handle_cases x p))
    where
      clock : After t u
      clock = ticked_after change.clock

      left : List (Key × Handle)
      left = remove change.entries change.index

      leaf : Node C
      leaf = record change.leaf { place = Retired (t.counter + 1) }

      above : Node C
      above = record change.node { body = Inner left }

      at_leaf : Goes t u l change.leaf
      at_leaf =
          record {
            node = leaf;
            is = change.leaf_now;
            attached = λ s has. has;
            leads = λ memo below follows y right.
                let before : IsTrue (is_followed (Linked p false) change.leaf.seq memo) = subst (λ place. IsTrue (is_followed place change.leaf.seq memo)) change.place follows in
                along (record { node = leaf; is = change.leaf_now; follows = before; right = right }) here;
          }

      at_above : Goes t u p change.node
      at_above = record { node = above; is = change.parent_now; attached = λ s has. has; leads = λ memo below follows y right. along (record { node = above; is = change.parent_now; follows = follows; right = right }) here }

      to : (x : Handle) (old : Node C) → t.look x ≡ Some old → (x ≡ l) ⊎ (x ≢ l) → (x ≡ p) ⊎ (x ≢ p) → Goes t u x old
      to x old is (inl e) f =
          let same : change.leaf ≡ old = cc (change.leaf_before, is, e) in
          subst (λ x. Goes t u x old) (sym e) (subst (Goes t u l) same at_leaf)
      to x old is (inr e) (inl f) =
          let same : change.node ≡ old = cc (change.parent_before, is, f) in
          subst (λ x. Goes t u x old) (sym f) (subst (Goes t u p) same at_above)
      to x old is (inr e) (inr f) = goes_moved x old old (change.others x e f ∙ is) (moved_itself old)

      keeps : Keeps t u
      keeps = goes_keeps searches (λ x old is. to x old is (handle_cases x l) (handle_cases x p))

      kept : (x : Handle) (n : Node C) → t.look x ≡ Some n → Seen u n
      kept = seen_kept shape searches clock (λ s now is below. all_stay keeps searches clock change.searches s now is)

      -- its number is not above the counter before, so below its stamp
      seen_leaf : Seen u leaf
      seen_leaf =
          let was = kept l change.leaf change.leaf_before in
          let below = searches.seq_counter l change.leaf change.leaf_before in
          record {
            by = λ s has. seen_by_part change.leaf.body change.leaf.body change.leaf.place (Retired (t.counter + 1)) change.leaf.right (was.by s has) (λ entry is_in. is_in) (λ pair is_in. is_in) refl change.leaf.right;
            seq = was.seq;
            retired = λ stamp e. let same : t.counter + 1 ≡ stamp = cc (e) in omega arith;
          }

      seen_above : Seen u above
      seen_above =
          let was = kept p change.node change.parent_before in
          record {
            by = λ s has.
                let seen = was.by s has in
                record {
                  child = λ now is key c entry. seen.child now is key c (rw change.body (remove_from change.entries change.index (key, c) entry));
                  mark = seen.mark;
                  found = λ now is pair is_in. absurd (nothing_in pair is_in);
                  given = seen.given;
                };
            seq = was.seq;
            retired = was.retired;
          }

      from : (x : Handle) (n : Node C) → u.look x ≡ Some n → (x ≡ l) ⊎ (x ≢ l) → (x ≡ p) ⊎ (x ≢ p) → Seen u n
      from x n is (inl e) f = let same : leaf ≡ n = cc (change.leaf_now, is, e) in subst (Seen u) same seen_leaf
      from x n is (inr e) (inl f) = let same : above ≡ n = cc (change.parent_now, is, f) in subst (Seen u) same seen_above
      from x n is (inr e) (inr f) = kept x n (sym (change.others x e f) ∙ is)

  pub searches_freed : {t u : Tree C} {h : Handle} → Shape t → Searches t → IsFreed t u h → Searches u
  searches_freed {t = t} {u = u} {h = h} shape searches change = kept_searches shape searches clock stay (λ x n is. from x n is (handle_cases x h))
    where
      clock : After t u
      clock = same_after change.clock

      stays_there : (x : Handle) (n : Node C) → t.look x ≡ Some n → x ≢ h → u.look x ≡ Some n
      stays_there x n is apart = change.others x apart ∙ is

      -- no running search follows from the node: its number is below the stamp, and no memo is
      followed_not : (s : ℕ) (now : Search C) → t.searches s ≡ Some now → (x : Handle) (memo : ℕ) → Contains now.stack (x, memo) → IsTrue (is_followed change.node.place change.node.seq memo) → ⊥
      followed_not s now was x memo on_stack follows =
          let by_number : IsTrue (is_followed (Retired change.stamp) change.node.seq memo) = subst (λ place. IsTrue (is_followed place change.node.seq memo)) change.place follows in
          let above : memo < change.node.seq = ltb-true memo change.node.seq by_number in
          let below = searches.retired_seq h change.node change.before change.stamp change.place in
          let later = change.all_later s now was in
          let begun = searches.memo_begun s now was x memo on_stack in
          absurd (omega arith)

      steps : (s : ℕ) (now : Search C) → t.searches s ≡ Some now → (from : Handle) (memo : ℕ) → Contains now.stack (from, memo) → (a b : Handle) → Step t memo a b → (a ≡ h) ⊎ (a ≢ h) → Leads u memo b a
      steps s now was from memo on_stack a b step (inl e) =
          let same : step.node ≡ change.node = cc (step.is, change.before, e) in
          absurd (followed_not s now was from memo on_stack (subst (λ n. IsTrue (is_followed n.place n.seq memo)) same step.follows))
      steps s now was from memo on_stack a b step (inr apart) = along {y = b} (record { node = step.node; is = stays_there a step.node step.is apart; follows = step.follows; right = step.right }) here

      -- the node itself is retired, so it need not be owed
      lives_apart : (x : Handle) → Lives t x → x ≢ h
      lives_apart x lives = λ e.
          let same : change.node ≡ lives.node = cc (lives.is, change.before, e) in
          lives.place change.stamp (subst (λ n. n.place ≡ Retired change.stamp) same change.place)

      owed : (s : ℕ) (now : Search C) → t.searches s ≡ Some now → (x : Handle) → Lives t x → Owed t s now x → Owed u s now x
      owed s now was x lives (inl done) = inl (record { node = done.node; is = stays_there x done.node done.is (lives_apart x lives); attached = done.attached })
      owed s now was x lives (inr stacked) =
          inr (record {
            from = stacked.from;
            memo = stacked.memo;
            on_stack = stacked.on_stack;
            leads = leads_map (λ a b step. steps s now was stacked.from stacked.memo stacked.on_stack a b step (handle_cases a h)) stacked.leads;
          })

      stay : (s : ℕ) (now : Search C) → u.searches s ≡ Some now → Stays t u s now
      stay s now is = let was : t.searches s ≡ Some now = cc (change.searches.search s, is) in stays_itself searches clock s now was (owed s now was)

      from : (x : Handle) (n : Node C) → u.look x ≡ Some n → (x ≡ h) ⊎ (x ≢ h) → Seen u n
      from x n is (inl e) = absurd (cc (change.gone, is, e))
      from x n is (inr apart) = seen_kept shape searches clock (λ s now is below. stay s now is) x n (sym (change.others x apart) ∙ is)

  pub searches_started : {u : Tree C} → IsStarted u → Searches u
  searches_started {u = u} change = searches_of (λ s now is. absurd (cc (change.searches s, is))) (λ x n is. from x n is (handle_cases x u.root))
    where
      top : Node C
      top = record { level = 0; body = Leaf []; seq = u.counter; right = None; place = Root; attached = [] }

      seen : Seen u top
      seen =
          record {
            by = λ s has. absurd (nothing_in s has);
            seq = omega arith;
            retired = λ stamp e. absurd (root_not_retired top.place stamp refl e);
          }

      from : (x : Handle) (n : Node C) → u.look x ≡ Some n → (x ≡ u.root) ⊎ (x ≢ u.root) → Seen u n
      from x n is (inl e) = let same : top ≡ n = cc (change.root_now, is, e) in subst (Seen u) same seen
      from x n is (inr apart) = absurd (cc (change.others x apart, is))
