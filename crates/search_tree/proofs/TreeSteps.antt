-- The code's changes are steps of the theory.
use Rattle.std.proofs.Common.{◌≡◌, ℕ, List, [], ◌∷◌, ◌++◌, slice_index_or, slice_set, Option, Some, None, refl, sym, ap, ◌∙◌, inl, inr, arith}
use Rattle.node_arena.specs.Slots.{Slots}
use Rattle.node_arena.specs.declared.handle.Handle.{Handle}
use Rattle.predicate_locks.specs.Searches.{search_at}
use Rattle.predicate_locks.specs.declared.running.RunningSearch.{RunningSearch}
use Rattle.tree_theory.specs.Changes.{IsClosed, IsVisited, IsVisitedGone}
use Rattle.tree_theory.specs.Invariant.{Invariant}
use Rattle.tree_theory.specs.KeyClasses.{Class}
use Rattle.tree_theory.specs.Nodes.{Node, Search, Tree}
use Rattle.tree_theory.specs.Runs.{IsStep}
use Rattle.tree_theory.specs.Runs.IsStep.{visits, visits_gone}
use Rattle.tree_nodes.specs.Progresses.{PlainProgress}
use Rattle.search_tree.specs.Trees.{PlainTree, IsFirstOf, search_of, tree_of}
use Rattle.tree_nodes.specs.Visits.{HasVisited, HasSeenAt, IsGoneAt}
use Rattle.search_tree.proofs.Kept.{with_one_kept, one_joins}
use Rattle.search_tree.proofs.ProgressLemmas.{first_read, set_here, set_other}

-- a handle is its two parts
pub handle_is : (h : Handle) (slot generation : ℕ) → h.slot ≡ slot → h.generation ≡ generation → h ≡ record { slot = slot; generation = generation }
handle_is h slot generation one other = ap (λ s. made s h.generation) one ∙ ap (made slot) other
  where
    made : ℕ → ℕ → Handle
    made s g = record { slot = s; generation = g }

module _ {Key Query Item : Type 0} (C : Class Key Query Item) where
  -- a tree with the same nodes and searches is as after the end of a search that does not run
  pub same_tree : (t u : Tree C) → Invariant t → ((h : Handle) → u.look h ≡ t.look h) → u.root ≡ t.root → u.counter ≡ t.counter → u.next ≡ t.next → ((s : ℕ) → u.searches s ≡ t.searches s) → IsClosed t u t.next
  same_tree t u inv look root counter next searches =
      record {
        nodes = record { look = look };
        clock = record { root = root; counter = counter; next = next };
        search = searches t.next ∙ none (t.searches t.next) refl;
        others = λ x apart. searches x;
      }
    where
      none : (o : Option (Search C)) → t.searches t.next ≡ o → o ≡ None
      none None e = refl
      none (Some search) e = let below = inv.searches.running_given t.next search e in absurd (omega (arith, below))

  -- a search has made a step
  pub visited_seen : (t : PlainTree Key Query Item) (at search : ℕ) (run : RunningSearch Query) (p q : PlainProgress Item) (nodes : Slots (Node C)) → search_at t.running search ≡ Some run → IsFirstOf search t.progress at → ((d : PlainProgress Item) → slice_index_or t.progress at d ≡ p) → (x : Handle) (memo : ℕ) (rest : List (Handle × ℕ)) → p.stack ≡ rest ++ (x, memo) ∷ [] → q.number ≡ search → p.number ≡ search → HasSeenAt C run.query t.counter t.running t.nodes nodes x memo rest p q → IsVisited (tree_of C t) (tree_of C (record t { nodes = nodes; progress = slice_set t.progress at q })) search x memo
  visited_seen t at search run p q nodes runs first reads x memo rest popped number named seen =
      record {
        search = record { query = run.query; begun = run.begun; stack = p.stack; found = p.found };
        rest = rest;
        popped = popped;
        node = seen.node;
        attached = _;
        numbers = with_one_kept C t search seen.node.attached;
        joins = one_joins C t search seen.node.attached (rw runs refl);
        entries = seen.entries;
        consistent = seen.consistent;
        pairs = seen.pairs;
        matching = seen.matching;
        nodes = record { before = seen.is; after = rw (seen.changed.here, seen.is, named) refl; others = seen.changed.others };
        searches = record {
          before = rw (runs, first_read search t.progress at p first reads) refl;
          after = rw (runs, set_here search t.progress at q first number, seen.stack, seen.found) refl;
          others = λ s apart. ap (search_of (search_at t.running s)) (set_other search s t.progress at q first number apart);
        };
        clock = record { root = refl; counter = refl; next = refl };
      }

  pub visited_gone : (t : PlainTree Key Query Item) (at search : ℕ) (run : RunningSearch Query) (p q : PlainProgress Item) (nodes : Slots (Node C)) → search_at t.running search ≡ Some run → IsFirstOf search t.progress at → ((d : PlainProgress Item) → slice_index_or t.progress at d ≡ p) → (x : Handle) (memo : ℕ) (rest : List (Handle × ℕ)) → p.stack ≡ rest ++ (x, memo) ∷ [] → q.number ≡ search → IsGoneAt C run.query t.nodes nodes x rest p q → IsVisitedGone (tree_of C t) (tree_of C (record t { nodes = nodes; progress = slice_set t.progress at q })) search x memo
  visited_gone t at search run p q nodes runs first reads x memo rest popped number gone =
      record {
        search = record { query = run.query; begun = run.begun; stack = p.stack; found = p.found };
        rest = rest;
        popped = popped;
        gone = gone.gone;
        nodes = record { look = gone.same.each };
        searches = record {
          before = rw (runs, first_read search t.progress at p first reads) refl;
          after = rw (runs, set_here search t.progress at q first number, gone.stack, gone.found) refl;
          others = λ s apart. ap (search_of (search_at t.running s)) (set_other search s t.progress at q first number apart);
        };
        clock = record { root = refl; counter = refl; next = refl };
      }

  pub visit_step : (t : PlainTree Key Query Item) (at search : ℕ) (run : RunningSearch Query) (p q : PlainProgress Item) (nodes : Slots (Node C)) → search_at t.running search ≡ Some run → IsFirstOf search t.progress at → ((d : PlainProgress Item) → slice_index_or t.progress at d ≡ p) → HasVisited C run.query t.counter t.running t.nodes nodes p q → IsStep (tree_of C t) (tree_of C (record t { nodes = nodes; progress = slice_set t.progress at q }))
  visit_step t at search run p q nodes runs first reads visited =
      let named : p.number ≡ search = ap (λ (d : PlainProgress Item). d.number) (sym (reads p)) ∙ first.named p in
      elim visited.outcome [
        | inl seen ↦ visits search visited.x visited.memo (visited_seen t at search run p q nodes runs first reads visited.x visited.memo visited.rest visited.popped (visited.number ∙ named) named seen)
        | inr gone ↦ visits_gone search visited.x visited.memo (visited_gone t at search run p q nodes runs first reads visited.x visited.memo visited.rest visited.popped (visited.number ∙ named) gone)
      ]
