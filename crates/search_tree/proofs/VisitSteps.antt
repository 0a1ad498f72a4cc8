-- What a visit leaves, as callers see it.
use Rattle.std.proofs.Common.{◌≡◌, ◌≢◌, ℕ, false, List, [], ◌∷◌, ◌++◌, slice_index_or, slice_set, Option, Some, None, is_some, refl, sym, ap, subst, ◌∙◌, inl, inr, arith, append-nil}
use Rattle.std.specs.Option.{option_map}
use Rattle.std.proofs.lemmas.Bool.{cases_eq}
use Rattle.node_arena.specs.Slots.{Slots, value_at}
use Rattle.node_arena.specs.declared.handle.Handle.{Handle}
use Rattle.predicate_locks.specs.Searches.{search_at}
use Rattle.predicate_locks.specs.declared.running.RunningSearch.{RunningSearch}
use Rattle.tree_theory.proofs.ContentsKept.{contents_closed, contents_visited, contents_visited_gone}
use Rattle.tree_theory.proofs.ListLemmas.{picked_from, nothing_in, handle_cases}
use Rattle.tree_theory.proofs.SearchVisit.{searches_closed}
use Rattle.tree_theory.proofs.ShapeKept.{shape_closed}
use Rattle.tree_theory.proofs.Steps.{step_keeps}
use Rattle.tree_theory.specs.KeyClasses.{Class, Laws}
use Rattle.tree_theory.specs.Nodes.{Node}
use Rattle.tree_nodes.specs.Arenas.{AreSame, IsChanged}
use Rattle.search_tree.specs.Calls.{IsAlike, IsFurther, IsUntouched}
use Rattle.tree_nodes.specs.Progresses.{PlainProgress, SameButRoom, is_empty}
use Rattle.search_tree.specs.Trees.{PlainTree, IsFirstOf, IsSound, search_of, search_in, steps_in, steps_of, progress_at, seen, tree_of, level_of}
use Rattle.tree_nodes.specs.Visits.{HasVisited}
use Rattle.search_tree.proofs.ProgressLemmas.{differ_set, first_read, set_here, set_other}
use Rattle.search_tree.proofs.TreeSteps.{same_tree, visit_step, visited_seen, visited_gone}

module _ {Key Query Item : Type 0} (C : Class Key Query Item) (t : PlainTree Key Query Item) (at search : ℕ) where
  abbrev changed : Slots (Node C) → PlainProgress Item → PlainTree Key Query Item
  changed nodes q = record t { nodes = nodes; progress = slice_set t.progress at q }

  -- exactly the running searches still have progress
  each_still : (p q : PlainProgress Item) → IsFirstOf search t.progress at → ((d : PlainProgress Item) → slice_index_or t.progress at d ≡ p) → q.number ≡ search → IsSound C t → (s : ℕ) → is_some (progress_at s (slice_set t.progress at q)) ≡ is_some (search_at t.running s)
  each_still p q first reads number sound s = elim (cases_eq s search) [
    | inl same ↦
        subst (λ n. is_some (progress_at n (slice_set t.progress at q)) ≡ is_some (search_at t.running n)) (sym same)
        (rw (set_here search t.progress at q first number) (sym (ap is_some (first_read search t.progress at p first reads)) ∙ sound.progress_of_each search))
    | inr other ↦ rw (set_other search s t.progress at q first number other) (sound.progress_of_each s)
  ]

  pub visited_sound : Laws C → (run : RunningSearch Query) (p q : PlainProgress Item) (nodes : Slots (Node C)) → search_at t.running search ≡ Some run → IsFirstOf search t.progress at → ((d : PlainProgress Item) → slice_index_or t.progress at d ≡ p) → HasVisited C run.query t.counter t.running t.nodes nodes p q → IsSound C t → IsSound C (changed nodes q)
  visited_sound laws run p q nodes runs first reads visited sound =
      let named : p.number ≡ search = ap (λ (d : PlainProgress Item). d.number) (sym (reads p)) ∙ first.named p in
      record {
        invariant = step_keeps laws sound.invariant (visit_step C t at search run p q nodes runs first reads visited);
        progress_of_each = each_still p q first reads (visited.number ∙ named) sound;
        progress_once = differ_set search t.progress at q first (visited.number ∙ named) sound.progress_once;
        limited = sound.limited;
      }

  -- searches are unchanged where only the room has changed
  same_searches : (p q : PlainProgress Item) (nodes : Slots (Node C)) → IsFirstOf search t.progress at → ((d : PlainProgress Item) → slice_index_or t.progress at d ≡ p) → SameButRoom p q → (s : ℕ) → search_of (search_at t.running s) (progress_at s (slice_set t.progress at q)) ≡ search_of (search_at t.running s) (progress_at s t.progress)
  same_searches p q nodes first reads same s = elim (cases_eq s search) [
    | inl e ↦
        subst (λ n. search_of (search_at t.running n) (progress_at n (slice_set t.progress at q)) ≡ search_of (search_at t.running n) (progress_at n t.progress)) (sym e)
        (rw (set_here search t.progress at q first number, first_read search t.progress at p first reads) (by (search_at t.running search)))
    | inr other ↦ ap (search_of (search_at t.running s)) (set_other search s t.progress at q first number other)
  ]
    where
      number : q.number ≡ search
      number = ap (λ (d : PlainProgress Item). d.number) same ∙ (ap (λ (d : PlainProgress Item). d.number) (sym (reads p)) ∙ first.named p)

      by : (o : Option (RunningSearch Query)) → search_of o (Some q) ≡ search_of o (Some p)
      by None = refl
      by (Some r) = rw same refl

  pub roomier_sound : (p q : PlainProgress Item) (nodes : Slots (Node C)) → IsFirstOf search t.progress at → ((d : PlainProgress Item) → slice_index_or t.progress at d ≡ p) → AreSame t.nodes nodes → SameButRoom p q → IsSound C t → IsSound C (changed nodes q)
  roomier_sound p q nodes first reads same_nodes same sound =
      let number : q.number ≡ search = ap (λ (d : PlainProgress Item). d.number) same ∙ (ap (λ (d : PlainProgress Item). d.number) (sym (reads p)) ∙ first.named p) in
      let step = same_tree C (tree_of C t) (tree_of C (changed nodes q)) sound.invariant same_nodes.each refl refl refl (same_searches p q nodes first reads same) in
      record {
        invariant = record { shape = shape_closed sound.invariant.shape step; searches = searches_closed sound.invariant.shape sound.invariant.searches step };
        progress_of_each = each_still p q first reads number sound;
        progress_once = differ_set search t.progress at q first number sound.progress_once;
        limited = sound.limited;
      }

  roomier_alike : (p q : PlainProgress Item) (nodes : Slots (Node C)) → IsFirstOf search t.progress at → ((d : PlainProgress Item) → slice_index_or t.progress at d ≡ p) → AreSame t.nodes nodes → SameButRoom p q → IsSound C t → IsAlike C t (changed nodes q)
  roomier_alike p q nodes first reads same_nodes same sound =
      let step = same_tree C (tree_of C t) (tree_of C (changed nodes q)) sound.invariant same_nodes.each refl refl refl (same_searches p q nodes first reads same) in
      record {
        searches = λ s. ap (option_map seen) (same_searches p q nodes first reads same s);
        steps = λ s. elim (cases_eq s search) [
          | inl e ↦
              subst (λ n. steps_in (changed nodes q) n ≡ steps_in t n) (sym e)
              (rw (set_here search t.progress at q first (ap (λ (d : PlainProgress Item). d.number) same ∙ (ap (λ (d : PlainProgress Item). d.number) (sym (reads p)) ∙ first.named p)), first_read search t.progress at p first reads, same) refl)
          | inr other ↦ ap steps_of (set_other search s t.progress at q first (ap (λ (d : PlainProgress Item). d.number) same ∙ (ap (λ (d : PlainProgress Item). d.number) (sym (reads p)) ∙ first.named p)) other)
        ];
        running = refl;
        contents = λ xs. contents_closed step;
        counts = record { counter = refl; limit = refl; level = ap level_of (same_nodes.each t.root); taken = same_nodes.counts.taken; slots = same_nodes.counts.slots };
      }

  pub roomier_call : (p q : PlainProgress Item) (nodes : Slots (Node C)) → IsFirstOf search t.progress at → ((d : PlainProgress Item) → slice_index_or t.progress at d ≡ p) → AreSame t.nodes nodes → SameButRoom p q → IsSound C t → IsUntouched C t (changed nodes q)
  roomier_call p q nodes first reads same_nodes same sound =
      record {
        alike = roomier_alike p q nodes first reads same_nodes same sound;
        root = refl;
        nodes = record { look = same_nodes.each };
        searches = record { search = same_searches p q nodes first reads same };
      }

  pub not_empty : {T : Type 0} (xs : List T) (x : T) → is_empty (xs ++ x ∷ []) ≡ false
  not_empty [] x = refl
  not_empty (y ∷ xs) x = refl

  -- a change of one node that keeps its level keeps the root's level
  pub level_kept : (nodes : Slots (Node C)) (x : Handle) (change : Node C → Node C) → IsChanged t.nodes nodes x change → ((n : Node C) → (change n).level ≡ n.level) → level_of (value_at nodes t.root) ≡ level_of (value_at t.nodes t.root)
  level_kept nodes x change is same = elim (handle_cases t.root x) [
    | inl e ↦ subst (λ h. level_of (value_at nodes h) ≡ level_of (value_at t.nodes h)) (sym e) (rw is.here (by (value_at t.nodes x)))
    | inr apart ↦ ap level_of (is.others t.root apart)
  ]
    where
      by : (o : Option (Node C)) → level_of (option_map change o) ≡ level_of o
      by None = refl
      by (Some n) = same n

  pub visited_call : (run : RunningSearch Query) (p q : PlainProgress Item) (nodes : Slots (Node C)) → search_at t.running search ≡ Some run → IsFirstOf search t.progress at → ((d : PlainProgress Item) → slice_index_or t.progress at d ≡ p) → HasVisited C run.query t.counter t.running t.nodes nodes p q → IsFurther C t (changed nodes q) search (is_empty q.stack)
  visited_call run p q nodes runs first reads visited =
      let named : p.number ≡ search = ap (λ (d : PlainProgress Item). d.number) (sym (reads p)) ∙ first.named p in
      let number : q.number ≡ search = visited.number ∙ named in
      let old = first_read search t.progress at p first reads in
      let new = set_here search t.progress at q first number in
      let others : (other : ℕ) → other ≢ search → (search_in (changed nodes q) other ≡ search_in t other) × (steps_in (changed nodes q) other ≡ steps_in t other) =
      λ other apart. let e = set_other search other t.progress at q first number apart in (ap (λ o. option_map seen (search_of (search_at t.running other) o)) e, ap steps_of e) in
      elim visited.outcome [
        | inl saw ↦ record {
          before = record { query = run.query; found = p.found; ready = false };
          ran = rw (runs, old, visited.popped, not_empty visited.rest (visited.x, visited.memo)) refl;
          was_not_ready = refl;
          pairs = saw.pairs;
          few = saw.few;
          match = λ pair is_in. (picked_from pair saw.matching is_in).1;
          in_tree = λ pair is_in. record { handle = visited.x; node = saw.node; is = saw.is; pair_in = (picked_from pair saw.matching is_in).0 };
          now = rw (runs, new, saw.found) refl;
          steps = rw (new, old) visited.steps;
          others = others;
          running = refl;
          contents = λ xs. contents_visited (visited_seen C t at search run p q nodes runs first reads visited.x visited.memo visited.rest visited.popped number named saw);
          counts = record { counter = refl; limit = refl; level = level_kept nodes visited.x _ saw.changed (λ n. refl); taken = saw.changed.counts.taken; slots = saw.changed.counts.slots };
          step = record { node = visited.x; memo = visited.memo; sees = inl (visited_seen C t at search run p q nodes runs first reads visited.x visited.memo visited.rest visited.popped number named saw) };
        }
        | inr gone ↦ record {
          before = record { query = run.query; found = p.found; ready = false };
          ran = rw (runs, old, visited.popped, not_empty visited.rest (visited.x, visited.memo)) refl;
          was_not_ready = refl;
          pairs = [];
          few = omega arith;
          match = λ pair is_in. absurd (nothing_in pair is_in);
          in_tree = λ pair is_in. absurd (nothing_in pair is_in);
          now = rw (runs, new, gone.found, append-nil p.found) refl;
          steps = rw (new, old) visited.steps;
          others = others;
          running = refl;
          contents = λ xs. contents_visited_gone (visited_gone C t at search run p q nodes runs first reads visited.x visited.memo visited.rest visited.popped number gone);
          counts = record { counter = refl; limit = refl; level = ap level_of (gone.same.each t.root); taken = gone.same.counts.taken; slots = gone.same.counts.slots };
          step = record { node = visited.x; memo = visited.memo; sees = inr (visited_gone C t at search run p q nodes runs first reads visited.x visited.memo visited.rest visited.popped number gone) };
        }
      ]
