-- What a visit reads and leaves, in the terms of `Calls`.
use Rattle.std.proofs.Common.{◌≡◌, ℕ, ◌<◌, ◌≤◌, true, false, [], slice_index_or, slice_set, Option, Some, None, Result, Ok, Err, OnErr, is_some, refl, sym, ap, subst, ◌∙◌, arith}
use Rattle.std.specs.Option.{option_map}
use Rattle.node_arena.specs.Slots.{Slots}
use Rattle.predicate_locks.specs.Searches.{search_at}
use Rattle.predicate_locks.specs.declared.running.RunningSearch.{RunningSearch}
use Rattle.tree_theory.specs.KeyClasses.{Class, Laws}
use Rattle.tree_theory.specs.Nodes.{Node}
use Rattle.predicate_locks.specs.Searches.{last_number}
use Rattle.search_tree.specs.Calls.{IsFurther, IsOverrun, IsReadyIn, IsUnderWay, MayVisit}
use Rattle.tree_nodes.specs.Progresses.{PlainProgress, is_empty}
use Rattle.search_tree.specs.Trees.{PlainTree, IsFirstOf, IsSound, search_in, steps_in, steps_of, progress_at}
use Rattle.tree_nodes.specs.Visits.{HasVisited}
use Rattle.tree_nodes.proofs.ListEnds.{read_any, read_self}
use Rattle.search_tree.proofs.ProgressLemmas.{first_read}
use Rattle.search_tree.proofs.VisitSteps.{visited_sound, visited_call}

-- a search that runs has a query
pub no_query : {Q : Type 0} (o : Option (RunningSearch Q)) → option_map (λ (s : RunningSearch Q). s.query) o ≡ None → is_some o ≡ true → ⊥
no_query None e some = absurd (cc (some))
no_query (Some run) e some = absurd (cc (e))

pub on_err : {T E : Type 0} (r : Result T E) (P : Type 0) → P → OnErr r P
on_err (Ok x) P p = tt
on_err (Err e) P p = p

pub same_ready : {Item : Type 0} (a b : PlainProgress Item) → a ≡ b → is_empty a.stack ≡ is_empty b.stack
same_ready {Item = Item} a b e = ap (λ (p : PlainProgress Item). is_empty p.stack) e

module _ {Key Query Item : Type 0} (C : Class Key Query Item) (t : PlainTree Key Query Item) (search at : ℕ) where
  -- the search runs, and this is its progress
  pub record RunsAt (p : PlainProgress Item) : Type 0 where
    pub run : RunningSearch Query
    pub is_run : search_at t.running search ≡ Some run
    pub way : progress_at search t.progress ≡ Some p
    pub seen_is : search_in t search ≡ Some (record { query = run.query; found = p.found; ready = is_empty p.stack })
    pub steps_is : steps_in t search ≡ p.steps

  pub runs_at : (p : PlainProgress Item) → IsSound C t → IsFirstOf search t.progress at → slice_index_or t.progress at p ≡ p → RunsAt p
  runs_at p sound first reads = by (search_at t.running search) refl
    where
      way : progress_at search t.progress ≡ Some p
      way = first_read search t.progress at p first (λ d. read_any t.progress at p d first.within reads)

      by : (o : Option (RunningSearch Query)) → search_at t.running search ≡ o → RunsAt p
      by None e = let no : true ≡ false = sym (ap is_some way) ∙ (sound.progress_of_each search ∙ ap is_some e) in absurd (cc)
      by (Some run) e = record {
        run = run;
        is_run = e;
        way = way;
        seen_is = rw (e, way) refl;
        steps_is = ap steps_of way;
      }

  -- two readings of one index are equal
  pub read_once : (a b : PlainProgress Item) → IsFirstOf search t.progress at → slice_index_or t.progress at a ≡ a → slice_index_or t.progress at b ≡ b → a ≡ b
  read_once a b first one other = sym (read_any t.progress at a b first.within one) ∙ other

  query_is : (o : Option (RunningSearch Query)) (run : RunningSearch Query) (query : Query) → o ≡ Some run → Some query ≡ option_map (λ (s : RunningSearch Query). s.query) o → query ≡ run.query
  query_is o run query e told = let same : Some query ≡ Some run.query = told ∙ ap (option_map (λ (s : RunningSearch Query). s.query)) e in cc (same)

  pub after_visit : Laws C → (query : Query) (p q : PlainProgress Item) (nodes : Slots (Node C)) → IsSound C t → IsFirstOf search t.progress at → slice_index_or t.progress at p ≡ p → Some query ≡ option_map (λ (s : RunningSearch Query). s.query) (search_at t.running search) → HasVisited C query t.counter t.running t.nodes nodes p q → IsSound C (record t { nodes = nodes; progress = slice_set t.progress at q })
  after_visit laws query p q nodes sound first reads told visited =
      let runs = runs_at p sound first reads in
      visited_sound C t at search laws runs.run p q nodes runs.is_run first (λ d. read_any t.progress at p d first.within reads)
      (subst (λ z. HasVisited C z t.counter t.running t.nodes nodes p q) (query_is (search_at t.running search) runs.run query runs.is_run told) visited) sound

  pub visit_call : (query : Query) (p q : PlainProgress Item) (nodes : Slots (Node C)) → IsSound C t → IsFirstOf search t.progress at → slice_index_or t.progress at p ≡ p → Some query ≡ option_map (λ (s : RunningSearch Query). s.query) (search_at t.running search) → HasVisited C query t.counter t.running t.nodes nodes p q → IsFurther C t (record t { nodes = nodes; progress = slice_set t.progress at q }) search (is_empty q.stack)
  visit_call query p q nodes sound first reads told visited =
      let runs = runs_at p sound first reads in
      visited_call C t at search runs.run p q nodes runs.is_run first (λ d. read_any t.progress at p d first.within reads)
      (subst (λ z. HasVisited C z t.counter t.running t.nodes nodes p q) (query_is (search_at t.running search) runs.run query runs.is_run told) visited)

  -- the state of a search
  pub now_ready : (p : PlainProgress Item) → IsSound C t → IsFirstOf search t.progress at → slice_index_or t.progress at p ≡ p → is_empty p.stack ≡ true → IsReadyIn t search
  now_ready p sound first reads empty = let runs = runs_at p sound first reads in rw (runs.seen_is, empty) refl

  pub now_spent : (p : PlainProgress Item) → IsSound C t → IsFirstOf search t.progress at → slice_index_or t.progress at p ≡ p → is_empty p.stack ≡ false → t.limit ≤ p.steps → IsOverrun t search
  now_spent p sound first reads more spent =
      let runs = runs_at p sound first reads in
      record { waits = rw (runs.seen_is, more) refl; spent = rw runs.steps_is spent }

  pub now_waits : (p : PlainProgress Item) → IsSound C t → IsFirstOf search t.progress at → slice_index_or t.progress at p ≡ p → is_empty p.stack ≡ false → p.steps < t.limit → t.limit ≤ last_number → IsUnderWay t search × MayVisit t search at
  now_waits p sound first reads more left most =
      let runs = runs_at p sound first reads in (
        record { waits = rw (runs.seen_is, more) refl; left = rw runs.steps_is left },
        record {
          first = first;
          waits = λ q is. subst (λ (r : PlainProgress Item). is_empty r.stack ≡ false) (read_once p q first reads is) more;
          steps = λ q is. subst (λ (r : PlainProgress Item). r.steps < last_number) (read_once p q first reads is) (omega (arith, left, most));
        },
      )

  pub runs_somewhere : IsSound C t → IsFirstOf search t.progress at → is_some (search_at t.running search) ≡ true
  runs_somewhere sound first =
      let none : PlainProgress Item = record { number = 0; steps = 0; stack = []; found = []; stack_places = 0; found_places = 0 } in
      let runs = runs_at (slice_index_or t.progress at none) sound first (read_self t.progress at none first.within) in
      rw runs.is_run refl
