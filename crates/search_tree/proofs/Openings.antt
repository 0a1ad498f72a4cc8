-- How searches begin and end.
use Rattle.std.proofs.Common.{◌≡◌, ◌≢◌, ℕ, ◌==◌, true, false, not, [], ◌∷◌, ◌++◌, ◌+◌, length, length-append, filter, slice_index_or, Option, Some, None, is_some, refl, sym, ap, subst, ◌∙◌, inl, inr}
use Rattle.std.proofs.lemmas.Bool.{cases_eq}
use Rattle.std.proofs.lemmas.List.Kept.{AllPairs-filter}
use Rattle.predicate_locks.specs.Searches.{Searches as RunningSearches, search_at, does_run, IsEntered, IsLeft}
use Rattle.predicate_locks.specs.declared.running.RunningSearch.{RunningSearch}
use Rattle.tree_theory.proofs.ContentsKept.{contents_opened, contents_closed}
use Rattle.tree_theory.proofs.SearchVisit.{searches_opened, searches_closed}
use Rattle.tree_theory.proofs.ShapeKept.{shape_opened, shape_closed}
use Rattle.tree_theory.specs.Changes.{IsOpened, IsClosed}
use Rattle.tree_theory.specs.KeyClasses.{Class}
use Rattle.std.specs.Option.{option_map}
use Rattle.search_tree.specs.Calls.{IsOpen, IsShut, found_in, found_of}
use Rattle.tree_nodes.specs.Progresses.{PlainProgress}
use Rattle.search_tree.specs.Trees.{PlainTree, IsFirstOf, IsSound, search_of, progress_at, search_in, seen, steps_of, tree_of}
use Rattle.tree_nodes.proofs.ListEnds.{read_any}
use Rattle.search_tree.proofs.ProgressLemmas.{differ_pushed, first_read, pushed_here, pushed_other, filtered_here, filtered_none, filtered_other}

none_of : {T : Type 0} (o : Option T) → is_some o ≡ false → o ≡ None
none_of None e = refl
none_of (Some x) e = absurd (cc (e))

module _ {Key Query Item : Type 0} (C : Class Key Query Item) (t : PlainTree Key Query Item) where
  -- one more search, with the root on its stack
  pub record HasEntered (running : RunningSearches Query) (p : PlainProgress Item) (query : Query) : Type 0 where
    pub entered : IsEntered t.running running (record { number = p.number; query = query; begun = t.counter })
    pub listed : running.running ≡ t.running.running ++ record { number = p.number; query = query; begun = t.counter } ∷ []
    pub stack : p.stack ≡ (t.root, t.counter) ∷ []
    pub found : p.found ≡ []
    pub steps : p.steps ≡ 0

  abbrev with_entered : RunningSearches Query → PlainProgress Item → PlainTree Key Query Item
  with_entered running p = record t { running = running; progress = t.progress ++ p ∷ [] }

  absent : {running : RunningSearches Query} {p : PlainProgress Item} {query : Query} → IsSound C t → HasEntered running p query → progress_at p.number t.progress ≡ None
  absent {p = p} sound has = none_of (progress_at p.number t.progress) (sound.progress_of_each p.number ∙ ap is_some has.entered.did_not_run)

  opened_step : {running : RunningSearches Query} {p : PlainProgress Item} {query : Query} → IsSound C t → HasEntered running p query → IsOpened (tree_of C t) (tree_of C (with_entered running p)) query
  opened_step {running = running} {p = p} {query = query} sound has =
      let number : p.number ≡ t.running.next = has.entered.next_number in
      record {
        nodes = record { look = λ h. refl };
        root = refl;
        counter = refl;
        next = has.entered.next;
        search =
            subst (λ n. search_of (search_at running n) (progress_at n (t.progress ++ p ∷ [])) ≡ Some (record { query = query; begun = t.counter; stack = (t.root, t.counter) ∷ []; found = [] })) number
            (rw (has.entered.runs, pushed_here t.progress p (absent sound has), has.stack, has.found) refl);
        others = λ x apart.
            let other : p.number ≢ x = λ e. apart (sym e ∙ number) in
            rw (has.entered.others x (λ e. other (sym e)), pushed_other x t.progress p other) refl;
      }

  pub opened_sound : {running : RunningSearches Query} {p : PlainProgress Item} {query : Query} → IsSound C t → HasEntered running p query → IsSound C (with_entered running p)
  opened_sound {running = running} {p = p} sound has =
      let step = opened_step sound has in
      record {
        invariant = record { shape = shape_opened sound.invariant.shape step; searches = searches_opened sound.invariant.shape sound.invariant.searches step };
        progress_of_each = λ s. elim (cases_eq p.number s) [
          | inl same ↦ subst (λ n. is_some (progress_at n (t.progress ++ p ∷ [])) ≡ is_some (search_at running n)) same (rw (has.entered.runs, pushed_here t.progress p (absent sound has)) refl)
          | inr other ↦ rw (has.entered.others s (λ e. other (sym e)), pushed_other s t.progress p other) (sound.progress_of_each s)
        ];
        progress_once = differ_pushed t.progress p (absent sound has) sound.progress_once;
        limited = sound.limited;
      }

  pub opened_call : {running : RunningSearches Query} {p : PlainProgress Item} {query : Query} → IsSound C t → HasEntered running p query → IsOpen C t (with_entered running p) query p.number
  opened_call {running = running} {p = p} {query = query} sound has =
      record {
        number = has.entered.next_number;
        did_not_run = rw has.entered.did_not_run refl;
        runs = rw (has.entered.runs, pushed_here t.progress p (absent sound has), has.stack, has.found) refl;
        others = λ x apart. rw (has.entered.others x apart, pushed_other x t.progress p (λ e. apart (sym e))) refl;
        next = has.entered.next;
        more = ap length has.listed ∙ length-append t.running.running (record { number = p.number; query = query; begun = t.counter } ∷ []);
        contents = λ xs. contents_opened (opened_step sound has);
        counts = record { counter = refl; limit = refl; level = refl; taken = refl; slots = refl };
        begun = rw has.entered.runs refl;
        steps = rw (pushed_here t.progress p (absent sound has)) has.steps;
        others_begun = λ x apart. ap (option_map (λ (run : RunningSearch Query). run.begun)) (has.entered.others x apart);
        others_steps = λ x apart. ap steps_of (pushed_other x t.progress p (λ e. apart (sym e)));
        step = opened_step sound has;
      }

  -- one search less
  abbrev without : RunningSearches Query → ℕ → PlainTree Key Query Item
  without running number = record t { running = running; progress = filter (λ p. not (p.number == number)) t.progress }

  closed_step : {running : RunningSearches Query} {number : ℕ} → IsLeft t.running running number → IsClosed (tree_of C t) (tree_of C (without running number)) number
  closed_step {running = running} {number = number} left =
      record {
        nodes = record { look = λ h. refl };
        clock = record { root = refl; counter = refl; next = left.next };
        search = rw left.gone refl;
        others = λ x apart. rw (left.others x apart, filtered_other number x t.progress apart) refl;
      }

  pub closed_sound : {running : RunningSearches Query} {number : ℕ} → IsSound C t → IsLeft t.running running number → IsSound C (without running number)
  closed_sound {running = running} {number = number} sound left =
      let step = closed_step left in
      record {
        invariant = record { shape = shape_closed sound.invariant.shape step; searches = searches_closed sound.invariant.shape sound.invariant.searches step };
        progress_of_each = λ s. elim (cases_eq s number) [
          | inl same ↦ subst (λ n. is_some (progress_at n (filter (λ p. not (p.number == number)) t.progress)) ≡ is_some (search_at running n)) (sym same) (rw (left.gone, filtered_here number t.progress) refl)
          | inr other ↦ rw (left.others s other, filtered_other number s t.progress other) (sound.progress_of_each s)
        ];
        progress_once = AllPairs-filter (λ (p q : PlainProgress Item). p.number ≢ q.number) (λ p. not (p.number == number)) t.progress sound.progress_once;
        limited = sound.limited;
      }

  -- a search that callers see runs
  seen_runs : (number : ℕ) → is_some (search_in t number) ≡ true → does_run t.running number ≡ true
  seen_runs number has = go (search_at t.running number) refl
    where
      go : (o : Option (RunningSearch Query)) → search_at t.running number ≡ o → does_run t.running number ≡ true
      go None e = let no : false ≡ true = sym (ap (λ o. is_some (option_map seen (search_of o (progress_at number t.progress)))) e) ∙ has in absurd (cc)
      go (Some run) e = ap is_some e

  -- a search that callers do not see does not run
  unseen_rests : (number : ℕ) → IsSound C t → search_in t number ≡ None → does_run t.running number ≡ false
  unseen_rests number sound none = by (search_at t.running number) (progress_at number t.progress) (sound.progress_of_each number) none
    where
      by : (o : Option (RunningSearch Query)) (way : Option (PlainProgress Item)) → is_some way ≡ is_some o → option_map seen (search_of o way) ≡ None → is_some o ≡ false
      by None way each none = refl
      by (Some run) None each none = sym each
      by (Some run) (Some p) each none = absurd (cc (none))

  nothing_closed : (running : RunningSearches Query) (number : ℕ) → IsSound C t → (does_run t.running number ≡ false → running ≡ t.running) → search_in t number ≡ None → without running number ≡ t
  nothing_closed running number sound same none =
      let rests = unseen_rests number sound none in
      let progress = filtered_none number t.progress (none_of (progress_at number t.progress) (sound.progress_of_each number ∙ rests)) in
      rw (same rests, progress) refl

  pub closed_call : {running : RunningSearches Query} {number : ℕ} → IsSound C t → IsLeft t.running running number
      → (does_run t.running number ≡ true → length running.running + 1 ≡ length t.running.running) → (does_run t.running number ≡ false → running ≡ t.running) → IsShut C t (without running number) number
  closed_call {running = running} {number = number} sound left fewer same =
      record {
        gone = rw left.gone refl;
        others = λ x apart. rw (left.others x apart, filtered_other number x t.progress apart) refl;
        next = left.next;
        fewer = λ has. fewer (seen_runs number has);
        contents = λ xs. contents_closed (closed_step left);
        counts = record { counter = refl; limit = refl; level = refl; taken = refl; slots = refl };
        others_begun = λ x apart. ap (option_map (λ (run : RunningSearch Query). run.begun)) (left.others x apart);
        others_steps = λ x apart. ap steps_of (filtered_other number x t.progress apart);
        step = closed_step left;
        nothing = λ none. nothing_closed running number sound same none;
      }

  -- what a search has found is in its progress
  pub found_there : (search at : ℕ) (p : PlainProgress Item) → IsSound C t → IsFirstOf search t.progress at → slice_index_or t.progress at p ≡ p → found_in t search ≡ p.found
  found_there search at p sound first reads = by (search_at t.running search) refl
    where
      is_there : progress_at search t.progress ≡ Some p
      is_there = first_read search t.progress at p first (λ d. read_any t.progress at p d first.within reads)

      by : (o : Option (RunningSearch Query)) → search_at t.running search ≡ o → found_of (option_map seen (search_of o (progress_at search t.progress))) ≡ p.found
      by None e = let no : true ≡ false = sym (ap is_some is_there) ∙ (sound.progress_of_each search ∙ ap is_some e) in absurd (cc)
      by (Some run) e = rw is_there refl
