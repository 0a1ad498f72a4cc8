-- Attached numbers, without those that do not run.
use Rattle.std.proofs.Common.{◌≡◌, ℕ, Bool, true, false, cond, List, [], ◌∷◌, Contains, filter, Option, Some, None, refl, sym, subst, ◌∙◌, inl, inr}
use Rattle.predicate_locks.proofs.NumberLemmas.{with_one, with_all}
use Rattle.predicate_locks.specs.Numbers.{with_number, with_numbers}
use Rattle.predicate_locks.specs.Searches.{does_run, search_at}
use Rattle.predicate_locks.specs.declared.running.RunningSearch.{RunningSearch}
use Rattle.tree_theory.proofs.ListLemmas.{first_in, later_in, in_cases, in_one, nothing_in}
use Rattle.tree_theory.specs.Changes.{Numbers}
use Rattle.tree_theory.specs.KeyClasses.{Class}
use Rattle.tree_theory.specs.Nodes.{PlainSearch, Search}
use Rattle.tree_nodes.specs.Progresses.{PlainProgress}
use Rattle.search_tree.specs.Trees.{PlainTree, search_of, progress_at, tree_of}

module _ {T : Type 0} (f : T → Bool) where
  pub filter_keeps : (xs : List T) (x : T) → Contains xs x → f x ≡ true → Contains (filter f xs) x
  filter_keeps [] x h e = absurd (nothing_in x h)
  filter_keeps (y ∷ xs) x h e = elim (in_cases y xs x h) [
    | inl same ↦ by_here (f y) refl same
    | inr rest ↦ by_there (f y) (filter_keeps xs x rest e)
  ]
    where
      by_here : (b : Bool) → f y ≡ b → y ≡ x → Contains (cond b (y ∷ filter f xs) (filter f xs)) x
      by_here true test same = subst (Contains (y ∷ filter f xs)) same (first_in y (filter f xs))
      by_here false test same = let no : false ≡ true = sym test ∙ subst (λ z. f z ≡ true) (sym same) e in absurd (cc)

      by_there : (b : Bool) → Contains (filter f xs) x → Contains (cond b (y ∷ filter f xs) (filter f xs)) x
      by_there true there = later_in y (filter f xs) x there
      by_there false there = there

  pub filter_from : (xs : List T) (x : T) → Contains (filter f xs) x → Contains xs x
  filter_from [] x h = h
  filter_from (y ∷ xs) x h = by (f y) (λ there. filter_from xs x there) h
    where
      by : (b : Bool) → (Contains (filter f xs) x → Contains xs x) → Contains (cond b (y ∷ filter f xs) (filter f xs)) x → Contains (y ∷ xs) x
      by true goes there = elim (in_cases y (filter f xs) x there) [
        | inl same ↦ subst (Contains (y ∷ xs)) same (first_in y xs)
        | inr rest ↦ later_in y xs x (goes rest)
      ]
      by false goes there = later_in y xs x (goes there)

module _ {Query Item : Type 0} where
  -- a search that has both parts
  pub record Parts (running : Option (RunningSearch Query)) (progress : Option (PlainProgress Item)) (search : PlainSearch Query Item) : Type 0 where
    pub run : RunningSearch Query
    pub is_run : running ≡ Some run
    pub way : PlainProgress Item
    pub is_way : progress ≡ Some way
    pub query : search.query ≡ run.query
    pub begun : search.begun ≡ run.begun
    pub stack : search.stack ≡ way.stack
    pub found : search.found ≡ way.found

  pub parts_of : (running : Option (RunningSearch Query)) (progress : Option (PlainProgress Item)) (search : PlainSearch Query Item) → search_of running progress ≡ Some search → Parts running progress search
  parts_of None progress search e = absurd (cc (e))
  parts_of (Some run) None search e = absurd (cc (e))
  parts_of (Some run) (Some way) search e =
      record { run = run; is_run = refl; way = way; is_way = refl; query = cc (e); begun = cc (e); stack = cc (e); found = cc (e) }

module _ {Key Query Item : Type 0} (C : Class Key Query Item) (t : PlainTree Key Query Item) where
  pub runs_of : (s : ℕ) (search : Search C) → search_of (search_at t.running s) (progress_at s t.progress) ≡ Some search → does_run t.running s ≡ true
  runs_of s search e = let parts = parts_of (search_at t.running s) (progress_at s t.progress) search e in rw parts.is_run refl

  -- one more number
  pub with_one_kept : (number : ℕ) (old : List ℕ) → Numbers (tree_of C t) (λ other. other ≡ number) old (filter (does_run t.running) (with_number number old))
  with_one_kept number old = record {
    keeps = λ s search is has. filter_keeps (does_run t.running) (with_number number old) s ((with_one number old s).1 (inl has)) (runs_of s search is);
    only = λ s has. elim ((with_one number old s).0 (filter_from (does_run t.running) (with_number number old) s has)) [
      | inl before ↦ inl before
      | inr new ↦ inr (sym (in_one number s new))
    ];
  }

  pub one_joins : (number : ℕ) (old : List ℕ) → does_run t.running number ≡ true → Contains (filter (does_run t.running) (with_number number old)) number
  one_joins number old runs = filter_keeps (does_run t.running) (with_number number old) number ((with_one number old number).1 (inr (first_in number []))) runs

  -- several more numbers
  pub with_all_kept : (Also : ℕ → Type 0) (more old : List ℕ) → ((s : ℕ) → Contains more s → Also s) → Numbers (tree_of C t) Also old (filter (does_run t.running) (with_numbers more old))
  with_all_kept Also more old each = record {
    keeps = λ s search is has. filter_keeps (does_run t.running) (with_numbers more old) s ((with_all more old s).1 (inl has)) (runs_of s search is);
    only = λ s has. elim ((with_all more old s).0 (filter_from (does_run t.running) (with_numbers more old) s has)) [
      | inl before ↦ inl before
      | inr new ↦ inr (each s new)
    ];
  }

  pub all_join : (more old : List ℕ) (s : ℕ) → Contains more s → does_run t.running s ≡ true → Contains (filter (does_run t.running) (with_numbers more old)) s
  all_join more old s is_in runs = filter_keeps (does_run t.running) (with_numbers more old) s ((with_all more old s).1 (inr is_in)) runs
