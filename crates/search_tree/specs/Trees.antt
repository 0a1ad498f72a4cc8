-- The tree as its contracts see it.
use Rattle.std.specs.Prelude.{◌≡◌, ◌≢◌, ◌==◌, ◌<◌, ◌≤◌, ℕ, AllPairs, Bool, [], ◌∷◌, List, length, slice_index_or, Option, None, Some, is_some, if◌then◌else◌}
use Rattle.std.specs.Option.{option_map}
use Rattle.node_arena.specs.Slots.{Slots, value_at, slot_count, taken_count}
use Rattle.node_arena.specs.declared.handle.Handle.{Handle}
use Rattle.predicate_locks.specs.Searches.{Searches, search_at}
use Rattle.predicate_locks.specs.declared.running.RunningSearch.{RunningSearch}
use Rattle.tree_theory.specs.Contents.{IsContents}
use Rattle.tree_theory.specs.Invariant.{Invariant}
use Rattle.tree_theory.specs.KeyClasses.{Class}
use Rattle.tree_theory.specs.Nodes.{PlainNode, PlainSearch, Tree}
use Rattle.tree_answers.specs.declared.limits.TheConstants.{MAX_STEPS}
use Rattle.tree_nodes.specs.Progresses.{PlainProgress, is_empty}
use Rattle.tree_nodes.specs.NewNodes.{first_leaf}

abbrev pub level_of : {Key Item : Type 0} → Option (PlainNode Key Item) → ℕ
level_of None = 0
level_of (Some node) = node.level

module _ {Item : Type 0} where
  -- the progress of the search with this number
  abbrev pub progress_at : ℕ → List (PlainProgress Item) → Option (PlainProgress Item)
  progress_at number [] = None
  progress_at number (progress ∷ rest) =
      if progress.number == number then Some progress else progress_at number rest

  abbrev pub steps_of : Option (PlainProgress Item) → ℕ
  steps_of None = 0
  steps_of (Some progress) = progress.steps

  -- no two have the same number
  abbrev pub NumbersDiffer : List (PlainProgress Item) → Type 0
  NumbersDiffer ps = AllPairs (λ (p q : PlainProgress Item). p.number ≢ q.number) ps

  -- the first index with the number
  pub record IsFirstOf (number : ℕ) (ps : List (PlainProgress Item)) (at : ℕ) : Type 0 where
    pub within : at < length ps
    pub named : (d : PlainProgress Item) → (slice_index_or ps at d).number ≡ number
    pub before : (k : ℕ) (d : PlainProgress Item) → k < at → (slice_index_or ps k d).number ≢ number

-- the nodes, the counter, the running searches and their progress, and the limit of steps
pub record PlainTree (Key Query Item : Type 0) : Type 0 where
  pub nodes : Slots (PlainNode Key Item)
  pub root : Handle
  pub counter : ℕ
  pub running : Searches Query
  pub progress : List (PlainProgress Item)
  pub limit : ℕ

-- a search from its two parts
abbrev pub search_of : {Query Item : Type 0} → Option (RunningSearch Query)
    → Option (PlainProgress Item) → Option (PlainSearch Query Item)
search_of None progress = None
search_of (Some running) None = None
search_of (Some running) (Some progress) =
    Some
    (record {
      query = running.query;
      begun = running.begun;
      stack = progress.stack;
      found = progress.found;
    })

-- a walk: its pair, the node where it is, its steps, and whether the pair is placed
pub record PlainWalk (Item : Type 0) : Type 0 where
  pub key : ℕ
  pub item : Item
  pub at : Handle
  pub steps : ℕ
  pub placed : Bool

-- a search as callers know it: its query, what it has found, and whether it has seen all there is
pub record SeenSearch (Query Item : Type 0) : Type 0 where
  pub query : Query
  pub found : List (ℕ × Item)
  pub ready : Bool

abbrev pub seen : {Query Item : Type 0} → PlainSearch Query Item → SeenSearch Query Item
seen search = record { query = search.query; found = search.found; ready = is_empty search.stack }

module _ {Key Query Item : Type 0} where
  -- the search with this number, if it runs
  abbrev pub search_in : PlainTree Key Query Item → ℕ → Option (SeenSearch Query Item)
  search_in t s = option_map seen (search_of (search_at t.running s) (progress_at s t.progress))

  -- how many steps the search with this number has made
  abbrev pub steps_in : PlainTree Key Query Item → ℕ → ℕ
  steps_in t s = steps_of (progress_at s t.progress)

  -- the level of the root
  abbrev pub root_level : PlainTree Key Query Item → ℕ
  root_level t = level_of (value_at t.nodes t.root)

module _ {Key Query Item : Type 0} (C : Class Key Query Item) where
  -- the tree of the theory
  abbrev pub tree_of : PlainTree Key Query Item → Tree C
  tree_of t =
      record {
        look = value_at t.nodes;
        root = t.root;
        counter = t.counter;
        next = t.running.next;
        searches = λ s. search_of (search_at t.running s) (progress_at s t.progress);
      }

  -- what every tree keeps
  pub record IsSound (t : PlainTree Key Query Item) : Type 0 where
    pub invariant : Invariant (tree_of t)
    -- each running search has its progress, exactly once, and nothing else has one
    pub progress_of_each : (s : ℕ)
        → is_some (progress_at s t.progress) ≡ is_some (search_at t.running s)
    pub progress_once : NumbersDiffer t.progress
    pub limited : t.limit ≤ MAX_STEPS

  -- A new tree. It has no pairs and no searches. Its root is its one node, in the first slot: an
  -- empty leaf with the counter as its number. Each slot starts at this generation.
  pub record IsFirst (generation counter next limit : ℕ) (t : PlainTree Key Query Item) : Type 0
    where
      pub contents : IsContents (tree_of t) []
      pub searches : (s : ℕ) → search_in t s ≡ None
      pub none_run : t.running.running ≡ []
      pub counter_is : t.counter ≡ counter
      pub next_is : t.running.next ≡ next
      pub limit_is : t.limit ≡ limit
      pub level : root_level t ≡ 0
      pub root_is : value_at t.nodes t.root ≡ Some (first_leaf counter)
      pub taken : taken_count t.nodes ≡ 1
      pub slots : slot_count t.nodes ≡ 1
      pub generation_is : t.nodes.first ≡ generation
      pub root_at : t.root ≡ record { slot = 0; generation = generation }
