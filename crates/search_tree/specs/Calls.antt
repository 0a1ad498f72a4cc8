-- What the calls do, as callers see it: the contents, the searches, and the counts.
use Rattle.std.specs.Prelude.{◌≡◌, ◌≢◌, ◌+◌, ◌++◌, ◌<◌, ◌≤◌, ◌⊎◌, ℕ, Bool, true, false, [], List, Contains, length, slice_index_or, Option, None, Some, is_some, Result, Ok, Err}
use Rattle.std.specs.Option.{option_map}
use Rattle.memory.specs.declared.no_memory.NoMemory.{NoMemory}
use Rattle.predicate_locks.specs.Searches.{last_number, search_at}
use Rattle.predicate_locks.specs.declared.running.RunningSearch.{RunningSearch}
use Rattle.tree_answers.specs.declared.answers.Visit.{Visit}
use Rattle.tree_answers.specs.declared.answers.Visit.TheVariants.{More, Ready}
use Rattle.tree_answers.specs.declared.fault.TreeFault.{TreeFault}
use Rattle.tree_answers.specs.declared.fault.TreeFault.TheVariants.{NoSearch, Overrun, Memory}
use Rattle.tree_nodes.specs.Progresses.{PlainProgress, is_empty}
use Rattle.search_tree.specs.Trees.{PlainTree, IsFirstOf, SeenSearch, search_in, steps_in, tree_of, root_level}
use Rattle.node_arena.specs.Slots.{taken_count, slot_count}
use Rattle.node_arena.specs.declared.handle.Handle.{Handle}
use Rattle.tree_theory.specs.Changes.{IsOpened, IsClosed, IsVisited, IsVisitedGone, SameNodes, SameSearches}
use Rattle.tree_theory.specs.Contents.{InContents, IsContents}
use Rattle.tree_theory.specs.KeyClasses.{Class}
use Rattle.tree_theory.specs.declared.TheConstants.{NODE_SIZE}

-- what a search has found, if it runs
abbrev pub found_of : {Query Item : Type 0} → Option (SeenSearch Query Item) → List (ℕ × Item)
found_of None = []
found_of (Some search) = search.found

abbrev pub found_in : {Key Query Item : Type 0} → PlainTree Key Query Item → ℕ → List (ℕ × Item)
found_in t s = found_of (search_in t s)

-- the counter when the search with this number began, if it runs
abbrev pub begun_in : {Key Query Item : Type 0} → PlainTree Key Query Item → ℕ → Option ℕ
begun_in {Query = Query} t s = option_map (λ (run : RunningSearch Query). run.begun)
    (search_at t.running s)

module _ {Key Query Item : Type 0} (C : Class Key Query Item) where
  -- the same contents, in any order
  abbrev pub SameContents : PlainTree Key Query Item → PlainTree Key Query Item → Type 0
  SameContents t u = (xs : List (ℕ × Item)) → IsContents (tree_of C t) xs
      → IsContents (tree_of C u) xs

  -- the counts that neither the opening nor a step nor the end of a search changes
  pub record SameCounts (t u : PlainTree Key Query Item) : Type 0 where
    pub counter : u.counter ≡ t.counter
    pub limit : u.limit ≡ t.limit
    pub level : root_level u ≡ root_level t
    pub taken : taken_count u.nodes ≡ taken_count t.nodes
    pub slots : slot_count u.nodes ≡ slot_count t.nodes

  -- A search opens under the next number and at the tree's counter, with the root on its stack. It
  -- has found nothing and made no step. Nothing else changes, the nodes included.
  pub record IsOpen (t u : PlainTree Key Query Item) (query : Query) (search : ℕ) : Type 0 where
    pub number : search ≡ t.running.next
    pub did_not_run : search_in t search ≡ None
    pub runs : search_in u search ≡ Some (record { query = query; found = []; ready = false })
    pub others : (other : ℕ) → other ≢ search → search_in u other ≡ search_in t other
    pub next : u.running.next ≡ t.running.next + 1
    pub more : length u.running.running ≡ length t.running.running + 1
    pub contents : SameContents t u
    pub counts : SameCounts t u
    pub begun : begun_in u search ≡ Some t.counter
    pub steps : steps_in u search ≡ 0
    pub others_begun : (other : ℕ) → other ≢ search → begun_in u other ≡ begun_in t other
    pub others_steps : (other : ℕ) → other ≢ search → steps_in u other ≡ steps_in t other
    pub step : IsOpened (tree_of C t) (tree_of C u) query

  -- No search runs under the number. Nothing else changes, the nodes included; where none ran,
  -- nothing at all.
  pub record IsShut (t u : PlainTree Key Query Item) (search : ℕ) : Type 0 where
    pub gone : search_in u search ≡ None
    pub others : (other : ℕ) → other ≢ search → search_in u other ≡ search_in t other
    pub next : u.running.next ≡ t.running.next
    pub fewer : is_some (search_in t search) ≡ true
        → length u.running.running + 1 ≡ length t.running.running
    pub contents : SameContents t u
    pub counts : SameCounts t u
    pub others_begun : (other : ℕ) → other ≢ search → begun_in u other ≡ begun_in t other
    pub others_steps : (other : ℕ) → other ≢ search → steps_in u other ≡ steps_in t other
    pub step : IsClosed (tree_of C t) (tree_of C u) search
    pub nothing : search_in t search ≡ None → u ≡ t

  -- where the search is ready, it has found every pair of the tree that it looks for
  abbrev pub IsComplete : PlainTree Key Query Item → ℕ → List (ℕ × Item) → Type 0
  IsComplete t search found =
      (s : SeenSearch Query Item) → search_in t search ≡ Some s → s.ready ≡ true
      → (xs : List (ℕ × Item)) → IsContents (tree_of C t) xs
      → (pair : ℕ × Item) → Contains xs pair → C.Matches pair.1 s.query → Contains found pair

  -- no difference that callers see: in contents, searches and counts
  pub record IsAlike (t u : PlainTree Key Query Item) : Type 0 where
    pub searches : (search : ℕ) → search_in u search ≡ search_in t search
    pub steps : (search : ℕ) → steps_in u search ≡ steps_in t search
    pub running : u.running ≡ t.running
    pub contents : SameContents t u
    pub counts : SameCounts t u

  -- Only spare capacity differs: callers see no difference, and no node and no search's stack has
  -- changed.
  pub record IsUntouched (t u : PlainTree Key Query Item) : Type 0 where
    pub alike : IsAlike t u
    pub root : u.root ≡ t.root
    pub nodes : SameNodes (tree_of C t) (tree_of C u)
    pub searches : SameSearches (tree_of C t) (tree_of C u)

  -- the search takes the last node and its memo from its stack, and sees the node or finds it gone,
  -- as in the theory
  pub record SeesNode (t u : PlainTree Key Query Item) (search : ℕ) : Type 0 where
    pub node : Handle
    pub memo : ℕ
    pub sees : IsVisited (tree_of C t) (tree_of C u) search node memo
        ⊎ IsVisitedGone (tree_of C t) (tree_of C u) search node memo

  -- The search makes a step. It finds these pairs, at most as many as a node has; each is in the
  -- tree and matches its query. The step is one of the theory's. Nothing else that callers see
  -- changes.
  pub record IsFurther (t u : PlainTree Key Query Item) (search : ℕ) (ready : Bool) : Type 0 where
    pub before : SeenSearch Query Item
    pub ran : search_in t search ≡ Some before
    pub was_not_ready : before.ready ≡ false
    pub pairs : List (ℕ × Item)
    pub few : length pairs ≤ NODE_SIZE
    pub match : (pair : ℕ × Item) → Contains pairs pair → C.Matches pair.1 before.query
    pub in_tree : (pair : ℕ × Item) → Contains pairs pair → InContents (tree_of C t) pair
    pub now : search_in u search
        ≡ Some (record { query = before.query; found = before.found ++ pairs; ready = ready })
    pub steps : steps_in u search ≡ steps_in t search + 1
    pub others : (other : ℕ) → other ≢ search → (search_in u other ≡ search_in t other)
        × (steps_in u other ≡ steps_in t other)
    pub running : u.running ≡ t.running
    pub contents : SameContents t u
    pub counts : SameCounts t u
    pub step : SeesNode t u search

-- the search runs and has seen all there is
abbrev pub IsReadyIn : {Key Query Item : Type 0} → PlainTree Key Query Item → ℕ → Type 0
IsReadyIn t search = option_map (λ s. s.ready) (search_in t search) ≡ Some true

-- the search runs, has more to see, and has made all its steps
pub record IsOverrun {Key Query Item : Type 0} (t : PlainTree Key Query Item) (search : ℕ) : Type 0
  where
    pub waits : option_map (λ s. s.ready) (search_in t search) ≡ Some false
    pub spent : t.limit ≤ steps_in t search

-- the search whose progress is at this index has more to see, and may make one more step
pub record MayVisit {Key Query Item : Type 0} (t : PlainTree Key Query Item) (search at : ℕ) : Type
    0 where
  pub first : IsFirstOf search t.progress at
  pub waits : (p : PlainProgress Item) → slice_index_or t.progress at p ≡ p
      → is_empty p.stack ≡ false
  pub steps : (p : PlainProgress Item) → slice_index_or t.progress at p ≡ p → p.steps < last_number

abbrev pub is_ready : Visit → Bool
is_ready More = false
is_ready Ready = true

-- the search runs, has more to see, and has steps left
pub record IsUnderWay {Key Query Item : Type 0} (t : PlainTree Key Query Item) (search : ℕ) : Type 0
  where
    pub waits : option_map (λ s. s.ready) (search_in t search) ≡ Some false
    pub left : steps_in t search < t.limit

-- What a visit returns, when, and what it leaves. At most one of the first four cases holds for a
-- search.
pub data IsVisit {Key Query Item : Type 0} (C : Class Key Query Item)
    (t u : PlainTree Key Query Item) (search : ℕ) : Result Visit TreeFault → Type 0 where
  none_runs : search_in t search ≡ None → u ≡ t → IsVisit C t u search (Err NoSearch)
  was_ready : IsReadyIn t search → u ≡ t → IsVisit C t u search (Ok Ready)
  overruns : IsOverrun t search → IsShut C t u search → IsVisit C t u search (Err Overrun)
  goes_on : (visit : Visit) → IsUnderWay t search → IsFurther C t u search (is_ready visit)
      → IsVisit C t u search (Ok visit)
  wants_memory : (refusal : NoMemory) → IsUnderWay t search → IsUntouched C t u
      → IsVisit C t u search (Err (Memory refusal))
