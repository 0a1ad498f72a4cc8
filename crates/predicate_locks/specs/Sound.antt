-- The invariant of the running searches.
use Rattle.std.specs.Prelude.{ℕ, ◌+◌, ◌≤◌, List, [], ◌∷◌, length}
use Rattle.predicate_locks.specs.declared.running.RunningSearch.{RunningSearch}
use Rattle.predicate_locks.specs.declared.TheConstants.{MAX_RUNNING}

module _ {Q : Type 0} where
  -- the numbers rise, from `low` on, and stay below `next`
  abbrev pub IsRising : ℕ → List (RunningSearch Q) → ℕ → Type 0
  IsRising low [] next = low ≤ next
  IsRising low (search ∷ rest) next = (low ≤ search.number) × IsRising (search.number + 1) rest next

  -- the numbers rise below `next`, and there is room for all that may run
  pub record IsSound (searches : List (RunningSearch Q)) (next capacity : ℕ) : Type 0 where
    pub rising : IsRising 0 searches next
    pub limit : length searches ≤ MAX_RUNNING
    pub room : MAX_RUNNING ≤ capacity
