-- Runs: the trees that steps lead to.
use Rattle.std.specs.Prelude.{ℕ, List, Contains}
use Rattle.node_arena.specs.declared.handle.Handle.{Handle}
use Rattle.tree_theory.specs.Changes.{IsOpened, IsClosed, IsVisited, IsVisitedGone, IsPlaced, IsJoined, IsEnlarged, IsSplit, IsGrown, IsInstalled, IsCleaned, IsRetired, IsFreed, IsStarted}
use Rattle.tree_theory.specs.KeyClasses.{Class}
use Rattle.tree_theory.specs.Nodes.{Tree}

module _ {Key Query Item : Type 0} {C : Class Key Query Item} where
  -- t becomes u by one step, any of them
  pub data IsStep (t u : Tree C) : Type 0 where
    opens : (query : Query) → IsOpened t u query → IsStep t u
    closes : (s : ℕ) → IsClosed t u s → IsStep t u
    visits : (s : ℕ) (x : Handle) (memo : ℕ) → IsVisited t u s x memo → IsStep t u
    visits_gone : (s : ℕ) (x : Handle) (memo : ℕ) → IsVisitedGone t u s x memo → IsStep t u
    places : (h : Handle) (pair : ℕ × Item) → IsPlaced t u h pair → IsStep t u
    joins : (h : Handle) → IsJoined t u h → IsStep t u
    enlarges : (p : Handle) (key : Key) → IsEnlarged t u p key → IsStep t u
    splits : (h r : Handle) → IsSplit t u h r → IsStep t u
    grows : (a b : Handle) → IsGrown t u a b → IsStep t u
    installs : (p l r : Handle) → IsInstalled t u p l r → IsStep t u
    cleans : (kept : List (ℕ × Item)) (h : Handle) → IsCleaned t u (Contains kept) h → IsStep t u
    retires : (l p : Handle) → IsRetired t u l p → IsStep t u
    frees : (h : Handle) → IsFreed t u h → IsStep t u

  -- steps lead to the tree from a first one
  pub data IsReached : Tree C → Type 0 where
    starts : {t : Tree C} → IsStarted t → IsReached t
    goes_on : {t u : Tree C} → IsReached t → IsStep t u → IsReached u
