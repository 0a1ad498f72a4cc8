-- What a walk reads before it descends: the searches that a wider key leads on, and the right node
-- of a marked node.
use Rattle.std.specs.Prelude.{◌≡◌, ℕ, List, Contains, Option, None, Some, if◌then◌else◌}
use Rattle.node_arena.specs.declared.handle.Handle.{Handle}
use Rattle.predicate_locks.specs.Searches.{Searches, search_at}
use Rattle.predicate_locks.specs.declared.running.RunningSearch.{RunningSearch}
use Rattle.tree_theory.specs.KeyClasses.{Class}
use Rattle.tree_theory.specs.Nodes.{PlainNode, is_marked}

module _ {Key Query Item : Type 0} (C : Class Key Query Item) (s : Searches Query) (old : Key) where
  -- a running search that the old key does not lead on
  pub record IsNotLed (number : ℕ) : Type 0 where
    pub search : RunningSearch Query
    pub runs : search_at s number ≡ Some search
    pub inconsistent : C.Consistent old search.query → ⊥

  -- an attached running search that the wider key leads on
  pub record IsLedOn (wider : Key) (attached : List ℕ) (number : ℕ) : Type 0 where
    pub search : RunningSearch Query
    pub runs : search_at s number ≡ Some search
    pub is_attached : Contains attached number
    pub consistent : C.Consistent wider search.query

  -- all attached running searches that the wider key leads on, but not the old one, and no others
  pub record AreLed (wider : Key) (attached led : List ℕ) : Type 0 where
    pub listed : (number : ℕ) → Contains led number → IsNotLed number
    pub led_on : (number : ℕ) → Contains led number → IsLedOn wider attached number
    pub missed : (number : ℕ) (search : RunningSearch Query) → search_at s number ≡ Some search
        → Contains attached number → (Contains led number → ⊥) → C.Consistent wider search.query
        → C.Consistent old search.query

-- the right node of a marked node
abbrev pub marked_right : {Key Item : Type 0} → Option (PlainNode Key Item) → Option Handle
marked_right None = None
marked_right (Some node) = if is_marked node.place then node.right else None
