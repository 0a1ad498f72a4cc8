-- What one step of a search does to its progress.
use Rattle.std.specs.Prelude.{◌≡◌, ◌⊎◌, ◌∷◌, ◌++◌, ◌+◌, ◌≤◌, [], ℕ, List, None, Some, filter, length}
use Rattle.node_arena.specs.Slots.{Slots, value_at}
use Rattle.predicate_locks.specs.Numbers.{with_number}
use Rattle.predicate_locks.specs.Searches.{Searches, does_run}
use Rattle.tree_nodes.specs.Arenas.{IsChanged, AreSame}
use Rattle.node_arena.specs.declared.handle.Handle.{Handle}
use Rattle.tree_nodes.specs.Progresses.{PlainProgress}
use Rattle.tree_theory.specs.KeyClasses.{Class}
use Rattle.tree_theory.specs.Lists.{Picked}
use Rattle.tree_theory.specs.declared.TheConstants.{NODE_SIZE}
use Rattle.tree_theory.specs.Nodes.{Node, entries_of, pairs_of, followed, pushed}

module _ {Key Query Item : Type 0} (C : Class Key Query Item) (query : Query) where
  -- the children of these entries that are consistent are pushed on the stack
  pub record HasChildren (counter : ℕ) (entries : List (Key × Handle))
      (old new : PlainProgress Item) : Type 0 where
    pub taken : List (Key × Handle)
    pub consistent : Picked (λ entry. C.Consistent entry.0 query) entries taken
    pub few : length taken ≤ length entries
    pub is : new ≡ record old { stack = old.stack ++ pushed counter taken }

  -- those of these pairs that match are added to the found ones
  pub record HasMatching (pairs : List (ℕ × Item)) (old new : PlainProgress Item) : Type 0 where
    pub taken : List (ℕ × Item)
    pub matching : Picked (λ pair. C.Matches pair.1 query) pairs taken
    pub few : length taken ≤ length pairs
    pub is : new ≡ record old { found = old.found ++ taken }

  -- a search has seen the contents of this node
  pub record HasSeen (counter memo : ℕ) (node : Node C) (old new : PlainProgress Item) : Type 0
    where
      pub entries : List (Key × Handle)
      pub consistent : Picked (λ entry. C.Consistent entry.0 query) (entries_of node.body) entries
      pub pairs : List (ℕ × Item)
      pub matching : Picked (λ pair. C.Matches pair.1 query) (pairs_of node.body) pairs
      pub few : length pairs ≤ NODE_SIZE
      pub is : new ≡ record old {
        stack = old.stack ++ followed node memo ++ pushed counter entries;
        found = old.found ++ pairs;
      }

  -- the search has seen the node at x and is attached to it
  pub record HasSeenAt (counter : ℕ) (running : Searches Query) (nodes nodes_after : Slots (Node C))
      (x : Handle) (memo : ℕ) (rest : List (Handle × ℕ)) (old new : PlainProgress Item) : Type 0
    where
      pub node : Node C
      pub is : value_at nodes x ≡ Some node
      pub changed : IsChanged nodes nodes_after x
          (λ n. record n { attached = filter (does_run running) (with_number old.number n.attached) })
      pub entries : List (Key × Handle)
      pub consistent : Picked (λ entry. C.Consistent entry.0 query) (entries_of node.body) entries
      pub pairs : List (ℕ × Item)
      pub matching : Picked (λ pair. C.Matches pair.1 query) (pairs_of node.body) pairs
      pub few : length pairs ≤ NODE_SIZE
      pub stack : new.stack ≡ rest ++ followed node memo ++ pushed counter entries
      pub found : new.found ≡ old.found ++ pairs

  -- the node at x is gone
  pub record IsGoneAt (nodes nodes_after : Slots (Node C)) (x : Handle) (rest : List (Handle × ℕ))
      (old new : PlainProgress Item) : Type 0 where
    pub gone : value_at nodes x ≡ None
    pub same : AreSame nodes nodes_after
    pub stack : new.stack ≡ rest
    pub found : new.found ≡ old.found

  -- the search has made a step: it took the last node from its stack, and saw it or found it gone
  pub record HasVisited (counter : ℕ) (running : Searches Query)
      (nodes nodes_after : Slots (Node C)) (old new : PlainProgress Item) : Type 0 where
    pub x : Handle
    pub memo : ℕ
    pub rest : List (Handle × ℕ)
    pub popped : old.stack ≡ rest ++ (x, memo) ∷ []
    pub number : new.number ≡ old.number
    pub steps : new.steps ≡ old.steps + 1
    pub outcome : HasSeenAt counter running nodes nodes_after x memo rest old new
        ⊎ IsGoneAt nodes nodes_after x rest old new
