-- The progress of a search.
use Rattle.std.specs.Prelude.{◌≡◌, ◌+◌, ◌≤◌, ℕ, Bool, true, false, [], ◌∷◌, ◌++◌, List, length}
use Rattle.node_arena.specs.declared.handle.Handle.{Handle}
use Rattle.tree_theory.specs.declared.TheConstants.{NODE_SIZE}

-- the progress of a search: its steps, its stack of nodes to visit with their memos, the pairs that
-- it has found, and the capacities of the two lists
pub record PlainProgress (Item : Type 0) : Type 0 where
  pub number : ℕ
  pub steps : ℕ
  pub stack : List (Handle × ℕ)
  pub found : List (ℕ × Item)
  pub stack_places : ℕ
  pub found_places : ℕ

-- the list ends with this element
abbrev pub IsLast : {T : Type 0} → List T → T → Type 0
IsLast {T} xs last = (rest : List T) × (xs ≡ rest ++ last ∷ [])

abbrev pub is_empty : {T : Type 0} → List T → Bool
is_empty [] = true
is_empty (x ∷ xs) = false

module _ {Item : Type 0} where
  -- the same progress, whatever the room
  abbrev pub SameButRoom : PlainProgress Item → PlainProgress Item → Type 0
  SameButRoom old new = new ≡ record old {
    stack_places = new.stack_places;
    found_places = new.found_places;
  }

  -- both lists have room for all that one visit may add
  pub record HasVisitRoom (p : PlainProgress Item) : Type 0 where
    pub stack : length p.stack + NODE_SIZE + 1 ≤ p.stack_places
    pub found : length p.found + NODE_SIZE ≤ p.found_places
