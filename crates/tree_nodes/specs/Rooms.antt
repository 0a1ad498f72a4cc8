-- The room that a node's lists have from the start.
use Rattle.std.specs.Prelude.{◌≡◌, ◌≤◌, ℕ, List, length}
use Rattle.tree_theory.specs.declared.TheConstants.{NODE_SIZE}

-- a list is no longer than in a full node, and has room for that many
pub record FitsNode {T : Type 0} (items : List T) (places : ℕ) : Type 0 where
  pub most : length items ≤ NODE_SIZE
  pub room : NODE_SIZE ≤ places

-- keys and children are equally many, and both lists fit a node
pub record AreAligned {K T : Type 0} (keys : List K) (children : List T)
    (key_places child_places : ℕ) : Type 0 where
  pub same : length children ≡ length keys
  pub keys_fit : FitsNode keys key_places
  pub children_fit : FitsNode children child_places
