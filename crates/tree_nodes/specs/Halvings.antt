-- How a list is shared out to two by a mask, and the contents of a full node by the mask that the
-- class picks.
use Rattle.std.specs.Prelude.{◌≡◌, ◌+◌, ◌∷◌, ℕ, List, [], IsBitSet, length, count_ones, map}
use Rattle.node_arena.specs.declared.handle.Handle.{Handle}
use Rattle.tree_theory.specs.Nodes.{PlainBody}
use Rattle.tree_theory.specs.Nodes.PlainBody.{Leaf, Inner}

-- The elements of a list, the first of which has this index, go to two lists in order: right where
-- the bit of the index is set, else left.
pub data GoBySides {T : Type 0} (mask : ℕ) : ℕ → List T → List T → List T → Type 0 where
  none : {place : ℕ} → GoBySides mask place [] [] []
  goes : {place : ℕ} {x : T} {whole left right : List T} → IsBitSet mask place
      → GoBySides mask (place + 1) whole left right
      → GoBySides mask place (x ∷ whole) left (x ∷ right)
  stays : {place : ℕ} {x : T} {whole left right : List T} → (IsBitSet mask place → ⊥)
      → GoBySides mask (place + 1) whole left right
      → GoBySides mask place (x ∷ whole) (x ∷ left) right

-- a list is shared out to two by a mask, and the right one has as many as bits are set
pub record IsShared {T : Type 0} (mask : ℕ) (whole left right : List T) : Type 0 where
  pub sides : GoBySides mask 0 whole left right
  pub many : length right ≡ count_ones mask

-- a node's contents are shared out as the class picks by its keys (of a leaf's items, or of an
-- inner node's entries); the last part is the right one
pub data IsPickedOut {Key Item : Type 0} (key_of : Item → Key) (picks : List Key → ℕ
    → Type 0) : PlainBody Key Item → PlainBody Key Item → PlainBody Key Item → Type 0 where
  of_pairs : {mask : ℕ} {whole left right : List (ℕ × Item)}
      → picks (map (λ (pair : ℕ × Item). key_of pair.1) whole) mask → IsShared mask whole left right
      → IsPickedOut key_of picks (Leaf whole) (Leaf left) (Leaf right)
  of_entries : {mask : ℕ} {whole left right : List (Key × Handle)}
      → picks (map (λ (entry : Key × Handle). entry.0) whole) mask → IsShared mask whole left right
      → IsPickedOut key_of picks (Inner whole) (Inner left) (Inner right)
