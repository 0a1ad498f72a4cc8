-- What the index of a world that begins at a state gets.
use Rattle.std.specs.Prelude.{◌≡◌, ℕ, List, [], ◌∷◌, ◌++◌, map}
use Rattle.plane.specs.declared.point.Point.{Point}
use Rattle.features.specs.declared.rows.Feature.{Feature}
use Rattle.search_tree.specs.Trees.{search_in, tree_of}
use Rattle.tree_theory.specs.Contents.{IsContents}
use Rattle.world.specs.Index.{Index, frames}

-- the contents have these pairs more; what callers see of searches and of the limit is unchanged
pub record GetsAll (old new : Index) (pairs : List (ℕ × List Point)) : Type 0 where
  pub contents : (xs : List (ℕ × List Point)) → IsContents (tree_of frames old) xs
      → IsContents (tree_of frames new) (xs ++ pairs)
  pub searches : (number : ℕ) → search_in new number ≡ search_in old number
  pub running : new.running ≡ old.running
  pub limit : new.limit ≡ old.limit

abbrev pub GetsPair : Index → Index → ℕ × List Point → Type 0
GetsPair old new pair = GetsAll old new (pair ∷ [])

abbrev pub pair_of : Feature → ℕ × List Point
pair_of row = (row.id, row.shape)

abbrev pub GetsRows : Index → Index → List Feature → Type 0
GetsRows old new rows = GetsAll old new (map pair_of rows)
