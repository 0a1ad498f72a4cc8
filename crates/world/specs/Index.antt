-- The index of a world, and what it owes to the plain world.
use Rattle.std.specs.Prelude.{◌≡◌, ℕ, Bool, List, [], ◌∷◌, Contains, length, take}
use Rattle.std.specs.Option.{option_map}
use Rattle.plane.specs.declared.point.Point.{Point}
use Rattle.plane.specs.Extents.{Extent}
use Rattle.features.specs.declared.rows.Feature.{Feature}
use Rattle.node_arena.specs.Slots.{slot_count}
pub use Rattle.frame_keys.specs.Keys.{frames}
use Rattle.tree_theory.specs.Contents.{IsContents}
use Rattle.search_tree.specs.Trees.{PlainTree, SeenSearch, search_in, tree_of}
use Rattle.plain_world.specs.declared.open_searches.Search.{Search}
use Rattle.plain_world.specs.Admitting.{search_with}
use Rattle.plain_world.specs.Laws.{IsOrdered, IsUnderWay}
use Rattle.plain_world.specs.Staging.{TransactionData, placements}
use Rattle.plain_world.specs.States.{WorldData}
use Rattle.world.specs.Walks.{AreWalks, JourneyData}

abbrev pub Index : Type 0
Index = PlainTree Extent (List Point) (List Point)

-- how many slots the index has used; each node is in a slot below this number
abbrev pub slots_of : Index → ℕ
slots_of index = slot_count index.nodes

-- a world: the plain world, its index, and the walks of the open transactions
pub record IndexedWorld : Type 0 where
  pub plain : WorldData
  pub index : Index
  pub walks : List JourneyData

-- a search, as the index and as the world know it: its window, and whether it has answered Ready
abbrev pub seen_there : SeenSearch (List Point) (List Point) → List Point × Bool
seen_there seen = (seen.query, seen.ready)

abbrev pub told_here : Search → List Point × Bool
told_here s = (s.window, s.ready)

-- each of the pairs is in `all`
abbrev pub AreAmong : List (ℕ × List Point) → List (ℕ × List Point) → Type 0
AreAmong all [] = Unit {0}
AreAmong all (pair ∷ pairs) = Contains all pair × AreAmong all pairs

-- each feature's (id, shape) is in `all`
abbrev pub HasFeatures : List (ℕ × List Point) → List Feature → Type 0
HasFeatures all [] = Unit {0}
HasFeatures all (feature ∷ features) =
    Contains all (feature.id, feature.shape) × HasFeatures all features

-- each (id, shape) that an open transaction has placed is in `all`
abbrev pub HasPlacements : List (ℕ × List Point) → List TransactionData → Type 0
HasPlacements all [] = Unit {0}
HasPlacements all (t ∷ ts) = AreAmong all (take t.placed (placements t.changes))
    × HasPlacements all ts

-- The index of a world has each feature's id and shape, and each shape that an open transaction has
-- placed. It runs the open searches, each with its window and as ready as it is.
pub record IndexServes (w : WorldData) (index : Index) : Type 0 where
  pub contents : List (ℕ × List Point)
  pub are_contents : IsContents (tree_of frames index) contents
  pub features : HasFeatures contents w.state.features
  pub placements : HasPlacements contents w.transactions
  pub searches : (number : ℕ) → option_map seen_there (search_in index number)
      ≡ option_map told_here (search_with number w.searches)
  pub as_many : length index.running.running ≡ length w.searches
  pub next : index.running.next ≡ w.next_search
  pub limit : index.limit ≡ w.limits.steps

-- what every world keeps: its plain part is in order, the index serves it, and the walks are those
-- of the open transactions
pub record IsWorld (w : IndexedWorld) : Type 0 where
  pub ordered : IsOrdered w.plain
  pub under_way : IsUnderWay w.plain
  pub serves : IndexServes w.plain w.index
  pub walks : AreWalks w.plain.transactions w.walks
