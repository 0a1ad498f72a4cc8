-- How much keys grow, by three measures, the weightiest first.
use Rattle.std.specs.Prelude.{◌≡◌, ◌⊎◌, ◌<◌, ◌≤◌, ℕ, List, Some, length, slice_get}
use Rattle.tree_nodes.specs.declared.penalties.Penalties.{Penalties}

-- less in the first measure in which they differ
abbrev pub IsLess : Penalties → Penalties → Type 0
IsLess one other = (one.growth < other.growth)
    ⊎ ((one.growth ≡ other.growth)
    × ((one.second < other.second) ⊎ ((one.second ≡ other.second) × (one.excess < other.excess))))

-- the same, or less in the first measure in which they differ
abbrev pub IsNoMore : Penalties → Penalties → Type 0
IsNoMore one other = (one.growth < other.growth)
    ⊎ ((one.growth ≡ other.growth)
    × ((one.second < other.second) ⊎ ((one.second ≡ other.second) × (one.excess ≤ other.excess))))

module _ {Key : Type 0} (growth second_growth : Key → Key → ℕ) where
  -- the penalties of an entry with this key for an item's key
  abbrev pub penalties_of : Key → Key → Penalties
  penalties_of held key = record {
    growth = growth held key;
    second = second_growth held key;
    excess = growth key held;
  }

  -- no key has lesser penalties for an item's key than the one at index `best`
  pub record IsBest (keys : List Key) (key : Key) (best : ℕ) : Type 0 where
    pub within : best < length keys
    pub least : (held other : Key) (place : ℕ) → slice_get keys best ≡ Some held
        → slice_get keys place ≡ Some other
        → IsNoMore (penalties_of held key) (penalties_of other key)
