-- How a full node's keys are shared out to two parts.
use Rattle.std.specs.Prelude.{◌≡◌, ◌-◌, ◌+◌, ◌<◌, List, Some, IsBitSet, slice_get, ℕ, ◌≤◌, ℤ, ◌+ℤ◌, ◌⊎◌, ◌↔◌, Bool, IsTrue, ◌&&◌, ◌||◌, int_lt, nat_lt, nat_eq, count_ones}
use Rattle.std.specs.Ordering.{int_eq}
use Rattle.plane.specs.Extents.{Extent}
use Rattle.frame_keys.specs.Keys.{Encloses}
use Rattle.frame_keys.specs.Measures.{margin, overlap}
use Rattle.frame_keys.specs.declared.split.Axis.{Axis}
use Rattle.frame_keys.specs.declared.split.Axis.TheVariants.{Across, Up}
use Rattle.frame_keys.specs.declared.split.TheConstants.{FEWEST, MOST, LATER_HALF}
use Rattle.tree_theory.specs.declared.TheConstants.{NODE_SIZE}

-- each part gets enough keys
pub record IsEven (right : ℕ) : Type 0 where
  pub least : FEWEST ≤ count_ones right
  pub most : count_ones right ≤ MOST

-- twice the middle, along an axis
abbrev pub middle : Axis → Extent → ℤ
middle Across e = e.x0 +ℤ e.x1
middle Up e = e.y0 +ℤ e.y1

-- the first middle is the greater one, or both are the same and the first key has the greater index
abbrev pub is_behind : ℤ → ℕ → ℤ → ℕ → Bool
is_behind middle place other at = int_lt other middle || (int_eq middle other && nat_lt at place)

-- the extent encloses all of these keys
abbrev pub EnclosesAll : Extent → List Extent → ℕ → Type 0
EnclosesAll e keys mask = (i : ℕ) (key : Extent) → slice_get keys i ≡ Some key → IsBitSet mask i
    → Encloses e key

-- the least extent that encloses the keys whose bit is set
pub record IsLeastOf (result : Extent) (keys : List Extent) (mask : ℕ) : Type 0 where
  pub encloses : EnclosesAll result keys mask
  pub least : (e : Extent) → EnclosesAll e keys mask → Encloses e result

-- The keys of the mask are one part, the others the other, and the part with the larger margin
-- stays left. The measures are those of the two parts' least frames.
pub record IsCut (keys : List Extent) (mask right shared margins : ℕ) : Type 0 where
  pub rest : Extent
  pub taken : Extent
  pub rest_least : IsLeastOf rest keys (65535 - mask)
  pub taken_least : IsLeastOf taken keys mask
  pub rest_right : margin rest < margin taken → right ≡ 65535 - mask
  pub taken_right : margin taken ≤ margin rest → right ≡ mask
  pub shared_is : shared ≡ overlap rest taken
  pub margins_is : margins ≡ margin rest + margin taken

-- less overlap, or as much and smaller margins
abbrev pub is_better : ℕ → ℕ → ℕ → ℕ → Bool
is_better shared margins other_shared other_margins =
    nat_lt shared other_shared || (nat_eq shared other_shared && nat_lt margins other_margins)

-- these keys come after the one at this index in the order of their middles along an axis; keys
-- with the same middle are in the order of their indices
pub record AreBehind (keys : List Extent) (axis : Axis) (place part : ℕ) : Type 0 where
  pub at : Extent
  pub here : slice_get keys place ≡ Some at
  pub each : (i : ℕ) (key : Extent) → slice_get keys i ≡ Some key
      → (IsBitSet part i ↔ IsTrue (is_behind (middle axis key) i (middle axis at) place))
  pub no_other : (i : ℕ) → IsBitSet part i → i < NODE_SIZE

-- The keys are cut after one of them along an axis. Those after it go right where their part's
-- margin is at most the other's, else the others go right.
pub record IsCutBehind (keys : List Extent) (right : ℕ) : Type 0 where
  pub axis : Axis
  pub place : ℕ
  pub part : ℕ
  pub behind : AreBehind keys axis place part
  pub shared : ℕ
  pub margins : ℕ
  pub cut : IsCut keys part right shared margins

-- Which keys of a full node may go right: those of a cut with enough keys in each part, or the
-- later half, with which the search for a better cut begins.
pub record PicksRight (keys : List Extent) (right : ℕ) : Type 0 where
  pub even : IsEven right
  pub picked : IsCutBehind keys right ⊎ (right ≡ LATER_HALF)
