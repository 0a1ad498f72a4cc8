-- The union of several keys.
use Rattle.std.specs.Prelude.{◌≡◌, ◌≢◌, ◌⊎◌, List, [], Contains}
use Rattle.tree_theory.specs.KeyClasses.{Class}

-- it covers each key, and whatever covers each of them covers it
pub record IsUnionOf {Key Query Item : Type 0} (C : Class Key Query Item) (keys : List Key)
    (union : Key) : Type 0 where
  pub covers : (key : Key) → Contains keys key → C.Covers union key
  pub least : (cover : Key) → ((key : Key) → Contains keys key → C.Covers cover key)
      → C.Covers cover union

-- the union of these keys, or the old key where there are none
abbrev pub IsUnionFor : {Key Query Item : Type 0} (C : Class Key Query Item) → List Key → Key → Key
    → Type 0
IsUnionFor C keys old union = ((keys ≢ []) × IsUnionOf C keys union) ⊎ ((keys ≡ []) × (union ≡ old))
