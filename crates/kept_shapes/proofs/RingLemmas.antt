-- The rings of a list of changes.
use Rattle.std.proofs.Common.{◌≡◌, ℕ, zero, suc, ◌<◌, List, [], ◌∷◌, ◌++◌, length, drop, get_or, sym}
use Rattle.std.proofs.lemmas.List.{drop_more}
use Rattle.plane.specs.declared.point.Point.{Point}
use Rattle.features.specs.declared.rows.Change.{Change}
use Rattle.kept_shapes.specs.Rings.{rings_by, rings_in}

none_behind : (first rings : List (List Point)) → first ++ rings ≡ [] → rings ≡ []
none_behind [] rings none = none
none_behind (ring ∷ first) rings none = absurd cc

-- where a list of changes has no rings, none of its ends has
pub none_later : (n : ℕ) (changes : List Change) → rings_in changes ≡ [] → rings_in (drop n changes) ≡ []
none_later zero changes none = none
none_later (suc n) [] none = none
none_later (suc n) (change ∷ changes) none = none_later n changes (none_behind (rings_by change) (rings_in changes) none)

-- a list without rings has no change with one
pub no_ring_at : (changes : List Change) (index : ℕ) (change : Change) (ring : List Point) → index < length changes → change ≡ get_or changes index change → rings_by change ≡ ring ∷ [] → rings_in changes ≡ [] → ⊥
no_ring_at changes index change ring within at has none =
    let behind = none_later index changes none in
    let later = rw (drop_more changes index change within, sym at) at behind in
    let joined = rw has at later in
    absurd cc
