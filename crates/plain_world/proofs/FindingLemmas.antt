-- Look-ups of the found ids list what the whole store lists.
use Rattle.std.proofs.Common.{◌≡◌, ◌⊎◌, ℕ, zero, suc, ◌<◌, List, [], ◌∷◌, length, All, AllPairs, Contains, slice_index_or, Option, Some, None, refl, sym, ap, subst, ◌∙◌, inl, inr, arith}
use Rattle.std.specs.List.{cons_option, filter_map}
use Rattle.std.specs.List.Sorted.{IsStrictlyIncreasing}
use Rattle.std.proofs.lemmas.Bool.{cases_lt}
use Rattle.std.proofs.lemmas.Bool.Decides.{nat_tests}
use Rattle.std.proofs.lemmas.List.Elements.{All-head, All-tail, All-weaker}
use Rattle.std.proofs.lemmas.List.Kept.{AllPairs-from_increasing}
use Rattle.plane.specs.declared.point.Point.{Point}
use Rattle.plane.specs.Rows.{Meet}
use Rattle.features.specs.declared.actors.Subject.{Subject}
use Rattle.features.specs.declared.rows.Feature.{Feature}
use Rattle.feature_store.specs.Places.{IsLess, AreRising}
use Rattle.features.specs.Rows.{feature_with, IsBelowAll, IsSortedById}
use Rattle.policy_documents.specs.Documents.{DocumentData}
use Rattle.judging.specs.Listing.{IsListed}
use Rattle.plain_world.specs.Finding.{NamesAll}

-- Ids that rise, by recursion.

less_of : (id : ℕ) (ids : List ℕ) → All (λ other. id < other) ids → IsLess id ids
less_of id [] all = tt
less_of id (other ∷ ids) all = (All-head (λ (n : ℕ). id < n) other ids all, less_of id ids (All-tail (λ (n : ℕ). id < n) other ids all))

pairs_rising : (ids : List ℕ) → AllPairs (λ x y. x < y) ids → AreRising ids
pairs_rising [] pairs = tt
pairs_rising (id ∷ ids) pairs = (
  less_of id ids (λ k d in_range. pairs zero (suc k) d (omega arith) (omega (arith, in_range))),
  pairs_rising ids (λ i j d below in_range. pairs (suc i) (suc j) d (omega (arith, below)) (omega (arith, in_range))),
)

less_still : (a b : ℕ) (ids : List ℕ) → a < b → IsLess b ids → IsLess a ids
less_still a b [] below less = tt
less_still a b (id ∷ ids) below less = (omega (arith, below, less.0), less_still a b ids below less.1)

-- An id among ids, by recursion.

abbrev IsIn : ℕ → List ℕ → Type 0
IsIn id [] = ⊥
IsIn id (other ∷ ids) = (other ≡ id) ⊎ IsIn id ids

in_at : (ids : List ℕ) (id k : ℕ) → k < length ids → slice_index_or ids k id ≡ id → IsIn id ids
in_at [] id k in_range is = absurd (omega (arith, in_range))
in_at (other ∷ ids) id zero in_range is = inl is
in_at (other ∷ ids) id (suc k) in_range is = inr (in_at ids id k (omega (arith, in_range)) is)

in_later : (id other : ℕ) (ids : List ℕ) → id < other → IsIn other (id ∷ ids) → IsIn other ids
in_later id other ids below (inl same) = absurd (omega (arith, below, same))
in_later id other ids below (inr more) = more

not_in : (id : ℕ) (ids : List ℕ) → IsLess id ids → IsIn id ids → ⊥
not_in id [] less has = has
not_in id (other ∷ ids) less (inl same) = absurd (omega (arith, less.0, same))
not_in id (other ∷ ids) less (inr more) = not_in id ids less.1 more

-- Features and the ids that name them.

below_still : (a b : ℕ) (features : List Feature) → a < b → IsBelowAll b features → IsBelowAll a features
below_still a b [] below all = tt
below_still a b (feature ∷ features) below all = (omega (arith, below, all.0), below_still a b features below all.1)

absent_below : (id : ℕ) (features : List Feature) → IsBelowAll id features → feature_with id features ≡ None
absent_below id [] below = refl
absent_below id (feature ∷ features) below = grind (arith, nat_tests, below.0, absent_below id features below.1)

-- the features that look-ups of these ids find, in order
abbrev pub looked_up : List Feature → List ℕ → List Feature
looked_up features ids = filter_map (λ id. feature_with id features) ids

finds_none : (ids : List ℕ) → looked_up [] ids ≡ []
finds_none [] = refl
finds_none (id ∷ ids) = finds_none ids

-- the look-ups with a first id whose look-up finds this
pub looks_up : (features : List Feature) (id : ℕ) (ids : List ℕ) (there : Option Feature) → feature_with id features ≡ there → looked_up features (id ∷ ids) ≡ cons_option there (looked_up features ids)
looks_up features id ids there is = ap (λ (o : Option Feature). cons_option o (looked_up features ids)) is

-- a first feature below all ids is not found
skipped : (feature : Feature) (features : List Feature) (ids : List ℕ) → IsLess feature.id ids → looked_up (feature ∷ features) ids ≡ looked_up features ids
skipped feature features [] less = refl
skipped feature features (id ∷ ids) less =
    let other : feature_with id (feature ∷ features) ≡ feature_with id features = grind (arith, nat_tests, less.0) in
    looks_up (feature ∷ features) id ids (feature_with id features) other
    ∙ ap (λ (more : List Feature). cons_option (feature_with id features) more) (skipped feature features ids less.1)

module _ (window : List Point) where
  abbrev AreNamed : List Feature → List ℕ → Type 0
  AreNamed [] ids = Unit {0}
  AreNamed (feature ∷ features) ids = (Meet feature.shape window → IsIn feature.id ids) × AreNamed features ids

  named_of : (features : List Feature) (ids : List ℕ) → NamesAll features window ids → AreNamed features ids
  named_of [] ids all = tt
  named_of (feature ∷ features) ids all = (
    λ met. (let has = All-head (λ (f : Feature). Meet f.shape window → Contains ids f.id) feature features all met in in_at ids feature.id has.0 has.1 has.2),
    named_of features ids (All-tail (λ (f : Feature). Meet f.shape window → Contains ids f.id) feature features all),
  )

  -- an id below all features names none of them, so the other ids name all
  named_rest : (id : ℕ) (ids : List ℕ) (features : List Feature) → IsBelowAll id features → AreNamed features (id ∷ ids) → AreNamed features ids
  named_rest id ids [] below named = tt
  named_rest id ids (feature ∷ features) below named = (λ met. in_later id feature.id ids below.0 (named.0 met), named_rest id ids features below.1 named.1)

  -- a list with at least the found ids names all features that the found ids name
  pub names_kept : (features : List Feature) (found ids : List ℕ) → ((id : ℕ) → Contains found id → Contains ids id)
      → NamesAll features window found → NamesAll features window ids
  names_kept features found ids kept names =
      All-weaker (λ (f : Feature). Meet f.shape window → Contains found f.id) (λ (f : Feature). Meet f.shape window → Contains ids f.id)
      (λ f named met. kept f.id (named met)) features names

  module _ (document : DocumentData) (subject : Subject) where
    abbrev Lists : List Feature → List Feature → Type 0
    Lists features rows = IsListed document subject window features rows

    lists_none : (features rows : List Feature) → AreNamed features [] → rows ≡ [] → Lists features rows
    lists_none [] rows named none = none
    lists_none (feature ∷ features) rows named none = inr (λ shown. named.0 shown.0, lists_none features rows named.1 none)

    -- look-ups list what the features list, with one more feature in front, if they do without it
    lists_from : (feature : Feature) (features : List Feature) → IsSortedById (feature ∷ features)
        → ((ids : List ℕ) (rows : List Feature) → AreRising ids → AreNamed features ids → Lists (looked_up features ids) rows → Lists features rows)
        → (ids : List ℕ) (rows : List Feature) → AreRising ids → AreNamed (feature ∷ features) ids → Lists (looked_up (feature ∷ features) ids) rows → Lists (feature ∷ features) rows
    lists_from feature features sorted behind [] rows rising named listed = lists_none (feature ∷ features) rows named listed
    lists_from feature features sorted behind (id ∷ ids) rows rising named listed = elim (cases_lt id feature.id) [
      | inl below ↦ (
          let all_above : IsBelowAll id (feature ∷ features) = (below, below_still id feature.id features below sorted.0) in
          lists_from feature features sorted behind ids rows rising.1 (named_rest id ids (feature ∷ features) all_above named) (subst (λ (xs : List Feature). Lists xs rows) (looks_up (feature ∷ features) id ids None (absent_below id (feature ∷ features) all_above)) listed))
      | inr not_below ↦ elim (cases_lt feature.id id) [
        | inl above ↦ (
            let less : IsLess feature.id (id ∷ ids) = (above, less_still feature.id id ids above rising.0) in
            inr (λ shown. not_in feature.id (id ∷ ids) less (named.0 shown.0), behind (id ∷ ids) rows rising named.1 (subst (λ (xs : List Feature). Lists xs rows) (skipped feature features (id ∷ ids) less) listed)))
        | inr not_above ↦ (
            let same : id ≡ feature.id = omega (arith, not_below, not_above) in
            let here : feature_with id (feature ∷ features) ≡ Some feature = grind (arith, nat_tests, same) in
            let left = named_rest id ids features (subst (λ (n : ℕ). IsBelowAll n features) (sym same) sorted.0) named.1 in
            let those = looks_up (feature ∷ features) id ids (Some feature) here ∙ ap (λ (more : List Feature). feature ∷ more) (skipped feature features ids (subst (λ (n : ℕ). IsLess n ids) same rising.0)) in
            let first : Lists (feature ∷ looked_up features ids) rows = subst (λ (xs : List Feature). Lists xs rows) those listed in
            elim first [
              | inl h ↦ inl (h.0, (h.1.0, h.1.1, behind ids h.1.0 rising.1 left h.1.2))
              | inr h ↦ inr (h.0, behind ids rows rising.1 left h.1)
            ])
      ]
    ]

    lists_found : (features : List Feature) → IsSortedById features → (ids : List ℕ) (rows : List Feature) → AreRising ids → AreNamed features ids → Lists (looked_up features ids) rows → Lists features rows
    lists_found [] sorted ids rows rising named listed = subst (λ (xs : List Feature). Lists xs rows) (finds_none ids) listed
    lists_found (feature ∷ features) sorted ids rows rising named listed =
        lists_from feature features sorted (λ more kept up known told. lists_found features sorted.1 more kept up known told) ids rows rising named listed

    -- look-ups of rising ids that name all features of the window list what the features list
    pub found_listed : (features : List Feature) (ids : List ℕ) (rows : List Feature) → IsSortedById features → IsStrictlyIncreasing ids → NamesAll features window ids
        → Lists (looked_up features ids) rows → Lists features rows
    found_listed features ids rows sorted rises all listed =
        lists_found features sorted ids rows (pairs_rising ids (AllPairs-from_increasing ids rises)) (named_of features ids all) listed
