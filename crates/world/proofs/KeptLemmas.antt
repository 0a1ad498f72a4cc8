-- If only pairs that the world does not keep are removed, each feature's pair and each placed pair
-- is left.
use Rattle.std.proofs.Common.{◌≡◌, ℕ, ◌<◌, ◌==◌, ◌||◌, ◌&&◌, zero, suc, Bool, true, false, List, [], ◌∷◌, take, Some, if◌then◌else◌, refl, ap, ◌∙◌, arith}
use Rattle.std.specs.List.{Contains, list_any}
use Rattle.std.proofs.lemmas.Bool.Decides.{nat_tests}
use Rattle.plane.specs.declared.point.Point.{Point}
use Rattle.plane.specs.Equality.{same_shape, same_shape-itself}
use Rattle.features.specs.declared.rows.Change.{Change}
use Rattle.features.specs.declared.rows.Change.TheVariants.{Add, Reshape, Delete}
use Rattle.features.specs.declared.rows.Feature.{Feature}
use Rattle.features.specs.Rows.{feature_with, IsBelowAll, IsSortedById}
use Rattle.plain_world.specs.Keeping.{brings, has_shape, is_kept, is_staged, stands}
use Rattle.plain_world.specs.Staging.{TransactionData, placements}
use Rattle.plain_world.specs.States.{WorldData}
use Rattle.world.specs.Index.{AreAmong, HasFeatures, HasPlacements}
use Rattle.world.proofs.SearchLemmas.{differs, same_number}

or_right : (a b : Bool) → b ≡ true → (a || b) ≡ true
or_right true b e = refl
or_right false b e = e

or_left : (a b : Bool) → a ≡ true → (a || b) ≡ true
or_left true b e = refl
or_left false b e = absurd cc

both : (a b : Bool) → a ≡ true → b ≡ true → (a && b) ≡ true
both true b e f = f
both false b e f = absurd cc

-- ---- features

below_found : (n id : ℕ) (rows : List Feature) (f : Feature) → IsBelowAll n rows → feature_with id rows ≡ Some f → n < id
below_found n id [] f below e = absurd cc
below_found n id (row ∷ rows) f below e = go (row.id == id) refl (below_found n id rows f below.1) e
  where
    go : (b : Bool) → (row.id == id) ≡ b → (feature_with id rows ≡ Some f → n < id) → (if b then Some row else feature_with id rows) ≡ Some f → n < id
    go true is behind e = let same : row.id ≡ id = grind (arith, nat_tests, is) in omega (arith, same, below.0)
    go false is behind e = behind e

module _ (all ys : List (ℕ × List Point)) where
  pub features_kept : (rows : List Feature) → IsSortedById rows → ((f : Feature) → feature_with f.id rows ≡ Some f → Contains all (f.id, f.shape) → Contains ys (f.id, f.shape)) → HasFeatures all rows → HasFeatures ys rows
  features_kept [] sorted keep h = tt
  features_kept (row ∷ rows) sorted keep h = (
    keep row (ap (λ (b : Bool). if b then Some row else feature_with row.id rows) (same_number row.id)) h.0,
    features_kept rows sorted.1
        (λ f found has. keep f (ap (λ (b : Bool). if b then Some row else feature_with f.id rows) (differs row.id f.id (λ e. let lt = below_found row.id f.id rows f sorted.0 found in absurd (omega (arith, lt, e)))) ∙ found) has)
        h.1,
  )

  -- ---- placed pairs

  abbrev Each : (ℕ × List Point → Type 0) → List (ℕ × List Point) → Type 0
  Each Q [] = Unit {0}
  Each Q (pair ∷ pairs) = Q pair × Each Q pairs

  each_more : (Q R : ℕ × List Point → Type 0) (pairs : List (ℕ × List Point)) → ((pair : ℕ × List Point) → Q pair → R pair) → Each Q pairs → Each R pairs
  each_more Q R [] more h = tt
  each_more Q R (pair ∷ pairs) more h = (more pair h.0, each_more Q R pairs more h.1)

  among_each : (Q : ℕ × List Point → Type 0) (pairs : List (ℕ × List Point)) (n : ℕ) → ((pair : ℕ × List Point) → Q pair → Contains all pair → Contains ys pair) → Each Q pairs → AreAmong all (take n pairs) → AreAmong ys (take n pairs)
  among_each Q [] zero keep each h = tt
  among_each Q [] (suc n) keep each h = tt
  among_each Q (pair ∷ pairs) zero keep each h = tt
  among_each Q (pair ∷ pairs) (suc n) keep each h = (keep pair each.0 h.0, among_each Q pairs n keep each.1 h.1)

  abbrev BroughtBy : List Change → ℕ × List Point → Type 0
  BroughtBy changes pair = list_any (λ change. brings pair.0 pair.1 change) changes ≡ true

  brings_each : (changes : List Change) → Each (BroughtBy changes) (placements changes)
  brings_each [] = tt
  brings_each (Add id class shape ∷ changes) = (
    or_left _ (list_any (λ change. brings id shape change) changes) (both (id == id) (same_shape shape shape) (same_number id) (same_shape-itself shape)),
    each_more (BroughtBy changes) (BroughtBy (Add id class shape ∷ changes)) (placements changes) (λ pair e. or_right (brings pair.0 pair.1 (Add id class shape)) _ e) (brings_each changes),
  )
  brings_each (Reshape id known shape ∷ changes) = (
    or_left _ (list_any (λ change. brings id shape change) changes) (both (id == id) (same_shape shape shape) (same_number id) (same_shape-itself shape)),
    each_more (BroughtBy changes) (BroughtBy (Reshape id known shape ∷ changes)) (placements changes) (λ pair e. or_right (brings pair.0 pair.1 (Reshape id known shape)) _ e) (brings_each changes),
  )
  brings_each (Delete id known ∷ changes) = each_more (BroughtBy changes) (BroughtBy (Delete id known ∷ changes)) (placements changes) (λ pair e. e) (brings_each changes)

  placements_kept : (ts : List TransactionData) → ((pair : ℕ × List Point) → is_staged pair.0 pair.1 ts ≡ true → Contains all pair → Contains ys pair) → HasPlacements all ts → HasPlacements ys ts
  placements_kept [] keep h = tt
  placements_kept (t ∷ ts) keep h = (
    among_each (BroughtBy t.changes) (placements t.changes) t.placed (λ pair brought has. keep pair (or_left _ (is_staged pair.0 pair.1 ts) brought) has) (brings_each t.changes) h.0,
    placements_kept ts (λ pair staged has. keep pair (or_right (list_any (λ change. brings pair.0 pair.1 change) t.changes) _ staged) has) h.1,
  )

  -- ---- both

  pub world_kept : (w : WorldData) → IsSortedById w.state.features → ((pair : ℕ × List Point) → is_kept pair.0 pair.1 w ≡ true → Contains all pair → Contains ys pair)
      → HasFeatures all w.state.features → HasPlacements all w.transactions → HasFeatures ys w.state.features × HasPlacements ys w.transactions
  world_kept w sorted keep features placements = (
    features_kept w.state.features sorted
        (λ f found has. keep (f.id, f.shape) (or_left (stands f.id f.shape w.state.features) (is_staged f.id f.shape w.transactions) (ap (has_shape f.shape) found ∙ same_shape-itself f.shape)) has) features,
    placements_kept w.transactions (λ pair staged has. keep pair (or_right (stands pair.0 pair.1 w.state.features) _ staged) has) placements,
  )
