-- Listings: the loop's invariant, and what a listing has.
use Rattle.std.proofs.Common.{◌≡◌, ℕ, List, [], ◌∷◌, ◌++◌, refl, sym, ap, subst, ◌∙◌, append_assoc, append-nil, inl, inr}
use Rattle.plane.specs.declared.point.Point.{Point}
use Rattle.features.specs.declared.actors.Subject.{Subject}
use Rattle.features.specs.declared.rows.Feature.{Feature}
use Rattle.features.specs.Rows.{IsBelowAll, IsSortedById}
use Rattle.policy_documents.specs.Documents.{DocumentData}
use Rattle.judging.specs.Listing.{IsShown, IsListed, AreShown}

module _ (document : DocumentData) (subject : Subject) (window : List Point) where
  -- `front`, followed by any listing of the features left, is a listing of all features
  abbrev pub Lists : List Feature → List Feature → List Feature → Type 0
  Lists features left front = (rest : List Feature) → IsListed document subject window left rest → IsListed document subject window features (front ++ rest)

  pub lists_yes : (features left front : List Feature) (feature : Feature) → Lists features (feature ∷ left) front → IsShown document subject window feature → Lists features left (front ++ feature ∷ [])
  lists_yes features left front feature so_far shown rest listed =
      subst (λ (rows : List Feature). IsListed document subject window features rows) (sym (append_assoc front (feature ∷ []) rest)) (so_far (feature ∷ rest) (inl (shown, (rest, refl, listed))))

  pub lists_no : (features left front : List Feature) (feature : Feature) → Lists features (feature ∷ left) front → (IsShown document subject window feature → ⊥) → Lists features left front
  lists_no features left front feature so_far hidden rest listed = so_far rest (inr (hidden, listed))

  pub lists_end : (features front : List Feature) → Lists features [] front → IsListed document subject window features front
  lists_end features front so_far = subst (λ (rows : List Feature). IsListed document subject window features rows) (append-nil front) (so_far [] refl)

  -- each row of a listing is shown
  pub listed_shown : (features rows : List Feature) → IsListed document subject window features rows → AreShown document subject window rows
  listed_shown [] rows listed = subst (λ (xs : List Feature). AreShown document subject window xs) (sym listed) tt
  listed_shown (feature ∷ features) rows (inl h) =
      subst (λ (xs : List Feature). AreShown document subject window xs) (sym h.1.1) (h.0, listed_shown features h.1.0 h.1.2)
  listed_shown (feature ∷ features) rows (inr h) = listed_shown features rows h.1

  pub listed_below : (id : ℕ) (features rows : List Feature) → IsListed document subject window features rows → IsBelowAll id features → IsBelowAll id rows
  listed_below id [] rows listed below = subst (λ (xs : List Feature). IsBelowAll id xs) (sym listed) tt
  listed_below id (feature ∷ features) rows (inl h) below =
      subst (λ (xs : List Feature). IsBelowAll id xs) (sym h.1.1) (below.0, listed_below id features h.1.0 h.1.2 below.1)
  listed_below id (feature ∷ features) rows (inr h) below = listed_below id features rows h.1 below.1

  -- a listing of sorted features is sorted
  pub listed_sorted : (features rows : List Feature) → IsListed document subject window features rows → IsSortedById features → IsSortedById rows
  listed_sorted [] rows listed sorted = subst (λ (xs : List Feature). IsSortedById xs) (sym listed) tt
  listed_sorted (feature ∷ features) rows (inl h) sorted =
      subst (λ (xs : List Feature). IsSortedById xs) (sym h.1.1) (listed_below feature.id features h.1.0 h.1.2 sorted.0, listed_sorted features h.1.0 h.1.2 sorted.1)
  listed_sorted (feature ∷ features) rows (inr h) sorted = listed_sorted features rows h.1 sorted.1

  -- the features have one listing
  pub listed_once : (features rows others : List Feature) → IsListed document subject window features rows → IsListed document subject window features others → rows ≡ others
  listed_once [] rows others first second = first ∙ sym second
  listed_once (feature ∷ features) rows others (inl first) (inl second) =
      first.1.1 ∙ ap (λ (more : List Feature). feature ∷ more) (listed_once features first.1.0 second.1.0 first.1.2 second.1.2) ∙ sym second.1.1
  listed_once (feature ∷ features) rows others (inl first) (inr second) = absurd (second.0 first.0)
  listed_once (feature ∷ features) rows others (inr first) (inl second) = absurd (first.0 second.0)
  listed_once (feature ∷ features) rows others (inr first) (inr second) = listed_once features rows others first.1 second.1
