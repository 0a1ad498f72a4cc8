-- The zones met, with one more zone.
use Rattle.std.proofs.Common.{◌≡◌, ℕ, zero, suc, ◌+◌, ◌≤◌, List, [], ◌∷◌, ◌++◌, length, take, slice_get, Some, None, ap, ◌∙◌, arith}
use Rattle.std.proofs.lemmas.List.{take_more}
use Rattle.std.proofs.lemmas.Option.{slice_get_within, get_or_from_slice_get}
use Rattle.plane.specs.Rows.{Meet}
use Rattle.plane.specs.declared.point.Point.{Point}
use Rattle.policy_documents.specs.declared.zones.Zone.{Zone}
use Rattle.combining.specs.Holding.{AreMet, none, meets, apart}

pub AreMet-meets : (shape : List Point) (zones : List Zone) (names : List (List ℕ)) (zone : Zone) → AreMet shape zones names → Meet shape zone.shape →
    AreMet shape (zones ++ zone ∷ []) (names ++ zone.name ∷ [])
AreMet-meets shape _ _ zone none here = meets zone here none
AreMet-meets shape _ _ zone (meets first m rest) here = meets first m (AreMet-meets shape _ _ zone rest here)
AreMet-meets shape _ _ zone (apart first m rest) here = apart first m (AreMet-meets shape _ _ zone rest here)

pub AreMet-apart : (shape : List Point) (zones : List Zone) (names : List (List ℕ)) (zone : Zone) → AreMet shape zones names → (Meet shape zone.shape → ⊥) →
    AreMet shape (zones ++ zone ∷ []) names
AreMet-apart shape _ _ zone none there = apart zone there none
AreMet-apart shape _ _ zone (meets first m rest) there = meets first m (AreMet-apart shape _ _ zone rest there)
AreMet-apart shape _ _ zone (apart first m rest) there = apart first m (AreMet-apart shape _ _ zone rest there)

-- if a list has an element at an index, one more element can be taken
pub take-slice_get : {X : Type 0} (xs : List X) (i : ℕ) (x : X) → slice_get xs i ≡ Some x → take (i + 1) xs ≡ take i xs ++ x ∷ []
take-slice_get xs i x e = take_more xs i x (slice_get_within xs i x e) ∙ ap (λ y. take i xs ++ y ∷ []) (get_or_from_slice_get xs i x x e)

pub slice_get-none : {X : Type 0} (xs : List X) (i : ℕ) → slice_get xs i ≡ None → length xs ≤ i
slice_get-none [] i e = omega arith
slice_get-none (x ∷ xs) zero e = cc
slice_get-none (x ∷ xs) (suc i) e = let h : length xs ≤ i = slice_get-none xs i e in omega arith
