-- A text that ends before its form.
use Rattle.std.proofs.Common.{◌≡◌, ℕ, zero, suc, ◌<◌, false, List, [], ◌∷◌, length, drop, refl, arith}
use Rattle.map_asks.specs.Dates.{has_form}

pub no_text : (form : List ℕ) (i : ℕ) → i < length form → has_form (drop i form) [] ≡ false
no_text [] i h = absurd (omega arith)
no_text (f ∷ form) zero h = refl
no_text (f ∷ form) (suc i) h = no_text form i (omega arith)

-- the same of a text that has fewer bytes than one
pub short_text : (form : List ℕ) (i : ℕ) (rest : List ℕ) → length rest < 1 → i < length form
    → has_form (drop i form) rest ≡ false
short_text form i [] short h = no_text form i h
short_text form i (b ∷ bs) short h = absurd (omega arith)
