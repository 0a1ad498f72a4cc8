-- A page that grows at its end.
use Rattle.std.proofs.Common.{◌≡◌, ◌∙◌, ℕ, List, ◌++◌, OnOk, Result, ap, fold, subst}

-- a text put behind a page that is known
pub behind : (a b x t : List ℕ) → a ≡ b ++ t → b ≡ x → a ≡ x ++ t
behind a b x t e f = e ∙ ap (λ (p : List ℕ). p ++ t) f

-- a row of parts put behind it
pub folded : {T : Type 0} (f : List ℕ → T → List ℕ) (a b x : List ℕ) (ts : List T) → a ≡ fold f b ts → b ≡ x → a ≡ fold f x ts
folded f a b x ts e h = e ∙ ap (λ (p : List ℕ). fold f p ts) h

-- the last text, if it was put there
pub last_behind : {E : Type 0} (r : Result (Unit {0}) E) (a b x t : List ℕ) → OnOk r (a ≡ b ++ t) → b ≡ x → OnOk r (a ≡ x ++ t)
last_behind r a b x t h f = subst (λ (p : List ℕ). OnOk r (a ≡ p ++ t)) f h
