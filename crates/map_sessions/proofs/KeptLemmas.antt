-- Which answers stay kept.
use Rattle.std.proofs.Common.{◌≡◌, ◌<◌, ◌≤◌, true, false, cond, List, [], ◌∷◌, ◌++◌, length, remove, Option, Some, None, refl, ap, subst, sym, arith}
use Rattle.std.specs.Prelude.{MatchOption}
use Rattle.std.specs.List.{last_or}
use Rattle.map_sessions.specs.Keeping.{TakesOver, fits, trimmed}
use Rattle.map_sessions.specs.declared.kept.KeptRows.{KeptRows}

-- one answer, or none, stays
pub one_stays : {A : Type 0} (xs : List (KeptRows A)) → length xs ≤ 1 → trimmed xs ≡ xs
one_stays [] h = refl
one_stays (one ∷ []) h = refl
one_stays (one ∷ next ∷ rest) h = absurd (omega arith)

-- answers that may be kept together stay
pub fitting_stay : {A : Type 0} (xs : List (KeptRows A)) → fits xs ≡ true → trimmed xs ≡ xs
fitting_stay [] h = refl
fitting_stay (one ∷ []) h = refl
fitting_stay (one ∷ next ∷ rest) h = ap (λ b. cond b (one ∷ next ∷ rest) (trimmed (next ∷ rest))) h

-- else the oldest one goes
pub oldest_goes : {A : Type 0} (xs : List (KeptRows A)) → 1 < length xs → fits xs ≡ false → trimmed (remove xs 0) ≡ trimmed xs
oldest_goes [] more h = absurd (omega arith)
oldest_goes (one ∷ []) more h = absurd (omega arith)
oldest_goes (one ∷ next ∷ rest) more h = grind (arith, ap (λ b. cond b (one ∷ next ∷ rest) (trimmed (next ∷ rest))) h)

last_push : {A : Type 0} (o : Option A) (xs : List A) (x : A) → last_or o (xs ++ x ∷ []) ≡ Some x
last_push o [] x = refl
last_push o (y ∷ ys) x = last_push (Some y) ys x

-- the newest answer is taken over
pub takes_over : {A : Type 0} (aside rest old new : List (KeptRows A)) (newest : KeptRows A) → aside ≡ rest ++ newest ∷ [] → new ≡ trimmed (old ++ newest ∷ []) → TakesOver aside old new
takes_over aside rest old new newest is h =
    subst (λ (xs : List (KeptRows _)). TakesOver xs old new) (sym is)
    (subst (λ (o : Option (KeptRows _)). MatchOption o (new ≡ old) (λ x. new ≡ trimmed (old ++ x ∷ []))) (sym (last_push None rest newest)) h)
