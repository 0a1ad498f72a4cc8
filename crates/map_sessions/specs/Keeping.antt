-- Answers to searches of which pages are still to come.
use Rattle.std.specs.Prelude.{◌≡◌, ℕ, ◌+◌, ◌-◌, ◌^◌, ◌==◌, ◌&&◌, Bool, true, false, List, [], ◌∷◌, ◌++◌, length, min, nat_eq, nat_le, Option, None, Some, MatchOption, if◌then◌else◌}
use Rattle.std.specs.List.{last_or}
use Rattle.std.specs.Cmp.Lexicographic.{pointwise}
use Rattle.features.specs.declared.rows.Feature.{Feature}
use Rattle.map_asks.specs.declared.asks.Layer.{Layer}
use Rattle.map_asks.specs.declared.asks.Layer.TheVariants.{All, Class}
use Rattle.map_sessions.specs.declared.kept.Kept.{Kept}
use Rattle.map_sessions.specs.declared.kept.KeptRows.{KeptRows}
use Rattle.map_sessions.specs.declared.kept.TheConstants.{KEPT_LIMIT, KEPT_ROWS_LIMIT}

abbrev pub same_layer : Layer → Layer → Bool
same_layer All All = true
same_layer (Class one) (Class other) = pointwise nat_eq one other
same_layer one other = false

-- these answers have together at most so many rows
abbrev pub fits_in : {A : Type 0} → ℕ → List (KeptRows A) → Bool
fits_in left [] = true
fits_in left (answer ∷ answers) =
    nat_le (length answer.rows.items) left && fits_in (left - length answer.rows.items) answers

-- these answers may be kept together
abbrev pub fits : {A : Type 0} → List (KeptRows A) → Bool
fits answers = nat_le (length answers) KEPT_LIMIT && fits_in KEPT_ROWS_LIMIT answers

-- the answers without the oldest ones, as far as they are too many; the newest one stays
abbrev pub trimmed : {A : Type 0} → List (KeptRows A) → List (KeptRows A)
trimmed [] = []
trimmed (one ∷ []) = one ∷ []
trimmed (one ∷ next ∷ rest) =
    if fits (one ∷ next ∷ rest) then one ∷ next ∷ rest else trimmed (next ∷ rest)

-- the number behind the greatest that was given
abbrev pub next_number : ℕ → ℕ
next_number given = min (given + 1) (2 ^ 64 - 1)

-- one more answer is kept for who has asked, under the next number
pub record IsKept {A : Type 0} (layer : Layer) (asker : List ℕ) (rows : List Feature)
    (old new : Kept A) : Type 0 where
  pub answer : KeptRows A
  pub number : answer.number ≡ next_number old.given
  pub layer_same : answer.layer ≡ layer
  pub asker_same : answer.asker ≡ asker
  pub rows_same : answer.rows.items ≡ rows
  pub answers : new.answers.items ≡ trimmed (old.answers.items ++ answer ∷ [])
  pub given : new.given ≡ next_number old.given

-- the newest of these answers is kept with the others, if there is one
abbrev pub TakesOver : {A : Type 0} → List (KeptRows A) → List (KeptRows A) → List (KeptRows A)
    → Type 0
TakesOver aside old new =
    MatchOption (last_or None aside) (new ≡ old)
    (λ newest. new ≡ trimmed (old ++ newest ∷ []))

-- an answer was kept under this number, of this collection, for this subject
abbrev pub is_asked : {A : Type 0} → ℕ → Layer → List ℕ → KeptRows A → Bool
is_asked number layer asker answer =
    (answer.number == number) && same_layer answer.layer layer && pointwise nat_eq answer.asker asker

-- the rows that are kept under a number, if they are of this collection and were found for this
-- subject
abbrev pub rows_asked : {A : Type 0} → ℕ → Layer → List ℕ → List (KeptRows A)
    → Option (List Feature)
rows_asked number layer asker [] = None
rows_asked number layer asker (answer ∷ answers) =
    if is_asked number layer asker answer then Some answer.rows.items
    else rows_asked number layer asker answers

-- the same answers are kept
abbrev pub SameKept : {A : Type 0} → Kept A → Kept A → Type 0
SameKept old new = (new.answers.items ≡ old.answers.items) × (new.given ≡ old.given)
