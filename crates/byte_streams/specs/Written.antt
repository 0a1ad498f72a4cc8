-- What a writer took, given the bytes that it is known to have taken before and after.
use Rattle.std.specs.Prelude.{◌≡◌, ℕ, ◌≤◌, List, ◌++◌, length, take, Option, Result, Ok, Err}
use Rattle.std.specs.Io.KnownBytes.{Appends, Keeps}

-- what a writer took of these bytes: all of them, or, if a write failed, some at their front
abbrev pub Took : {T E : Type 0} → Result T E → Option (List ℕ) → Option (List ℕ) → List ℕ → Type 0
Took (Ok done) before after said = Appends before after said
Took (Err e) before after said = (front : List ℕ) × (left : List ℕ) × (said ≡ front ++ left)
    × Appends before after front

-- a call took n of these bytes, or none if it failed
abbrev pub WriteTook : {E : Type 0} → Result ℕ E → Option (List ℕ) → Option (List ℕ) → List ℕ
    → Type 0
WriteTook (Ok n) before after bytes = (n ≤ length bytes) × Appends before after (take n bytes)
WriteTook (Err e) before after bytes = Keeps before after
