-- What a contract sees of the searches attached to a node: a set of numbers, and how many fit.
use Rattle.std.specs.Prelude.{◌⊎◌, ◌↔◌, ℕ, ◌+◌, ◌≤◌, ◌==◌, Bool, List, [], ◌∷◌, ◌++◌, length, Contains, if◌then◌else◌}
use Rattle.std.specs.List.{list_any}

-- the numbers, and how many fit with no more memory
pub record Numbers : Type 0 where
  pub numbers : List ℕ
  pub places : ℕ

-- `more` more numbers fit without more memory
abbrev pub HasRoomFor : Numbers → ℕ → Type 0
HasRoomFor a more = length a.numbers + more ≤ a.places

-- the set has this number
abbrev pub is_in : ℕ → List ℕ → Bool
is_in number numbers = list_any (λ held. held == number) numbers

-- the set with this number added
abbrev pub with_number : ℕ → List ℕ → List ℕ
with_number number numbers = if is_in number numbers then numbers else numbers ++ number ∷ []

-- the set with these numbers added
abbrev pub with_numbers : List ℕ → List ℕ → List ℕ
with_numbers [] numbers = numbers
with_numbers (number ∷ rest) numbers = with_numbers rest (with_number number numbers)

-- the new set is the union of the old one and `more`
abbrev pub IsUnion : List ℕ → List ℕ → List ℕ → Type 0
IsUnion old more new = (number : ℕ)
    → Contains new number ↔ (Contains old number ⊎ Contains more number)
