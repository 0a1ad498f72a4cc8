-- A value that was found.
use Rattle.std.proofs.Common.{ℕ, List, [], ◌∷◌, Option, None, Some}

abbrev pub found_list : Option (List ℕ) → List (List ℕ)
found_list None = []
found_list (Some value) = value ∷ []
