-- The front of a text.
use Rattle.std.proofs.Common.{ℕ, ◌≤◌, Bool, List, length}
use Rattle.std.proofs.lemmas.List.Sums.{prefix_len-le-length}
use Rattle.std.specs.List.{prefix_len}

pub prefix_fits : (p : ℕ → Bool) (xs : List ℕ) → prefix_len p xs ≤ length xs
prefix_fits p xs = prefix_len-le-length p xs
