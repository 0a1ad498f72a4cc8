-- The frame and the classes of marks, gathered one mark after another.
use Rattle.std.proofs.Common.{◌≡◌, ℕ, ◌+◌, ◌<◌, ◌≤◌, List, ◌∷◌, length, drop, get_or, ap, add-one, drop-cons}
use Rattle.std.specs.List.{fold}
use Rattle.std.proofs.lemmas.List.{drop_all}
use Rattle.std.proofs.lemmas.List.Sums.{prefix_len-le-length}
use Rattle.drawing.specs.Pictures.{place_of}

pub place_fits : (classes : List (List ℕ)) (class : List ℕ) → place_of classes class ≤ length classes
place_fits classes class = prefix_len-le-length _ classes

-- one more item of a fold
module _ {S T : Type 0} (f : S → T → S) where
  pub fold_more : (s : S) (xs : List T) (i : ℕ) (d : T) → i < length xs → fold f s (drop i xs) ≡ fold f (f s (get_or xs i d)) (drop (i + 1) xs)
  fold_more s xs i d lt = let left : drop i xs ≡ get_or xs i d ∷ drop (i + 1) xs = rw add-one (drop-cons xs i d lt) in ap (fold f s) left

  pub fold_none : (s : S) (xs : List T) (i : ℕ) → length xs ≤ i → fold f s (drop i xs) ≡ s
  fold_none s xs i end = ap (fold f s) (drop_all i xs end)
