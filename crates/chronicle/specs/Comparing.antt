-- The first place at which two lists differ.
use Rattle.std.specs.Prelude.{◌≡◌, ◌≢◌, ◌<◌, ◌≤◌, ℕ, List, length, slice_get, take}

-- two lists are the same up to this place, and differ there: by an item, or since one of them ends
pub record DifferFirst {X : Type 0} (place : ℕ) (xs ys : List X) : Type 0 where
  pub same : take place xs ≡ take place ys
  pub differ : slice_get xs place ≢ slice_get ys place

-- the first `count` items of a list are `told`
pub record AreTold {X : Type 0} (count : ℕ) (told xs : List X) : Type 0 where
  pub within : count ≤ length xs
  pub same : take count xs ≡ told

-- `told` has an item at this place that the list does not have there, and up to there they are the
-- same
pub record PartsAt {X : Type 0} (place : ℕ) (told xs : List X) : Type 0 where
  pub within : place < length told
  pub first : DifferFirst place told xs
