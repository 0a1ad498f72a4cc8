-- The first and the last element of a list that has grown.
use Rattle.std.proofs.Common.{◌≡◌, List, [], ◌∷◌, ◌++◌, slice_get, Some, None, sym, ◌∙◌}
use Rattle.std.specs.List.{last_or}
use Rattle.published_policies.proofs.ListLemmas.{last_push}

some_of : {A : Type 0} (x y : A) → Some x ≡ Some y → x ≡ y
some_of x y e = cc e

-- the last element after a push is the pushed one
pub pushed_last : {A : Type 0} (log : List A) (d r : A) → last_or None (log ++ d ∷ []) ≡ Some r → r ≡ d
pushed_last log d r e = some_of r d (sym e ∙ last_push None log d)

-- the first element stays the first
pub first_push : {A : Type 0} (log : List A) (d first : A) → slice_get log 0 ≡ Some first → slice_get (log ++ d ∷ []) 0 ≡ Some first
first_push [] d first e = absurd cc
first_push (x ∷ log) d first e = e
