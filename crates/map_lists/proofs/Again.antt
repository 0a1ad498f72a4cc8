-- Changes of features that changes before them name.
use Rattle.std.proofs.Common.{◌≡◌, ℕ, suc, ◌+◌, ◌<◌, ◌≤◌, Bool, true, false, List, [], ◌∷◌, ◌++◌, length, take, drop, get_or, Option, None, Some, if◌then◌else◌, refl, sym, ap, ◌∙◌, subst, append_assoc, arith}
use Rattle.std.proofs.Math.Seq.{drop-cons}
use Rattle.std.proofs.lemmas.List.{append-nil, drop_all, take_more}
use Rattle.features.specs.Changes.{change_id}
use Rattle.features.specs.declared.rows.Change.{Change}
use Rattle.judging.proofs.AcceptedLemmas.{distinct_push}
use Rattle.judging.specs.Judging.{AreDistinct}
use Rattle.plain_world.proofs.TransactionLemmas.{unnamed}
use Rattle.plain_world.specs.Staging.{names}
use Rattle.map_lists.specs.Reading.{again_from}

-- where no change is of a feature that one before it names, the changes are distinct
pub stays_apart : (before changes : List Change) (n : ℕ) → AreDistinct before → again_from before n changes ≡ None → AreDistinct (before ++ changes)
stays_apart before [] n distinct none = rw (append-nil before) distinct
stays_apart before (change ∷ changes) n distinct none =
    go (names (change_id change) before) refl none (stays_apart (before ++ change ∷ []) changes (suc n))
  where
    go : (named : Bool) → names (change_id change) before ≡ named → (if named then Some n else again_from (before ++ change ∷ []) (suc n) changes) ≡ None
        → (AreDistinct (before ++ change ∷ []) → again_from (before ++ change ∷ []) (suc n) changes ≡ None → AreDistinct ((before ++ change ∷ []) ++ changes))
        → AreDistinct (before ++ change ∷ changes)
    go true is told rest = absurd cc
    go false is told rest =
        subst AreDistinct (append_assoc before (change ∷ []) changes)
        (rest (distinct_push before change distinct (unnamed (change_id change) before is)) told)

-- the change at an index, and those behind it
abbrev again_at : List Change → ℕ → Option ℕ
again_at changes i = again_from (take i changes) i (drop i changes)

abbrev again_with : List Change → ℕ → Change → Bool → Option ℕ
again_with changes i change named = if named then Some i else again_from (take i changes ++ change ∷ []) (suc i) (drop (suc i) changes)

opened : (changes : List Change) (i : ℕ) (change : Change) → i < length changes → change ≡ get_or changes i change
    → again_at changes i ≡ again_with changes i change (names (change_id change) (take i changes))
opened changes i change lt is =
    ap (λ rest. again_from (take i changes) i rest) (drop-cons changes i change lt)
    ∙ ap (λ first. again_from (take i changes) i (first ∷ drop (suc i) changes)) (sym is)

-- this one is of a feature that one before it names
pub again_here : (changes : List Change) (whole : Option ℕ) (i : ℕ) (change : Change) → i < length changes → change ≡ get_or changes i change
    → whole ≡ again_at changes i → names (change_id change) (take i changes) ≡ true → whole ≡ Some i
again_here changes whole i change lt is so_far named =
    so_far ∙ opened changes i change lt is ∙ ap (again_with changes i change) named

-- this one is not
pub again_next : (changes : List Change) (whole : Option ℕ) (i : ℕ) (change : Change) → i < length changes → change ≡ get_or changes i change
    → whole ≡ again_at changes i → names (change_id change) (take i changes) ≡ false → whole ≡ again_at changes (i + 1)
again_next changes whole i change lt is so_far none =
    let next : suc i ≡ i + 1 = omega arith in
    let more : take i changes ++ change ∷ [] ≡ take (i + 1) changes = ap (λ c. take i changes ++ c ∷ []) is ∙ sym (take_more changes i change lt) in
    so_far ∙ opened changes i change lt is ∙ ap (again_with changes i change) none
    ∙ ap (λ before. again_from before (suc i) (drop (suc i) changes)) more
    ∙ ap (λ (k : ℕ). again_from (take (i + 1) changes) k (drop k changes)) next

-- none is
pub again_end : (changes : List Change) (whole : Option ℕ) (i : ℕ) → length changes ≤ i → whole ≡ again_at changes i → whole ≡ None
again_end changes whole i le so_far =
    so_far ∙ ap (λ rest. again_from (take i changes) i rest) (drop_all i changes le)
