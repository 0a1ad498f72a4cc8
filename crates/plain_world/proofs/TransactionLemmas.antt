-- Staged lists.
use Rattle.std.proofs.Common.{◌≡◌, ◌≢◌, ℕ, ◌<◌, ◌==◌, Bool, true, false, ◌||◌, List, [], ◌∷◌, ◌++◌, ap, length, Some, if◌then◌else◌, refl, subst, arith}
use Rattle.std.specs.Bool.{MatchBool}
use Rattle.std.proofs.lemmas.Bool.Decides.{nat_tests}
use Rattle.plane.specs.declared.point.Point.{Point}
use Rattle.features.specs.declared.rows.Change.{Change}
use Rattle.features.specs.declared.rows.Change.TheVariants.{Add, Reshape, Delete}
use Rattle.features.specs.Changes.{change_id, IsUnnamed}
use Rattle.plain_world.specs.declared.settings.TheConstants.{CHANGE_LIMIT}
use Rattle.plain_world.specs.Staging.{TransactionData, transaction_with, names, placements, MayStage, MayPlace}

not_named : (v w : Bool) → (v || w) ≡ false → (v ≡ false) × (w ≡ false)
not_named true w e = absurd cc
not_named false w e = (refl, e)

pub unnamed : (id : ℕ) (changes : List Change) → names id changes ≡ false → IsUnnamed id changes
unnamed id [] none = tt
unnamed id (change ∷ changes) none =
    let apart = not_named (change_id change == id) (names id changes) none in
    let other : change_id change ≢ id = λ same. grind (arith, nat_tests, same, apart.0) in
    (other, unnamed id changes apart.1)

pub may_stage_in : (number : ℕ) (change : Change) (ts : List TransactionData) (t : TransactionData) → transaction_with number ts ≡ Some t → length t.changes < CHANGE_LIMIT → IsUnnamed (change_id change) t.changes → MayStage number change ts
may_stage_in number change [] t e few free = tt
may_stage_in number change (first ∷ ts) t e few free = go (first.number == number) e (may_stage_in number change ts t)
  where
    go : (b : Bool) → (if b then Some first else transaction_with number ts) ≡ Some t
        → (transaction_with number ts ≡ Some t → length t.changes < CHANGE_LIMIT → IsUnnamed (change_id change) t.changes → MayStage number change ts)
        → MatchBool b ((length first.changes < CHANGE_LIMIT) × IsUnnamed (change_id change) first.changes) (MayStage number change ts)
    go true h rest = let same : t ≡ first = cc (h) in (subst (λ (x : TransactionData). length x.changes < CHANGE_LIMIT) same few, subst (λ (x : TransactionData). IsUnnamed (change_id change) x.changes) same free)
    go false h rest = rest h few free

pub may_place_in : (number : ℕ) (ts : List TransactionData) (t : TransactionData) → transaction_with number ts ≡ Some t → t.placed < CHANGE_LIMIT → MayPlace number ts
may_place_in number [] t e few = tt
may_place_in number (first ∷ ts) t e few = go (first.number == number) e (may_place_in number ts t)
  where
    go : (b : Bool) → (if b then Some first else transaction_with number ts) ≡ Some t
        → (transaction_with number ts ≡ Some t → t.placed < CHANGE_LIMIT → MayPlace number ts)
        → MatchBool b (first.placed < CHANGE_LIMIT) (MayPlace number ts)
    go true h rest = let same : t ≡ first = cc (h) in subst (λ (x : TransactionData). x.placed < CHANGE_LIMIT) same few
    go false h rest = rest h few

-- the pairs of a list with one more change
pub brought_append : (changes : List Change) (change : Change) → placements (changes ++ change ∷ []) ≡ placements changes ++ placements (change ∷ [])
brought_append [] change = refl
brought_append (Add id class shape ∷ changes) change = ap (λ (ps : List (ℕ × List Point)). (id, shape) ∷ ps) (brought_append changes change)
brought_append (Reshape id known shape ∷ changes) change = ap (λ (ps : List (ℕ × List Point)). (id, shape) ∷ ps) (brought_append changes change)
brought_append (Delete id known ∷ changes) change = brought_append changes change
