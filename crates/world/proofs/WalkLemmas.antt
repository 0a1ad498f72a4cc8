-- The walks of open transactions, as the transactions change.
use Rattle.std.proofs.Common.{◌≡◌, ℕ, ◌==◌, Bool, true, false, not, List, [], ◌∷◌, ◌++◌, length, Option, Some, None, slice_get, IfSome, if◌then◌else◌, refl, ap, subst, ◌∙◌, zero, suc}
use Rattle.std.specs.Option.{unwrap_or}
use Rattle.plane.specs.declared.point.Point.{Point}
use Rattle.features.specs.declared.rows.Change.{Change}
use Rattle.plain_world.specs.Staging.{TransactionData, transaction_with, next_placement, placements, with_step, staged, one_placed, ended as without}
use Rattle.plain_world.proofs.TransactionLemmas.{brought_append}
use Rattle.search_tree.specs.Trees.{PlainWalk}
use Rattle.world.specs.Index.{Index}
use Rattle.world.specs.Walking.{next_walk, walk_at_root}
use Rattle.world.specs.Walks.{AreWalks, IsWalkFor, JourneyData, walk_begun, walk_ended, walk_of, with_walk}

abbrev Walk : Type 0
Walk = PlainWalk (List Point)

-- ---- staging, placing, beginning and ending

still_there : (xs ys : List (ℕ × List Point)) (n : ℕ) (x : ℕ × List Point) → slice_get xs n ≡ Some x → slice_get (xs ++ ys) n ≡ Some x
still_there [] ys n x e = absurd cc
still_there (y ∷ xs) ys zero x e = e
still_there (y ∷ xs) ys (suc n) x e = still_there xs ys n x e

-- a walk is still of the next placement after more is staged
still_for : (change : Change) (t : TransactionData) (walk : Option Walk) → IfSome walk (IsWalkFor t) → IfSome walk (IsWalkFor (staged change t))
still_for change t None h = tt
still_for change t (Some walk) h = record {
  next = ap (λ (ps : List (ℕ × List Point)). slice_get ps t.placed) (brought_append t.changes change) ∙ still_there (placements t.changes) (placements (change ∷ [])) t.placed _ h.next;
  waits = h.waits;
}

pub walks_staged : (number : ℕ) (change : Change) (ts : List TransactionData) (js : List JourneyData) → AreWalks ts js → AreWalks (with_step (staged change) number ts) js
walks_staged number change [] [] h = tt
walks_staged number change [] (j ∷ js) h = absurd h
walks_staged number change (t ∷ ts) [] h = absurd h
walks_staged number change (t ∷ ts) (j ∷ js) h = go (t.number == number) (walks_staged number change ts js h.2)
  where
    go : (b : Bool) → AreWalks (with_step (staged change) number ts) js → AreWalks (if b then staged change t ∷ ts else t ∷ with_step (staged change) number ts) (j ∷ js)
    go true behind = (h.0, still_for change t j.walk h.1, h.2)
    go false behind = (h.0, h.1, behind)

-- both have the same number
same_test : (number : ℕ) (t : TransactionData) (j : JourneyData) → j.number ≡ t.number → (j.number == number) ≡ (t.number == number)
same_test number t j e = ap (λ (n : ℕ). n == number) e

pub walks_placed : (number : ℕ) (ts : List TransactionData) (js : List JourneyData) → AreWalks ts js → AreWalks (with_step one_placed number ts) (with_walk number None js)
walks_placed number [] [] h = tt
walks_placed number [] (j ∷ js) h = absurd h
walks_placed number (t ∷ ts) [] h = absurd h
walks_placed number (t ∷ ts) (j ∷ js) h = go (t.number == number) (j.number == number) (same_test number t j h.0) (walks_placed number ts js h.2)
  where
    go : (b c : Bool) → c ≡ b → AreWalks (with_step one_placed number ts) (with_walk number None js)
        → AreWalks (if b then one_placed t ∷ ts else t ∷ with_step one_placed number ts) (if c then record j { walk = None } ∷ js else j ∷ with_walk number None js)
    go true true e behind = (h.0, tt, h.2)
    go true false e behind = absurd (cc (e))
    go false true e behind = absurd (cc (e))
    go false false e behind = (h.0, h.1, behind)

pub walks_begun : (t : TransactionData) (ts : List TransactionData) (js : List JourneyData) → AreWalks ts js → AreWalks (ts ++ t ∷ []) (walk_begun t.number js)
walks_begun t [] [] h = (refl, tt, tt)
walks_begun t [] (j ∷ js) h = absurd h
walks_begun t (first ∷ ts) [] h = absurd h
walks_begun t (first ∷ ts) (j ∷ js) h = (h.0, h.1, walks_begun t ts js h.2)

pub walks_ended : (number : ℕ) (ts : List TransactionData) (js : List JourneyData) → AreWalks ts js → AreWalks (without number ts) (walk_ended number js)
walks_ended number [] [] h = tt
walks_ended number [] (j ∷ js) h = absurd h
walks_ended number (t ∷ ts) [] h = absurd h
walks_ended number (t ∷ ts) (j ∷ js) h = go (t.number == number) (j.number == number) (same_test number t j h.0) (walks_ended number ts js h.2)
  where
    go : (b c : Bool) → c ≡ b → AreWalks (without number ts) (walk_ended number js) → AreWalks (if not b then t ∷ without number ts else without number ts) (if not c then j ∷ walk_ended number js else walk_ended number js)
    go true true e behind = behind
    go true false e behind = absurd (cc (e))
    go false true e behind = absurd (cc (e))
    go false false e behind = (h.0, h.1, behind)

-- a walk of the transaction is stored
pub walks_kept : (number : ℕ) (walk : Walk) (tr : TransactionData) (ts : List TransactionData) (js : List JourneyData) → transaction_with number ts ≡ Some tr → IsWalkFor tr walk → AreWalks ts js → AreWalks ts (with_walk number (Some walk) js)
walks_kept number walk tr [] [] e going h = tt
walks_kept number walk tr [] (j ∷ js) e going h = absurd h
walks_kept number walk tr (t ∷ ts) [] e going h = absurd h
walks_kept number walk tr (t ∷ ts) (j ∷ js) e going h = go (t.number == number) (j.number == number) (same_test number t j h.0) e (λ is. walks_kept number walk tr ts js is going h.2)
  where
    go : (b c : Bool) → c ≡ b → (if b then Some t else transaction_with number ts) ≡ Some tr → (transaction_with number ts ≡ Some tr → AreWalks ts (with_walk number (Some walk) js))
        → AreWalks (t ∷ ts) (if c then record j { walk = Some walk } ∷ js else j ∷ with_walk number (Some walk) js)
    go true true e is behind = let same : tr ≡ t = cc (is) in (h.0, subst (λ (x : TransactionData). IsWalkFor x walk) same going, h.2)
    go true false e is behind = absurd (cc (e))
    go false true e is behind = absurd (cc (e))
    go false false e is behind = (h.0, h.1, behind is)

pub as_many_walks : (ts : List TransactionData) (js : List JourneyData) → AreWalks ts js → length js ≡ length ts
as_many_walks [] [] h = refl
as_many_walks [] (j ∷ js) h = absurd h
as_many_walks (t ∷ ts) [] h = absurd h
as_many_walks (t ∷ ts) (j ∷ js) h = ap suc (as_many_walks ts js h.2)

-- ---- the walk that makes a step

-- a stored walk is one of its transaction
under_way_for : (number : ℕ) (tr : TransactionData) (ts : List TransactionData) (js : List JourneyData) → transaction_with number ts ≡ Some tr → AreWalks ts js → IfSome (walk_of number js) (IsWalkFor tr)
under_way_for number tr [] [] e h = absurd cc
under_way_for number tr [] (j ∷ js) e h = absurd h
under_way_for number tr (t ∷ ts) [] e h = absurd h
under_way_for number tr (t ∷ ts) (j ∷ js) e h = go (t.number == number) (j.number == number) (same_test number t j h.0) e (λ is. under_way_for number tr ts js is h.2)
  where
    go : (b c : Bool) → c ≡ b → (if b then Some t else transaction_with number ts) ≡ Some tr → (transaction_with number ts ≡ Some tr → IfSome (walk_of number js) (IsWalkFor tr)) → IfSome (if c then j.walk else walk_of number js) (IsWalkFor tr)
    go true true e is behind = let same : t ≡ tr = cc (is) in subst (λ (x : TransactionData). IfSome j.walk (IsWalkFor x)) same h.1
    go true false e is behind = absurd (cc (e))
    go false true e is behind = absurd (cc (e))
    go false false e is behind = behind is

-- and so is a new one
pub next_for : (number : ℕ) (placement : ℕ × List Point) (index : Index) (tr : TransactionData) (ts : List TransactionData) (js : List JourneyData) → transaction_with number ts ≡ Some tr → next_placement tr ≡ Some placement → AreWalks ts js
    → IsWalkFor tr (next_walk number placement index js)
next_for number placement index tr ts js e next h = go (walk_of number js) (under_way_for number tr ts js e h)
  where
    go : (o : Option Walk) → IfSome o (IsWalkFor tr) → IsWalkFor tr (unwrap_or o (walk_at_root index placement))
    go None h = record { next = next; waits = refl }
    go (Some walk) h = h

-- ---- a walk that was taken out is stored again, or its transaction ends

pub kept_again : (number : ℕ) (one other : Option Walk) (js : List JourneyData) → with_walk number other (with_walk number one js) ≡ with_walk number other js
kept_again number one other [] = refl
kept_again number one other (j ∷ js) = go (j.number == number) refl (kept_again number one other js)
  where
    put : (b : Bool) (j : JourneyData) (js : List JourneyData) → List JourneyData
    put b j js = if b then record j { walk = other } ∷ js else j ∷ with_walk number other js

    go : (b : Bool) → (j.number == number) ≡ b → with_walk number other (with_walk number one js) ≡ with_walk number other js
        → with_walk number other (if b then record j { walk = one } ∷ js else j ∷ with_walk number one js) ≡ (if b then record j { walk = other } ∷ js else j ∷ with_walk number other js)
    go true is behind = ap (λ (b : Bool). put b (record j { walk = one }) js) is
    go false is behind = ap (λ (b : Bool). put b j (with_walk number one js)) is ∙ ap (λ (rest : List JourneyData). j ∷ rest) behind

pub ended_again : (number : ℕ) (one : Option Walk) (js : List JourneyData) → walk_ended number (with_walk number one js) ≡ walk_ended number js
ended_again number one [] = refl
ended_again number one (j ∷ js) = go (j.number == number) refl (ended_again number one js)
  where
    left : (b : Bool) (j : JourneyData) (js : List JourneyData) → List JourneyData
    left b j js = if not b then j ∷ walk_ended number js else walk_ended number js

    go : (b : Bool) → (j.number == number) ≡ b → walk_ended number (with_walk number one js) ≡ walk_ended number js
        → walk_ended number (if b then record j { walk = one } ∷ js else j ∷ with_walk number one js) ≡ (if not b then j ∷ walk_ended number js else walk_ended number js)
    go true is behind = ap (λ (b : Bool). left b (record j { walk = one }) js) is
    go false is behind = ap (λ (b : Bool). left b j (with_walk number one js)) is ∙ ap (λ (rest : List JourneyData). j ∷ rest) behind
