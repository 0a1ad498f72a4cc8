-- Calls of a store, one after another.
use Rattle.std.proofs.Common.{◌≡◌, ℕ, suc, ◌+◌, ◌<◌, ◌≤◌, ◌⊎◌, IsTrue, List, ◌∷◌, length, drop, get_or, refl, sym, ap, ◌∙◌, arith, inl, inr, add-one, drop-cons}
use Rattle.sqlite_disk.specs.Disk.{MoreFaults}
use Rattle.sqlite_trees.specs.Tree.{Trees}
use Rattle.sqlite_trees.specs.View.{View, IsClean, IsQuiet, doubt}
use Rattle.volumes.specs.Edits.{KeepsLast}

pub kept_itself : (v : View) → KeepsLast v v
kept_itself v = record { shape = refl; committed_shape = refl; was_open = λ h. h; committed = λ h. refl }

pub kept_on : (a b c : View) → KeepsLast a b → KeepsLast b c → KeepsLast a c
kept_on a b c p q = record {
  shape = q.shape ∙ p.shape;
  committed_shape = q.committed_shape ∙ p.committed_shape;
  was_open = λ h. p.was_open (q.was_open h);
  committed = λ h. q.committed h ∙ p.committed (q.was_open h);
}

module _ {S : Type 0} (view : S → View) (faults : S → ℕ) (recovers : S → Trees → Type 0) (Shielded : S → Type 0) where
  pub quiet_itself : (s : S) → IsQuiet view faults recovers Shielded s s
  quiet_itself s = record { shield = λ h. h; clean = omega arith; counts = omega arith; closes = λ clean open_now. inl open_now; outcomes = λ db h. h }

  pub quiet_on : (a b c : S) → IsQuiet view faults recovers Shielded a b → IsQuiet view faults recovers Shielded b c → IsQuiet view faults recovers Shielded a c
  quiet_on a b c p q = record {
    shield = λ h. q.shield (p.shield h);
    clean = omega (arith, p.clean, q.clean);
    counts = omega (arith, p.counts, q.counts);
    closes = λ clean is_open.
        let before : IsClean (view b) = omega (arith, q.clean, clean) in
        elim (p.closes before is_open) [
          | inl still ↦ elim (q.closes clean still) [ inl left ↦ inl left | inr more ↦ inr (omega (arith, more, p.counts)) ]
          | inr more ↦ inr (omega (arith, more, q.counts))
        ];
    outcomes = λ db h. p.outcomes db (q.outcomes db h);
  }

-- an item, and those behind it
pub next_of : {X : Type 0} (xs : List X) (i : ℕ) (x : X) → i < length xs → x ≡ get_or xs i x → drop i xs ≡ x ∷ drop (i + 1) xs
next_of xs i x p is = drop-cons xs i x p ∙ ap (λ y. y ∷ drop (suc i) xs) (sym is) ∙ ap (λ n. x ∷ drop n xs) (sym (add-one i))

pub none_left : {X : Type 0} (xs : List X) (i : ℕ) → length xs ≤ i → i ≤ length xs → drop i xs ≡ drop (length xs) xs
none_left xs i p q = let e : i ≡ length xs = omega arith in ap (λ n. drop n xs) e
