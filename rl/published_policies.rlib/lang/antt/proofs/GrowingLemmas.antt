-- The step that adds a policy keeps the rule of the book.
use Rattle.std.proofs.Common.{◌≡◌, ℕ, ◌+◌, ◌<◌, ◌==◌, Bool, true, false, List, [], ◌∷◌, ◌++◌, length, refl, ap, sym, subst, arith, inl, length-append, append-nil, Option, None}
use Rattle.std.specs.Bool.{MatchBool}
use Rattle.std.proofs.lemmas.Bool.Decides.{nat_tests}
use mathlib.Core.List.{IsPrefix}
use prog.Atomic.{either}
use Rattle.logbook.specs.Pages.{Cell, cell, keeps, no_nib, step, Nib, Moves, Goes}
use Rattle.decision.specs.Deciders.{DeciderData}
use Rattle.published_policies.specs.Lists.{AreEditions, IsNextEdition}
use Rattle.published_policies.specs.Growing.{IsKept, Adds, cells_of}
use Rattle.published_policies.proofs.ListLemmas.{prefix_whole, editions_push}

-- what clients of the book see, and what their updates change: nothing
abbrev pub nothing_shown : List DeciderData → List DeciderData
nothing_shown list = []

abbrev pub AnyMove : List DeciderData → List DeciderData → ℕ → Type 0
AnyMove before after answer = Unit {0}

-- what was seen of the list, by a client without a pen whose update has not run
abbrev before : List DeciderData → List DeciderData × (Nib × Option ℕ)
before seen = (seen, (no_nib, None))

module _ (seen : List DeciderData) (decider : DeciderData) (old new : ℕ) where
  -- the word's next value
  abbrev next : ℕ → ℕ
  next found = either (found == old) new found

  abbrev GoesOn : List Cell → List DeciderData → Type 0
  GoesOn = Goes IsKept nothing_shown AnyMove 0 (before seen) next (Adds (step 0 old new decider) (before seen))

  -- the list ends where it was seen to end: the policy is added
  goes_added : (list : List DeciderData) → seen ≡ list → (length list == old) ≡ true → new ≡ length list + 1 → AreEditions (list ++ decider ∷ []) → GoesOn (cells_of list) list
  goes_added list all test next_length editions =
      let count : either (length list == old) new (length list) ≡ length (list ++ decider ∷ []) = rw test (omega (arith, length-append list (decider ∷ []))) in
      let kept : IsKept ((either (length list == old) new (length list), true) ∷ (0, true) ∷ []) (list ++ decider ∷ []) =
      record { words = ap (λ (n : ℕ). (n, true) ∷ (0, true) ∷ []) count; editions = editions } in
      (keeps, decider ∷ [], None, tt, kept, inl (refl, refl), rw test (ap (λ front. front ++ decider ∷ []) (sym all), editions))

  -- the list is longer: nothing is added
  goes_seen : (list : List DeciderData) → (length list == old) ≡ false → AreEditions list → GoesOn (cells_of list) list
  goes_seen list test editions =
      let same : list ++ [] ≡ list = append-nil list in
      let count : either (length list == old) new (length list) ≡ length (list ++ []) = rw test (ap length (sym same)) in
      let still : AreEditions (list ++ []) = subst AreEditions (sym same) editions in
      let kept : IsKept ((either (length list == old) new (length list), true) ∷ (0, true) ∷ []) (list ++ []) =
      record { words = ap (λ (n : ℕ). (n, true) ∷ (0, true) ∷ []) count; editions = still } in
      (keeps, [], None, tt, kept, inl (refl, refl), rw test (ap length same, still))

  goes_on : length seen ≡ old → new ≡ old + 1 → IsNextEdition seen decider.edition → (list : List DeciderData) → AreEditions list → IsPrefix seen list → (b : Bool) → (length list == old) ≡ b
      → GoesOn (cells_of list) list
  goes_on count next_count next list editions begins true test =
      let there : length list ≡ old = grind (arith, nat_tests) in
      let all : seen ≡ list = prefix_whole seen list begins (omega arith) in
      goes_added list all test (omega arith) (editions_push list decider editions (subst (λ (l : List DeciderData). IsNextEdition l decider.edition) all next))
  goes_on count next_count next list editions begins false test = goes_seen list test editions

  -- whatever the list is by then, the policy is added to what was seen of it, or the list is found
  -- to be longer
  pub adds : length seen ≡ old → new ≡ old + 1 → IsNextEdition seen decider.edition → Moves IsKept nothing_shown AnyMove 0 (before seen) next (Adds (step 0 old new decider) (before seen))
  adds count next_count next_edition cells list kept begins away =
      subst (λ (cs : List Cell). (0 < length cs) × ((cell cs 0).1 ≡ true) × GoesOn cs list) (sym kept.words)
      (omega arith, refl, goes_on count next_count next_edition list kept.editions begins (length list == old) refl)

-- if the word was found as it was expected, the policy was added
pub was_added : (P Q : Type 0) (found old : ℕ) (b : Bool) → (found == old) ≡ b → found ≡ old → MatchBool b P Q → P
was_added P Q found old true test same h = h
was_added P Q found old false test same h = absurd (grind (arith, nat_tests, same, test))
