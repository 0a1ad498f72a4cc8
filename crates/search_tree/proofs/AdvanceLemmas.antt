-- Weaker claims of a success; which step a walk takes, by what is next for it.
use Rattle.std.proofs.Common.{◌≡◌, ◌↔◌, ◌⊎◌, ◌∙◌, ◌+◌, ◌<◌, ◌≤◌, ℕ, List, Result, Ok, Err, IfOk, refl, ap, sym, subst, inl, inr}
use Rattle.std.proofs.lemmas.Bool.{cases_lt}
use Rattle.memory.specs.NoMemory.{out_of_memory}
use Rattle.node_arena.specs.Slots.{taken_count}
use Rattle.node_arena.specs.declared.TheConstants.{MAX_SLOTS}
use Rattle.node_arena.specs.declared.handle.Handle.{Handle}
use Rattle.predicate_locks.specs.Searches.{last_number}
use Rattle.search_tree.specs.Calls.{IsUntouched}
use Rattle.search_tree.specs.Cases.{Answers, Change, TakesStep, Wants}
use Rattle.search_tree.specs.Cases.Answers.{counter_ends, no_memory, no_memory_to_grow, no_slot, no_slots, top_level}
use Rattle.search_tree.specs.Cases.Change.{Linking, Parting, Growing}
use Rattle.search_tree.specs.Cases.TakesStep.{makes}
use Rattle.search_tree.specs.Nexts.{ComesTo, IsChange, Makes}
use Rattle.search_tree.specs.Trees.{PlainTree, root_level}
use Rattle.tree_answers.specs.declared.answers.Step.{Step}
use Rattle.tree_answers.specs.declared.fault.TreeFault.{TreeFault}
use Rattle.tree_answers.specs.declared.fault.TreeFault.TheVariants.{Full, Memory, Spent, TooHigh}
use Rattle.search_tree.specs.declared.rooms.Room.{Room}
use Rattle.search_tree.specs.declared.rooms.Room.TheVariants.{Install, Split, Grow, Behind, Nothing}
use Rattle.tree_theory.specs.KeyClasses.{Class}
use Rattle.tree_theory.specs.declared.TheConstants.{TOP_LEVEL}

pub if_ok : {T E : Type 0} (r : Result T E) {P Q : T → Type 0} → ((x : T) → P x → Q x) → IfOk r P → IfOk r Q
if_ok (Ok x) goes p = goes x p
if_ok (Err e) goes p = tt

module _ {Key Query Item : Type 0} (C : Class Key Query Item) (t u : PlainTree Key Query Item) (at now : Handle) where
  -- a walk for which room has to be made makes the change, or is refused
  pub makes_room : (growth second_growth : Key → Key → ℕ) (picks : List Key → ℕ → Type 0) (pair : ℕ × Item) (room : Room Key) (answer : Result Step TreeFault) → IsChange room × ((change : Change) → ComesTo C t room change → Wants C t at pair.1 change) → Makes C t u at now picks room answer → TakesStep C t u at now growth second_growth picks pair answer
  makes_room growth second_growth picks pair (Install entry) answer next made = makes (next.1 (Linking entry.left) refl) made
  makes_room growth second_growth picks pair (Split full) answer next made = makes (next.1 (Parting full) refl) made
  makes_room growth second_growth picks pair Grow answer next made = makes (next.1 Growing refl) made
  makes_room growth second_growth picks pair (Behind left) answer next made = absurd made
  makes_room growth second_growth picks pair Nothing answer next made = absurd made

  -- why each change is refused
  pub not_linked : {picks : List Key → ℕ → Type 0} (left : Handle) (fault : TreeFault) → (fault ≡ Spent) × (t.counter ≡ last_number) → u ≡ t → Answers C t u at now picks (Linking left) (Err fault)
  not_linked {picks} left fault is same = subst (λ f. Answers C t u at now picks (Linking left) (Err f)) (sym is.0) (counter_ends is.1 same)

  -- enough slots are left where the fault is not `Full`
  fits : (T : Type 0) (more : ℕ) (fault : TreeFault) → fault ≡ Memory out_of_memory → ◌≡◌ {A = Result T TreeFault} (Err fault) (Err Full) ↔ (MAX_SLOTS < taken_count t.nodes + more) → taken_count t.nodes + more ≤ MAX_SLOTS
  fits T more fault is full = elim (cases_lt MAX_SLOTS (taken_count t.nodes + more)) [
    | inl few ↦
        let both : ◌≡◌ {A = Result T TreeFault} (Err (Memory out_of_memory)) (Err Full) = ap (λ (f : TreeFault). Err f) (sym is) ∙ full.1 few in
        absurd (cc (both))
    | inr enough ↦ enough
  ]

  -- the root is below the highest level where the fault is not `TooHigh`
  lower : (T : Type 0) (fault : TreeFault) → fault ≡ Memory out_of_memory → ◌≡◌ {A = Result T TreeFault} (Err fault) (Err TooHigh) → ⊥
  lower T fault is e =
      let both : ◌≡◌ {A = Result T TreeFault} (Err (Memory out_of_memory)) (Err TooHigh) = ap (λ (f : TreeFault). Err f) (sym is) ∙ e in
      absurd (cc (both))

  pub not_parted : {picks : List Key → ℕ → Type 0} (T : Type 0) (full : Handle) (fault : TreeFault) → (fault ≡ Full) ⊎ (fault ≡ Memory out_of_memory) → ◌≡◌ {A = Result T TreeFault} (Err fault) (Err Full) ↔ (MAX_SLOTS < taken_count t.nodes + 1) → (◌≡◌ {A = Result T TreeFault} (Err fault) (Err Full) → u ≡ t) → IsUntouched C t u → Answers C t u at now picks (Parting full) (Err fault)
  not_parted {picks} T full fault is slots same untouched = elim is [
    | inl none_left ↦
        let e = ap (λ (f : TreeFault). Err f) none_left in
        subst (λ f. Answers C t u at now picks (Parting full) (Err f)) (sym none_left) (no_slot (slots.0 e) (same e))
    | inr no_room ↦ subst (λ f. Answers C t u at now picks (Parting full) (Err f)) (sym no_room) (no_memory (fits T 1 fault no_room slots) untouched)
  ]

  pub not_grown : {picks : List Key → ℕ → Type 0} (T : Type 0) (fault : TreeFault) → (fault ≡ TooHigh) ⊎ (fault ≡ Full) ⊎ (fault ≡ Memory out_of_memory) → ◌≡◌ {A = Result T TreeFault} (Err fault) (Err TooHigh) ↔ ((taken_count t.nodes + 2 ≤ MAX_SLOTS) × (root_level t ≡ TOP_LEVEL)) → ◌≡◌ {A = Result T TreeFault} (Err fault) (Err Full) ↔ (MAX_SLOTS < taken_count t.nodes + 2) → (◌≡◌ {A = Result T TreeFault} (Err fault) (Err Full) ⊎ ◌≡◌ {A = Result T TreeFault} (Err fault) (Err TooHigh) → u ≡ t) → IsUntouched C t u → Answers C t u at now picks Growing (Err fault)
  not_grown {picks} T fault is high slots same untouched = elim is [
    | inl top ↦
        let e = ap (λ (f : TreeFault). Err f) top in
        let at_top = high.0 e in
        subst (λ f. Answers C t u at now picks Growing (Err f)) (sym top) (top_level at_top.0 at_top.1 (same (inr e)))
    | inr other ↦ elim other [
      | inl none_left ↦
          let e = ap (λ (f : TreeFault). Err f) none_left in
          subst (λ f. Answers C t u at now picks Growing (Err f)) (sym none_left) (no_slots (slots.0 e) (same (inl e)))
      | inr no_room ↦
          let enough = fits T 2 fault no_room slots in
          subst (λ f. Answers C t u at now picks Growing (Err f)) (sym no_room) (no_memory_to_grow enough (λ top. lower T fault no_room (high.1 (enough, top))) untouched)
    ]
  ]
