-- Sets of numbers, as lists.
use Rattle.std.proofs.Common.{◌≡◌, ◌⊎◌, ℕ, ◌+◌, ◌<◌, Bool, true, false, cond, List, [], ◌∷◌, ◌++◌, length, get_or, zero, suc, Contains, refl, subst, inl, inr, arith}
use Rattle.std.specs.List.Sorted.{IsStrictlyIncreasing}
use Rattle.std.proofs.lemmas.Bool.{cases_eq, ne_eqb}
use Rattle.std.proofs.lemmas.List.Elements.{Contains-append_left, Contains-push, Contains-push_cases}
use Rattle.predicate_locks.specs.Numbers.{is_in, with_number, with_numbers, IsUnion}

Contains-cons : (head x : ℕ) (rest : List ℕ) → Contains rest x → Contains (head ∷ rest) x
Contains-cons head x rest p = (suc p.0, omega (arith, p.1), p.2)

Contains-head : (head : ℕ) (rest : List ℕ) → Contains (head ∷ rest) head
Contains-head head rest = (0, omega arith, refl)

Contains-cons_cases : (head x : ℕ) (rest : List ℕ) → Contains (head ∷ rest) x → (head ≡ x) ⊎ Contains rest x
Contains-cons_cases head x rest p = by_index p.0 p.1 p.2
  where
    by_index : (k : ℕ) → k < suc (length rest) → get_or (head ∷ rest) k x ≡ x → (head ≡ x) ⊎ Contains rest x
    by_index zero within found = inl found
    by_index (suc k) within found = inr (k, omega arith, found)

-- a greater number after rising numbers
pub increasing-pushed : (numbers : List ℕ) (new : ℕ) → IsStrictlyIncreasing numbers → ((number : ℕ) → Contains numbers number → number < new) → IsStrictlyIncreasing (numbers ++ new ∷ [])
increasing-pushed [] new rising below k within = absurd (omega arith)
increasing-pushed (x ∷ []) new rising below zero within = below x (Contains-head x [])
increasing-pushed (x ∷ []) new rising below (suc k) within = absurd (omega arith)
increasing-pushed (x ∷ y ∷ rest) new rising below zero within = rising 0 (omega arith)
increasing-pushed (x ∷ y ∷ rest) new rising below (suc k) within =
    let later : (j : ℕ) → j + 1 < length (y ∷ rest) → get_or (y ∷ rest) j 0 < get_or (y ∷ rest) (j + 1) 0 = λ j inside. step_on x (y ∷ rest) j (rising (suc j) (omega arith)) in
    let pushed = increasing-pushed (y ∷ rest) new later (λ number contains. below number (Contains-cons x number (y ∷ rest) contains)) k (omega arith) in
    let e : suc (k + 1) ≡ suc k + 1 = omega arith in
    subst (λ n. get_or ((y ∷ rest) ++ new ∷ []) k 0 < get_or (x ∷ ((y ∷ rest) ++ new ∷ [])) n 0) e pushed
  where
    step_on : (x : ℕ) (xs : List ℕ) (j : ℕ) → get_or (x ∷ xs) (suc j) 0 < get_or (x ∷ xs) (suc j + 1) 0 → get_or xs j 0 < get_or xs (j + 1) 0
    step_on x xs j h =
        let e : suc j + 1 ≡ suc (j + 1) = omega arith in
        subst (λ n. get_or xs j 0 < get_or (x ∷ xs) n 0) e h

Contains-none : (x : ℕ) → Contains [] x → ⊥
Contains-none x p = omega (arith, p.1)

pub Contains-from_is_in : (number : ℕ) (numbers : List ℕ) → is_in number numbers ≡ true → Contains numbers number
Contains-from_is_in number [] test = absurd (cc (test))
Contains-from_is_in number (held ∷ rest) test = elim (cases_eq held number) [
  | inl same ↦ (0, omega arith, same)
  | inr other ↦ Contains-cons held number rest (Contains-from_is_in number rest (rw (ne_eqb held number other) at test))
]

pub with_one : (number : ℕ) (numbers : List ℕ) → IsUnion numbers (number ∷ []) (with_number number numbers)
with_one number numbers = by_test (is_in number numbers) refl
  where
    by_test : (b : Bool) → is_in number numbers ≡ b → IsUnion numbers (number ∷ []) (cond b numbers (numbers ++ number ∷ []))
    by_test true test = λ other. (
      λ held. inl held,
      λ either. elim either [
        | inl held ↦ held
        | inr new ↦ elim (Contains-cons_cases number other [] new) [
          | inl same ↦ subst (Contains numbers) same (Contains-from_is_in number numbers test)
          | inr none ↦ absurd (Contains-none other none)
        ]
      ],
    )
    by_test false test = λ other. (
      λ held. elim (Contains-push_cases numbers number other held) [
        | inl old ↦ inl old
        | inr same ↦ inr (0, omega arith, same)
      ],
      λ either. elim either [
        | inl old ↦ Contains-append_left numbers (number ∷ []) other old
        | inr new ↦ elim (Contains-cons_cases number other [] new) [
          | inl same ↦ subst (Contains (numbers ++ number ∷ [])) same (Contains-push numbers number)
          | inr none ↦ absurd (Contains-none other none)
        ]
      ],
    )

pub with_all : (more numbers : List ℕ) → IsUnion numbers more (with_numbers more numbers)
with_all [] numbers = λ other. (λ held. inl held, λ either. elim either [ inl old ↦ old | inr none ↦ absurd (Contains-none other none) ])
with_all (number ∷ rest) numbers = λ other.
    let one = with_one number numbers other in
    let all = with_all rest (with_number number numbers) other in (
      λ held. elim (all.0 held) [
        | inl before ↦ elim (one.0 before) [
          | inl old ↦ inl old
          | inr new ↦ elim (Contains-cons_cases number other [] new) [
            | inl same ↦ inr (subst (Contains (number ∷ rest)) same (Contains-head number rest))
            | inr none ↦ absurd (Contains-none other none)
          ]
        ]
        | inr later ↦ inr (Contains-cons number other rest later)
      ],
      λ either. elim either [
        | inl old ↦ all.1 (inl (one.1 (inl old)))
        | inr new ↦ elim (Contains-cons_cases number other rest new) [
          | inl same ↦ all.1 (inl (one.1 (inr (0, omega arith, same))))
          | inr later ↦ all.1 (inr later)
        ]
      ],
    )
