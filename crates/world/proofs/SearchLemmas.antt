-- The open searches, by their numbers.
use Rattle.std.proofs.Common.{◌≡◌, ◌≢◌, ℕ, ◌+◌, ◌==◌, not, suc, Bool, true, false, List, [], ◌∷◌, ◌++◌, length, map, filter, Option, Some, None, if◌then◌else◌, refl, sym, ap, subst, ◌∙◌, arith, eq-eqb}
use Rattle.std.proofs.lemmas.Bool.Decides.{nat_tests}
use Rattle.plain_world.specs.declared.open_searches.Search.{Search}
use Rattle.plain_world.specs.Admitting.{search_with}
use Rattle.plain_world.specs.Events.{with_ready}
use Rattle.plain_world.specs.Laws.{IsBelowEach, AreGiven}

pub differs : (m n : ℕ) → m ≢ n → (m == n) ≡ false
differs m n apart = grind (arith, nat_tests, apart)

pub same_number : (n : ℕ) → (n == n) ≡ true
same_number n = eq-eqb n n refl

abbrev of_first : ℕ → Search → List Search → Bool → Option Search
of_first number s rest b = if b then Some s else search_with number rest

-- the search found by a number has that number
pub has_number : (number : ℕ) (ss : List Search) (s : Search) → search_with number ss ≡ Some s → s.number ≡ number
has_number number [] s e = absurd cc
has_number number (first ∷ rest) s e = go (first.number == number) refl (has_number number rest s) e
  where
    go : (b : Bool) → (first.number == number) ≡ b → (search_with number rest ≡ Some s → s.number ≡ number) → of_first number first rest b ≡ Some s → s.number ≡ number
    go true is behind e = let same : first ≡ s = cc (e) in subst (λ (x : Search). x.number ≡ number) same (grind (arith, nat_tests, is))
    go false is behind e = behind e

-- ---- one more search

pub pushed_other : (number : ℕ) (ss : List Search) (new : Search) → new.number ≢ number → search_with number (ss ++ new ∷ []) ≡ search_with number ss
pushed_other number [] new apart = ap (of_first number new []) (differs new.number number apart)
pushed_other number (s ∷ ss) new apart = go (s.number == number) (pushed_other number ss new apart)
  where
    go : (b : Bool) → search_with number (ss ++ new ∷ []) ≡ search_with number ss → (if b then Some s else search_with number (ss ++ new ∷ [])) ≡ (if b then Some s else search_with number ss)
    go true behind = refl
    go false behind = behind

pub pushed_here : (ss : List Search) (new : Search) → search_with new.number ss ≡ None → search_with new.number (ss ++ new ∷ []) ≡ Some new
pushed_here [] new none = ap (of_first new.number new []) (same_number new.number)
pushed_here (s ∷ ss) new none = go (s.number == new.number) (pushed_here ss new) none
  where
    go : (b : Bool) → (search_with new.number ss ≡ None → search_with new.number (ss ++ new ∷ []) ≡ Some new) → of_first new.number s ss b ≡ None → (if b then Some s else search_with new.number (ss ++ new ∷ [])) ≡ Some new
    go true behind none = absurd cc
    go false behind none = behind none

-- ---- a search is ready

pub ready_length : (number : ℕ) (ss : List Search) → length (with_ready number ss) ≡ length ss
ready_length number [] = refl
ready_length number (s ∷ ss) = go (s.number == number) (ready_length number ss)
  where
    go : (b : Bool) → length (with_ready number ss) ≡ length ss → length (if b then record s { ready = true } ∷ ss else s ∷ with_ready number ss) ≡ length (s ∷ ss)
    go true behind = refl
    go false behind = ap (λ (n : ℕ). suc n) behind

pub ready_here : (number : ℕ) (ss : List Search) (s : Search) → search_with number ss ≡ Some s → search_with number (with_ready number ss) ≡ Some (record s { ready = true })
ready_here number [] s e = absurd cc
ready_here number (first ∷ rest) s e = go (first.number == number) refl (ready_here number rest s) e
  where
    go : (b : Bool) → (first.number == number) ≡ b → (search_with number rest ≡ Some s → search_with number (with_ready number rest) ≡ Some (record s { ready = true })) → of_first number first rest b ≡ Some s → search_with number (if b then record first { ready = true } ∷ rest else first ∷ with_ready number rest) ≡ Some (record s { ready = true })
    go true is behind e = let same : first ≡ s = cc (e) in ap (of_first number (record first { ready = true }) rest) is ∙ ap (λ (x : Search). Some (record x { ready = true })) same
    go false is behind e = ap (of_first number first (with_ready number rest)) is ∙ behind e

pub ready_other : (number other : ℕ) (ss : List Search) → other ≢ number → search_with other (with_ready number ss) ≡ search_with other ss
ready_other number other [] apart = refl
ready_other number other (s ∷ ss) apart = go (s.number == number) refl (ready_other number other ss apart)
  where
    within : (b : Bool) → search_with other (with_ready number ss) ≡ search_with other ss → of_first other s (with_ready number ss) b ≡ of_first other s ss b
    within true behind = refl
    within false behind = behind

    go : (b : Bool) → (s.number == number) ≡ b → search_with other (with_ready number ss) ≡ search_with other ss → search_with other (if b then record s { ready = true } ∷ ss else s ∷ with_ready number ss) ≡ search_with other (s ∷ ss)
    go true is behind =
        let here : s.number ≡ number = grind (arith, nat_tests, is) in
        let no : (s.number == other) ≡ false = differs s.number other (λ e. apart (sym e ∙ here)) in
        ap (of_first other (record s { ready = true }) ss) no ∙ sym (ap (of_first other s ss) no)
    go false is behind = within (s.number == other) behind

-- ---- one search less

abbrev pub without : ℕ → List Search → List Search
without number ss = filter (λ (s : Search). not (s.number == number)) ss

pub gone_other : (number other : ℕ) (ss : List Search) → other ≢ number → search_with other (without number ss) ≡ search_with other ss
gone_other number other [] apart = refl
gone_other number other (s ∷ ss) apart = go (s.number == number) refl (gone_other number other ss apart)
  where
    within : (b : Bool) → search_with other (without number ss) ≡ search_with other ss → of_first other s (without number ss) b ≡ of_first other s ss b
    within true behind = refl
    within false behind = behind

    go : (b : Bool) → (s.number == number) ≡ b → search_with other (without number ss) ≡ search_with other ss → search_with other (if not b then s ∷ without number ss else without number ss) ≡ search_with other (s ∷ ss)
    go true is behind =
        let here : s.number ≡ number = grind (arith, nat_tests, is) in
        behind ∙ sym (ap (of_first other s ss) (differs s.number other (λ e. apart (sym e ∙ here))))
    go false is behind = within (s.number == other) behind

pub gone_here : (number : ℕ) (ss : List Search) → search_with number (without number ss) ≡ None
gone_here number [] = refl
gone_here number (s ∷ ss) = go (s.number == number) refl (gone_here number ss)
  where
    go : (b : Bool) → (s.number == number) ≡ b → search_with number (without number ss) ≡ None → search_with number (if not b then s ∷ without number ss else without number ss) ≡ None
    go true is behind = behind
    go false is behind = ap (of_first number s (without number ss)) is ∙ behind

-- removing a number that no search has changes nothing
stays : (number : ℕ) (ss : List Search) → IsBelowEach number (map (λ (s : Search). s.number) ss) → without number ss ≡ ss
stays number [] below = refl
stays number (s ∷ ss) below = ap (λ (b : Bool). if not b then s ∷ without number ss else without number ss) (differs s.number number (λ e. absurd (omega (arith, below.0, e)))) ∙ ap (λ (rest : List Search). s ∷ rest) (stays number ss below.1)

-- each number occurs once, so one search is removed
pub one_less : (number next : ℕ) (ss : List Search) (s : Search) → AreGiven next (map (λ (s : Search). s.number) ss) → search_with number ss ≡ Some s → length (without number ss) + 1 ≡ length ss
one_less number next [] s given e = absurd cc
one_less number next (first ∷ rest) s given e = go (first.number == number) refl (one_less number next rest s given.2) e
  where
    go : (b : Bool) → (first.number == number) ≡ b → (search_with number rest ≡ Some s → length (without number rest) + 1 ≡ length rest) → of_first number first rest b ≡ Some s → length (if not b then first ∷ without number rest else without number rest) + 1 ≡ length (first ∷ rest)
    go true is behind e =
        let here : first.number ≡ number = grind (arith, nat_tests, is) in
        let same : without number rest ≡ rest = stays number rest (subst (λ (n : ℕ). IsBelowEach n (map (λ (s : Search). s.number) rest)) here given.1) in
        let len : length (without number rest) ≡ length rest = ap length same in
        omega (arith, len)
    go false is behind e =
        let less = behind e in
        omega (arith, less)
