-- The attached and accepted searches, gathered one by one.
use Rattle.std.proofs.Common.{◌≡◌, ℕ, ◌+◌, ◌<◌, ◌≤◌, Bool, true, false, List, [], ◌∷◌, ◌++◌, length, get_or, Contains, Some, sym, ap, subst, ◌∙◌, inl, inr, arith, length-append}
use Rattle.std.proofs.lemmas.Bool.{cases_eq}
use Rattle.std.specs.List.Sorted.{IsStrictlyIncreasing}
use Rattle.std.proofs.lemmas.List.Elements.{Contains-append_left, Contains-push, Contains-push_cases}
use Rattle.predicate_locks.specs.declared.running.RunningSearch.{RunningSearch}
use Rattle.predicate_locks.specs.Searches.{Searches, search_at, IsFirstMeeting, NoneMeets, AreMeeting, AllBegunSince}
use Rattle.predicate_locks.specs.Sound.{IsRising}
use Rattle.predicate_locks.proofs.SearchLemmas.{placed, find-at, rising-before, rising-lt}
use Rattle.predicate_locks.proofs.NumberLemmas.{increasing-pushed}

module _ {Q : Type 0} where
  -- a gathered number: it is among the first `count` searches, attached, and its query is accepted
  pub record IsMet (accepts : Q → Bool → Type 0) (searches : List (RunningSearch Q)) (count : ℕ) (attached : List ℕ) (number : ℕ) : Type 0 where
    pub place : ℕ
    pub before : place < count
    pub same : (d : RunningSearch Q) → (get_or searches place d).number ≡ number
    pub is_attached : Contains attached number
    pub accepted : (d : RunningSearch Q) → accepts (get_or searches place d).query true

  -- the numbers gathered from the first `count` searches
  pub record AreMet (accepts : Q → Bool → Type 0) (searches : List (RunningSearch Q)) (count : ℕ) (attached met : List ℕ) : Type 0 where
    pub counted : length met ≤ count
    pub rising : IsStrictlyIncreasing met
    pub listed : (number : ℕ) → Contains met number → IsMet accepts searches count attached number
    pub missed : (k : ℕ) (d : RunningSearch Q) → k < count → Contains attached (get_or searches k d).number → (Contains met (get_or searches k d).number → ⊥) → accepts (get_or searches k d).query false

  pub none_met : (accepts : Q → Bool → Type 0) (searches : List (RunningSearch Q)) (attached : List ℕ) → AreMet accepts searches 0 attached []
  none_met accepts searches attached = record {
    counted = omega arith;
    rising = λ k within. absurd (omega arith);
    listed = λ number held. absurd (omega (arith, held.1));
    missed = λ k d before a b. absurd (omega arith);
  }

  later : (accepts : Q → Bool → Type 0) (searches : List (RunningSearch Q)) (count : ℕ) (attached : List ℕ) (number : ℕ) → IsMet accepts searches count attached number → IsMet accepts searches (count + 1) attached number
  later accepts searches count attached number met = record { place = met.place; before = omega (arith, met.before); same = met.same; is_attached = met.is_attached; accepted = met.accepted }

  -- gathered numbers are below that of the next search
  below-next : (accepts : Q → Bool → Type 0) (searches : List (RunningSearch Q)) (next count : ℕ) (attached met : List ℕ) (search : RunningSearch Q) → IsRising 0 searches next → count < length searches → ((d : RunningSearch Q) → get_or searches count d ≡ search) → AreMet accepts searches count attached met → (number : ℕ) → Contains met number → number < search.number
  below-next accepts searches next count attached met search rising within is so_far number contains =
      let found = so_far.listed number contains in
      let less = rising-lt 0 searches next rising found.place count search found.before within in
      let this : (get_or searches count search).number ≡ search.number = ap (λ (s : RunningSearch Q). s.number) (is search) in
      let that = found.same search in
      omega (arith, less, this, that)

  -- the next one meets
  pub met_more : (accepts : Q → Bool → Type 0) (searches : List (RunningSearch Q)) (next count : ℕ) (attached met : List ℕ) (search : RunningSearch Q) → IsRising 0 searches next → count < length searches → ((d : RunningSearch Q) → get_or searches count d ≡ search) → AreMet accepts searches count attached met → Contains attached search.number → accepts search.query true → AreMet accepts searches (count + 1) attached (met ++ search.number ∷ [])
  met_more accepts searches next count attached met search rising within is so_far held accepted = record {
    counted = omega (arith, length-append met (search.number ∷ []), so_far.counted);
    rising = increasing-pushed met search.number so_far.rising (below-next accepts searches next count attached met search rising within is so_far);
    listed = λ number contains. elim (Contains-push_cases met search.number number contains) [
      | inl before ↦ later accepts searches count attached number (so_far.listed number before)
      | inr same ↦ record {
        place = count;
        before = omega arith;
        same = λ d. ap (λ (s : RunningSearch Q). s.number) (is d) ∙ same;
        is_attached = subst (Contains attached) same held;
        accepted = λ d. subst (λ (s : RunningSearch Q). accepts s.query true) (sym (is d)) accepted;
      }
    ];
    missed = λ k d before is_attached missing. elim (cases_eq k count) [
      | inl last ↦ absurd (missing (subst (Contains (met ++ search.number ∷ [])) (sym (ap (λ (s : RunningSearch Q). s.number) (ap (λ (i : ℕ). get_or searches i d) last ∙ is d))) (Contains-push met search.number)))
      | inr other ↦ so_far.missed k d (omega arith) is_attached (λ contains. missing (Contains-append_left met (search.number ∷ []) _ contains))
    ];
  }

  -- the next one does not
  pub met_same : (accepts : Q → Bool → Type 0) (searches : List (RunningSearch Q)) (count : ℕ) (attached met : List ℕ) (search : RunningSearch Q) → ((d : RunningSearch Q) → get_or searches count d ≡ search) → AreMet accepts searches count attached met → (Contains attached search.number → accepts search.query false) → AreMet accepts searches (count + 1) attached met
  met_same accepts searches count attached met search is so_far refused = record {
    counted = omega (arith, so_far.counted);
    rising = so_far.rising;
    listed = λ number contains. later accepts searches count attached number (so_far.listed number contains);
    missed = λ k d before is_attached missing. elim (cases_eq k count) [
      | inl last ↦
          let there : get_or searches k d ≡ search = ap (λ (i : ℕ). get_or searches i d) last ∙ is d in
          subst (λ (s : RunningSearch Q). accepts s.query false) (sym there) (refused (subst (λ (s : RunningSearch Q). Contains attached s.number) there is_attached))
      | inr other ↦ so_far.missed k d (omega arith) is_attached missing
    ];
  }

  -- all were looked at
  pub are_meeting : (accepts : Q → Bool → Type 0) (s : Searches Q) (attached met : List ℕ) → IsRising 0 s.running s.next → AreMet accepts s.running (length s.running) attached met → AreMeeting accepts s attached met
  are_meeting accepts s attached met rising all = record {
    listed = λ number contains.
        let found = all.listed number contains in
        by_search number s.running found rising;
    missed = λ number search runs is_attached missing.
        let there = placed number s.running search runs in
        let here : get_or s.running there.place search ≡ search = there.is search in
        let same : (get_or s.running there.place search).number ≡ number = ap (λ (x : RunningSearch Q). x.number) here ∙ there.same in
        subst (λ (x : RunningSearch Q). accepts x.query false) here (all.missed there.place search there.within (subst (Contains attached) (sym same) is_attached) (λ contains. missing (subst (Contains met) same contains)));
  }
    where
      by_search : (number : ℕ) (searches : List (RunningSearch Q)) → IsMet accepts searches (length searches) attached number → IsRising 0 searches s.next → (search : RunningSearch Q) × (search_at (record { running = searches; next = s.next }) number ≡ Some search) × Contains attached number × accepts search.query true
      by_search number [] found rising = absurd (omega (arith, found.before))
      by_search number (first ∷ rest) found rising =
          let search = get_or (first ∷ rest) found.place first in
          (search, subst (λ (n : ℕ). search_at (record { running = first ∷ rest; next = s.next }) n ≡ Some search) (found.same first) (find-at 0 (first ∷ rest) s.next rising found.place first found.before), found.is_attached, found.accepted first)

  -- the first that meets
  pub first_meets : (accepts : Q → Bool → Type 0) (s : Searches Q) (attached : List ℕ) (count : ℕ) (search : RunningSearch Q) → IsRising 0 s.running s.next → count < length s.running → ((d : RunningSearch Q) → get_or s.running count d ≡ search) → ((k : ℕ) (d : RunningSearch Q) → k < count → Contains attached (get_or s.running k d).number → accepts (get_or s.running k d).query false) → Contains attached search.number → accepts search.query true → IsFirstMeeting accepts s attached search.number
  first_meets accepts s attached count search rising within is before held accepted = record {
    search = search;
    runs = subst (λ (x : RunningSearch Q). search_at s x.number ≡ Some x) (is search) (find-at 0 s.running s.next rising count search within);
    is_attached = held;
    accepted = accepted;
    least = λ other smaller less runs is_attached.
        let there = placed other s.running smaller runs in
        let here : get_or s.running there.place search ≡ smaller = there.is search in
        let same : (get_or s.running there.place search).number ≡ other = ap (λ (x : RunningSearch Q). x.number) here ∙ there.same in
        let last : (get_or s.running count search).number ≡ search.number = ap (λ (x : RunningSearch Q). x.number) (is search) in
        let comes = rising-before 0 s.running s.next rising there.place count search within there.within (omega arith) in
        subst (λ (x : RunningSearch Q). accepts x.query false) here (before there.place search comes (subst (Contains attached) (sym same) is_attached));
  }

  pub none_meets : (accepts : Q → Bool → Type 0) (s : Searches Q) (attached : List ℕ) → ((k : ℕ) (d : RunningSearch Q) → k < length s.running → Contains attached (get_or s.running k d).number → accepts (get_or s.running k d).query false) → NoneMeets accepts s attached
  none_meets accepts s attached none number search runs is_attached =
      let there = placed number s.running search runs in
      let here : get_or s.running there.place search ≡ search = there.is search in
      let same : (get_or s.running there.place search).number ≡ number = ap (λ (x : RunningSearch Q). x.number) here ∙ there.same in
      subst (λ (x : RunningSearch Q). accepts x.query false) here (none there.place search there.within (subst (Contains attached) (sym same) is_attached))

  pub all_begun : (s : Searches Q) (stamp : ℕ) → ((k : ℕ) (d : RunningSearch Q) → k < length s.running → stamp ≤ (get_or s.running k d).begun) → AllBegunSince s stamp
  all_begun s stamp all number search runs =
      let there = placed number s.running search runs in
      let begun : (get_or s.running there.place search).begun ≡ search.begun = ap (λ (x : RunningSearch Q). x.begun) (there.is search) in
      let since = all there.place search there.within in
      omega (arith, since, begun)

  -- the search at an index runs
  pub runs_at : (s : Searches Q) → IsRising 0 s.running s.next → (k : ℕ) (search : RunningSearch Q) → k < length s.running → ((d : RunningSearch Q) → get_or s.running k d ≡ search) → search_at s search.number ≡ Some search
  runs_at s rising k search within is =
      subst (λ (x : RunningSearch Q). search_at s x.number ≡ Some x) (is search) (find-at 0 s.running s.next rising k search within)

  -- one more that does not meet
  pub none_more : (accepts : Q → Bool → Type 0) (searches : List (RunningSearch Q)) (count : ℕ) (attached : List ℕ) (search : RunningSearch Q) → ((d : RunningSearch Q) → get_or searches count d ≡ search) → ((k : ℕ) (d : RunningSearch Q) → k < count → Contains attached (get_or searches k d).number → accepts (get_or searches k d).query false) → (Contains attached search.number → accepts search.query false) → (k : ℕ) (d : RunningSearch Q) → k < count + 1 → Contains attached (get_or searches k d).number → accepts (get_or searches k d).query false
  none_more accepts searches count attached search is before refused k d below held = elim (cases_eq k count) [
    | inl last ↦
        let there : get_or searches k d ≡ search = ap (λ (i : ℕ). get_or searches i d) last ∙ is d in
        subst (λ (s : RunningSearch Q). accepts s.query false) (sym there) (refused (subst (λ (s : RunningSearch Q). Contains attached s.number) there held))
    | inr other ↦ before k d (omega arith) held
  ]
