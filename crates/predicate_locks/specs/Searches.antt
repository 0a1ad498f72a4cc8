-- What a contract sees of the running searches: each with its number, its query and its beginning.
use Rattle.std.specs.Prelude.{◌≡◌, ◌≢◌, ℕ, ◌+◌, ◌<◌, ◌≤◌, ◌==◌, Bool, true, false, List, [], ◌∷◌, Contains, Option, Some, None, is_some, if◌then◌else◌}
use Rattle.predicate_locks.specs.declared.running.RunningSearch.{RunningSearch}

-- the searches that run, by rising number, and the number that the next one gets
pub record Searches (Q : Type 0) : Type 0 where
  pub running : List (RunningSearch Q)
  pub next : ℕ

-- the highest number of 64 bits, which no search gets
abbrev pub last_number : ℕ
last_number = 18446744073709551615

module _ {Q : Type 0} where
  abbrev pub find_number : ℕ → List (RunningSearch Q) → Option (RunningSearch Q)
  find_number number [] = None
  find_number number (search ∷ rest) =
      if search.number == number then Some search else find_number number rest

  -- the search with this number, if it runs
  abbrev pub search_at : Searches Q → ℕ → Option (RunningSearch Q)
  search_at s number = find_number number s.running

  abbrev pub does_run : Searches Q → ℕ → Bool
  does_run s number = is_some (search_at s number)

  -- one more search, under the next number, which did not run
  pub record IsEntered (old new : Searches Q) (search : RunningSearch Q) : Type 0 where
    pub next_number : search.number ≡ old.next
    pub did_not_run : search_at old search.number ≡ None
    pub runs : search_at new search.number ≡ Some search
    pub others : (other : ℕ) → other ≢ search.number → search_at new other ≡ search_at old other
    pub next : new.next ≡ old.next + 1

  -- the search with this number no longer runs, and nothing else changes
  pub record IsLeft (old new : Searches Q) (number : ℕ) : Type 0 where
    pub gone : search_at new number ≡ None
    pub others : (other : ℕ) → other ≢ number → search_at new other ≡ search_at old other
    pub next : new.next ≡ old.next

  -- the running search of the least number that is attached and whose query is accepted; `accepts`
  -- says what the test may return for a query
  pub record IsFirstMeeting (accepts : Q → Bool → Type 0) (s : Searches Q) (attached : List ℕ)
      (number : ℕ) : Type 0 where
    pub search : RunningSearch Q
    pub runs : search_at s number ≡ Some search
    pub is_attached : Contains attached number
    pub accepted : accepts search.query true
    pub least : (other : ℕ) (smaller : RunningSearch Q) → other < number
        → search_at s other ≡ Some smaller → Contains attached other → accepts smaller.query false

  -- no query of a running search that is attached is accepted
  abbrev pub NoneMeets : (Q → Bool → Type 0) → Searches Q → List ℕ → Type 0
  NoneMeets accepts s attached =
      (number : ℕ) (search : RunningSearch Q) → search_at s number ≡ Some search
      → Contains attached number → accepts search.query false

  -- `met` has the numbers of all attached running searches whose query is accepted, and no others
  pub record AreMeeting (accepts : Q → Bool → Type 0) (s : Searches Q)
      (attached met : List ℕ) : Type 0 where
    pub listed : (number : ℕ) → Contains met number → (search : RunningSearch Q)
        × (search_at s number ≡ Some search) × Contains attached number × accepts search.query true
    pub missed : (number : ℕ) (search : RunningSearch Q) → search_at s number ≡ Some search
        → Contains attached number → (Contains met number → ⊥) → accepts search.query false

  -- every running search began at or after this stamp
  abbrev pub AllBegunSince : Searches Q → ℕ → Type 0
  AllBegunSince s stamp = (number : ℕ) (search : RunningSearch Q) → search_at s number ≡ Some search
      → stamp ≤ search.begun
