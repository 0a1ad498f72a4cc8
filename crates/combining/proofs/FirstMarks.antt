-- The first true one of a list of marks.
use Rattle.std.proofs.Common.{◌≡◌, ℕ, suc, ◌+◌, Bool, true, false, ◌||◌, cond, List, [], ◌∷◌, ◌++◌, length, map, Some, None, is_some, refl, sym, ap, ◌∙◌, true≢false, arith, length-append}
use Rattle.std.specs.List.{list_any, position_from}

abbrev pub mark : Bool → Bool
mark b = b

abbrev pub unmarked : {X : Type 0} → X → Bool
unmarked x = false

-- two lists of equal length whose first true marks, if any, are at the same index
pub data SameFirst : List Bool → List Bool → Type 0 where
  none : SameFirst [] []
  here : {bs cs : List Bool} → length bs ≡ length cs → SameFirst (true ∷ bs) (true ∷ cs)
  later : {bs cs : List Bool} → SameFirst bs cs → SameFirst (false ∷ bs) (false ∷ cs)

pub SameFirst-length : (bs cs : List Bool) → SameFirst bs cs → length bs ≡ length cs
SameFirst-length _ _ none = refl
SameFirst-length _ _ (here e) = ap suc e
SameFirst-length _ _ (later s) = ap suc (SameFirst-length _ _ s)

longer : (bs cs ds es : List Bool) → length bs ≡ length cs → length ds ≡ length es → length (bs ++ ds) ≡ length (cs ++ es)
longer bs cs ds es x y = omega (arith, length-append bs ds, length-append cs es)

pub SameFirst-append : (bs cs ds es : List Bool) → SameFirst bs cs → SameFirst ds es → SameFirst (bs ++ ds) (cs ++ es)
SameFirst-append _ _ ds es none t = t
SameFirst-append _ _ ds es (here {bs = bs} {cs = cs} e) t = here (longer bs cs ds es e (SameFirst-length ds es t))
SameFirst-append _ _ ds es (later s) t = later (SameFirst-append _ _ ds es s t)

-- marks after the first true one do not matter
pub SameFirst-found : (bs cs ds es : List Bool) → SameFirst bs cs → list_any mark bs ≡ true → length ds ≡ length es → SameFirst (bs ++ ds) (cs ++ es)
SameFirst-found _ _ ds es none found e = absurd (true≢false (sym found))
SameFirst-found _ _ ds es (here {bs = bs} {cs = cs} h) found e = here (longer bs cs ds es h e)
SameFirst-found _ _ ds es (later s) found e = later (SameFirst-found _ _ ds es s found e)

pub SameFirst-unmarked : {X Y : Type 0} (xs : List X) (ys : List Y) → length xs ≡ length ys → SameFirst (map unmarked xs) (map unmarked ys)
SameFirst-unmarked [] [] e = none
SameFirst-unmarked [] (y ∷ ys) e = absurd cc
SameFirst-unmarked (x ∷ xs) [] e = absurd cc
SameFirst-unmarked (x ∷ xs) (y ∷ ys) e = later (SameFirst-unmarked xs ys cc)

pub any_left : (bs cs : List Bool) → list_any mark bs ≡ true → list_any mark (bs ++ cs) ≡ true
any_left [] cs found = absurd cc
any_left (true ∷ bs) cs found = refl
any_left (false ∷ bs) cs found = any_left bs cs found

pub any_right : (bs cs : List Bool) → list_any mark cs ≡ true → list_any mark (bs ++ cs) ≡ true
any_right [] cs found = found
any_right (true ∷ bs) cs found = refl
any_right (false ∷ bs) cs found = any_right bs cs found

-- tests of mapped elements
pub map-changed : {X Y : Type 0} (test : Y → Bool) (other : X → Bool) (f : X → Y) → ((x : X) → test (f x) ≡ other x) → (xs : List X) → map test (map f xs) ≡ map other xs
map-changed test other f same [] = refl
map-changed test other f same (x ∷ xs) = λ i. same x i ∷ map-changed test other f same xs i

pub map-unmarked : {X Y : Type 0} (f : X → Y) (xs : List X) → map unmarked (map f xs) ≡ map unmarked xs
map-unmarked f xs = map-changed unmarked unmarked f (λ x. refl) xs

pub position_from-marks : {X : Type 0} (test : X → Bool) (n : ℕ) (xs : List X) → position_from mark n (map test xs) ≡ position_from test n xs
position_from-marks test n [] = refl
position_from-marks test n (x ∷ xs) = ap (cond (test x) (Some n)) (position_from-marks test (n + 1) xs)

pub SameFirst-position : (n : ℕ) (bs cs : List Bool) → SameFirst bs cs → position_from mark n bs ≡ position_from mark n cs
SameFirst-position n _ _ none = refl
SameFirst-position n _ _ (here e) = refl
SameFirst-position n _ _ (later s) = SameFirst-position (n + 1) _ _ s

pub position_from-unmarked : {X : Type 0} (test : X → Bool) → ((x : X) → test x ≡ false) → (n : ℕ) (xs : List X) → position_from test n xs ≡ None
position_from-unmarked test out n [] = refl
position_from-unmarked test out n (x ∷ xs) = ap (λ b. cond b (Some n) (position_from test (n + 1) xs)) (out x) ∙ position_from-unmarked test out (n + 1) xs

pub position_from-marked : {X : Type 0} (test : X → Bool) (n : ℕ) (xs : List X) → list_any mark (map test xs) ≡ true → is_some (position_from test n xs) ≡ true
position_from-marked test n [] found = absurd (true≢false (sym found))
position_from-marked test n (x ∷ xs) found = go (test x) found (position_from-marked test (n + 1) xs)
  where
    go : (b : Bool) → (b || list_any mark (map test xs)) ≡ true → (list_any mark (map test xs) ≡ true → is_some (position_from test (n + 1) xs) ≡ true) →
        is_some (cond b (Some n) (position_from test (n + 1) xs)) ≡ true
    go true found behind = refl
    go false found behind = behind found
