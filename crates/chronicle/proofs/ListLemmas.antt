-- Lists compared item by item.
use Rattle.std.proofs.Common.{◌≡◌, ◌≢◌, ◌<◌, ◌≤◌, ℕ, zero, suc, ◌+◌, Bool, true, false, List, [], ◌∷◌, ◌++◌, length, map, take, drop, filter, slice_get, Option, None, Some, refl, sym, ap, ◌∙◌, subst, append-nil, length-append, add-one, arith, if◌then◌else◌}
use Rattle.std.specs.List.{last_or}
use Rattle.std.proofs.lemmas.List.{length-take-le, take-append-le}
use Rattle.std.proofs.lemmas.List.Elements.{filter-append}
use Rattle.std.proofs.lemmas.Option.{slice_get_within, slice_get_past}
use Rattle.chronicle.specs.Comparing.{DifferFirst, AreTold, PartsAt}

-- a list around its item at a place
pub around : {X : Type 0} (xs : List X) (i : ℕ) (x : X) → slice_get xs i ≡ Some x → xs ≡ take i xs ++ x ∷ drop (suc i) xs
around [] i x e = cc
around (y ∷ ys) zero x e = ap (λ (z : _). z ∷ ys) (some_same y x e)
  where
    some_same : {X : Type 0} (a b : X) → Some a ≡ Some b → a ≡ b
    some_same a b e = cc
around (y ∷ ys) (suc i) x e = ap (λ (zs : List _). y ∷ zs) (around ys i x e)

-- one more item can be taken
take_next : {X : Type 0} (xs : List X) (i : ℕ) (x : X) → slice_get xs i ≡ Some x → take (suc i) xs ≡ take i xs ++ x ∷ []
take_next [] i x e = cc
take_next (y ∷ ys) zero x e = cc
take_next (y ∷ ys) (suc i) x e = ap (λ (zs : List _). y ∷ zs) (take_next ys i x e)

pub take_one_more : {X : Type 0} (xs : List X) (i : ℕ) (x : X) → slice_get xs i ≡ Some x → take (i + 1) xs ≡ take i xs ++ x ∷ []
take_one_more xs i x e = ap (λ (k : ℕ). take k xs) (add-one i) ∙ take_next xs i x e

take_all : {X : Type 0} (xs : List X) → take (length xs) xs ≡ xs
take_all [] = refl
take_all (y ∷ ys) = ap (λ (zs : List _). y ∷ zs) (take_all ys)

-- the item after a first part is the next one
pub item_behind : {X : Type 0} (xs ys : List X) (y : X) → slice_get (xs ++ y ∷ ys) (length xs) ≡ Some y
item_behind [] ys y = refl
item_behind (x ∷ xs) ys y = item_behind xs ys y

pub item_before : {X : Type 0} (xs ys : List X) (i : ℕ) → i < length xs → slice_get (xs ++ ys) i ≡ slice_get xs i
item_before [] ys i h = absurd (omega arith)
item_before (x ∷ xs) ys zero h = refl
item_before (x ∷ xs) ys (suc i) h = item_before xs ys i (omega arith)

-- at first nothing is told
pub none_told : {X : Type 0} (xs : List X) → AreTold 0 [] xs
none_told xs = record { within = omega arith; same = refl }

-- one more is told
pub one_more_told : {X : Type 0} (xs told : List X) (n : ℕ) (x : X) → AreTold n told xs → slice_get xs n ≡ Some x → AreTold (n + 1) (told ++ x ∷ []) xs
one_more_told xs told n x h e =
    let in_it = slice_get_within xs n x e in
    record { within = omega arith; same = take_one_more xs n x e ∙ ap (λ (zs : List _). zs ++ x ∷ []) h.same }

-- what is told goes on with an item that the list does not have there
pub parts_here : {X : Type 0} (xs told later : List X) (n : ℕ) (x : X) → AreTold n told xs → slice_get xs n ≢ Some x → PartsAt n (told ++ x ∷ later) xs
parts_here xs told later n x h other =
    let count : length told ≡ n = ap length (sym h.same) ∙ length-take-le n xs h.within in
    let whole : take n told ≡ told = subst (λ (k : ℕ). take k told ≡ told) count (take_all told) in
    record {
      within = omega (arith, length-append told (x ∷ later));
      first = record {
        same = take-append-le n told (x ∷ later) (omega arith) ∙ whole ∙ sym h.same;
        differ = λ e. other (sym e ∙ subst (λ (k : ℕ). slice_get (told ++ x ∷ later) k ≡ Some x) count (item_behind told later x));
      };
    }

-- if more is told, the lists still differ first at the same place
pub parts_still : {X : Type 0} (xs told more : List X) (n : ℕ) → PartsAt n told xs → PartsAt n (told ++ more) xs
parts_still xs told more n h =
    let w = h.within in
    record {
      within = omega (arith, length-append told more);
      first = record {
        same = take-append-le n told more (omega arith) ∙ h.first.same;
        differ = λ e. h.first.differ (sym (item_before told more n w) ∙ e);
      };
    }

-- all are told, and the list has more
pub parts_behind : {X : Type 0} (xs told : List X) (n : ℕ) → AreTold n told xs → n ≢ length xs → DifferFirst n told xs
parts_behind xs told n h other =
    let count : length told ≡ n = ap length (sym h.same) ∙ length-take-le n xs h.within in
    record {
      same = subst (λ (k : ℕ). take k told ≡ told) count (take_all told) ∙ sym h.same;
      differ = λ e. is_there xs n (omega (arith, h.within, other)) (sym e ∙ slice_get_past told n (omega arith));
    }
  where
    is_there : {X : Type 0} (xs : List X) (i : ℕ) → i < length xs → slice_get xs i ≢ None
    is_there [] i h = absurd (omega arith)
    is_there (x ∷ xs) zero h = λ e. cc
    is_there (x ∷ xs) (suc i) h = is_there xs i (omega arith)

-- all are told, and the list ends there
pub all_told : {X : Type 0} (xs told : List X) (n : ℕ) → AreTold n told xs → n ≡ length xs → told ≡ xs
all_told xs told n h e = sym h.same ∙ ap (λ (k : ℕ). take k xs) e ∙ take_all xs

-- a list filtered up to an item, and with it
pub filter_passes : {X : Type 0} (p : X → Bool) (xs : List X) (i : ℕ) (x : X) → slice_get xs i ≡ Some x → p x ≡ false → filter p (take (i + 1) xs) ≡ filter p (take i xs)
filter_passes p xs i x e no_match =
    ap (filter p) (take_one_more xs i x e) ∙ filter-append p (take i xs) (x ∷ []) ∙ ap (λ (zs : List _). filter p (take i xs) ++ zs) (left_out x no_match) ∙ append-nil (filter p (take i xs))
  where
    left_out : (x : _) → p x ≡ false → filter p (x ∷ []) ≡ []
    left_out x h = rw h refl

pub filter_keeps : {X : Type 0} (p : X → Bool) (xs : List X) (i : ℕ) (x : X) → slice_get xs i ≡ Some x → p x ≡ true → filter p (take (i + 1) xs) ≡ filter p (take i xs) ++ x ∷ []
filter_keeps p xs i x e match =
    ap (filter p) (take_one_more xs i x e) ∙ filter-append p (take i xs) (x ∷ []) ∙ ap (λ (zs : List _). filter p (take i xs) ++ zs) (kept x match)
  where
    kept : (x : _) → p x ≡ true → filter p (x ∷ []) ≡ x ∷ []
    kept x h = rw h refl

pub filter_around : {X : Type 0} (p : X → Bool) (xs : List X) (i : ℕ) (x : X) → slice_get xs i ≡ Some x → p x ≡ true → filter p xs ≡ filter p (take i xs) ++ x ∷ filter p (drop (suc i) xs)
filter_around p xs i x e match =
    ap (filter p) (around xs i x e) ∙ filter-append p (take i xs) (x ∷ drop (suc i) xs) ∙ ap (λ (zs : List _). filter p (take i xs) ++ zs) (kept x match)
  where
    kept : (x : _) → p x ≡ true → filter p (x ∷ drop (suc i) xs) ≡ x ∷ filter p (drop (suc i) xs)
    kept x h = rw h refl

-- the last item of two parts
pub last_behind : {X : Type 0} (o : Option X) (xs ys : List X) → last_or o (xs ++ ys) ≡ last_or (last_or o xs) ys
last_behind o [] ys = refl
last_behind o (x ∷ xs) ys = last_behind (Some x) xs ys

-- if there is a last item, the default is not taken
pub last_alone : {X : Type 0} (o : Option X) (xs : List X) (x : X) → last_or None xs ≡ Some x → last_or o xs ≡ Some x
last_alone o [] x e = cc
last_alone o (y ∷ ys) x e = e

-- if there is no last item, the list is empty
pub last_none : {X : Type 0} (xs : List X) → last_or None xs ≡ None → xs ≡ []
last_none [] e = refl
last_none (x ∷ xs) e = absurd (some_last x xs e)
  where
    some_last : {X : Type 0} (x : X) (xs : List X) → last_or (Some x) xs ≢ None
    some_last x [] = λ e. cc
    some_last x (y ∷ ys) = some_last y ys

-- the last item by its place
pub last_at : {X : Type 0} (o : Option X) (x : X) (xs : List X) → last_or o (x ∷ xs) ≡ slice_get (x ∷ xs) (length xs)
last_at o x [] = refl
last_at o x (y ∷ ys) = last_at (Some x) y ys

-- an item behind a first part
pub slice_get-drop : {X : Type 0} (k : ℕ) (xs : List X) (i j : ℕ) → j ≡ k + i → slice_get (drop k xs) i ≡ slice_get xs j
slice_get-drop zero xs i j e = let same : i ≡ j = omega arith in ap (slice_get xs) same
slice_get-drop (suc k) [] i j e = refl
slice_get-drop (suc k) (x ∷ xs) i zero e = absurd (omega arith)
slice_get-drop (suc k) (x ∷ xs) i (suc j) e = slice_get-drop k xs i j (omega arith)
