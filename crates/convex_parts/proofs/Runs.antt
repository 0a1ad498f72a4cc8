-- The same by indices, as the code has them.
use Rattle.std.proofs.Common.{◌≡◌, ℕ, ◌+◌, ◌-◌, ◌<◌, ◌≤◌, List, [], ◌∷◌, ◌++◌, length, get_or, take, drop, refl, sym, ◌∙◌, ap, suc, zero, arith, add-one, sub-one, drop-cons, take-append-drop, append_assoc, subst}
use Rattle.std.proofs.Math.Seq.{take-suc}
use Rattle.std.proofs.lemmas.List.Folds.{drop_split}
use Rattle.std.proofs.lemmas.List.Edits.{between_more}
use Rattle.std.proofs.lemmas.Int.{ints}
use Rattle.std.specs.List.{slice_range, remove, remove_range}
use Rattle.std.specs.Prelude.{ℤ, pos, ◌+ℤ◌, neg_ℤ, int_lt, Bool, true, false, cond}
use Rattle.std.proofs.Math.ListN.{drop_of_length-le}
use mathlib.Core.List.{reverse, reverse-cons}
use Rattle.plane.specs.Points.{origin}
use Rattle.plane.specs.Rings.{turn}
use Rattle.plane.specs.declared.point.Point.{Point}
use Rattle.convex_parts.specs.Paths.{from, along, closed, AddsOnLines, doubled_area}
use Rattle.convex_parts.specs.Regions.{around}
use Rattle.convex_parts.proofs.PathSums.{straight, cut, around_hole, turned, end_of, there_and_back, along-at, back}

-- the point at an index
abbrev pub at : List Point → ℕ → Point
at l i = get_or l i origin

split_at : (l : List Point) (i : ℕ) → i < length l → take i l ++ at l i ∷ drop (suc i) l ≡ l
split_at l i h = ap (λ r. take i l ++ r) (sym (drop-cons l i origin h)) ∙ take-append-drop i l

-- three points in a row
split_three : (l : List Point) (i : ℕ) → i + 2 < length l
    → take i l ++ at l i ∷ at l (suc i) ∷ at l (suc (suc i)) ∷ drop (suc (suc (suc i))) l ≡ l
split_three l i h =
    ap (λ r. take i l ++ at l i ∷ at l (suc i) ∷ r) (sym (drop-cons l (suc (suc i)) origin (omega arith)))
    ∙ ap (λ r. take i l ++ at l i ∷ r) (sym (drop-cons l (suc i) origin (omega arith)))
    ∙ split_at l i (omega arith)

removed : (l : List Point) (i : ℕ) → i + 2 < length l
    → remove l (suc i) ≡ take i l ++ at l i ∷ at l (suc (suc i)) ∷ drop (suc (suc (suc i))) l
removed l i h =
    ap (λ t. t ++ drop (suc (suc i)) l) (take-suc l i origin (omega arith))
    ∙ append_assoc (take i l) (at l i ∷ []) (drop (suc (suc i)) l)
    ∙ ap (λ r. take i l ++ at l i ∷ r) (drop-cons l (suc (suc i)) origin (omega arith))

pub straight_at : (f : Point → Point → ℤ) → AddsOnLines f → (l : List Point) (i : ℕ)
    → i + 2 < length l → turn (at l i) (at l (i + 1)) (at l (i + 2)) ≡ pos 0
    → along f (remove l (i + 1)) ≡ along f l
straight_at f h l i within e =
    let no_turn : turn (at l i) (at l (suc i)) (at l (suc (suc i))) ≡ pos 0 =
    subst (λ j. turn (at l i) (at l j) (at l (suc j)) ≡ pos 0) (add-one i)
    (subst (λ k. turn (at l i) (at l (i + 1)) (at l k) ≡ pos 0) (omega arith) e) in
    ap (λ k. along f (remove l k)) (add-one i)
    ∙ ap (along f) (removed l i within)
    ∙ straight f h (take i l) (at l i) (at l (suc i)) (at l (suc (suc i))) (drop (suc (suc (suc i))) l) no_turn
    ∙ ap (along f) (split_three l i within)

-- a run from one index to another, both included
split_run : (l : List Point) (a e : ℕ) → a < e → e < length l
    → take a l ++ at l a ∷ (slice_range l (suc a) e ++ at l e ∷ drop (suc e) l) ≡ l
split_run l a e lt within =
    ap (λ r. take a l ++ at l a ∷ (slice_range l (suc a) e ++ r)) (sym (drop-cons l e origin within))
    ∙ ap (λ r. take a l ++ at l a ∷ r) (sym (drop_split l (suc a) e (omega arith)))
    ∙ split_at l a (omega arith)

run_is : (l : List Point) (a e : ℕ) → a < e → e < length l
    → slice_range l a (e + 1) ≡ at l a ∷ (slice_range l (suc a) e ++ at l e ∷ [])
run_is l a e lt within =
    let more : slice_range l (suc a) (e + 1) ≡ slice_range l (suc a) e ++ at l e ∷ [] =
    between_more l (suc a) e origin (omega arith) within in
    let head : drop a l ≡ at l a ∷ drop (suc a) l = drop-cons l a origin (omega arith) in
    let count : e + 1 - a ≡ suc (e + 1 - suc a) = omega arith in
    ap (λ n. take n (drop a l)) count ∙ ap (take (suc (e + 1 - suc a))) head ∙ ap (λ r. at l a ∷ r) more

passed_by : (l : List Point) (a e : ℕ) → a < e → e < length l
    → remove_range l (suc a) e ≡ take a l ++ at l a ∷ at l e ∷ drop (suc e) l
passed_by l a e lt within =
    ap (λ t. t ++ drop e l) (take-suc l a origin (omega arith))
    ∙ append_assoc (take a l) (at l a ∷ []) (drop e l)
    ∙ ap (λ r. take a l ++ at l a ∷ r) (drop-cons l e origin within)

pub cut_at : (f : Point → Point → ℤ) → AddsOnLines f → (l : List Point) (a e : ℕ) → a < e → e < length l
    → along f (closed (slice_range l a (e + 1))) +ℤ along f (remove_range l (a + 1) e) ≡ along f l
cut_at f h l a e lt within =
    ap (λ r. along f (closed r) +ℤ along f (remove_range l (a + 1) e)) (run_is l a e lt within)
    ∙ ap (λ k. along f (closed (at l a ∷ (slice_range l (suc a) e ++ at l e ∷ []))) +ℤ along f (remove_range l k e)) (add-one a)
    ∙ ap (λ r. along f (closed (at l a ∷ (slice_range l (suc a) e ++ at l e ∷ []))) +ℤ along f r) (passed_by l a e lt within)
    ∙ cut f h (take a l) (at l a) (slice_range l (suc a) e) (at l e) (drop (suc e) l)
    ∙ ap (along f) (split_run l a e lt within)

-- the last point by its index
last_at : (p : Point) (rest : List Point) → at (p ∷ rest) (length rest) ≡ end_of p rest
last_at p [] = refl
last_at p (q ∷ rest) = last_at q rest

-- a list that goes on to a hole behind an index, and back
pub detour_at : (f : Point → Point → ℤ) → AddsOnLines f → (l : List Point) (i : ℕ) → i < length l
    → (p : Point) (rest : List Point) → at (p ∷ rest) (length rest) ≡ p
    → along f ((take (i + 1) l ++ p ∷ rest) ++ drop i l) ≡ along f l +ℤ along f (p ∷ rest)
detour_at f h l i within p rest e =
    let front : take (i + 1) l ≡ take i l ++ at l i ∷ [] =
    ap (λ n. take n l) (add-one i) ∙ take-suc l i origin within in
    let shape : (take (i + 1) l ++ p ∷ rest) ++ drop i l
    ≡ take i l ++ at l i ∷ p ∷ (rest ++ at l i ∷ drop (suc i) l) =
    append_assoc (take (i + 1) l) (p ∷ rest) (drop i l)
    ∙ ap (λ t. t ++ p ∷ (rest ++ drop i l)) front
    ∙ append_assoc (take i l) (at l i ∷ []) (p ∷ (rest ++ drop i l))
    ∙ ap (λ r. take i l ++ at l i ∷ p ∷ (rest ++ r)) (drop-cons l i origin within) in
    ap (along f) shape
    ∙ around_hole f h (take i l) (at l i) (drop (suc i) l) p rest (sym (last_at p rest) ∙ e)
    ∙ ap (λ r. along f r +ℤ along f (p ∷ rest)) (split_at l i within)

-- a ring that begins at another index
pub turned_at : (f : Point → Point → ℤ) (l : List Point) (k : ℕ)
    → along f (closed (drop k l ++ take k l)) ≡ along f (closed l)
turned_at f l k =
    turned f (take k l) (drop k l) ∙ ap (λ r. along f (closed r)) (take-append-drop k l)

-- what is left of a ring at the end
pub spent_at : (f : Point → Point → ℤ) → AddsOnLines f → (l : List Point) → length l ≡ 3
    → at l 0 ≡ at l 2 → along f l ≡ pos 0
spent_at f h [] e k = absurd (omega (arith, e))
spent_at f h (a ∷ []) e k = absurd (omega (arith, e))
spent_at f h (a ∷ b ∷ []) e k = absurd (omega (arith, e))
spent_at f h (a ∷ b ∷ c ∷ []) e k = ap (λ p. along f (a ∷ b ∷ p ∷ [])) (sym k) ∙ there_and_back f h a b
spent_at f h (a ∷ b ∷ c ∷ d ∷ rest) e k = absurd (omega (arith, e))

pub detour_of : (f : Point → Point → ℤ) → AddsOnLines f → (l : List Point) (i : ℕ) → i < length l
    → (hole : List Point) → (length hole ≡ 0 → ⊥) → at hole 0 ≡ at hole (length hole - 1)
    → along f ((take (i + 1) l ++ hole) ++ drop i l) ≡ along f l +ℤ along f hole
detour_of f h l i within [] some e = absurd (some refl)
detour_of f h l i within (p ∷ rest) some e =
    detour_at f h l i within p rest (sym (e ∙ ap (at (p ∷ rest)) (sub-one (suc (length rest)))))

-- the opposite direction
pub reversed_along : (f : Point → Point → ℤ) → AddsOnLines f → (l : List Point)
    → along f (reverse l) +ℤ along f l ≡ pos 0
reversed_along f h [] = refl
reversed_along f h (p ∷ []) = refl
reversed_along f h (p ∷ q ∷ rest) =
    let ends : reverse (p ∷ q ∷ rest) ≡ reverse rest ++ q ∷ p ∷ [] =
    reverse-cons p (q ∷ rest) ∙ ap (λ l. l ++ p ∷ []) (reverse-cons q rest)
    ∙ append_assoc (reverse rest) (q ∷ []) (p ∷ []) in
    let one : along f (reverse (p ∷ q ∷ rest)) ≡ along f (reverse rest ++ q ∷ []) +ℤ from f q (p ∷ []) =
    ap (along f) ends ∙ along-at f (reverse rest) q (p ∷ []) in
    let other : along f (reverse rest ++ q ∷ []) ≡ along f (reverse (q ∷ rest)) =
    ap (along f) (sym (reverse-cons q rest)) in
    omega (arith, ints, one, other, reversed_along f h (q ∷ rest), back f h p q)

-- a detour as it is written, piece by piece
pub detour_read : (f : Point → Point → ℤ) → AddsOnLines f → (l : List Point) (i : ℕ) → i < length l
    → (hole : List Point) → 2 ≤ length hole → at hole 0 ≡ at hole (length hole - 1)
    → (none front both whole x z : List Point) → none ≡ [] → x ≡ take (i + 1) l → z ≡ drop i l
    → front ≡ none ++ x → both ≡ front ++ hole → whole ≡ both ++ z
    → along f whole ≡ along f l +ℤ along f hole
detour_read f h l i within hole some e none front both whole x z n ex ez ef eb ew =
    let first : front ≡ take (i + 1) l = ef ∙ ap (λ r. r ++ x) n ∙ ex in
    let second : both ≡ take (i + 1) l ++ hole = eb ∙ ap (λ r. r ++ hole) first in
    let third : whole ≡ (take (i + 1) l ++ hole) ++ drop i l =
    ew ∙ ap (λ r. r ++ z) second ∙ ap (λ r. (take (i + 1) l ++ hole) ++ r) ez in
    ap (along f) third ∙ detour_of f h l i within hole (λ k. omega (arith, k)) e

-- one step of a list, and what is behind it
pub step_on : (f : Point → Point → ℤ) (l : List Point) (i : ℕ) → i + 1 < length l
    → f (at l i) (at l (i + 1)) +ℤ along f (drop (i + 1) l) ≡ along f (drop i l)
step_on f l i h =
    let behind : drop (i + 1) l ≡ at l (i + 1) ∷ drop (suc (i + 1)) l = drop-cons l (i + 1) origin h in
    let here : drop i l ≡ at l i ∷ drop (i + 1) l =
    drop-cons l i origin (omega arith) ∙ ap (λ k. at l i ∷ drop k l) (sym (add-one i)) in
    let whole : drop i l ≡ at l i ∷ at l (i + 1) ∷ drop (suc (i + 1)) l =
    here ∙ ap (λ r. at l i ∷ r) behind in
    ap (λ r. f (at l i) (at l (i + 1)) +ℤ along f r) behind ∙ sym (ap (along f) whole)

pub step_off : (f : Point → Point → ℤ) (l : List Point) (i : ℕ) → i < length l → length l ≤ i + 1
    → pos 0 +ℤ along f (drop (i + 1) l) ≡ along f (drop i l)
step_off f l i h k =
    let none : drop (i + 1) l ≡ [] = drop_of_length-le l k in
    let here : drop i l ≡ at l i ∷ drop (i + 1) l =
    drop-cons l i origin h ∙ ap (λ k. at l i ∷ drop k l) (sym (add-one i)) in
    ap (λ r. pos 0 +ℤ along f r) none ∙ sym (ap (along f) (here ∙ ap (λ r. at l i ∷ r) none))

-- the two directions of a ring
around_clockwise : (f : Point → Point → ℤ) (l : List Point) → true ≡ int_lt (along doubled_area l) (pos 0)
    → around f l ≡ neg_ℤ (along f l)
around_clockwise f l e = ap (λ b. cond b (neg_ℤ (along f l)) (along f l)) (sym e)

around_other : (f : Point → Point → ℤ) (l : List Point) → false ≡ int_lt (along doubled_area l) (pos 0)
    → around f l ≡ along f l
around_other f l e = ap (λ b. cond b (neg_ℤ (along f l)) (along f l)) (sym e)

pub hole_as_listed : (f : Point → Point → ℤ) (l made : List Point) → made ≡ l
    → true ≡ int_lt (along doubled_area l) (pos 0) → along f made ≡ neg_ℤ (around f l)
hole_as_listed f l made e k = omega (arith, ints, ap (along f) e, around_clockwise f l k)

pub hole_opposite : (f : Point → Point → ℤ) → AddsOnLines f → (l made : List Point) → made ≡ reverse l
    → false ≡ int_lt (along doubled_area l) (pos 0) → along f made ≡ neg_ℤ (around f l)
hole_opposite f h l made e k =
    omega (arith, ints, ap (along f) e, around_other f l k, reversed_along f h l)

pub outer_opposite : (f : Point → Point → ℤ) → AddsOnLines f → (l made : List Point) → made ≡ reverse l
    → true ≡ int_lt (along doubled_area l) (pos 0) → along f made ≡ around f l
outer_opposite f h l made e k =
    omega (arith, ints, ap (along f) e, around_clockwise f l k, reversed_along f h l)

pub outer_as_listed : (f : Point → Point → ℤ) (l made : List Point) → made ≡ l
    → false ≡ int_lt (along doubled_area l) (pos 0) → along f made ≡ around f l
outer_as_listed f l made e k = ap (along f) e ∙ sym (around_other f l k)

-- a point at which a list does not turn is dropped
pub straight_read : (f : Point → Point → ℤ) → AddsOnLines f → (l s : List Point) (i : ℕ) → s ≡ l
    → i + 2 < length l → turn (at s i) (at s (i + 1)) (at s (i + 2)) ≡ pos 0
    → (made : List Point) → made ≡ remove l (i + 1) → along f made ≡ along f l
straight_read f h l s i e within no_turn made m =
    ap (along f) m
    ∙ straight_at f h l i within (subst (λ r. turn (at r i) (at r (i + 1)) (at r (i + 2)) ≡ pos 0) e no_turn)

-- a part is cut off, as it is written
pub cut_read : (f : Point → Point → ℤ) → AddsOnLines f → (l s : List Point) (a e : ℕ) → a < e → e < length l
    → s ≡ l → (part made : List Point) → along f (closed part) ≡ along f (closed (slice_range s a (e + 1)))
    → made ≡ remove_range l (a + 1) e → along f (closed part) +ℤ along f made ≡ along f l
cut_read f h l s a e lt within same part made p m =
    ap (λ z. z +ℤ along f made) (p ∙ ap (λ r. along f (closed (slice_range r a (e + 1)))) same)
    ∙ ap (λ r. along f (closed (slice_range l a (e + 1))) +ℤ along f r) m
    ∙ cut_at f h l a e lt within

-- the list in the opposite order, as the choice between the two directions
pub chosen_outer : (f : Point → Point → ℤ) → AddsOnLines f → (l made : List Point) (hole : Bool) → hole ≡ false
    → made ≡ reverse l → true ≡ int_lt (along doubled_area l) (pos 0)
    → along f made ≡ cond hole (neg_ℤ (around f l)) (around f l)
chosen_outer f h l made hole e m k =
    outer_opposite f h l made m k ∙ ap (λ b. cond b (neg_ℤ (around f l)) (around f l)) (sym e)

pub chosen_hole : (f : Point → Point → ℤ) → AddsOnLines f → (l made : List Point) (hole : Bool) → hole ≡ true
    → made ≡ reverse l → false ≡ int_lt (along doubled_area l) (pos 0)
    → along f made ≡ cond hole (neg_ℤ (around f l)) (around f l)
chosen_hole f h l made hole e m k =
    hole_opposite f h l made m k ∙ ap (λ b. cond b (neg_ℤ (around f l)) (around f l)) (sym e)
