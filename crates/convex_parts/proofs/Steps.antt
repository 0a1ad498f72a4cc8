-- The steps of a line, by indices.
use Rattle.std.proofs.Common.{◌≡◌, ℕ, ◌+◌, ◌<◌, ◌≤◌, List, [], ◌∷◌, ◌++◌, length, drop, refl, sym, ◌∙◌, ap, suc, zero, arith, add-one, drop-cons, append_assoc, length-append}
use Rattle.std.proofs.Math.ListN.{drop_of_length-le}
use Rattle.std.specs.Cmp.{first_so, second_so}
use Rattle.std.specs.List.{list_all}
use Rattle.std.specs.Prelude.{Bool, true, false, cond, ◌&&◌, Result, Ok, Err}
use Rattle.plane.specs.Points.{origin, is_same, is_in_range}
use Rattle.plane.specs.Canonical.{in_order, segment_of}
use Rattle.plane.specs.declared.point.Point.{Point}
use Rattle.plane.specs.declared.fault.ShapeFault.{ShapeFault}
use Rattle.plane.specs.declared.fault.ShapeFault.TheVariants.{OutOfRange, SameEnds}
use Rattle.convex_parts.specs.Lines.{steps_from, steps_of}
use Rattle.convex_parts.proofs.Runs.{at}

-- each point of a list passes the test
all_at : (p : Point → Bool) (l : List Point) (i : ℕ) → list_all p l ≡ true → i < length l → p (at l i) ≡ true
all_at p [] i e h = absurd (omega arith)
all_at p (x ∷ xs) zero e h = first_so (p x) (list_all p xs) e
all_at p (x ∷ xs) (suc i) e h = all_at p xs i (second_so (p x) (list_all p xs) e) (omega arith)

both_in_range : (a b : Point) → is_in_range a ≡ true → is_in_range b ≡ true → list_all is_in_range (a ∷ b ∷ []) ≡ true
both_in_range a b e k = (λ i. e i && (k i && true))

steps_on : (l : List Point) (i : ℕ) → i + 1 < length l
    → steps_of (drop i l) ≡ cond (is_same (at l i) (at l (i + 1))) (steps_of (drop (i + 1) l)) (in_order (at l i) (at l (i + 1)) ∷ steps_of (drop (i + 1) l))
steps_on l i h =
    let behind : drop (i + 1) l ≡ at l (i + 1) ∷ drop (suc (i + 1)) l = drop-cons l (i + 1) origin h in
    let here : drop i l ≡ at l i ∷ drop (i + 1) l =
    drop-cons l i origin (omega arith) ∙ ap (λ k. at l i ∷ drop k l) (sym (add-one i)) in
    let whole : drop i l ≡ at l i ∷ at l (i + 1) ∷ drop (suc (i + 1)) l = here ∙ ap (λ r. at l i ∷ r) behind in
    ap steps_of whole
    ∙ ap (λ r. cond (is_same (at l i) (at l (i + 1))) (steps_of r) (in_order (at l i) (at l (i + 1)) ∷ steps_of r)) (sym behind)

made_by : (range same : Bool) (corners part : List Point) (rest : List (List Point))
    → Ok part ≡ cond range (cond same (Err SameEnds) (Ok corners)) (Err OutOfRange)
    → cond same rest (corners ∷ rest) ≡ part ∷ rest
made_by false same corners part rest e = cc
made_by true true corners part rest e = cc
made_by true false corners part rest e = cc

pub step_made : (l : List Point) (i : ℕ) → i + 1 < length l → (part : List Point)
    → Ok part ≡ segment_of (at l i) (at l (i + 1)) → steps_of (drop i l) ≡ part ∷ steps_of (drop (i + 1) l)
step_made l i h part e =
    steps_on l i h
    ∙ made_by (list_all is_in_range (at l i ∷ at l (i + 1) ∷ [])) (is_same (at l i) (at l (i + 1))) (in_order (at l i) (at l (i + 1))) part (steps_of (drop (i + 1) l)) e

none_by : (range same : Bool) (corners : List Point) (fault : ShapeFault) (rest : List (List Point)) → range ≡ true
    → Err fault ≡ cond range (cond same (Err SameEnds) (Ok corners)) (Err OutOfRange)
    → cond same rest (corners ∷ rest) ≡ rest
none_by false same corners fault rest r e = cc
none_by true true corners fault rest r e = refl
none_by true false corners fault rest r e = cc

pub step_none : (l : List Point) (i : ℕ) → i + 1 < length l → list_all is_in_range l ≡ true → (fault : ShapeFault)
    → Err fault ≡ segment_of (at l i) (at l (i + 1)) → steps_of (drop i l) ≡ steps_of (drop (i + 1) l)
step_none l i h r fault e =
    steps_on l i h
    ∙ none_by (list_all is_in_range (at l i ∷ at l (i + 1) ∷ [])) (is_same (at l i) (at l (i + 1))) (in_order (at l i) (at l (i + 1))) fault (steps_of (drop (i + 1) l))
    (both_in_range (at l i) (at l (i + 1)) (all_at is_in_range l i r (omega arith)) (all_at is_in_range l (i + 1) r h)) e

pub step_last : (l : List Point) (i : ℕ) → i < length l → length l ≤ i + 1
    → steps_of (drop i l) ≡ steps_of (drop (i + 1) l)
step_last l i h k =
    let none : drop (i + 1) l ≡ [] = drop_of_length-le l k in
    let here : drop i l ≡ at l i ∷ drop (i + 1) l =
    drop-cons l i origin h ∙ ap (λ k. at l i ∷ drop k l) (sym (add-one i)) in
    ap steps_of (here ∙ ap (λ r. at l i ∷ r) none) ∙ sym (ap steps_of none)

-- one more step is told
pub told_more : (parts rest next all : List (List Point)) (part : List Point) → parts ++ rest ≡ all → rest ≡ part ∷ next
    → (parts ++ part ∷ []) ++ next ≡ all
told_more parts rest next all part e k = append_assoc parts (part ∷ []) next ∙ ap (λ r. parts ++ r) (sym k) ∙ e

pub told_long : (parts rest next all : List (List Point)) (part : List Point) → parts ++ rest ≡ all → rest ≡ part ∷ next
    → length parts < length all
told_long parts rest next all part e k =
    omega (arith, sym (length-append parts rest) ∙ ap length e, ap length k)
