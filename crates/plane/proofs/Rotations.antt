-- A ring starting at another point, or in the opposite direction.
use Rattle.std.specs.Prelude.{◌≡◌, ◌<◌, ◌≤◌, true, false, List, [], ◌∷◌, ◌++◌, All, length, take, drop, reverse, slice_index_or, pos, ◌≤ℤ◌, refl}
use Rattle.std.specs.List.{position_or_len}
use Rattle.std.proofs.Common.{ap, sym, ◌∙◌, subst, take-append-drop, append-nil, add_comm}
use Rattle.std.proofs.lemmas.Bool.{false≢true}
use Rattle.std.proofs.lemmas.Grind.{reverse_onto}
use Rattle.std.proofs.lemmas.List.{length-append, length-reverse, reverse-reverse}
use Rattle.std.proofs.lemmas.List.Elements.{All-nil, All-cons, All-head, All-tail, All-append, All-weaker, All-same}
use Rattle.plane.specs.Convex.{Differ, AreOnOneLine, AreOnOrLeft, IsConvexRing}
use Rattle.plane.specs.Points.{IsInRange}
use Rattle.plane.specs.Rings.{turn, sides, sides_to, is_least, from_least, has_repeat, is_flat, goes_left}
use Rattle.plane.proofs.RingTests.{differ_if, flat_if_on_line, decides_goes_left}
use Rattle.plane.proofs.ShapeRows.{left_part, right_part}
use Rattle.plane.specs.declared.point.Point.{Point}
use Rattle.plane.specs.declared.ring.TheConstants.{LISTED_LIMIT}

-- the second part first
pub All-swap : {X : Type 0} (P : X → Type 0) (xs ys : List X) → All P (xs ++ ys) → All P (ys ++ xs)
All-swap P xs ys all = All-append P ys xs (right_part P xs ys all) (left_part P xs ys all)

pub All-reverse : {X : Type 0} (P : X → Type 0) (xs : List X) → All P xs → All P (reverse xs)
All-reverse P [] all = All-nil P
All-reverse P (x ∷ xs) all = All-same P (reverse (x ∷ xs)) (reverse xs ++ x ∷ []) (reverse_onto xs x []) (All-append P (reverse xs) (x ∷ []) (All-reverse P xs (All-tail P x xs all)) (All-cons P x [] (All-head P x xs all) (All-nil P)))

-- a fact about every three points
three_weaker : (xs ys : List Point) → ((P : Point → Type 0) → All P xs → All P ys) → AreOnOneLine xs → AreOnOneLine ys
three_weaker xs ys f line =
    f (λ p. All (λ q. All (λ r. turn p q r ≡ pos 0) ys) ys)
    (All-weaker _ (λ p. All (λ q. All (λ r. turn p q r ≡ pos 0) ys) ys)
    (λ p two. f (λ q. All (λ r. turn p q r ≡ pos 0) ys) (All-weaker _ (λ q. All (λ r. turn p q r ≡ pos 0) ys) (λ q one. f (λ r. turn p q r ≡ pos 0) one) xs two)) xs line)

pub Differ-append : (xs ys : List Point) → Differ xs → Differ ys → All (λ x. All (λ y. x ≡ y → ⊥) ys) xs → Differ (xs ++ ys)
Differ-append [] ys h k cross = k
Differ-append (x ∷ xs) ys h k cross =
    (All-append (λ q. x ≡ q → ⊥) xs ys h.0 (All-head (λ x. All (λ y. x ≡ y → ⊥) ys) x xs cross), Differ-append xs ys h.1 k (All-tail (λ x. All (λ y. x ≡ y → ⊥) ys) x xs cross))

pub Differ-parts : (xs ys : List Point) → Differ (xs ++ ys) → Differ xs × Differ ys × All (λ x. All (λ y. x ≡ y → ⊥) ys) xs
Differ-parts [] ys h = (tt, h, All-nil _)
Differ-parts (x ∷ xs) ys h =
    let rest = Differ-parts xs ys h.1 in
    ((left_part (λ q. x ≡ q → ⊥) xs ys h.0, rest.0), rest.1, All-cons (λ x. All (λ y. x ≡ y → ⊥) ys) x xs (right_part (λ q. x ≡ q → ⊥) xs ys h.0) rest.2)

-- facts about each pair, in the other order
cross-swap : (xs ys : List Point) → All (λ x. All (λ y. x ≡ y → ⊥) ys) xs → All (λ y. All (λ x. y ≡ x → ⊥) xs) ys
cross-swap xs ys all = λ k d in' j e among e'. all j e among k d in' (sym e')

pub Differ-swap : (xs ys : List Point) → Differ (xs ++ ys) → Differ (ys ++ xs)
Differ-swap xs ys h = let parts = Differ-parts xs ys h in Differ-append ys xs parts.1 parts.0 (cross-swap xs ys parts.2)

Differ-reverse : (xs : List Point) → Differ xs → Differ (reverse xs)
Differ-reverse [] h = tt
Differ-reverse (x ∷ xs) h =
    subst Differ (sym (reverse_onto xs x []))
    (Differ-append (reverse xs) (x ∷ []) (Differ-reverse xs h.1) (All-nil _, tt)
    (All-weaker (λ q. x ≡ q → ⊥) (λ q. All (λ y. q ≡ y → ⊥) (x ∷ [])) (λ q apart. All-cons (λ y. q ≡ y → ⊥) x [] (λ e. apart (sym e)) (All-nil _)) (reverse xs) (All-reverse (λ q. x ≡ q → ⊥) xs h.0)))

-- a ring's points in the opposite direction are a convex ring, if that goes left
pub reversed_convex : (ring back : List Point) → back ≡ reverse ring → All IsInRange ring → 3 ≤ length ring → length ring < LISTED_LIMIT → Differ ring → (AreOnOneLine ring → ⊥) → AreOnOrLeft (sides back) back → IsConvexRing back
reversed_convex ring back e in_range least most differ not_flat left = record {
  in_range = rw e (All-reverse IsInRange ring in_range);
  at_least = rw (e, length-reverse) least;
  at_most = rw (e, length-reverse) most;
  differ = rw e (Differ-reverse ring differ);
  not_flat = λ line. not_flat (three_weaker (reverse ring) ring (λ P all. All-same P ring (reverse (reverse ring)) (sym (reverse-reverse ring)) (All-reverse P (reverse ring) all)) (subst AreOnOneLine e line));
  left = left;
}

-- ---- sides

next-append : (xs ys : List Point) (end : Point) → slice_index_or (xs ++ ys) 0 end ≡ slice_index_or xs 0 (slice_index_or ys 0 end)
next-append [] ys end = refl
next-append (x ∷ xs) ys end = refl

one_more : {X : Type 0} (x y : X) (l k m : List X) → x ≡ y → l ≡ k ++ m → (x ∷ l) ≡ (y ∷ k) ++ m
one_more x y l k m e f = rw (e, f) refl

sides_to-append : (end : Point) (xs ys : List Point) → sides_to end (xs ++ ys) ≡ sides_to (slice_index_or ys 0 end) xs ++ sides_to end ys
sides_to-append end [] ys = refl
sides_to-append end (x ∷ xs) ys =
    one_more (x, slice_index_or (xs ++ ys) 0 end) (x, slice_index_or xs 0 (slice_index_or ys 0 end)) (sides_to end (xs ++ ys)) (sides_to (slice_index_or ys 0 end) xs) (sides_to end ys)
    (ap (λ q. (x, q)) (next-append xs ys end)) (sides_to-append end xs ys)

sides-swap : (P : Point × Point → Type 0) (xs ys : List Point) → All P (sides (xs ++ ys)) → All P (sides (ys ++ xs))
sides-swap P [] ys all = All-same P (sides (ys ++ [])) (sides ys) (ap sides (append-nil ys)) all
sides-swap P (x ∷ xs) [] all = All-same P (sides (x ∷ xs)) (sides ((x ∷ xs) ++ [])) (ap sides (sym (append-nil (x ∷ xs)))) all
sides-swap P (x ∷ xs) (y ∷ ys) all =
    All-same P (sides_to y ((y ∷ ys) ++ (x ∷ xs))) (sides_to x (y ∷ ys) ++ sides_to y (x ∷ xs)) (sides_to-append y (y ∷ ys) (x ∷ xs))
    (All-swap P (sides_to y (x ∷ xs)) (sides_to x (y ∷ ys))
    (All-same P (sides_to y (x ∷ xs) ++ sides_to x (y ∷ ys)) (sides_to x ((x ∷ xs) ++ (y ∷ ys))) (sym (sides_to-append x (x ∷ xs) (y ∷ ys))) all))

pub swapped_convex : (xs ys : List Point) → IsConvexRing (xs ++ ys) → IsConvexRing (ys ++ xs)
swapped_convex xs ys h = record {
  in_range = All-swap IsInRange xs ys h.in_range;
  at_least = rw (← same_length xs ys) h.at_least;
  at_most = rw (← same_length xs ys) h.at_most;
  differ = Differ-swap xs ys h.differ;
  not_flat = λ line. h.not_flat (three_weaker (ys ++ xs) (xs ++ ys) (λ P. All-swap P ys xs) line);
  left = All-weaker (λ side. All (λ r. pos 0 ≤ℤ turn side.0 side.1 r) (xs ++ ys)) (λ side. All (λ r. pos 0 ≤ℤ turn side.0 side.1 r) (ys ++ xs))
      (λ side all. All-swap (λ r. pos 0 ≤ℤ turn side.0 side.1 r) xs ys all) (sides (ys ++ xs)) (sides-swap (λ side. All (λ r. pos 0 ≤ℤ turn side.0 side.1 r) (xs ++ ys)) xs ys h.left);
}
  where
    same_length : (xs ys : List Point) → length (xs ++ ys) ≡ length (ys ++ xs)
    same_length xs ys = length-append xs ys ∙ add_comm (length xs) (length ys) ∙ sym (length-append ys xs)

pub from_least_convex : (ring : List Point) → IsConvexRing ring → IsConvexRing (from_least ring)
from_least_convex ring h =
    let at = position_or_len (is_least ring) ring in
    swapped_convex (take at ring) (drop at ring) (subst IsConvexRing (sym (take-append-drop at ring)) h)

pub reversed_if : (ring back same : List Point) → All IsInRange ring → 3 ≤ length ring → length ring < LISTED_LIMIT → false ≡ has_repeat ring → false ≡ is_flat ring
    → back ≡ reverse ring → same ≡ back → true ≡ goes_left same → IsConvexRing same
reversed_if ring back same in_range least most differ not_flat e f left =
    reversed_convex ring same (f ∙ e) in_range least most (differ_if ring (sym differ)) (λ line. false≢true (not_flat ∙ flat_if_on_line ring line)) ((decides_goes_left same).0 (sym left))

pub reversed_in_range : (ring back same : List Point) → All IsInRange ring → back ≡ reverse ring → same ≡ back → All IsInRange same
reversed_in_range ring back same in_range e f = rw (f, e) (All-reverse IsInRange ring in_range)
