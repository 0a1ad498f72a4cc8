-- What adds up along lists that are split, joined, turned and cut.
use Rattle.std.proofs.Common.{◌≡◌, ℕ, ◌+◌, ◌<◌, List, [], ◌∷◌, ◌++◌, refl, sym, ◌∙◌, ap, arith, append_assoc, subst}
use Rattle.std.proofs.lemmas.Int.{ints}
use Rattle.std.specs.Prelude.{ℤ, pos, ◌+ℤ◌, neg_ℤ, map}
use Rattle.plane.specs.Rings.{turn}
use Rattle.plane.specs.declared.point.Point.{Point}
use Rattle.plane.proofs.Turns.{turn_back, turn_nowhere}
use Rattle.convex_parts.specs.Paths.{from, along, closed, AddsOnLines}
use Rattle.convex_parts.specs.Regions.{around_parts}
use mathlib.Core.List.{append-nil}

-- the last point of a list that begins with `p`
abbrev pub end_of : Point → List Point → Point
end_of p [] = p
end_of p (q ∷ rest) = end_of q rest

module _ (f : Point → Point → ℤ) where
  -- along a list and on to a further one
  pub from-append : (p : Point) (xs : List Point) (q : Point) (ys : List Point)
      → from f p (xs ++ q ∷ ys) ≡ from f p (xs ++ q ∷ []) +ℤ from f q ys
  from-append p [] q ys = omega (arith, ints)
  from-append p (x ∷ xs) q ys = omega (arith, ints, from-append x xs q ys)

  pub from-onto : (p : Point) (xs : List Point) (q : Point) (ys : List Point)
      → from f p (xs ++ q ∷ ys) ≡ (from f p xs +ℤ f (end_of p xs) q) +ℤ from f q ys
  from-onto p [] q ys = omega (arith, ints)
  from-onto p (x ∷ xs) q ys = omega (arith, ints, from-onto x xs q ys)

  -- a list is split at one of its points
  pub along-at : (xs : List Point) (a : Point) (ys : List Point)
      → along f (xs ++ a ∷ ys) ≡ along f (xs ++ a ∷ []) +ℤ from f a ys
  along-at [] a ys = omega (arith, ints)
  along-at (x ∷ xs) a ys = from-append x xs a ys

  -- a ring that begins elsewhere
  pub turned : (xs ys : List Point) → along f (closed (ys ++ xs)) ≡ along f (closed (xs ++ ys))
  turned [] ys = ap (λ l. along f (closed l)) (append-nil ys)
  turned (x ∷ xs) [] = ap (λ l. along f (closed l)) (sym (append-nil (x ∷ xs)))
  turned (x ∷ xs) (y ∷ ys) =
      let one : from f y ((ys ++ x ∷ xs) ++ y ∷ [])
      ≡ from f y (ys ++ x ∷ []) +ℤ from f x (xs ++ y ∷ []) =
      ap (from f y) (append_assoc ys (x ∷ xs) (y ∷ [])) ∙ from-append y ys x (xs ++ y ∷ []) in
      let other : from f x ((xs ++ y ∷ ys) ++ x ∷ [])
      ≡ from f x (xs ++ y ∷ []) +ℤ from f y (ys ++ x ∷ []) =
      ap (from f x) (append_assoc xs (y ∷ ys) (x ∷ [])) ∙ from-append x xs y (ys ++ x ∷ []) in
      omega (arith, ints, one, other)

  -- one more part
  pub around_parts-append : (parts : List (List Point)) (part : List Point)
      → around_parts f (parts ++ part ∷ []) ≡ around_parts f parts +ℤ along f (closed part)
  around_parts-append [] part = omega (arith, ints)
  around_parts-append (x ∷ rest) part = omega (arith, ints, around_parts-append rest part)

module _ (f : Point → Point → ℤ) (h : AddsOnLines f) where
  pub nowhere : (p : Point) → f p p ≡ pos 0
  nowhere p = let e : f p p +ℤ f p p ≡ f p p = h.adds p p p (turn_nowhere p p) in omega (arith, ints)

  -- there and back
  pub back : (p q : Point) → f p q +ℤ f q p ≡ pos 0
  back p q = h.adds p q p (turn_back p q) ∙ nowhere p

  -- a point at which a list does not turn
  pub straight : (xs : List Point) (a m c : Point) (ys : List Point) → turn a m c ≡ pos 0
      → along f (xs ++ a ∷ c ∷ ys) ≡ along f (xs ++ a ∷ m ∷ c ∷ ys)
  straight xs a m c ys e =
      omega (arith, ints, along-at f xs a (c ∷ ys), along-at f xs a (m ∷ c ∷ ys), h.adds a m c e)

  -- a run of points, and the list that passes it by
  pub cut : (xs : List Point) (a : Point) (m : List Point) (b : Point) (ys : List Point)
      → along f (closed (a ∷ m ++ b ∷ [])) +ℤ along f (xs ++ a ∷ b ∷ ys)
      ≡ along f (xs ++ a ∷ (m ++ b ∷ ys))
  cut xs a m b ys =
      let part : from f a ((m ++ b ∷ []) ++ a ∷ []) ≡ from f a (m ++ b ∷ []) +ℤ f b a =
      ap (from f a) (append_assoc m (b ∷ []) (a ∷ [])) ∙ from-append f a m b (a ∷ [])
      ∙ omega (arith, ints) in
      omega (
        arith,
        ints,
        part,
        along-at f xs a (b ∷ ys),
        along-at f xs a (m ++ b ∷ ys),
        from-append f a m b ys,
        back a b,
      )

  -- a detour from a point along a list that ends where it begins
  pub around_hole : (xs : List Point) (a : Point) (ys : List Point) (p : Point) (rest : List Point)
      → end_of p rest ≡ p
      → along f (xs ++ a ∷ p ∷ (rest ++ a ∷ ys)) ≡ along f (xs ++ a ∷ ys) +ℤ along f (p ∷ rest)
  around_hole xs a ys p rest e =
      let last : f (end_of p rest) a ≡ f p a = ap (λ q. f q a) e in
      omega (
        arith,
        ints,
        along-at f xs a (p ∷ (rest ++ a ∷ ys)),
        along-at f xs a ys,
        from-onto f p rest a ys,
        last,
        back a p,
      )

  -- a list that ends where it begins, and has one other point
  pub there_and_back : (a b : Point) → along f (a ∷ b ∷ a ∷ []) ≡ pos 0
  there_and_back a b = omega (arith, ints, back a b)

-- a part is cut off, and kept
pub one_more_part : (f : Point → Point → ℤ) (parts made : List (List Point)) (part : List Point) (old new whole : ℤ)
    → made ≡ parts ++ part ∷ [] → along f (closed part) +ℤ new ≡ old → around_parts f parts +ℤ old ≡ whole
    → around_parts f made +ℤ new ≡ whole
one_more_part f parts made part old new whole m e k =
    omega (arith, ints, ap (around_parts f) m, around_parts-append f parts part, e, k)
