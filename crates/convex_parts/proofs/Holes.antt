-- What adds up along the rings of holes.
use Rattle.std.proofs.Common.{◌≡◌, ℕ, ◌<◌, List, [], ◌∷◌, ◌++◌, length, get_or, take, drop, suc, zero, ◌+◌, ◌≤◌, arith, refl, ap, sym, subst, ◌∙◌, add-one}
use Rattle.std.proofs.lemmas.Int.{ints}
use Rattle.std.proofs.Math.Seq.{take-suc}
use Rattle.std.specs.List.{remove}
use Rattle.std.specs.Prelude.{ℤ, pos, ◌+ℤ◌, neg_ℤ, map}
use Rattle.plane.specs.declared.point.Point.{Point}
use Rattle.convex_parts.specs.Paths.{along}
use Rattle.convex_parts.specs.Regions.{along_all, around, around_all, around_region}

module _ {V : Type 0} (points : V → List Point) (f : Point → Point → ℤ) where
  -- one ring is taken out of a list
  pub along_all-remove : (rings : List V) (i : ℕ) (d : V) → i < length rings
      → along f (points (get_or rings i d)) +ℤ along_all f (map points (remove rings i))
      ≡ along_all f (map points rings)
  along_all-remove [] i d h = absurd (omega arith)
  along_all-remove (ring ∷ rest) zero d h = omega (arith, ints)
  along_all-remove (ring ∷ rest) (suc i) d h = omega (arith, ints, along_all-remove rest i d (omega arith))

  -- one ring is put behind
  pub along_all-append : (rings : List V) (ring : V)
      → along_all f (map points (rings ++ ring ∷ [])) ≡ along_all f (map points rings) +ℤ along f (points ring)
  along_all-append [] ring = omega (arith, ints)
  along_all-append (first ∷ rest) ring = omega (arith, ints, along_all-append rest ring)

  pub around_all-append : (rings : List V) (ring : V)
      → around_all f (map points (rings ++ ring ∷ [])) ≡ around_all f (map points rings) +ℤ around f (points ring)
  around_all-append [] ring = omega (arith, ints)
  around_all-append (first ∷ rest) ring = omega (arith, ints, around_all-append rest ring)

take_whole : {V : Type 0} (l : List V) (i : ℕ) → length l ≤ i → take i l ≡ l
take_whole [] zero h = refl
take_whole [] (suc i) h = refl
take_whole (x ∷ xs) zero h = absurd (omega arith)
take_whole (x ∷ xs) (suc i) h = ap (λ r. x ∷ r) (take_whole xs i (omega arith))

module _ {V : Type 0} (points : V → List Point) (f : Point → Point → ℤ) where
  -- the ring of one more hole
  pub one_more_hole : (holes made listed : List V) (i : ℕ) (ring hole : V) (read : List Point) → i < length listed
      → hole ≡ get_or listed i hole → read ≡ points hole → along f (points ring) ≡ neg_ℤ (around f read)
      → made ≡ holes ++ ring ∷ []
      → along_all f (map points holes) +ℤ around_all f (map points (take i listed)) ≡ pos 0
      → along_all f (map points made) +ℤ around_all f (map points (take (i + 1) listed)) ≡ pos 0
  one_more_hole holes made listed i ring hole read h is r e m k =
      let longer : take (i + 1) listed ≡ take i listed ++ hole ∷ [] =
      ap (λ n. take n listed) (add-one i) ∙ take-suc listed i hole h ∙ ap (λ v. take i listed ++ v ∷ []) (sym is) in
      let one : along_all f (map points made) ≡ along_all f (map points holes) +ℤ along f (points ring) =
      ap (λ l. along_all f (map points l)) m ∙ along_all-append points f holes ring in
      let other : around_all f (map points (take (i + 1) listed)) ≡ around_all f (map points (take i listed)) +ℤ around f (points hole) =
      ap (λ l. around_all f (map points l)) longer ∙ around_all-append points f (take i listed) hole in
      omega (arith, ints, one, other, e, ap (around f) r, k)

  pub all_holes : (holes listed : List V) (i : ℕ) → length listed ≤ i
      → along_all f (map points holes) +ℤ around_all f (map points (take i listed)) ≡ pos 0
      → along_all f (map points holes) +ℤ around_all f (map points listed) ≡ pos 0
  all_holes holes listed i h k =
      subst (λ l. along_all f (map points holes) +ℤ around_all f (map points l) ≡ pos 0) (take_whole listed i h) k

  -- the outer ring and the holes, before any is cut away
  pub region_start : (rings : List V) (outer : V) (others : List V) (ring read : List Point) (holes : List (List Point))
      → rings ≡ outer ∷ others → read ≡ points outer → along f ring ≡ around f read
      → along_all f holes +ℤ around_all f (map points others) ≡ pos 0
      → along f ring +ℤ along_all f holes ≡ around_region f (map points rings)
  region_start rings outer others ring read holes e r k n =
      omega (arith, ints, ap (λ l. around_region f (map points l)) e, ap (around f) r, k, n)

-- one hole is cut away
pub region_more : (f : Point → Point → ℤ) (whole ring read hole hole_read : List Point) (others before all : ℤ)
    → along f whole ≡ along f read +ℤ along f hole_read → read ≡ ring → hole_read ≡ hole
    → along f hole +ℤ others ≡ before → along f ring +ℤ before ≡ all → along f whole +ℤ others ≡ all
region_more f whole ring read hole hole_read others before all e r q k n =
    omega (arith, ints, e, ap (along f) r, ap (along f) q, k, n)

pub region_end : (parts ring others all : ℤ) → parts ≡ ring → others ≡ pos 0 → ring +ℤ others ≡ all → parts ≡ all
region_end parts ring others all e k n = omega (arith, ints)
