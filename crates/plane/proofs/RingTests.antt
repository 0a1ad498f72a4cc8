-- What the tests of points and rings decide.
use Rattle.std.specs.Prelude.{◌≡◌, ◌<◌, ◌≤◌, Contains, Decides, cond, slice_index_or, Bool, true, false, List, [], ◌∷◌, All, length, ℤ, pos, ◌≤ℤ◌, int_le, refl}
use Rattle.std.specs.List.{list_all, list_any}
use Rattle.std.specs.Ordering.{int_eq}
use Rattle.std.proofs.Common.{arith, ap, sym, ◌∙◌}
use Rattle.std.proofs.lemmas.Bool.{and_parts, and_from, or_parts, or_from, true≢false, false≢true, false_from_ne_true}
use Rattle.std.proofs.lemmas.Bool.Decides.{Decides-by_and}
use Rattle.plane.proofs.Turns.{same_point}
use Rattle.std.proofs.lemmas.Int.{ints}
use Rattle.std.proofs.lemmas.List.Elements.{All-nil, All-cons, All-head, All-tail, All-weaker, All-contains, All-contains_itself}
use Rattle.plane.specs.Convex.{Differ, AreOnOneLine, AreOnOrLeft, IsConvexRing}
use Rattle.plane.specs.Coordinates.{IsCoordinate, is_coordinate}
use Rattle.plane.specs.Points.{IsInRange, is_in_range, is_same}
use Rattle.plane.specs.Rings.{turn, sides, sides_to, is_on_or_left, is_on_line, goes_left, is_flat, has_repeat}
use Rattle.plane.specs.declared.point.Point.{Point}
use Rattle.plane.specs.declared.ring.TheConstants.{LISTED_LIMIT}

int_le-true : (a b : ℤ) → int_le a b ≡ true → a ≤ℤ b
int_le-true a b e = omega (arith, ints)

le-int_le : (a b : ℤ) → a ≤ℤ b → int_le a b ≡ true
le-int_le a b h = grind (arith, ints)

int_eq-true : (a b : ℤ) → int_eq a b ≡ true → a ≡ b
int_eq-true a b e = grind (arith, ints)

eq-int_eq : (a b : ℤ) → a ≡ b → int_eq a b ≡ true
eq-int_eq a b e = grind (arith, ints)

-- a test of each element decides a fact about each
pub decides_all : {X : Type 0} (p : X → Bool) (P : X → Type 0) → ((x : X) → Decides (p x) (P x)) → (xs : List X) → Decides (list_all p xs) (All P xs)
decides_all p P each xs = Decides-by_and p P (list_all p) each refl (λ _ _. refl) xs

decides_le : (a b : ℤ) → Decides (int_le a b) (a ≤ℤ b)
decides_le a b = (int_le-true a b, le-int_le a b)

pub decides_in_range : (p : Point) → Decides (is_in_range p) (IsInRange p)
decides_in_range p = (
  λ e. let both = and_parts _ _ e in record { x_in_range = coordinate _ both.0; y_in_range = coordinate _ both.1 },
  λ h. and_from _ _ (test _ h.x_in_range) (test _ h.y_in_range),
)
  where
    coordinate : (z : ℤ) → is_coordinate z ≡ true → IsCoordinate z
    coordinate z e = let both = and_parts _ _ e in record { low = int_le-true _ _ both.0; high = int_le-true _ _ both.1 }

    test : (z : ℤ) → IsCoordinate z → is_coordinate z ≡ true
    test z h = and_from _ _ (le-int_le _ _ h.low) (le-int_le _ _ h.high)

pub decides_left : (side : Point × Point) (r : Point) → Decides (is_on_or_left side r) (pos 0 ≤ℤ turn side.0 side.1 r)
decides_left side r = decides_le (pos 0) (turn side.0 side.1 r)

pub decides_line : (side : Point × Point) (r : Point) → Decides (is_on_line side r) (turn side.0 side.1 r ≡ pos 0)
decides_line side r = (int_eq-true _ _, eq-int_eq _ _)

pub decides_same : (p q : Point) → Decides (is_same p q) (p ≡ q)
decides_same p q = (
  λ e. let both = and_parts _ _ e in same_point p q (int_eq-true _ _ both.0) (int_eq-true _ _ both.1),
  λ e. and_from _ _ (eq-int_eq _ _ (ap (λ r. r.x) e)) (eq-int_eq _ _ (ap (λ r. r.y) e)),
)

pub decides_goes_left : (ring : List Point) → Decides (goes_left ring) (AreOnOrLeft (sides ring) ring)
decides_goes_left ring =
    decides_all (λ side. list_all (is_on_or_left side) ring) (λ side. All (λ r. pos 0 ≤ℤ turn side.0 side.1 r) ring)
    (λ side. decides_all (is_on_or_left side) (λ r. pos 0 ≤ℤ turn side.0 side.1 r) (decides_left side) ring) (sides ring)

-- both ends of each side are among the points
ends_among : (P : Point → Type 0) (end : Point) (ring : List Point) → P end → All P ring → All (λ side. P side.0 × P side.1) (sides_to end ring)
ends_among P end [] h all = All-nil _
ends_among P end (p ∷ rest) h all =
    All-cons (λ side. P side.0 × P side.1) (p, slice_index_or rest 0 end) (sides_to end rest) (All-head P p rest all, next rest (All-tail P p rest all)) (ends_among P end rest h (All-tail P p rest all))
  where
    next : (rest : List Point) → All P rest → P (slice_index_or rest 0 end)
    next [] others = h
    next (q ∷ rest) others = All-head P q rest others

pub sides_among : (P : Point → Type 0) (ring : List Point) → All P ring → All (λ side. P side.0 × P side.1) (sides ring)
sides_among P [] all = All-nil _
sides_among P (p ∷ rest) all = ends_among P p (p ∷ rest) (All-head P p rest all) all

pub flat_if_on_line : (ring : List Point) → AreOnOneLine ring → is_flat ring ≡ true
flat_if_on_line ring line =
    (decides_all (λ side. list_all (is_on_line side) ring) (λ side. All (λ r. turn side.0 side.1 r ≡ pos 0) ring)
    (λ side. decides_all (is_on_line side) (λ r. turn side.0 side.1 r ≡ pos 0) (decides_line side) ring) (sides ring)).1
    (All-weaker (λ side. Among side.0 × Among side.1) (λ side. All (λ r. turn side.0 side.1 r ≡ pos 0) ring) (λ side both. on_side side both) (sides ring) (sides_among Among ring (All-contains_itself ring)))
  where
    Among : Point → Type 0
    Among = Contains ring

    on_side : (side : Point × Point) → Among side.0 × Among side.1 → All (λ r. turn side.0 side.1 r ≡ pos 0) ring
    on_side side both = All-contains (λ q. All (λ r. turn side.0 q r ≡ pos 0) ring) ring side.1 (All-contains (λ p. All (λ q. All (λ r. turn p q r ≡ pos 0) ring) ring) ring side.0 line both.0) both.1

not_any : (p : Point) (rest : List Point) → list_any (is_same p) rest ≡ false → All (λ q. p ≡ q → ⊥) rest
not_any p [] e = All-nil _
not_any p (q ∷ rest) e =
    let parts = or_parts _ _ e in
    All-cons (λ q. p ≡ q → ⊥) q rest (λ same. false≢true (sym parts.0 ∙ (decides_same p q).1 same)) (not_any p rest parts.1)

any_not : (p : Point) (rest : List Point) → All (λ q. p ≡ q → ⊥) rest → list_any (is_same p) rest ≡ false
any_not p [] all = refl
any_not p (q ∷ rest) all =
    or_from _ _ (false_from_ne_true _ (λ e. All-head (λ q. p ≡ q → ⊥) q rest all ((decides_same p q).0 e))) (any_not p rest (All-tail (λ q. p ≡ q → ⊥) q rest all))

pub differ_if : (points : List Point) → has_repeat points ≡ false → Differ points
differ_if [] e = tt
differ_if (p ∷ rest) e = go (list_any (is_same p) rest) refl (differ_if rest) e
  where
    go : (v : Bool) → list_any (is_same p) rest ≡ v → (has_repeat rest ≡ false → Differ rest) → cond v true (has_repeat rest) ≡ false → Differ (p ∷ rest)
    go true f rest_differ e = absurd (true≢false e)
    go false f rest_differ e = (not_any p rest f, rest_differ e)

pub repeats_not : (points : List Point) → Differ points → has_repeat points ≡ false
repeats_not [] h = refl
repeats_not (p ∷ rest) h = rw (any_not p rest h.0) (repeats_not rest h.1)

pub convex_if : (ring : List Point) → All IsInRange ring → 3 ≤ length ring → length ring < LISTED_LIMIT → false ≡ has_repeat ring → false ≡ is_flat ring → true ≡ goes_left ring → IsConvexRing ring
convex_if ring in_range least most differ not_flat left = record {
  in_range = in_range;
  at_least = least;
  at_most = most;
  differ = differ_if ring (sym differ);
  not_flat = λ line. false≢true (not_flat ∙ flat_if_on_line ring line);
  left = (decides_goes_left ring).0 (sym left);
}
