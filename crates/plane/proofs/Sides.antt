-- Rows of the sides of a ring, appended one by one.
use Rattle.std.specs.Prelude.{◌≡◌, ℕ, ◌+◌, ◌<◌, ◌≤◌, List, [], ◌∷◌, ◌++◌, length, drop, get_or, map, slice_index_or}
use Rattle.std.proofs.Common.{arith, sym, ◌∙◌, add-one, drop-cons, append_assoc, append-nil}
use Rattle.std.proofs.lemmas.List.{length-append}
use Rattle.std.proofs.lemmas.List.{drop_all}
use Rattle.plane.specs.Rings.{first_of, sides_to, sides}
use Rattle.plane.specs.Rows.{edge_row}
use Rattle.plane.specs.declared.point.Point.{Point}
use Rattle.plane.specs.declared.rows.Row.{Row}

-- the rows so far, followed by those of the sides from index i on, are all the rows
pub record SidesSoFar (before : List Row) (ring : List Point) (i : ℕ) (rows : List Row) : Type 0 where
  pub told : rows ++ map edge_row (sides_to (first_of ring) (drop i ring)) ≡ before ++ map edge_row (sides ring)
  pub count : length rows ≡ length before + i

pub sides_more : (before : List Row) (ring : List Point) (i : ℕ) (d p q : Point) (rows more : List Row) → i < length ring
    → p ≡ get_or ring i d → q ≡ slice_index_or (drop (i + 1) ring) 0 (first_of ring) → more ≡ rows ++ edge_row (p, q) ∷ []
    → SidesSoFar before ring i rows → SidesSoFar before ring (i + 1) more
sides_more before ring i d p q rows more in' p_is q_is e far =
    let left : drop i ring ≡ get_or ring i d ∷ drop (i + 1) ring = rw add-one (drop-cons ring i d in') in
    let sofar : rows ++ map edge_row (sides_to (first_of ring) (get_or ring i d ∷ drop (i + 1) ring)) ≡ before ++ map edge_row (sides ring) = rw left at far.told in
    record {
      told = rw (e, append_assoc, p_is, q_is) sofar;
      count = rw e (rw length-append (omega (arith, far.count)));
    }

pub sides_all : (before : List Row) (ring : List Point) (i : ℕ) (rows : List Row) → length ring ≤ i → SidesSoFar before ring i rows → rows ≡ before ++ map edge_row (sides ring)
sides_all before ring i rows end far =
    let sofar : rows ++ [] ≡ before ++ map edge_row (sides ring) = rw (drop_all i ring end) at far.told in
    sym (append-nil rows) ∙ sofar
