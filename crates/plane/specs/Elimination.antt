-- What the steps of an elimination preserve.
use Rattle.std.specs.Prelude.{◌≡◌, ◌⊎◌, List, All, HoldsAt, length, ℤ, pos, ◌-ℤ◌, ◌*ℤ◌, neg_ℤ, ◌≤ℤ◌, ◌<ℤ◌, ◌≤◌}
use Rattle.plane.specs.Rows.{Satisfies}
use Rattle.plane.specs.declared.bounds.Bound.{Bound}
use Rattle.plane.specs.declared.bounds.Gap.{Gap}
use Rattle.plane.specs.declared.bounds.Level.{Level}
use Rattle.plane.specs.declared.rows.Row.{Row}

-- t/w is within the bound
abbrev pub Holds : Bound → ℤ → ℤ → Type 0
Holds bound t w = (bound.scale *ℤ t) ≤ℤ (bound.most *ℤ w)

-- y/w is within the gap
pub record HoldsIn (gap : Gap) (y w : ℤ) : Type 0 where
  pub above : Holds gap.lower (neg_ℤ y) w
  pub below : Holds gap.upper y w

-- the level allows the height y/w
abbrev pub Allows : Level → ℤ → ℤ → Type 0
Allows level y w = (level.b *ℤ y) ≤ℤ (level.c *ℤ w)

-- the new gap is part of the old one; P holds in it, and it has all old heights where Q holds
pub record Narrows (P Q : ℤ → ℤ → Type 0) (old new : Gap) : Type 0 where
  pub keeps : (y w : ℤ) → pos 0 <ℤ w → HoldsIn new y w → HoldsIn old y w
  pub within : (y w : ℤ) → pos 0 <ℤ w → HoldsIn new y w → P y w
  pub whole : (y w : ℤ) → pos 0 <ℤ w → HoldsIn old y w → Q y w → HoldsIn new y w

-- Q holds at no height
abbrev pub IsNowhere : (ℤ → ℤ → Type 0) → Type 0
IsNowhere Q = (y w : ℤ) → pos 0 <ℤ w → Q y w → ⊥

-- what remains of two rows when x is removed; the first bounds x from above, the second from below
abbrev pub PairAllows : Row → Row → ℤ → ℤ → Type 0
PairAllows first second y w =
    second.a <ℤ pos 0
    → ((first.a *ℤ second.b -ℤ second.a *ℤ first.b) *ℤ y) ≤ℤ
    ((first.a *ℤ second.c -ℤ second.a *ℤ first.c) *ℤ w)

-- what remains of a row, paired with each of the others, when x is removed
pub record RowAllows (rows : List Row) (row : Row) (y w : ℤ) : Type 0 where
  pub flat : row.a ≡ pos 0 → (row.b *ℤ y) ≤ℤ (row.c *ℤ w)
  pub paired : pos 0 <ℤ row.a → All (λ other. PairAllows row other y w) rows

-- at the height y/w some fraction point satisfies both rows
abbrev pub CrossesBoth : Row → Row → ℤ → ℤ → Type 0
CrossesBoth first second y w = (x : ℤ) × Satisfies x y w first × Satisfies x y w second

-- at the height y/w some fraction point satisfies the row and all the others
abbrev pub CrossesAll : Row → List Row → ℤ → ℤ → Type 0
CrossesAll row rows y w = (x : ℤ) × Satisfies x y w row × All (Satisfies x y w) rows

-- the first row bounds x from above, the third and the fourth bound y from both sides
pub record HasFrame (rows : List Row) : Type 0 where
  pub long : 4 ≤ length rows
  pub right : HoldsAt (λ row. pos 0 <ℤ row.a) rows 0
  pub top : HoldsAt (λ row. (row.a ≡ pos 0) × (pos 0 <ℤ row.b)) rows 2
  pub bottom : HoldsAt (λ row. (row.a ≡ pos 0) × (row.b <ℤ pos 0)) rows 3

-- the greatest value of `a x` that a row allows for a point x/w, y/w
abbrev pub reach : Row → ℤ → ℤ → ℤ
reach row y w = row.c *ℤ w -ℤ row.b *ℤ y

-- of two rows that bound x from above, the first allows no greater x than the second
abbrev pub IsCloser : Row → Row → ℤ → ℤ → Type 0
IsCloser first second y w = (reach first y w *ℤ second.a) ≤ℤ (reach second y w *ℤ first.a)

-- the new best row, of the best one so far and one more
pub record IsBest (best row : Row) (y w : ℤ) (new : Row) : Type 0 where
  pub one_of : (new ≡ best) ⊎ ((new ≡ row) × (pos 0 <ℤ row.a))
  pub below_best : IsCloser new best y w
  pub below_row : pos 0 <ℤ row.a → IsCloser new row y w
