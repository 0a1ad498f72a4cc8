-- The steps of the elimination, for rows and gaps.
use Rattle.std.specs.Prelude.{◌≡◌, ℕ, ◌+◌, ◌≤◌, ◌<◌, length, Option, Some, None, IfSome, IfNone, All, List, ℤ, pos, ◌+ℤ◌, ◌-ℤ◌, ◌*ℤ◌, neg_ℤ, ◌≤ℤ◌, ◌<ℤ◌}
use Rattle.std.proofs.Common.{lit<, arith, get_or, take, sym, take_all, subst, ⊎_elim}
use Rattle.std.proofs.lemmas.List.Elements.{All-nil, All-more, All-same}
use Rattle.std.proofs.lemmas.Int.{ints, by_lt_z}
use Rattle.plane.specs.Bounds.{IsSmallRow, IsHeight}
use Rattle.plane.specs.Elimination.{Holds, HoldsIn, Allows, Narrows, IsNowhere, PairAllows, RowAllows, CrossesBoth, CrossesAll, reach, IsCloser, IsBest}
use Rattle.plane.specs.Rows.{Satisfies}
use Rattle.std.proofs.Math.IntN.{zero-*ℤ}
use Rattle.plane.proofs.Orders.{removed, neg-mul-neg, closer_trans, below_right, above_left, on_level}
use Rattle.plane.proofs.Wide.{IsCross}
use Rattle.plane.specs.declared.bounds.Bound.{Bound}
use Rattle.plane.specs.declared.bounds.Gap.{Gap}
use Rattle.plane.specs.declared.bounds.Height.{Height}
use Rattle.plane.specs.declared.bounds.Level.{Level}
use Rattle.plane.specs.declared.rows.Row.{Row}

pub cross_b : (first second : Row) → IsSmallRow first → IsSmallRow second → IsCross first.a second.b second.a first.b 20000000 20000000 20000000 20000000
cross_b first second h k = record {
  a_size = h.a_small;
  b_size = k.b_small;
  c_size = k.a_small;
  d_size = h.b_small;
  m_fits = lit< tt;
  n_fits = lit< tt;
  k_fits = lit< tt;
  l_fits = lit< tt;
  fits = lit< tt;
}

pub cross_c : (first second : Row) → IsSmallRow first → IsSmallRow second → IsCross first.a second.c second.a first.c 20000000 400000000000000 20000000 400000000000000
cross_c first second h k = record {
  a_size = h.a_small;
  b_size = k.c_small;
  c_size = k.a_small;
  d_size = h.c_small;
  m_fits = lit< tt;
  n_fits = lit< tt;
  k_fits = lit< tt;
  l_fits = lit< tt;
  fits = lit< tt;
}

-- what remains of a pair of rows when x is removed, as a level
pub pair_level : (first second : Row) (level : Level) (y w : ℤ)
    → level.b ≡ first.a *ℤ second.b -ℤ second.a *ℤ first.b → level.c ≡ first.a *ℤ second.c -ℤ second.a *ℤ first.c
    → pos 0 <ℤ first.a → second.a <ℤ pos 0 → CrossesBoth first second y w → Allows level y w
pair_level first second level y w b c above below (x, one, two) = rw (b, c) (removed first.a first.b first.c second.a second.b second.c x y w above below one two)

pub pair_narrows : (first second : Row) (level : Level) (old new : Gap)
    → level.b ≡ first.a *ℤ second.b -ℤ second.a *ℤ first.b → level.c ≡ first.a *ℤ second.c -ℤ second.a *ℤ first.c
    → pos 0 <ℤ first.a → second.a <ℤ pos 0 → Narrows (Allows level) (Allows level) old new → Narrows (PairAllows first second) (CrossesBoth first second) old new
pair_narrows first second level old new b c above below h = record {
  keeps = h.keeps;
  within = λ y w w_above in' _. rw (← b, ← c) (h.within y w w_above in');
  whole = λ y w w_above in' crosses. h.whole y w w_above in' (pair_level first second level y w b c above below crosses);
}

pub pair_nowhere : (first second : Row) (level : Level) (r : Option Gap)
    → level.b ≡ first.a *ℤ second.b -ℤ second.a *ℤ first.b → level.c ≡ first.a *ℤ second.c -ℤ second.a *ℤ first.c
    → pos 0 <ℤ first.a → second.a <ℤ pos 0 → IfNone r (IsNowhere (Allows level)) → IfNone r (IsNowhere (CrossesBoth first second))
pair_nowhere first second level (Some new) b c above below h = tt
pair_nowhere first second level None b c above below h = λ y w w_above crosses. h y w w_above (pair_level first second level y w b c above below crosses)

-- the gap after a row was paired with the first i of the others
pub record PairedSoFar (rows : List Row) (row : Row) (i : ℕ) (old new : Gap) : Type 0 where
  pub keeps : (y w : ℤ) → pos 0 <ℤ w → HoldsIn new y w → HoldsIn old y w
  pub within : (y w : ℤ) → pos 0 <ℤ w → HoldsIn new y w → All (λ other. PairAllows row other y w) (take i rows)
  pub whole : (y w : ℤ) → pos 0 <ℤ w → HoldsIn old y w → CrossesAll row rows y w → HoldsIn new y w

pub crosses_one : (rows : List Row) (row : Row) (i : ℕ) (d : Row) (y w : ℤ) → i < length rows → CrossesAll row rows y w → CrossesBoth row (get_or rows i d) y w
crosses_one rows row i d y w in' (x, first, all) = (x, first, all i d in')

pub paired_none : (rows : List Row) (row : Row) (gap : Gap) → PairedSoFar rows row 0 gap gap
paired_none rows row gap = record {
  keeps = λ y w above h. h;
  within = λ y w above h. All-nil _;
  whole = λ y w above h crosses. h;
}

pub paired_more : (rows : List Row) (row : Row) (i : ℕ) (d : Row) (old mid new : Gap) → i < length rows → PairedSoFar rows row i old mid
    → Narrows (PairAllows row (get_or rows i d)) (CrossesBoth row (get_or rows i d)) mid new → PairedSoFar rows row (i + 1) old new
paired_more rows row i d old mid new in' far step = record {
  keeps = λ y w above h. far.keeps y w above (step.keeps y w above h);
  within = λ y w above h. All-more (λ other. PairAllows row other y w) rows i d in' (far.within y w above (step.keeps y w above h)) (step.within y w above h);
  whole = λ y w above h crosses. step.whole y w above (far.whole y w above h crosses) (crosses_one rows row i d y w in' crosses);
}

pub paired_nowhere : (rows : List Row) (row : Row) (i : ℕ) (d : Row) → i < length rows → IsNowhere (CrossesBoth row (get_or rows i d)) → IsNowhere (CrossesAll row rows)
paired_nowhere rows row i d in' nowhere y w above crosses = nowhere y w above (crosses_one rows row i d y w in' crosses)

pub paired_all : (rows : List Row) (row : Row) (i : ℕ) (old new : Gap) → length rows ≤ i → PairedSoFar rows row i old new
    → Narrows (λ y w. All (λ other. PairAllows row other y w) rows) (CrossesAll row rows) old new
paired_all rows row i old new end far = record {
  keeps = far.keeps;
  within = λ y w above h. All-same (λ other. PairAllows row other y w) rows (take i rows) (sym (take_all i rows end)) (far.within y w above h);
  whole = far.whole;
}

pub cross_reach : (row : Row) (y w : ℤ) → IsSmallRow row → IsHeight y w → IsCross row.c w row.b y 400000000000000 800000000000000 20000000 16000000000000000000000
cross_reach row y w h k = record {
  a_size = h.c_small;
  b_size = k.w_small;
  c_size = h.b_small;
  d_size = k.y_small;
  m_fits = lit< tt;
  n_fits = lit< tt;
  k_fits = lit< tt;
  l_fits = lit< tt;
  fits = lit< tt;
}

-- a row without x, as a level
pub flat_allows : (row : Row) (level : Level) (x y w : ℤ) → level.b ≡ row.b → level.c ≡ row.c → row.a ≡ pos 0 → Satisfies x y w row → Allows level y w
flat_allows row level x y w b c flat h = rw (b, c) (dropped _ _ (rw (flat, zero-*ℤ x) at h))
  where
    dropped : (p q : ℤ) → (pos 0 +ℤ p) ≤ℤ q → p ≤ℤ q
    dropped p q h = omega (arith, ints)

pub flat_narrows : (rows : List Row) (row : Row) (level : Level) (old new : Gap) → level.b ≡ row.b → level.c ≡ row.c → row.a ≡ pos 0
    → Narrows (Allows level) (Allows level) old new → Narrows (RowAllows rows row) (CrossesAll row rows) old new
flat_narrows rows row level old new b c flat h = record {
  keeps = h.keeps;
  within = λ y w above in'. record {
    flat = λ _. rw (← b, ← c) (h.within y w above in');
    paired = λ right. absurd (not_right row.a flat right);
  };
  whole = λ y w above in' crosses. h.whole y w above in' (flat_allows row level crosses.0 y w b c flat crosses.1);
}
  where
    not_right : (a : ℤ) → a ≡ pos 0 → pos 0 <ℤ a → ⊥
    not_right a e h = omega (arith, ints)

pub flat_nowhere : (rows : List Row) (row : Row) (level : Level) (r : Option Gap) → level.b ≡ row.b → level.c ≡ row.c → row.a ≡ pos 0
    → IfNone r (IsNowhere (Allows level)) → IfNone r (IsNowhere (CrossesAll row rows))
flat_nowhere rows row level (Some new) b c flat h = tt
flat_nowhere rows row level None b c flat h = λ y w above crosses. h y w above (flat_allows row level crosses.0 y w b c flat crosses.1)

pub right_narrows : (rows : List Row) (row : Row) (old new : Gap) → pos 0 <ℤ row.a
    → Narrows (λ y w. All (λ other. PairAllows row other y w) rows) (CrossesAll row rows) old new → Narrows (RowAllows rows row) (CrossesAll row rows) old new
right_narrows rows row old new right h = record {
  keeps = h.keeps;
  within = λ y w above in'. record { flat = λ flat. absurd (not_flat row.a right flat); paired = λ _. h.within y w above in' };
  whole = h.whole;
}
  where
    not_flat : (a : ℤ) → pos 0 <ℤ a → a ≡ pos 0 → ⊥
    not_flat a h e = omega (arith, ints)

pub left_narrows : (rows : List Row) (row : Row) (gap : Gap) → row.a <ℤ pos 0 → Narrows (RowAllows rows row) (CrossesAll row rows) gap gap
left_narrows rows row gap left = record {
  keeps = λ y w above h. h;
  within = λ y w above h. record { flat = λ flat. absurd (not_flat row.a left flat); paired = λ right. absurd (not_both row.a left right) };
  whole = λ y w above h crosses. h;
}
  where
    not_flat : (a : ℤ) → a <ℤ pos 0 → a ≡ pos 0 → ⊥
    not_flat a h e = omega (arith, ints)

    not_both : (a : ℤ) → a <ℤ pos 0 → pos 0 <ℤ a → ⊥
    not_both a h k = omega (arith, ints)

-- a row without x, as a bound on y/w
pub top_holds : (row : Row) (level : Level) (bound : Bound) (x y w : ℤ) → level.b ≡ row.b → level.c ≡ row.c → bound.scale ≡ level.b → bound.most ≡ level.c
    → row.a ≡ pos 0 → Satisfies x y w row → Holds bound y w
top_holds row level bound x y w b c scale most flat h = rw (scale, most) (flat_allows row level x y w b c flat h)

pub bottom_holds : (row : Row) (level : Level) (bound : Bound) (x y w : ℤ) → level.b ≡ row.b → level.c ≡ row.c → bound.scale ≡ neg_ℤ level.b → bound.most ≡ level.c
    → row.a ≡ pos 0 → Satisfies x y w row → Holds bound (neg_ℤ y) w
bottom_holds row level bound x y w b c scale most flat h = rw (scale, most, neg-mul-neg level.b y) (flat_allows row level x y w b c flat h)

-- the gap once the first i rows have narrowed it
pub record HeightSoFar (rows : List Row) (i : ℕ) (gap : Gap) : Type 0 where
  pub within : (y w : ℤ) → pos 0 <ℤ w → HoldsIn gap y w → All (λ row. RowAllows rows row y w) (take i rows)
  pub whole : (x y w : ℤ) → pos 0 <ℤ w → All (Satisfies x y w) rows → HoldsIn gap y w

pub height_none : (rows : List Row) (gap : Gap) → ((x y w : ℤ) → pos 0 <ℤ w → All (Satisfies x y w) rows → HoldsIn gap y w) → HeightSoFar rows 0 gap
height_none rows gap h = record { within = λ y w above in'. All-nil (λ row. RowAllows rows row y w); whole = h }

pub height_more : (rows : List Row) (i : ℕ) (d : Row) (old new : Gap) → i < length rows → HeightSoFar rows i old
    → Narrows (RowAllows rows (get_or rows i d)) (CrossesAll (get_or rows i d) rows) old new → HeightSoFar rows (i + 1) new
height_more rows i d old new in' far step = record {
  within = λ y w above h. All-more (λ row. RowAllows rows row y w) rows i d in' (far.within y w above (step.keeps y w above h)) (step.within y w above h);
  whole = λ x y w above all. step.whole y w above (far.whole x y w above all) (x, all i d in', all);
}

pub height_nowhere : (rows : List Row) (i : ℕ) (d : Row) → i < length rows → IsNowhere (CrossesAll (get_or rows i d) rows)
    → (x y w : ℤ) → pos 0 <ℤ w → All (Satisfies x y w) rows → ⊥
height_nowhere rows i d in' nowhere x y w above all = nowhere y w above (x, all i d in', all)

pub height_some : (rows : List Row) (i : ℕ) (gap : Gap) (r : Option Height) → length rows ≤ i → HeightSoFar rows i gap
    → IfSome r (λ found. HoldsIn gap found.y found.w) → IfSome r (λ found. All (λ row. RowAllows rows row found.y found.w) rows)
height_some rows i gap None end far h = tt
height_some rows i gap (Some found) end far h =
    All-same (λ row. RowAllows rows row found.y found.w) rows (take i rows) (sym (take_all i rows end)) (far.within found.y found.w found.in_range.above_zero h)

pub height_without : (rows : List Row) (i : ℕ) (gap : Gap) (r : Option Height) → HeightSoFar rows i gap
    → IfNone r ((y w : ℤ) → pos 0 <ℤ w → HoldsIn gap y w → ⊥) → IfNone r ((x y w : ℤ) → pos 0 <ℤ w → All (Satisfies x y w) rows → ⊥)
height_without rows i gap None far h = λ x y w above all. h y w above (far.whole x y w above all)
height_without rows i gap (Some found) far h = tt

-- the best of the first i rows, or the row that the search started with
pub record BestSoFar (rows : List Row) (y w : ℤ) (i : ℕ) (best : Row) : Type 0 where
  pub small : IsSmallRow best
  pub right : pos 0 <ℤ best.a
  pub allows : RowAllows rows best y w
  pub closest : All (λ row. pos 0 <ℤ row.a → IsCloser best row y w) (take i rows)

pub best_more : (rows : List Row) (y w : ℤ) (i : ℕ) (d : Row) (best new : Row) → i < length rows → All IsSmallRow rows → All (λ row. RowAllows rows row y w) rows
    → BestSoFar rows y w i best → IsBest best (get_or rows i d) y w new → BestSoFar rows y w (i + 1) new
best_more rows y w i d best new in' small allowed far step = record {
  small = one_is (λ row. IsSmallRow row) far.small (λ _. small i d in');
  right = one_is (λ row. pos 0 <ℤ row.a) far.right (λ right. right);
  allows = one_is (λ row. RowAllows rows row y w) far.allows (λ _. allowed i d in');
  closest = All-more (λ row. pos 0 <ℤ row.a → IsCloser new row y w) rows i d in'
      (λ k e within row_right. closer_trans _ new.a _ best.a _ _ (weak new.a (one_is (λ row. pos 0 <ℤ row.a) far.right (λ right. right))) far.right (weak _ row_right) step.below_best (far.closest k e within row_right))
      step.below_row;
}
  where
    weak : (a : ℤ) → pos 0 <ℤ a → pos 0 ≤ℤ a
    weak a h = omega (arith, ints)

    one_is : (P : Row → Type 0) → P best → (pos 0 <ℤ (get_or rows i d).a → P (get_or rows i d)) → P new
    one_is P old other = ⊎_elim (λ e. subst P (sym e) old) (λ e. subst P (sym e.0) (other e.1)) step.one_of

-- the point of the best row satisfies each row
pub satisfied : (rows : List Row) (best row : Row) (x y w : ℤ) → x ≡ reach best y w → pos 0 <ℤ best.a → (pos 0 <ℤ row.a → IsCloser best row y w) → RowAllows rows row y w
    → PairAllows best row y w → Satisfies x (y *ℤ best.a) (w *ℤ best.a) row
satisfied rows best row x y w e right closest allows paired =
    rw e (by_sign row.a (Satisfies (reach best y w) (y *ℤ best.a) (w *ℤ best.a) row)
    (λ above. below_right (reach best y w) best.a row.b row.c y w row.a (closest above))
    (λ below. above_left best.a best.b best.c row.a row.b row.c y w (paired below))
    (λ flat. rw flat (on_level (reach best y w) best.a row.b row.c y w (weak best.a right) (allows.flat flat))))
  where
    weak : (a : ℤ) → pos 0 <ℤ a → pos 0 ≤ℤ a
    weak a h = omega (arith, ints)

    flat_if : (a : ℤ) → a ≤ℤ pos 0 → pos 0 ≤ℤ a → a ≡ pos 0
    flat_if a h k = omega (arith, ints)

    by_sign : (a : ℤ) (P : Type 0) → (pos 0 <ℤ a → P) → (a <ℤ pos 0 → P) → (a ≡ pos 0 → P) → P
    by_sign a P f g h = by_lt_z (pos 0) a f (λ low. by_lt_z a (pos 0) g (λ high. h (flat_if a low high)))

pub all_satisfied : (rows : List Row) (i : ℕ) (best : Row) (y w x' y' w' : ℤ) → length rows ≤ i → BestSoFar rows y w i best → All (λ row. RowAllows rows row y w) rows
    → x' ≡ reach best y w → y' ≡ y *ℤ best.a → w' ≡ w *ℤ best.a → All (Satisfies x' y' w') rows
all_satisfied rows i best y w x' y' w' end far allowed ex ey ew =
    λ k d in'. rw (ey, ew) (satisfied rows best (get_or rows k d) x' y w ex far.right (closest k d in') (allowed k d in') (far.allows.paired far.right k d in'))
  where
    closest : All (λ row. pos 0 <ℤ row.a → IsCloser best row y w) rows
    closest = All-same (λ row. pos 0 <ℤ row.a → IsCloser best row y w) rows (take i rows) (sym (take_all i rows end)) far.closest
