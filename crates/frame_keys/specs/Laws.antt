-- The laws of frames as keys. They are here and not with the proofs, since the class names them.
use Rattle.std.specs.Prelude.{List, [], ◌∷◌, ◌++◌, All, ℤ}
use Rattle.std.specs.Int.{int_min, int_max}
use Rattle.std.proofs.Common.{arith}
use Rattle.std.proofs.lemmas.Int.{ints, clamps}
use Rattle.std.proofs.lemmas.List.Elements.{All-nil, All-cons, All-head, All-tail}
use Rattle.plane.proofs.Covering.{covers_if, covers_only}
use Rattle.plane.specs.Extents.{Extent, IsFrame, Spans, joined, extent_of, whole_extent}
use Rattle.plane.specs.Rows.{Satisfies, frame_rows, edge_rows, Meet, Covers}
use Rattle.plane.specs.declared.point.Point.{Point}
use Rattle.tree_theory.specs.KeyClasses.{Laws}
use Rattle.frame_keys.specs.Keys.{Encloses, MayMeet, frames}

pub frames_whole_covers : (key : Extent) → IsFrame key → Encloses whole_extent key
frames_whole_covers key h = record {
  across = record { low_below = h.x0_in_range.low; high_above = h.x1_in_range.high };
  up = record { low_below = h.y0_in_range.low; high_above = h.y1_in_range.high };
}

-- ---- along one axis

same : (a b : ℤ) → Spans a b a b
same a b = record { low_below = omega (arith, ints); high_above = omega (arith, ints) }

further : (a b c d e f : ℤ) → Spans a b c d → Spans c d e f → Spans a b e f
further a b c d e f h k = record {
  low_below = omega (arith, ints, h.low_below, k.low_below);
  high_above = omega (arith, ints, h.high_above, k.high_above);
}

first : (a b c d : ℤ) → Spans (int_min a c) (int_max b d) a b
first a b c d = record {
  low_below = omega (arith, ints, clamps);
  high_above = omega (arith, ints, clamps);
}

second : (a b c d : ℤ) → Spans (int_min a c) (int_max b d) c d
second a b c d = record {
  low_below = omega (arith, ints, clamps);
  high_above = omega (arith, ints, clamps);
}

both : (a b c d l m : ℤ) → Spans a b c d → Spans a b l m → Spans a b (int_min c l) (int_max d m)
both a b c d l m h k = record {
  low_below = omega (arith, ints, clamps, h.low_below, k.low_below);
  high_above = omega (arith, ints, clamps, h.high_above, k.high_above);
}

-- ---- of frames

pub frames_reflexive : (key : Extent) → Encloses key key
frames_reflexive key = record { across = same _ _; up = same _ _ }

pub frames_transitive : (a b c : Extent) → Encloses a b → Encloses b c → Encloses a c
frames_transitive a b c h k = record {
  across = further _ _ _ _ _ _ h.across k.across;
  up = further _ _ _ _ _ _ h.up k.up;
}

pub frames_covers_first : (a b : Extent) → Encloses (joined a b) a
frames_covers_first a b = record { across = first _ _ _ _; up = first _ _ _ _ }

pub frames_covers_second : (a b : Extent) → Encloses (joined a b) b
frames_covers_second a b = record { across = second _ _ _ _; up = second _ _ _ _ }

pub frames_least : (a b cover : Extent) → Encloses cover a → Encloses cover b
    → Encloses cover (joined a b)
frames_least a b cover h k = record {
  across = both _ _ _ _ _ _ h.across k.across;
  up = both _ _ _ _ _ _ h.up k.up;
}

pub encloses_covers : (outer inner : Extent) → Encloses outer inner → Covers outer inner
encloses_covers outer inner h = covers_if outer inner h.across h.up

pub covers_encloses : (outer inner : Extent) → IsFrame inner → Covers outer inner
    → Encloses outer inner
covers_encloses outer inner frame h =
    let spans = covers_only outer inner frame.x_order frame.y_order h in
    record { across = spans.xs; up = spans.ys }

pub frames_monotone : (a b : Extent) (query : List Point) → Encloses a b → MayMeet b query
    → MayMeet a query
frames_monotone a b query h meet = record {
  x = meet.x;
  y = meet.y;
  w = meet.w;
  above_zero = meet.above_zero;
  in_first = encloses_covers a b h meet.x meet.y meet.w meet.above_zero meet.in_first;
  in_second = meet.in_second;
}

-- if all elements of a list have P, so do its first ones
first_part : {X : Type 0} (P : X → Type 0) (xs ys : List X) → All P (xs ++ ys) → All P xs
first_part P [] ys all = All-nil P
first_part P (x ∷ xs) ys all =
    All-cons P x xs (All-head P x (xs ++ ys) all) (first_part P xs ys (All-tail P x (xs ++ ys) all))

pub frames_sound : (item query : List Point) → Meet item query → MayMeet (extent_of item) query
frames_sound item query meet = record {
  x = meet.x;
  y = meet.y;
  w = meet.w;
  above_zero = meet.above_zero;
  in_first = first_part (Satisfies meet.x meet.y meet.w) (frame_rows (extent_of item))
      (edge_rows item) meet.in_first;
  in_second = first_part (Satisfies meet.x meet.y meet.w) (frame_rows (extent_of query))
      (edge_rows query) meet.in_second;
}

pub frames_laws : Laws frames
frames_laws = record {
  reflexive = frames_reflexive;
  transitive = frames_transitive;
  covers_first = frames_covers_first;
  covers_second = frames_covers_second;
  least = frames_least;
  monotone = frames_monotone;
  sound = frames_sound;
}
