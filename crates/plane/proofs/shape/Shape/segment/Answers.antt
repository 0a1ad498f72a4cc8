use Rattle.std.specs.Prelude.{[], ◌∷◌, refl}
use Rattle.std.proofs.Common.{arith, sym}
use Rattle.plane.proofs.CanonicalShapes.{ordered_canonical, reordered_canonical}
use Rattle.plane.proofs.Rings.{kept_by}
use Rattle.plane.proofs.shape.Shape.segment.Goals as goal
use Rattle.plane.proofs.shape.Shape.segment.Goals.{then-is_before, else-is_before}

pub invariant_of-result : goal.invariant_of-result
invariant_of-result c =
    elim c.if-is_before.branch [
      | then-is_before w ↦ kept_by (c.args.q ∷ c.args.p ∷ []) 2 c.if-is_before.places refl (omega arith) w.places-is
          (reordered_canonical c.args.p c.args.q (c.if-not-is_in_range.ensures.range.0 refl) (c.if-not-is_in_range-2.ensures.range.0 refl) (sym c.if-eq.ensures) (sym w.if-is_before.ensures))
      | else-is_before w ↦ kept_by (c.args.p ∷ c.args.q ∷ []) 2 c.if-is_before.places refl (omega arith) w.places-is
          (ordered_canonical c.args.p c.args.q (c.if-not-is_in_range.ensures.range.0 refl) (c.if-not-is_in_range-2.ensures.range.0 refl) (sym c.if-eq.ensures) (sym w.if-is_before.ensures))
    ]
