use Rattle.std.specs.Prelude.{◌≡◌, refl, [], ◌∷◌, pos, negsuc}
use Rattle.std.proofs.Common.{lit<}
use Rattle.plane.proofs.ShapeRows.{coordinate_read, coordinate_size, negated_read, same_row}
use Rattle.plane.proofs.shape_rows.frame_rows.Goals as goal
use Rattle.plane.specs.declared.rows.Row.{Row}

four : (a b c d a' b' c' d' : Row) → a ≡ a' → b ≡ b' → c ≡ c' → d ≡ d' → (a ∷ b ∷ c ∷ d ∷ []) ≡ (a' ∷ b' ∷ c' ∷ d' ∷ [])
four a b c d a' b' c' d' p q r s = cc

pub returns : goal.returns
returns c =
    let f = c.x0.ensures.frame in
    four _ _ _ _ _ _ _ _
    (same_row (pos 1) (pos 0) _ (pos 1) (pos 0) _ refl refl (coordinate_read _ c.x1.result _ f.x1_in_range c.x1.ensures c.from.ensures))
    (same_row (negsuc 0) (pos 0) _ (negsuc 0) (pos 0) _ refl refl (negated_read c.args.frame.x0 c.from-2.result 10000000 (coordinate_size _ f.x0_in_range) (lit< tt) (coordinate_read _ c.x0.result _ f.x0_in_range c.x0.ensures.value c.from-2.ensures)))
    (same_row (pos 0) (pos 1) _ (pos 0) (pos 1) _ refl refl (coordinate_read _ c.y1.result _ f.y1_in_range c.y1.ensures c.from-3.ensures))
    (same_row (pos 0) (negsuc 0) _ (pos 0) (negsuc 0) _ refl refl (negated_read c.args.frame.y0 c.from-4.result 10000000 (coordinate_size _ f.y0_in_range) (lit< tt) (coordinate_read _ c.y0.result _ f.y0_in_range c.y0.ensures c.from-4.ensures)))
