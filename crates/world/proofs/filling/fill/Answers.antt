use Rattle.std.proofs.Common.{◌≡◌, ℕ, ◌+◌, suc, take, map, List, [], ◌∷◌, ◌++◌, length, slice_get, Some, add-one, arith, refl, sym, ap, subst, ◌∙◌}
use Rattle.std.proofs.lemmas.Option.{slice_get_read}
use Rattle.plane.specs.declared.point.Point.{Point}
use Rattle.features.specs.declared.rows.Feature.{Feature}
use Rattle.world.specs.Filling.{GetsAll, GetsRows, pair_of}
use Rattle.world.proofs.FillingLemmas.{gets_same, gets_both, take_next}
use Rattle.world.proofs.filling.fill.Goals as goal

pub loop-row-init : goal.loop-row-init
loop-row-init g c = gets_same c.args.index.now

pub loop-row-preserved : goal.loop-row-preserved
loop-row-preserved g c =
    let rows = c.args.rows.now in
    let k = c.loop-row.row-index in
    let there = slice_get_read rows (length rows) k c.row-item.result refl (omega (arith, c.loop-row-test.true)) c.row-item.is in
    let more : map pair_of (take k rows) ++ pair_of c.row-item.result ∷ [] ≡ map pair_of (take (k + 1) rows) = sym (ap (λ (n : ℕ). map pair_of (take n rows)) (add-one k) ∙ take_next rows k c.row-item.result there) in
    subst (λ (ps : List (ℕ × List Point)). GetsAll c.args.index.now c.place_row.new.index ps) more
    (gets_both c.args.index.now c.loop-row.index c.place_row.new.index (map pair_of (take k rows)) (pair_of c.row-item.result ∷ []) c.loop-row.invariant c.in_ok-place_row.ensures)
