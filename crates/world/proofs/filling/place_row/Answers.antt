use Rattle.std.proofs.Common.{◌≡◌, [], ◌∷◌, Ok, refl, sym, ◌∙◌}
use Rattle.world.proofs.FillingLemmas.{after_step, gets_both, gets_same, pair_is}
use Rattle.world.proofs.filling.place_row.Goals as goal

pub steps-init : goal.steps-init
steps-init g c = rw c.start_walk-walk.ensures (refl, refl, refl, gets_same c.args.index.now)

pub returns-then-placed : goal.returns-then-placed
returns-then-placed g c =
    let i = c.steps.invariant in
    let after = after_step c.steps.index c.advance.new.self c.steps.walk c.advance.new.walk c.advance.result c.in-Ok.field-0 i.2 c.advance.ensures.step c.in-Ok.is in
    gets_both c.args.index.now c.steps.index c.advance.new.self [] ((c.args.row.now.id, c.args.row.now.shape) ∷ []) i.3
    (pair_is c.steps.index c.advance.new.self c.steps.walk.key c.args.row.now.id c.steps.walk.item c.args.row.now.shape i.0 i.1 (after.0 (sym c.placed.ensures ∙ c.if-placed.true)))

pub steps-preserved : goal.steps-preserved
steps-preserved g c =
    let i = c.steps.invariant in
    let after = after_step c.steps.index c.advance.new.self c.steps.walk c.advance.new.walk c.advance.result c.in-Ok.field-0 i.2 c.advance.ensures.step c.in-Ok.is in
    let stays = sym c.placed.ensures ∙ c.if-placed.false in
    let rest = after.1 stays in
    (rest.1 ∙ i.0, rest.2 ∙ i.1, stays, gets_both c.args.index.now c.steps.index c.advance.new.self [] [] i.3 rest.0)
