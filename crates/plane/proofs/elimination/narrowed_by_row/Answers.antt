use Rattle.std.specs.Prelude.{◌≡◌, pos}
use Rattle.std.proofs.Common.{arith}
use Rattle.std.proofs.lemmas.Int.{ints}
use Rattle.std.proofs.lemmas.Option.{IfSome_then}
use Rattle.plane.proofs.Narrowing.{flat_narrows, flat_nowhere}
use Rattle.plane.proofs.elimination.narrowed_by_row.Goals as goal

pub returns-else-row-lt0-clause-some : goal.returns-else-row-lt0-clause-some
returns-else-row-lt0-clause-some c =
    let flat : c.args.row.a ≡ pos 0 = omega (arith, ints) in
    IfSome_then _ c.narrowed.ensures.some (λ new. flat_narrows _ c.args.row c.flat_level.result c.args.gap new c.flat_level.ensures.b c.flat_level.ensures.c flat)

pub returns-else-row-lt0-clause-none : goal.returns-else-row-lt0-clause-none
returns-else-row-lt0-clause-none c =
    let flat : c.args.row.a ≡ pos 0 = omega (arith, ints) in
    flat_nowhere _ c.args.row c.flat_level.result _ c.flat_level.ensures.b c.flat_level.ensures.c flat c.narrowed.ensures.none
