use Rattle.std.specs.Prelude.{pos, ◌<ℤ◌}
use Rattle.std.proofs.Common.{arith}
use Rattle.std.proofs.lemmas.Int.{ints}
use Rattle.std.proofs.lemmas.Option.{IfSome_then}
use Rattle.plane.proofs.Narrowing.{pair_narrows, pair_nowhere}
use Rattle.plane.proofs.elimination.narrowed_by_pair.Goals as goal

pub returns-then-second-lt0-clause-some : goal.returns-then-second-lt0-clause-some
returns-then-second-lt0-clause-some c =
    let below : c.args.second.a <ℤ pos 0 = omega (arith, ints) in
    IfSome_then _ c.narrowed.ensures.some (λ new. pair_narrows c.args.first c.args.second c.combined.result c.args.gap new c.combined.ensures.b c.combined.ensures.c c.requires.above below)

pub returns-then-second-lt0-clause-none : goal.returns-then-second-lt0-clause-none
returns-then-second-lt0-clause-none c =
    let below : c.args.second.a <ℤ pos 0 = omega (arith, ints) in
    pair_nowhere c.args.first c.args.second c.combined.result _ c.combined.ensures.b c.combined.ensures.c c.requires.above below c.narrowed.ensures.none
