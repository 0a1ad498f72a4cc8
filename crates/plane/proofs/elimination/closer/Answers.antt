use Rattle.std.specs.Prelude.{pos, ◌<ℤ◌, refl}
use Rattle.std.proofs.Common.{arith, inr}
use Rattle.std.proofs.lemmas.Int.{ints}
use Rattle.plane.proofs.Orders.{at_most_otherwise, le_refl}
use Rattle.plane.proofs.elimination.closer.Goals as goal

pub returns-else-is_closer : goal.returns-else-is_closer
returns-else-is_closer c =
    let right : pos 0 <ℤ c.args.row.a = omega (arith, ints) in
    record {
      one_of = inr (refl, right);
      below_best = at_most_otherwise _ _ c.if-is_closer.ensures.1;
      below_row = λ _. le_refl _;
    }
