use Rattle.plane.proofs.Orders.{neg-mul-neg}
use Rattle.plane.proofs.elimination.narrowed.Goals as goal

pub returns-then-level-gt0-clause-some : goal.returns-then-level-gt0-clause-some
returns-then-level-gt0-clause-some c = record {
  keeps = λ y w above in'. record { above = in'.above; below = c.tighter-upper.ensures.first y w above in'.below };
  within = λ y w above in'. rw (← c.bound_above.ensures.scale, ← c.bound_above.ensures.most) (c.tighter-upper.ensures.second y w above in'.below);
  whole = λ y w above in' holds. record { above = in'.above; below = c.tighter-upper.ensures.both y w in'.below (rw (c.bound_above.ensures.scale, c.bound_above.ensures.most) holds) };
}

pub returns-then-level-lt0-clause-some : goal.returns-then-level-lt0-clause-some
returns-then-level-lt0-clause-some c = record {
  keeps = λ y w above in'. record { above = c.tighter-lower.ensures.first _ w above in'.above; below = in'.below };
  within = λ y w above in'. rw (← neg-mul-neg c.args.level.b y, ← c.bound_below.ensures.scale, ← c.bound_below.ensures.most) (c.tighter-lower.ensures.second _ w above in'.above);
  whole = λ y w above in' holds. record { above = c.tighter-lower.ensures.both _ w in'.above (rw (c.bound_below.ensures.scale, c.bound_below.ensures.most, neg-mul-neg c.args.level.b y) holds); below = in'.below };
}
