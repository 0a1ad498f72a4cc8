use Rattle.std.specs.Prelude.{◌+◌}
use Rattle.std.proofs.Common.{arith, subst, sym}
use Rattle.frame_keys.specs.Splits.{IsEven}
use Rattle.frame_keys.proofs.MaskBits.{rest_some, rest_even}
use Rattle.frame_keys.proofs.split.cut_at.Goals as goal
use Rattle.frame_keys.proofs.split.cut_at.Goals.{then-margin, else-margin}

pub hull_of-rest-requires-clause-some : goal.hull_of-rest-requires-clause-some
hull_of-rest-requires-clause-some c = rest_some c.args.part c.ranges.part.fits c.requires.even

pub returns-clause-even : goal.returns-clause-even
returns-clause-even c = elim c.if-margin.branch [
  | then-margin w ↦ subst IsEven (sym w.result-is) (rest_even c.args.part c.ranges.part.fits c.requires.even)
  | else-margin w ↦ subst IsEven (sym w.result-is) c.requires.even
]

pub returns-clause-cut : goal.returns-clause-cut
returns-clause-cut c = record {
  rest = c.hull_of-rest.result;
  taken = c.hull_of-taken.result;
  rest_least = c.hull_of-rest.ensures;
  taken_least = c.hull_of-taken.ensures;
  rest_right = λ more. elim c.if-margin.branch [
    | then-margin w ↦ w.result-is
    | else-margin w ↦ absurd (omega (arith, more, w.if-margin.false, c.margin.ensures.value, c.margin-2.ensures.value))
  ];
  taken_right = λ less. elim c.if-margin.branch [
    | then-margin w ↦ absurd (omega (arith, less, w.if-margin.true, c.margin.ensures.value, c.margin-2.ensures.value))
    | else-margin w ↦ w.result-is
  ];
  shared_is = c.overlap.ensures.value;
  margins_is = λ i. c.margin-3.ensures.value i + c.margin-4.ensures.value i;
}
