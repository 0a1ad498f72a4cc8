use Rattle.std.proofs.Common.{◌∙◌}
use Rattle.frame_keys.proofs.Stretches.{shared_fits, shared_reads, shared_small}
use Rattle.frame_keys.proofs.measure.shared.Goals as goal

pub overflow_sub-max : goal.overflow_sub-max
overflow_sub-max c = shared_fits c.args.low c.args.high c.args.other_low c.args.other_high _ _ _ (record {
  ends = record { low_in = c.requires.low; high_in = c.requires.high; other_low_in = c.requires.other_low; other_high_in = c.requires.other_high };
  from_is = c.max-from.ensures.value;
  to_is = c.min-to.ensures.value;
  last_is = c.max.ensures.value;
})

pub returns-clause-value : goal.returns-clause-value
returns-clause-value c = c.from.ensures ∙ c.unsigned_abs.ensures.value ∙ shared_reads c.args.low c.args.high c.args.other_low c.args.other_high _ _ _ (record {
  ends = record { low_in = c.requires.low; high_in = c.requires.high; other_low_in = c.requires.other_low; other_high_in = c.requires.other_high };
  from_is = c.max-from.ensures.value;
  to_is = c.min-to.ensures.value;
  last_is = c.max.ensures.value;
})

pub returns-clause-most : goal.returns-clause-most
returns-clause-most c = rw (returns-clause-value c) (shared_small c.args.low c.args.high c.args.other_low c.args.other_high (record { low_in = c.requires.low; high_in = c.requires.high; other_low_in = c.requires.other_low; other_high_in = c.requires.other_high }))
