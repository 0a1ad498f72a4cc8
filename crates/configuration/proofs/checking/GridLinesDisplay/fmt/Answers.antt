use Rattle.configuration.proofs.checking.GridLinesDisplay.fmt.Goals as goal

pub returns-clause-writes : goal.returns-clause-writes
returns-clause-writes g c =
    rw (
      c.as_str.ensures.value,
      c.step_of-step.ensures,
      c.as_str-2.ensures.value,
      c.reach_on-left.ensures.least,
      c.as_str-3.ensures.value,
      c.reach_on-left.ensures.greatest,
      c.as_str-4.ensures.value,
      c.reach_on-lower.ensures.least,
      c.as_str-5.ensures.value,
      c.reach_on-lower.ensures.greatest,
    ) at c.write.ensures.writes
