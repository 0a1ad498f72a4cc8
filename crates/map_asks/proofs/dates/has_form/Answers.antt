-- The text has ended, and the form has not.
use Rattle.std.proofs.Common.{sym, ◌∙◌, ◌<◌, length, arith}
use Rattle.map_asks.proofs.FormLemmas.{short_text}
use Rattle.map_asks.proofs.dates.has_form.Goals as goal

pub returns-in_default : goal.returns-in_default
returns-in_default c =
    let short : length c.loop-wanted.rest.now < 1 = omega arith in
    sym (short_text c.args.form.now c.loop-wanted.wanted-index c.loop-wanted.rest.now short c.loop-wanted-test.true)
    ∙ c.loop-wanted.invariant
