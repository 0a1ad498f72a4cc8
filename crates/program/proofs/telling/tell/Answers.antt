use Rattle.program.proofs.TellLemmas.{line_told, line_untold}
use Rattle.program.proofs.telling.tell.Goals as goal

pub returns-in_err-write_both : goal.returns-in_err-write_both
returns-in_err-write_both g c =
    let head = rw (c.as_bytes.ensures.value, c.word.ensures) at c.in_err-write_both.ensures in
    line_untold c.from_residual.result c.from_residual.ensures.0 _ _ c.args.fault.now head

pub returns : goal.returns
returns g c =
    let head = rw (c.as_bytes.ensures.value, c.word.ensures) at c.in_ok-write_both.ensures in
    let end = rw (c.as_bytes-2.ensures.value, c.name.ensures) at c.write_both-2.ensures in
    line_told c.write_both-2.result _ _ _ c.args.fault.now head end
